use Rattle.std.proofs.Common.{ℕ, ap, ltb, sym, ◌∙◌}
use Rattle.session_audit.specs.declared.marks.Mark.{Mark}
use Rattle.session_audit.specs.Marks.{MarksState}
use Rattle.session_audit.proofs.marks.Marks.was_sent.Goals as goal

pub returns : goal.returns
returns c sayings acts before x =
    ap (λ (o : ℕ). ltb o c.mark.result.last) (ap (λ (s : MarksState). s.opened) c.self.view_is)
    ∙ ap (λ (m : Mark). ltb c.args.self.now.opened m.last) c.mark.ensures
    ∙ sym (x.each c.args.seq).sent
