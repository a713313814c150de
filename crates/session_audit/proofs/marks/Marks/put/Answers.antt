use Rattle.std.proofs.Common.{ap, arith, length, ◌∙◌}
use Rattle.std.proofs.lemmas.List.{get_or-set_other, get_or-set_same}
use Rattle.session_audit.specs.Marks.{MarksState, mark_of, no_mark}
use Rattle.session_audit.proofs.marks.Marks.put.Goals as goal

pub returns : goal.returns
returns c =
    let marks = c.self.inside.marks.items in
    let room = c.in_ok-reach.ensures.room in
    let long = ap (λ (s : MarksState). length s.marks) c.self.view_is in
    record {
      opened = ap (λ (s : MarksState). s.opened) c.self.view_is ∙ c.in_ok-reach.ensures.opened;
      put = get_or-set_same marks c.args.seq c.args.mark no_mark (omega (arith, room, long));
      kept = λ k apart.
          get_or-set_other marks c.args.seq k c.args.mark no_mark apart
          ∙ ap (λ (s : MarksState). mark_of s k) c.self.view_is
          ∙ c.in_ok-reach.ensures.kept k;
    }
