use Rattle.std.proofs.Common.{ℕ, sym, ap, slice_get, ◌∙◌}
use Rattle.std.specs.BTreeMap.{BTreeMap}
use Rattle.std.specs.Option.{option_copied_mut}
use Rattle.relay_switch.specs.Lines.{LineState, line_in, popped}
use Rattle.relay_switch.proofs.LineLemmas.{line-none, line-stays}
use Rattle.relay_switch.proofs.lines.pop_line.Goals as goal

pub returns-in-None-clause-first : goal.returns-in-None-clause-first
returns-in-None-clause-first c =
    ap (λ (l : LineState). slice_get l.waiting 0)
    (sym (line-none c.args.lines.now.entries c.args.conn
    (sym c.get_mut.ensures.value ∙ ap option_copied_mut c.in-None.is)))

pub returns-in-None-clause-rest : goal.returns-in-None-clause-rest
returns-in-None-clause-rest c s =
    let lines = c.args.lines.now.entries in
    let none =
    line-none lines c.args.conn (sym c.get_mut.ensures.value ∙ ap option_copied_mut c.in-None.is) in
    ap (λ (m : BTreeMap ℕ LineState). line_in m.entries s) c.get_mut.follows.holds-at-none
    ∙ line-stays lines c.args.conn s (popped (line_in lines c.args.conn))
    (ap popped none ∙ sym none)
