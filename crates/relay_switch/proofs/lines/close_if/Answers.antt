use Rattle.std.proofs.Common.{ℕ, sym, ap, ◌∙◌}
use Rattle.std.specs.BTreeMap.{BTreeMap}
use Rattle.std.specs.Option.{option_copied_mut}
use Rattle.relay_switch.specs.Lines.{LineState, closed_if, line_in}
use Rattle.relay_switch.proofs.LineLemmas.{line-none, line-stays}
use Rattle.relay_switch.proofs.lines.close_if.Goals as goal

pub returns-in_default : goal.returns-in_default
returns-in_default c s =
    let lines = c.args.lines.now.entries in
    let none =
    line-none lines c.args.conn (sym c.get_mut.ensures.value ∙ ap option_copied_mut c.in_default.is) in
    ap (λ (m : BTreeMap ℕ LineState). line_in m.entries s) c.get_mut.follows.holds-at-none
    ∙ line-stays lines c.args.conn s (closed_if c.args.ends (line_in lines c.args.conn))
    (ap (closed_if c.args.ends) none ∙ sym none)
