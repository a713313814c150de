use Rattle.std.proofs.Common.{◌+◌, ◌*◌, ◌-◌, List}
use Rattle.channel_core.specs.World.{Event}
use Rattle.lab_gen.specs.Ends.{IsEnds}
use Rattle.lab_gen.proofs.EndsLemmas.{Passes}
use Rattle.lab_gen.proofs.ends.Ends.pass.Given as goal

-- the turns so far were made
abbrev pub invariant-turns : goal.invariant-turns
invariant-turns l =
    let w = l.context.window in
    let all = 2 * w + 1 in
    (world : List Event)
    → IsEnds w world l.fn.self
    → Passes w all world l.context.moment l.context.line l.side (all - l.counter) l.self
