use Rattle.std.proofs.Common.{◌≡◌, ◌+◌, ◌-◌, false, List, cond, length}
use Rattle.session_audit.specs.Halting.{BothHeld, BothPlayed}
use Rattle.session_audit.specs.Moves.{Move}
use Rattle.session_audit.proofs.play.play.Given as goal

abbrev pub invariant-loop-going : goal.invariant-loop-going
invariant-loop-going l =
    (moves : List Move)
    × BothPlayed l.window l.sayings moves l.plugin l.agent
    × (l.going ≡ false → BothHeld l.window l.sayings moves l.plugin l.agent)

abbrev pub decreases-loop-going : goal.decreases-loop-going
decreases-loop-going l =
    length l.sayings + length l.sayings - (l.plugin.next + l.agent.next) + cond l.going 1 0
