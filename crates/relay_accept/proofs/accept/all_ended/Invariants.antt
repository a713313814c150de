use Rattle.std.proofs.Common.{List}
use Rattle.session_run.specs.Adds.{AddsCalls}
use Rattle.relay_desk.specs.Desks.{DeskStep}
use Rattle.relay_accept.proofs.accept.all_ended.Given as goal

abbrev pub invariant-loop-name : goal.invariant-loop-name
invariant-loop-name g l = (calls : List DeskStep) × AddsCalls l.initial.seat calls l.seat
