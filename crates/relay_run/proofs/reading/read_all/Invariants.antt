use Rattle.std.proofs.Common.{◌≡◌, false, List}
use Rattle.relay_desk.specs.InletTurns.{Reading}
use Rattle.relay_run.specs.Receiving.{ReadSome}
use Rattle.relay_run.proofs.reading.read_all.Given as goal

abbrev pub invariant-loop : goal.invariant-loop
invariant-loop g l =
    (going : List Reading)
    × ReadSome l.initial.inlet l.initial.desk_seat going l.inlet l.desk_seat
