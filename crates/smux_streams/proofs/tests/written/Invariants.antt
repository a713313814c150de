use Rattle.std.proofs.Common.{List, true}
use Rattle.smux_streams.specs.Call.{Entry}
use Rattle.smux_streams.specs.Legal.{IsLegal}
use Rattle.smux_streams.specs.Stands.{Stands}
use Rattle.smux_streams.proofs.tests.written.Given as goal

abbrev pub invariant-loop : goal.invariant-loop
invariant-loop l = (g : List Entry) × (IsLegal true g × Stands true l.client g)
