-- A turn of a connection's writing worker: what it has before and after.
use Rattle.std.specs.Prelude.{◌≡◌, [], ◌∷◌}
use Rattle.chan_io.specs.declared.link_out.LinkOut.{Ghosts}
use Rattle.session_run.specs.Adds.{AddsCalls}
use Rattle.relay_switch.specs.declared.outlet.Outlet.{Outlet}
use Rattle.relay_switch.specs.declared.outlet.Turned.{Turned}
use Rattle.relay_switch.specs.declared.switch_call.SwitchCall.{SwitchCall}
use Rattle.relay_switch.specs.declared.switch_call.SwitchAnswer.{SwitchAnswer}
use Rattle.relay_switch.specs.Kinds.{IsTakeAnswer}
use Rattle.relay_switch.specs.Outlets.{EndsTurn, is_last}

module _ {U : Type 0} {g : Ghosts U} where
  -- the outlet made this turn: one take, which was answered so, and what that asks for
  pub record Turns (old : Outlet U g) (answer : SwitchAnswer) (turned : Turned) (new : Outlet U g)
      : Type 0 where
    pub conn : new.conn ≡ old.conn
    pub over : new.over ≡ is_last turned
    pub seat : AddsCalls old.seat ((SwitchCall.Take old.conn, answer) ∷ []) new.seat
    pub take : IsTakeAnswer answer
    pub ends :
        EndsTurn turned answer (g.departures old.output) (g.departures new.output)
        (g.faults old.output) (g.faults new.output)
