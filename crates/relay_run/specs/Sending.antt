-- All that a writing worker does, from its first turn to its last.
use Rattle.std.specs.Prelude.{◌≡◌, ℕ, true, Option, List, ◌++◌, map, option_to_list}
use Rattle.std.specs.List.{All}
use Rattle.chan_io.specs.declared.link_out.LinkOut.{Ghosts}
use Rattle.session_run.specs.Adds.{AddsCalls}
use Rattle.relay_switch.specs.declared.outlet.Outlet.{Outlet}
use Rattle.relay_switch.specs.declared.switch_call.SwitchCall.{SwitchCall}
use Rattle.relay_switch.specs.declared.switch_call.SwitchAnswer.{SwitchAnswer}
use Rattle.relay_switch.specs.Switching.{Step}
use Rattle.relay_run.specs.declared.send_end.SendEnd.{SendEnd}
use Rattle.relay_run.specs.Ends.{EndsSending, is_going}

-- takes of this connection with these answers
abbrev pub takes_of : ℕ → List SwitchAnswer → List Step
takes_of conn answers = map (λ answer. (SwitchCall.Take conn, answer)) answers

module _ {U : Type 0} {g : Ghosts U} where
  -- the outlet made turns whose takes were answered so, none of them the last
  pub record SentSome (old : Outlet U g) (going : List SwitchAnswer) (new : Outlet U g)
      : Type 0 where
    pub conn : new.conn ≡ old.conn
    pub went : All (λ answer. is_going answer ≡ true) going
    pub takes : AddsCalls old.seat (takes_of old.conn going) new.seat
    pub steady : g.faults new.output ≡ g.faults old.output

  -- the outlet made its turns to the last, or was stopped before it, and ended so
  pub record SentAll (old : Outlet U g) (end : SendEnd) (new : Outlet U g) : Type 0 where
    pub going : List SwitchAnswer
    pub last : Option SwitchAnswer
    pub conn : new.conn ≡ old.conn
    pub over : new.over ≡ true
    pub went : All (λ answer. is_going answer ≡ true) going
    pub takes :
        AddsCalls old.seat (takes_of old.conn (going ++ option_to_list last)) new.seat
    pub ends : EndsSending end last (g.faults old.output) (g.faults new.output)
