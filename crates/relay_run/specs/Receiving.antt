-- All that a reading worker does behind its opening, from its first turn to its last.
use Rattle.std.specs.Prelude.{◌≡◌, ℕ, true, false, Option, Some, None, List, [], ◌∷◌, ◌++◌}
use Rattle.std.specs.List.{All, flat_map}
use Rattle.session_run.specs.Adds.{AddsCalls}
use Rattle.turn_lock.specs.declared.seat.Seat.{Seat}
use Rattle.turn_lock.specs.declared.value.Turn.{Ghosts}
use Rattle.relay_core.specs.declared.event.Event.{Event}
use Rattle.relay_desk.specs.declared.desk_call.DeskAnswer.{DeskAnswer}
use Rattle.relay_desk.specs.declared.desk_call.DeskCall.{DeskCall}
use Rattle.relay_desk.specs.declared.heard.Heard.{Heard}
use Rattle.relay_desk.specs.declared.inlet.Inlet.{Inlet}
use Rattle.relay_desk.specs.Desks.{DeskStep}
use Rattle.relay_desk.specs.Hearing.{Stepping, is_last_heard, stepping_desk, stepping_end, stepping_switch}
use Rattle.relay_desk.specs.InletTurns.{MayRead, Reading, reading_desk, reading_end, reading_switch}
use Rattle.relay_switch.specs.Switching.{Step}

-- what the drop of a connection steps
abbrev pub leaving_switch : ℕ → Option Stepping → List Step
leaving_switch conn None = []
leaving_switch conn (Some stepping) = stepping_switch (Event.Gone conn) stepping

-- and asks of the desk
abbrev pub leaving_desk : Option Stepping → List DeskStep
leaving_desk None = []
leaving_desk (Some stepping) = stepping_desk stepping

-- what the last turn came to, or the drop behind it
abbrev pub last_end : Reading → Option Stepping → Heard
last_end reading None = reading_end reading
last_end reading (Some stepping) = stepping_end Heard.Gone stepping

module _ {N D T : Type 0} {g : Ghosts D DeskCall DeskAnswer T} where
  -- the inlet made these turns, none of them the last, through these seats
  pub record ReadSome (old : Inlet N) (desk_old : Seat D DeskCall DeskAnswer T g)
      (going : List Reading) (new : Inlet N) (desk_new : Seat D DeskCall DeskAnswer T g)
      : Type 0 where
    pub may : All (MayRead old) going
    pub went : All (λ r. is_last_heard (reading_end r) ≡ false) going
    pub conn : new.conn ≡ old.conn
    pub session : new.session ≡ old.session
    pub role : new.role ≡ old.role
    pub over : new.over ≡ false
    pub seat : AddsCalls old.seat (flat_map reading_switch going) new.seat
    pub desk : AddsCalls desk_old (flat_map (reading_desk old.session) going) desk_new

  -- the inlet made its turns to the last, or was dropped behind one, and came to this at last
  pub record ReadAll (old : Inlet N) (desk_old : Seat D DeskCall DeskAnswer T g) (heard : Heard)
      (new : Inlet N) (desk_new : Seat D DeskCall DeskAnswer T g) : Type 0 where
    pub going : List Reading
    pub last : Reading
    pub left : Option Stepping
    pub went : All (λ r. is_last_heard (reading_end r) ≡ false) going
    pub may : All (MayRead old) (going ++ last ∷ [])
    pub conn : new.conn ≡ old.conn
    pub session : new.session ≡ old.session
    pub role : new.role ≡ old.role
    pub over : new.over ≡ true
    pub seat :
        AddsCalls old.seat
        (flat_map reading_switch (going ++ last ∷ []) ++ leaving_switch old.conn left) new.seat
    pub desk :
        AddsCalls desk_old
        (flat_map (reading_desk old.session) (going ++ last ∷ []) ++ leaving_desk left) desk_new
    pub comes : heard ≡ last_end last left
    pub ends : is_last_heard heard ≡ true
