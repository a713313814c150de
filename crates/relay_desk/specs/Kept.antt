-- What a desk keeps, by what its keeper and its random bytes tell.
use Rattle.std.specs.Prelude.{◌≡◌, ℕ, Option, List, [], ◌∷◌, ◌++◌}
use Rattle.session_register.specs.declared.row.Row.{Row}
use Rattle.relay_desk.specs.declared.desk.Began.{Began}
use Rattle.relay_desk.specs.declared.desk.Desk.{Desk}
use Rattle.relay_desk.specs.declared.desk_call.DeskAnswer.{DeskAnswer}
use Rattle.relay_desk.specs.declared.desk_call.DeskCall.{DeskCall}
use Rattle.relay_desk.specs.Desks.{DeskStep, IsLegalDesk, StandsForDesk}

module _ {K E : Type 0} (rows : K → Option (List Row)) (store_faults : K → ℕ)
    (draws : E → Option (List (List ℕ))) (draw_faults : E → ℕ) where
  -- what both told when the desk was made
  abbrev pub began_of : Desk K E → Began
  began_of desk =
      record {
        rows = rows desk.register_then.value.keeper;
        store_faults = store_faults desk.register_then.value.keeper;
        draws = draws desk.entropy_then.value;
        draw_faults = draw_faults desk.entropy_then.value;
      }

  -- the calls with their answers are legal for the desk
  abbrev pub IsLegalFor : Desk K E → List DeskStep → Type 0
  IsLegalFor desk h = IsLegalDesk (began_of desk) h

  -- the desk keeps what these calls tell
  abbrev pub Keeps : Desk K E → List DeskStep → Type 0
  Keeps desk h =
      StandsForDesk (began_of desk) (rows desk.register.keeper)
      (store_faults desk.register.keeper) (draws desk.entropy) (draw_faults desk.entropy) h

  -- one call more: whatever legal history the desk stood for, with this entry it is legal, and the
  -- desk stands for it; what both told at first stays
  pub record DeskFollows (old new : Desk K E) (call : DeskCall) (answer : DeskAnswer) : Type 0 where
    pub began : began_of new ≡ began_of old
    pub goes : (h : List DeskStep)
        → IsLegalFor old h
        → Keeps old h
        → IsLegalFor old (h ++ (call, answer) ∷ []) × Keeps new (h ++ (call, answer) ∷ [])
