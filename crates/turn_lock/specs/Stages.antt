-- The stages of a seat.
use Rattle.std.specs.Prelude.{◌≡◌, ℕ, Bool, true, false, Option, Some, None, is_some, length}
use Rattle.atomic_table.specs.Table.{Me}
use Rattle.turn_lock.specs.declared.view.Stage.{Stage}
use Rattle.turn_lock.specs.declared.view.Stage.TheVariants.{Idle, Waits, Serves, Spent}
use Rattle.turn_lock.specs.declared.view.View.{View}

module _ {C A : Type 0} where
  -- the ticket of a seat that waits, or that holds the value
  abbrev pub ticket_of : Stage C A → Option ℕ
  ticket_of (Waits ticket) = Some ticket
  ticket_of (Serves ticket) = Some ticket
  ticket_of _ = None

  -- whether a seat has a ticket
  abbrev pub has_ticket : Stage C A → Bool
  has_ticket stage = is_some (ticket_of stage)

  -- whether a seat holds the value
  abbrev pub is_serving : Stage C A → Bool
  is_serving (Serves ticket) = true
  is_serving _ = false

  -- whether a seat was joined into another
  abbrev pub is_spent : Stage C A → Bool
  is_spent Spent = true
  is_spent _ = false

  -- whether a seat is between two calls
  abbrev pub is_idle : Stage C A → Bool
  is_idle Idle = true
  is_idle _ = false

-- a seat between two calls, which holds no slot
abbrev pub IsIdle : {S C A T : Type 0} → Me S (View C A T) → Type 0
IsIdle me = (is_idle me.0.stage ≡ true) × (length me.1 ≡ 0)
