-- The histories of a desk: the calls of a register, and draws of random bytes.
use Rattle.std.specs.Prelude.{◌≡◌, ◌≤◌, ℕ, Bool, true, false, Option, Some, None, Result, Ok, Err, List, ◌++◌}
use Rattle.std.specs.List.{All, filter_map, list_any}
use Rattle.chan_io.specs.Faults.{Rises}
use Rattle.chan_io.specs.declared.failed.IoFault.{IoFault}
use Rattle.session_register.specs.declared.row.Row.{Row}
use Rattle.session_register.specs.Rows.{AsksEnded, Creates, Ends, Entry, Opens}
use Rattle.session_register.specs.Chains.{Leads}
use Rattle.relay_desk.specs.declared.desk.Began.{Began}
use Rattle.relay_desk.specs.declared.desk_call.DeskCall.{DeskCall}
use Rattle.relay_desk.specs.declared.desk_call.DeskAnswer.{DeskAnswer}

-- a call with its answer
abbrev pub DeskStep : Type 0
DeskStep = DeskCall × DeskAnswer

-- the entry that a call makes in the history of the register, where it did not fail
abbrev pub register_entry : DeskCall → DeskAnswer → Option Entry
register_entry (DeskCall.Create session plugin agent) (DeskAnswer.Create (Ok answer)) =
    Some (Creates session plugin agent answer)
register_entry (DeskCall.Open session role token fresh) (DeskAnswer.Open (Ok answer)) =
    Some (Opens session role token fresh answer)
register_entry (DeskCall.End session) (DeskAnswer.End (Ok answer)) = Some (Ends session answer)
register_entry (DeskCall.Ended session) (DeskAnswer.Ended (Ok answer)) =
    Some (AsksEnded session answer)
register_entry call answer = None

-- the history of the register, without the calls that failed
unfoldable pub register_entries : List DeskStep → List Entry
register_entries h = filter_map (λ s. register_entry s.0 s.1) h

-- the bytes that a call drew
abbrev pub bytes_drawn : DeskAnswer → Option (List ℕ)
bytes_drawn (DeskAnswer.Draw (Ok drawn)) = Some drawn
bytes_drawn answer = None

-- the bytes that were drawn, in order
unfoldable pub draws_made : List DeskStep → List (List ℕ)
draws_made h = filter_map (λ s. bytes_drawn s.1) h

-- whether a call of the register failed
abbrev pub is_store_fault : DeskAnswer → Bool
is_store_fault (DeskAnswer.Create (Err IoFault.Failed)) = true
is_store_fault (DeskAnswer.Open (Err IoFault.Failed)) = true
is_store_fault (DeskAnswer.End (Err IoFault.Failed)) = true
is_store_fault (DeskAnswer.Ended (Err IoFault.Failed)) = true
is_store_fault answer = false

-- whether a draw failed
abbrev pub is_draw_fault : DeskAnswer → Bool
is_draw_fault (DeskAnswer.Draw (Err fault)) = true
is_draw_fault answer = false

-- the answer is of the call's name
abbrev pub IsDeskAnswer : DeskCall → DeskAnswer → Type 0
IsDeskAnswer (DeskCall.Create session plugin agent) (DeskAnswer.Create answer) = Unit {0}
IsDeskAnswer (DeskCall.Open session role token fresh) (DeskAnswer.Open answer) = Unit {0}
IsDeskAnswer (DeskCall.End session) (DeskAnswer.End answer) = Unit {0}
IsDeskAnswer (DeskCall.Ended session) (DeskAnswer.Ended answer) = Unit {0}
IsDeskAnswer DeskCall.Draw (DeskAnswer.Draw answer) = Unit {0}
IsDeskAnswer call answer = ⊥

-- the calls lead from the rows that were told to those that are told
abbrev pub LeadsTold : Option (List Row) → List Entry → Option (List Row) → Type 0
LeadsTold None cs now = now ≡ None
LeadsTold (Some rows) cs now = (new : List Row) × (now ≡ Some new) × Leads rows cs new

-- these draws are the first of those that were to come, and the others are to come
abbrev pub GivesTold : Option (List (List ℕ)) → List (List ℕ) → Option (List (List ℕ)) → Type 0
GivesTold None made now = now ≡ None
GivesTold (Some coming) made now =
    (rest : List (List ℕ)) × (now ≡ Some rest) × (coming ≡ made ++ rest)

-- each answer is of its call's name; those of the register are the ones that the rows before them
-- give, from the rows that were told at first on; and what was drawn is what was told to come
pub record IsLegalDesk (began : Began) (h : List DeskStep) : Type 0 where
  pub kinds : All (λ s. IsDeskAnswer s.0 s.1) h
  pub rows : Option (List Row)
  pub led : LeadsTold began.rows (register_entries h) rows
  pub draws : Option (List (List ℕ))
  pub given : GivesTold began.draws (draws_made h) draws

-- the desk keeps what these calls tell: the keeper's rows are those told when the desk was made,
-- changed by these calls alone; what was drawn is what was told to come; where a call of the register
-- or a draw failed, its count rose since
pub record StandsForDesk (began : Began) (rows : Option (List Row)) (store_faults : ℕ)
    (draws : Option (List (List ℕ))) (draw_faults : ℕ) (h : List DeskStep)
    : Type 0 where
  pub led : LeadsTold began.rows (register_entries h) rows
  pub given : GivesTold began.draws (draws_made h) draws
  pub store_counted : began.store_faults ≤ store_faults
  pub draw_counted : began.draw_faults ≤ draw_faults
  pub store_failed : list_any (λ s. is_store_fault s.1) h ≡ true
      → Rises began.store_faults store_faults
  pub draw_failed : list_any (λ s. is_draw_fault s.1) h ≡ true
      → Rises began.draw_faults draw_faults
