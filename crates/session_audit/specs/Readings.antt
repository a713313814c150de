-- What is read of a record, and of a journal.
use Rattle.std.specs.Prelude.{◌≡◌, ℕ, ◌+◌, ◌≤◌, Option, Some, None, List, [], ◌∷◌, ◌++◌, drop, length}
use Rattle.std.specs.List.{All}
use Rattle.chan_values.specs.declared.side.Side.{Side}
use Rattle.session_audit.specs.declared.act.Act.{Act}
use Rattle.session_audit.specs.declared.record.Reading.{Reading}
use Rattle.session_audit.specs.declared.reading.Saying.{Saying}
use Rattle.session_audit.specs.declared.reading.Unread.{Unread}
use Rattle.session_audit.specs.declared.verdict.Why.{Why}
use Rattle.session_audit.specs.Ends.{IsActable}
use Rattle.session_audit.specs.Journal.{BeginsWithFault, HasFault, IsFormFault, IsFormed, IsRecordOf, framed, journal}
use Rattle.session_audit.specs.Verdict.{IsKindOf, SaysOne}

-- a record without a fault, but for its size
abbrev pub IsFaultless : List ℕ → Type 0
IsFaultless r = (why : Why) → HasFault r why → ⊥

-- a record of a message that the end of this side can't have given out, since it encodes none so
pub record IsForeign (side : Side) (r : List ℕ) : Type 0 where
  pub kind : IsKindOf side r Why.NotEmitted
  pub none : (act : Act) → IsRecordOf side act r → ⊥

-- what is said by a record that has no fault
abbrev pub IsSaid : List ℕ → Side → Option Act → Type 0
IsSaid r side (Some act) = IsRecordOf side act r × SaysOne side r × IsActable act
IsSaid r side None = IsForeign side r

-- a record says one act, or none, or has a fault of form
abbrev pub IsReading : List ℕ → Reading → Type 0
IsReading r (Reading.Says side act) = IsFaultless r × IsSaid r side (Some act)
IsReading r (Reading.Foreign side) = IsFaultless r × IsSaid r side None
IsReading r (Reading.Faulty why) = HasFault r why
IsReading r Reading.NoMemory = Unit {0}

-- these are the sayings of these records, one after another from this offset on
abbrev pub AreSaid : ℕ → List Saying → List (List ℕ) → Type 0
AreSaid at [] [] = Unit {0}
AreSaid at [] (r ∷ records) = ⊥
AreSaid at (s ∷ sayings) [] = ⊥
AreSaid at (s ∷ sayings) (r ∷ records) =
    (s.at ≡ at) × IsSaid r s.side s.act × AreSaid (at + length (framed r)) sayings records

-- these are the sayings of the records before this offset
pub record IsReadTo (bytes : List ℕ) (at : ℕ) (sayings : List Saying) : Type 0 where
  pub records : List (List ℕ)
  pub split : bytes ≡ journal records ++ drop at bytes
  pub place : at ≡ length (journal records)
  pub formed : All IsFormed records
  pub said : AreSaid 0 sayings records

-- a journal without a fault of form, with the sayings of its records
pub record IsRead (bytes : List ℕ) (sayings : List Saying) : Type 0 where
  pub records : List (List ℕ)
  pub split : bytes ≡ journal records
  pub formed : All IsFormed records
  pub said : AreSaid 0 sayings records

-- why a journal isn't read: its first fault of form
abbrev pub IsUnread : List ℕ → Unread → Type 0
IsUnread bytes (Unread.Fault at why) = IsFormFault bytes at why
IsUnread bytes Unread.NoMemory = Unit {0}

-- a record stands at the front of these bytes, with its size so long
pub record IsFront (bytes : List ℕ) (long : ℕ) (saying : Saying) : Type 0 where
  pub it : List ℕ
  pub split : bytes ≡ framed it ++ drop long bytes
  pub long_is : long ≡ length (framed it)
  pub within : long ≤ length bytes
  pub formed : IsFormed it
  pub said : IsSaid it saying.side saying.act

-- what is wrong with the bytes from this offset on
abbrev pub IsFaultAt : ℕ → List ℕ → Unread → Type 0
IsFaultAt at bytes (Unread.Fault place why) = (place ≡ at) × BeginsWithFault bytes why
IsFaultAt at bytes Unread.NoMemory = Unit {0}
