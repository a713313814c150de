-- What the marks of an end tell of the acts that it did.
use Rattle.std.specs.Prelude.{◌≡◌, ◌≢◌, ◌↔◌, ℕ, ◌+◌, ◌≤◌, true, false, Option, Some, None, List, [], ◌∷◌, ◌++◌, MatchOption, get_or, nat_lt, slice_get}
use Rattle.std.specs.List.{Contains}
use Rattle.resend_queue.specs.declared.answer.Sent.{Sent}
use Rattle.channel_core.specs.declared.message.Outgoing.TheVariants as Outgoing
use Rattle.channel_core.specs.Numbers.{has_number}
use Rattle.session_audit.specs.declared.act.Act.{Act}
use Rattle.session_audit.specs.declared.marks.Mark.{Mark}
use Rattle.session_audit.specs.declared.reading.Saying.{Saying}
use Rattle.session_audit.specs.Looking.{sent_in}

-- marks, as contracts see them
pub record MarksState : Type 0 where
  -- by number
  pub marks : List Mark
  -- one more than the place of the last opening, or 0
  pub opened : ℕ

-- nothing is known of any number
abbrev pub no_marks : MarksState
no_marks = record { marks = []; opened = 0 }

-- nothing is known of a number
abbrev pub no_mark : Mark
no_mark = record { place = None; last = 0; acked = false }

-- the mark of a number
abbrev pub mark_of : MarksState → ℕ → Mark
mark_of s n = get_or s.marks n no_mark

-- one of the acts gives out this stream message
abbrev pub Streams : List Act → Sent → Type 0
Streams acts m = Contains acts (Act.Emits (Outgoing.Stream m))

-- the saying at this place says that a stream message with this number went out, and it is one of the
-- acts
abbrev pub IsPlaceOf : List Saying → List Act → ℕ → ℕ → Type 0
IsPlaceOf sayings acts n place =
    (saying : Saying) × (m : Sent)
    × (slice_get sayings place ≡ Some saying)
    × (saying.act ≡ Some (Act.Emits (Outgoing.Stream m)))
    × (m.seq ≡ n)
    × Streams acts m

-- what is known of a number from these acts, which are said by sayings before this place
pub record IsMarkOf
    (sayings : List Saying) (acts : List Act) (before opened n : ℕ) (mark : Mark) : Type 0 where
  -- where a stream message with this number went out, or that none did
  pub stream :
      MatchOption mark.place
      ((m : Sent) → Streams acts m → m.seq ≡ n → ⊥)
      (IsPlaceOf sayings acts n)
  -- it went out since the last opening
  pub sent : has_number (sent_in acts) n ≡ nat_lt opened mark.last
  pub acked : (mark.acked ≡ true)
      ↔ ((id : List ℕ) × (date : ℕ) × Contains acts (Act.Emits (Outgoing.Ack n id date)))
  pub past : mark.last ≤ before

-- the marks of these acts
pub record AreMarks
    (s : MarksState) (sayings : List Saying) (acts : List Act) (before : ℕ) : Type 0 where
  pub each : (n : ℕ) → IsMarkOf sayings acts before s.opened n (mark_of s n)
  pub opened : s.opened ≤ before

-- two stream messages with one number are one
abbrev pub AreOne : List Act → Type 0
AreOne acts = (a b : Sent) → Streams acts a → Streams acts b → a.seq ≡ b.seq → a ≡ b

-- the mark of this number is so, and nothing else changed
pub record PutsMark
    (old new : MarksState) (n : ℕ) (Is : Mark → Type 0) : Type 0 where
  pub opened : new.opened ≡ old.opened
  pub put : Is (mark_of new n)
  pub kept : (k : ℕ) → k ≢ n → mark_of new k ≡ mark_of old k

-- the first place stays
abbrev pub first_place : Option ℕ → ℕ → Option ℕ
first_place (Some first) place = Some first
first_place None place = Some place

-- a stream message went out at this place
abbrev pub IsMarked : ℕ → Mark → Mark → Type 0
IsMarked place old new =
    (new.place ≡ first_place old.place place) × (new.last ≡ place + 1) × (new.acked ≡ old.acked)

-- the marks with an act more, which a saying at this place says
abbrev pub Notes : MarksState → MarksState → ℕ → Act → Type 0
Notes old new place act =
    (sayings : List Saying) (acts : List Act) (before : ℕ) (saying : Saying)
    → AreMarks old sayings acts before
    → before ≤ place
    → slice_get sayings place ≡ Some saying
    → saying.act ≡ Some act
    → AreMarks new sayings (acts ++ act ∷ []) (place + 1)
