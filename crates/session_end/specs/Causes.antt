-- Why a run came to its outcome.
use Rattle.std.specs.Prelude.{◌≡◌, ℕ, Bool, true, false, Option, Some, None, List, ◌∷◌, ◌++◌, nat_eq}
use Rattle.std.specs.List.{flat_map, list_any}
use Rattle.chan_io.specs.Faults.{Rises}
use Rattle.channel_core.specs.declared.answer.Heard.{Heard}
use Rattle.channel_core.specs.declared.answer.Pull.{Pull}
use Rattle.channel_core.specs.declared.answer.Tick.{Tick}
use Rattle.channel_core.specs.declared.call.EndAnswer.{EndAnswer}
use Rattle.channel_core.specs.declared.call.EndCall.{EndCall}
use Rattle.turn_lock.specs.declared.view.Entry.{Entry}
use Rattle.session_run.specs.declared.shelf_call.ShelfAnswer.{ShelfAnswer}
use Rattle.session_run.specs.declared.shelf_call.ShelfCall.{ShelfCall}
use Rattle.session_feeds.specs.declared.session.SessionFault.{SessionFault}
use Rattle.session_crews.specs.FeedTurns.{FeedPart}
use Rattle.session_crews.specs.declared.feed_end.FeedEnd.{FeedEnd}
use Rattle.session_workers.specs.ReaderLaws.{EndsMissed, state_after}
use Rattle.session_workers.specs.ReaderSteps.{MayTake}
use Rattle.session_workers.specs.Reading.{ReaderStep, dials, dials_in, refuses}
use Rattle.session_end.specs.declared.outcome.Outcome.{Outcome}
use Rattle.session_end.specs.Deeds.{Deeds}

-- whether the other end's closing was heard
abbrev pub is_ended : EndAnswer → Bool
is_ended (EndAnswer.Heard Heard.Ended) = true
is_ended answer = false

-- whether the end gave up this number
abbrev pub gives_up : ℕ → EndAnswer → Bool
gives_up n (EndAnswer.Tick (Tick.GaveUp m)) = nat_eq m n
gives_up n answer = false

-- whether the end gave up a number
abbrev pub is_giving_up : EndAnswer → Bool
is_giving_up (EndAnswer.Tick (Tick.GaveUp m)) = true
is_giving_up answer = false

-- the end gave up this number, or none
abbrev pub GaveUp : Option ℕ → List (Entry EndCall EndAnswer) → Type 0
GaveUp (Some n) h = list_any (λ e. gives_up n e.answer) h ≡ true
GaveUp None h = list_any (λ e. is_giving_up e.answer) h ≡ false

-- whether memory was wanted in a call of the end
abbrev pub is_wanting : EndAnswer → Bool
is_wanting (EndAnswer.Heard (Heard.NoMemory incoming)) = true
is_wanting (EndAnswer.Pull Pull.NoMemory) = true
is_wanting answer = false

-- whether memory was wanted in a call of the shelf
abbrev pub is_shelf_wanting : ShelfAnswer → Bool
is_shelf_wanting ShelfAnswer.NoMemory = true
is_shelf_wanting answer = false

-- a dial of these steps had this reply, which did not accept, or did not read; a later one that
-- tells that the session has ended is none such
pub record IsRefused (token : List ℕ) (steps : List ReaderStep) (reply : List ℕ) : Type 0 where
  pub earlier : List ReaderStep
  pub opening : List ℕ
  pub later : List ReaderStep
  pub parts : steps ≡ earlier ++ dials opening reply refuses ∷ later
  pub said : MayTake (state_after token earlier).was_up reply refuses

-- the closing of the other end was heard, and no call wanted memory
pub record IsQuietEnd (h : List (Entry EndCall EndAnswer)) (k : List (Entry ShelfCall ShelfAnswer))
    : Type 0 where
  pub heard : list_any (λ e. is_ended e.answer) h ≡ true
  pub end_memory : list_any (λ e. is_wanting e.answer) h ≡ false
  pub shelf_memory : list_any (λ e. is_shelf_wanting e.answer) k ≡ false

-- a feeder of these failed: its worker ended so, and the count of its failed calls rose
pub record HasFailed (feeders : List FeedPart) : Type 0 where
  pub earlier : List FeedPart
  pub part : FeedPart
  pub later : List FeedPart
  pub parts : feeders ≡ earlier ++ part ∷ later
  pub ended : part.ended ≡ Some FeedEnd.Failed
  pub rose : Rises part.faults_before part.faults

module _ (token : List ℕ) (d : Deeds) (h : List (Entry EndCall EndAnswer))
    (k : List (Entry ShelfCall ShelfAnswer)) (spawned new_spawned : ℕ)
    (refusal : Option SessionFault) (agreed : Bool) where
  -- the outcome has its cause: Ended and Unagreed that the closing of the other end was heard, that
  -- no call wanted memory, and what the session says of its agreement; a refused reply, a link lost
  -- by six dials, a number given up, a fault of the session or of a feeder, a start that failed
  -- that they were. Want of memory alone needs none
  abbrev pub HasCause : Outcome → Type 0
  HasCause Outcome.Ended = IsQuietEnd h k × (agreed ≡ true)
  HasCause Outcome.Unagreed = IsQuietEnd h k × (agreed ≡ false)
  HasCause Outcome.NoMemory = Unit {0}
  HasCause (Outcome.Refused reply) = IsRefused token d.steps reply
  HasCause Outcome.LinkLost = EndsMissed 6 (flat_map dials_in d.steps)
  HasCause (Outcome.GaveUp n) = GaveUp (Some n) h
  HasCause (Outcome.Fault fault) = refusal ≡ Some fault
  HasCause Outcome.FeedFault = HasFailed d.delivery.feeders
  HasCause Outcome.NoThread = Rises spawned new_spawned
  HasCause Outcome.EntropyFault = ⊥
