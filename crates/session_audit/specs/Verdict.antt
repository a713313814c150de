-- The verdict on a journal.
use Rattle.std.specs.Prelude.{◌≡◌, ℕ, ◌≤◌, ◌⊎◌, List, [], ◌∷◌, ◌++◌, length}
use Rattle.std.specs.List.{All, AllZip}
use Rattle.chan_values.specs.declared.side.Side.{Side}
use Rattle.chan_values.specs.declared.side.Side.TheVariants.{Plugin, Agent}
use Rattle.chan_values.specs.Sides.{other}
use Rattle.channel_core.specs.Laws.{IsPrefixOf}
use Rattle.channel_core.specs.History.{put_items, released_items}
use Rattle.channel_core.specs.World.{Event, history_of}
use Rattle.session_audit.specs.declared.act.Act.{Act}
use Rattle.session_audit.specs.declared.verdict.Audit.{Audit}
use Rattle.session_audit.specs.declared.verdict.Totals.{Totals}
use Rattle.session_audit.specs.declared.verdict.Why.{Why}
use Rattle.session_audit.specs.Journal.{IsFormFault, IsFormed, IsRecordOf, journal, letter, records_at}
use Rattle.session_audit.specs.Moves.{CanMove, IsRun, IsWhole, Move, acts_at, move_of, moves_of, replay_world}

-- what each end's user put in and was given
abbrev pub totals_of : List Event → Totals
totals_of world =
    record {
      sent_p = length (put_items (history_of Plugin world));
      sent_a = length (put_items (history_of Agent world));
      released_a = length (released_items (history_of Agent world));
      released_p = length (released_items (history_of Plugin world));
    }

-- these moves are what the records say
abbrev pub AreRecords : List Move → List (List ℕ) → Type 0
AreRecords moves records =
    (side : Side) → AllZip (IsRecordOf side) (acts_at side moves) (records_at side records)

-- a legal and honest world, in which no call wanted for memory, has these records as its journal
abbrev pub IsExplained : ℕ → List (List ℕ) → Type 0
IsExplained w records =
    (world : List Event) × IsWhole w world × AreRecords (moves_of world) records

-- Each end's records are replayed as far as they can be, and no further. The order between the ends
-- is left open: it makes no difference.
pub record IsHalted (w : ℕ) (records : List (List ℕ)) (moves : List Move) : Type 0 where
  pub run : IsRun w moves
  -- the records of each end that are replayed, and those that are left
  pub done : Side → List (List ℕ)
  pub left : Side → List (List ℕ)
  pub split : (side : Side) → done side ++ left side ≡ records_at side records
  pub shown : (side : Side) → AllZip (IsRecordOf side) (acts_at side moves) (done side)
  pub stuck : (side : Side) (act : Act) (r : List ℕ) (rest : List (List ℕ))
      → left side ≡ r ∷ rest
      → IsRecordOf side act r
      → CanMove w moves (move_of side act)
      → ⊥

-- why a record can't be replayed, by its kind
abbrev pub IsKindOf : Side → List ℕ → Why → Type 0
IsKindOf side r Why.NotEmitted = (message : List ℕ) × (r ≡ letter side ∷ 0 ∷ message)
IsKindOf side r Why.Unheard = (message : List ℕ) × (r ≡ letter side ∷ 1 ∷ message)
IsKindOf side r why = ⊥

-- the first record of the journal that is left, with its place
pub record IsLeft (w : ℕ) (records : List (List ℕ)) (place : ℕ) (why : Why) : Type 0 where
  pub moves : List Move
  pub halted : IsHalted w records moves
  pub before : List (List ℕ)
  pub it : List ℕ
  pub after : List (List ℕ)
  pub split : records ≡ before ++ it ∷ after
  pub place_is : place ≡ length (journal before)
  pub side : Side
  pub kind : IsKindOf side it why
  -- what stands before it is replayed, and at its own end nothing else is
  pub here : records_at side before ≡ halted.done side
  pub there : IsPrefixOf (records_at (other side) before) (halted.done (other side))

-- the records are all replayed, with these totals
pub record IsAccepted (w : ℕ) (records : List (List ℕ)) (totals : Totals) : Type 0 where
  pub moves : List Move
  pub run : IsRun w moves
  pub shown : AreRecords moves records
  pub totals_are : totals ≡ totals_of (replay_world w moves)

-- a record says at most one act
abbrev pub SaysOne : Side → List ℕ → Type 0
SaysOne side r = (a b : Act) → IsRecordOf side a r → IsRecordOf side b r → a ≡ b

-- the verdict on a journal with this window: first the faults of form, then the replay
abbrev pub IsVerdict : ℕ → List ℕ → Audit → Type 0
IsVerdict w bytes (Audit.Yes totals) =
    (records : List (List ℕ))
    × (bytes ≡ journal records)
    × All IsFormed records
    × IsAccepted w records totals
IsVerdict w bytes (Audit.Bad place why) =
    IsFormFault bytes place why
    ⊎ ((records : List (List ℕ))
    × (bytes ≡ journal records)
    × All IsFormed records
    × ((side : Side) → All (SaysOne side) (records_at side records))
    × IsLeft w records place why)
IsVerdict w bytes Audit.NoMemory = ⊥

-- where the records are all replayed, the replay is a world that explains them, with these totals
abbrev pub AcceptedIsExplained : Type 0
AcceptedIsExplained =
    (w : ℕ) (records : List (List ℕ)) (totals : Totals)
    → IsAccepted w records totals
    → (found : IsExplained w records) × (totals ≡ totals_of found.0)

-- where a world explains the records, they are all replayed
abbrev pub ExplainedIsAccepted : Type 0
ExplainedIsAccepted =
    (w : ℕ) (records : List (List ℕ))
    → 1 ≤ w
    → IsExplained w records
    → (totals : Totals) × IsAccepted w records totals

-- where a world explains the records, and each says at most one act, no replay of them halts before
-- their end
abbrev pub ExplainedIsNotLeft : Type 0
ExplainedIsNotLeft =
    (w : ℕ) (records : List (List ℕ)) (moves : List Move)
    → 1 ≤ w
    → ((side : Side) → All (SaysOne side) (records_at side records))
    → IsExplained w records
    → (halted : IsHalted w records moves)
    → (side : Side)
    → halted.left side ≡ []

-- where each record says at most one act, the records that are left have one first, the journal is
-- not accepted then, and the totals of one that is accepted are one
pub record VerdictIsOne : Type 0 where
  pub same : (w : ℕ) (records : List (List ℕ)) (place other_place : ℕ) (why other_why : Why)
      → ((side : Side) → All (SaysOne side) (records_at side records))
      → IsLeft w records place why
      → IsLeft w records other_place other_why
      → (place ≡ other_place) × (why ≡ other_why)
  pub refused : (w : ℕ) (records : List (List ℕ)) (place : ℕ) (why : Why) (totals : Totals)
      → 1 ≤ w
      → ((side : Side) → All (SaysOne side) (records_at side records))
      → IsLeft w records place why
      → IsAccepted w records totals
      → ⊥
  pub totals : (w : ℕ) (records : List (List ℕ)) (totals other_totals : Totals)
      → ((side : Side) → All (SaysOne side) (records_at side records))
      → IsAccepted w records totals
      → IsAccepted w records other_totals
      → totals ≡ other_totals

-- a journal with the verdict Yes is one that a world explains, with these totals
abbrev pub YesIsExplained : Type 0
YesIsExplained =
    (w : ℕ) (bytes : List ℕ) (totals : Totals)
    → IsVerdict w bytes (Audit.Yes totals)
    → (records : List (List ℕ))
    × (bytes ≡ journal records)
    × All IsFormed records
    × ((found : IsExplained w records) × (totals ≡ totals_of found.0))

-- a journal without a fault of form that a world explains has the verdict Yes
abbrev pub ExplainedIsYes : Type 0
ExplainedIsYes =
    (w : ℕ) (bytes : List ℕ) (records : List (List ℕ)) (answer : Audit)
    → 1 ≤ w
    → IsVerdict w bytes answer
    → bytes ≡ journal records
    → All IsFormed records
    → IsExplained w records
    → (totals : Totals) × (answer ≡ Audit.Yes totals)

-- a journal has one verdict: where it is refused, it is so at one place and for one reason, and it is
-- not accepted
pub record JournalHasOneVerdict : Type 0 where
  pub same : (w : ℕ) (bytes : List ℕ) (place other_place : ℕ) (why other_why : Why)
      → IsVerdict w bytes (Audit.Bad place why)
      → IsVerdict w bytes (Audit.Bad other_place other_why)
      → (place ≡ other_place) × (why ≡ other_why)
  pub refused : (w : ℕ) (bytes : List ℕ) (place : ℕ) (why : Why) (totals : Totals)
      → 1 ≤ w
      → IsVerdict w bytes (Audit.Bad place why)
      → IsVerdict w bytes (Audit.Yes totals)
      → ⊥
