-- What each step tells the seat that makes it.
use Rattle.std.specs.Prelude.{◌≡◌, ◌≢◌, ℕ, ◌<◌, List, [], ◌∷◌, ◌++◌, ◌⊎◌, length, Some, None}
use mathlib.Core.List.{IsPrefix}
use Rattle.atomic_table.specs.Table.{Me, Step}
use Rattle.turn_lock.specs.declared.view.Entry.{Entry}
use Rattle.turn_lock.specs.declared.view.Merge.{Merge}
use Rattle.turn_lock.specs.declared.view.Stage.TheVariants.{Fresh, Idle, Waits, Serves, Joined}
use Rattle.turn_lock.specs.declared.view.View.{View}
use Rattle.turn_lock.specs.declared.view.LastCall.{LastCall}
use Rattle.turn_lock.specs.declared.view.Locked.{Locked}
use Rattle.turn_lock.specs.Histories.{calls_of, entries_of}
use Rattle.turn_lock.specs.Views.{IsWhole, HasAll, HasOwn, at_stage, with_seen, with_turn, with_call, with_number}
use Rattle.turn_lock.specs.Rule.{Slot, StandsFor, WereApart}

-- a seat as the steps see it: its view, and the slots that it holds
abbrev Seated : Type 0 → Type 0 → Type 0 → Type 0 → Type 0
Seated V C A T = Me (Slot V C A) (View C A T)

-- the value is in the slot, and stands for all that such a seat has seen
abbrev pub MayClose : {C A T : Type 0} → View C A T → Type 0
MayClose v = ((v.stage ≡ Idle) × IsWhole v.share) ⊎ (v.stage ≡ Waits (length v.seen))

-- the history goes on from what the seat had seen, and no entry since then has its number
abbrev pub GoesOn : {C A T : Type 0} → View C A T → List (Entry C A) → Type 0
GoesOn {C} {A} {T} v h = (others : List (Entry C A)) × (v.seen ++ others ≡ h)
    × (entries_of v.number others ≡ [])

module _ {V C A T : Type 0} where
  -- the seat has the turn, and gave no value back
  abbrev pub HoldsTurn : Seated V C A T → Type 0
  HoldsTurn me = (ticket : ℕ) × (me.0.stage ≡ Serves ticket) × (me.1 ≡ (0, None) ∷ [])

  -- draw: where word 1 was the number expected, that is the seat's ticket; else nothing changed
  abbrev pub Draws : Step (Slot V C A) → Seated V C A T → ℕ → Seated V C A T → Type 0
  Draws step old found new = (found ≡ step.first → new ≡ (at_stage old.0 (Waits found), old.1))
      × (found ≢ step.first → new ≡ old)

  -- the ticket is served and the whole history seen
  abbrev pub Reaches : ℕ → Seated V C A T → Seated V C A T → Type 0
  Reaches ticket old new = (h : List (Entry C A)) × (new ≡ (with_seen old.0 h, old.1))
      × IsPrefix old.0.seen h × (length h ≡ ticket)
      × (IsWhole old.0.share → (h ≡ old.0.seen) × HasAll new.0)

  -- load serving, to close: where word 0 is the seat's ticket, it is served; else nothing changed
  abbrev pub Awaits : Step (Slot V C A) → Seated V C A T → ℕ → Seated V C A T → Type 0
  Awaits step old found new = (ticket : ℕ) → old.0.stage ≡ Waits ticket
      → (found ≡ ticket → Reaches ticket old new) × (found ≢ ticket → new ≡ old)

  -- advance serving: the last call and its answer stand at the end of the history
  abbrev pub Advances : Step (Slot V C A) → Seated V C A T → ℕ → Seated V C A T → Type 0
  Advances step old found new = (x : Locked V C A) (last : LastCall C A)
      → old.1 ≡ (0, Some x) ∷ [] → x.last ≡ Some last
      → (new ≡ (with_call old.0 last, [])) × HasOwn new.0 × (IsWhole old.0.share → HasAll new.0)

  -- learn the number: a seat that was split off has one above its parent's, which no entry seen has
  abbrev pub Learns : Step (Slot V C A) → Seated V C A T → ℕ → Seated V C A T → Type 0
  Learns step old found new =
      old.0.stage ≡ Fresh → (number : ℕ) × (new ≡ (with_number old.0 number, old.1))
      × (old.0.number < number) × (entries_of number old.0.seen ≡ [])

module _ {V C A T : Type 0} (legal : T → List (C × A) → Type 0) where
  -- settle: what is so of two seats of which one was joined into the other
  abbrev pub Settles : Step (Slot V C A) → Seated V C A T → ℕ → Seated V C A T → Type 0
  Settles step old found new = (m : Merge C A) → old.0.stage ≡ Joined m
      → (new ≡ (at_stage old.0 Idle, old.1)) × WereApart old.0 m
      × (IsWhole old.0.share → HasAll old.0 × legal old.0.setting (calls_of old.0.seen))

module _ {V C A T : Type 0} (legal : T → List (C × A) → Type 0)
    (stands : V → List (C × A) → Type 0) (setting : V → T) where
  -- the ticket is served: the history is seen, and the seat holds the value, which stands for it
  abbrev pub TakesTurn : ℕ → Seated V C A T → Seated V C A T → Type 0
  TakesTurn ticket old new = (h : List (Entry C A)) × (new.0 ≡ with_turn old.0 h ticket)
      × GoesOn old.0 h × legal old.0.setting (calls_of h)
      × ((x : Locked V C A) × (new.1 ≡ (0, Some x) ∷ old.1)
      × StandsFor legal stands setting old.0.setting h x)

  -- load serving, to call: where word 0 is the seat's ticket, it has the turn; else nothing changed
  abbrev pub Watches : Step (Slot V C A) → Seated V C A T → ℕ → Seated V C A T → Type 0
  Watches step old found new = (ticket : ℕ) → old.0.stage ≡ Waits ticket
      → (found ≡ ticket → TakesTurn ticket old new) × (found ≢ ticket → new ≡ old)

  -- the seat has the turn, and the value in hand
  abbrev pub HasValue : Seated V C A T → V → Seated V C A T → Type 0
  HasValue old value new = (ticket : ℕ) × (h : List (Entry C A))
      × (new ≡ (with_turn old.0 h ticket, (0, None) ∷ [])) × GoesOn old.0 h
      × legal old.0.setting (calls_of h) × stands value (calls_of h)
      × (setting value ≡ old.0.setting)
