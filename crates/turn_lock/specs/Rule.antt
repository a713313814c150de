-- The rule of the lock, which holds between any two steps of its seats.
-- Word 0 is the ticket that is served, word 1 the ticket that is drawn next, slot 0 has the value.
use Rattle.std.specs.Prelude.{◌≡◌, ◌≢◌, ℕ, ◌+◌, ◌^◌, ◌<◌, ◌≤◌, List, [], length, true, false, Option, Some, slice_index}
use Rattle.std.specs.List.{sum_by, count_by}
use mathlib.Core.Option.{some}
use mathlib.Core.List.{IsPrefix}
use lib.ListN.{get_elem?}
use Rattle.atomic_table.specs.Table.{State}
use Rattle.turn_lock.specs.declared.view.Entry.{Entry}
use Rattle.turn_lock.specs.declared.view.Merge.{Merge}
use Rattle.turn_lock.specs.declared.view.Stage.{Stage}
use Rattle.turn_lock.specs.declared.view.Stage.TheVariants.{Fresh, Idle, Waits, Serves, Joined, Spent}
use Rattle.turn_lock.specs.declared.view.View.{View}
use Rattle.turn_lock.specs.declared.view.Locked.{Locked}
use Rattle.turn_lock.specs.Histories.{calls_of, entries_of}
use Rattle.turn_lock.specs.Stages.{ticket_of, has_ticket, is_serving, is_spent}
use Rattle.turn_lock.specs.Views.{parts_at}

-- what the slot holds: the value, or nothing while a seat has it in hand
abbrev pub Slot : Type 0 → Type 0 → Type 0 → Type 0
Slot V C A = Option (Locked V C A)

module _ {C A T : Type 0} where
  -- how many seats have a ticket
  abbrev pub tickets_out : List (View C A T) → ℕ
  tickets_out views = count_by (λ v. has_ticket v.stage) views

  -- the shares of all seats together, in parts of the size 1 / 2 ^ depth
  abbrev pub parts_out : ℕ → List (View C A T) → ℕ
  parts_out depth views = sum_by (λ v. parts_at depth v.share) views

  -- what is found where a seat was joined into another
  pub record WereApart (v : View C A T) (m : Merge C A) : Type 0 where
    -- what each had seen begins what is seen now
    pub seen : IsPrefix m.seen v.seen
    pub other_seen : IsPrefix m.other_seen v.seen
    -- they had two numbers
    pub numbers : v.number ≢ m.other
    -- no number stood in both of their own lists
    pub owners : (q : ℕ) → entries_of q m.mine ≢ [] → entries_of q m.other_mine ≡ []

-- of the seat with the number n, whose view is v: log is the history, and next is drawn next
module _ {C A T : Type 0} (made_with : T) (log : List (Entry C A)) (owner : ℕ → ℕ)
    (next n : ℕ) (v : View C A T) where
  -- what its stage says
  abbrev pub InStage : Stage C A → Type 0
  InStage Fresh = (v.number < n) × (v.mine ≡ [])
  InStage Idle = v.number ≡ n
  InStage (Waits ticket) = (v.number ≡ n) × (length log ≤ ticket) × (ticket < next)
  InStage (Serves ticket) =
      (v.number ≡ n) × (ticket ≡ length log) × (v.seen ≡ log) × (ticket < next)
  InStage (Joined m) = (v.number ≡ n) × WereApart v m
  InStage Spent = Unit {0}

  -- what it knows is true
  pub record IsLive : Type 0 where
    -- it has the setting of the value with which the lock was made
    pub has_setting : v.setting ≡ made_with
    -- what it has seen begins the history
    pub has_seen : IsPrefix v.seen log
    -- it has a share
    pub has_share : 0 < v.share.parts
    -- its number is its own
    pub owns_own : owner n ≡ n
    -- of a number that it owns, its own list has the entries of the history, in order
    pub made_own : (q : ℕ) → owner q ≡ n → entries_of q v.mine ≡ entries_of q log
    -- of another number it has none
    pub no_others : (q : ℕ) → owner q ≢ n → entries_of q v.mine ≡ []
    -- of a number that it owns, it has seen all entries of the history
    pub seen_own : (q : ℕ) → owner q ≡ n → entries_of q v.seen ≡ entries_of q log
    -- its stage
    pub in_stage : InStage v.stage

module _ {V C A T : Type 0} (legal : T → List (C × A) → Type 0)
    (stands : V → List (C × A) → Type 0) (setting : V → T) (made_with : T) where
  -- the value in the slot stands for the history h
  pub record StandsFor (h : List (Entry C A)) (x : Locked V C A) : Type 0 where
    -- it stands for the calls of h
    pub value_stands : stands x.value (calls_of h)
    -- it has the setting of the value with which the lock was made
    pub value_set : setting x.value ≡ made_with

  -- the table is that of a ticket lock with one history
  pub record IsTicketLock (s : State (Slot V C A) (View C A T)) : Type 0 where
    -- the history
    pub log : List (Entry C A)
    -- for each number, that of the seat that has its entries among its own
    pub owner : ℕ → ℕ
    -- there are two words
    pub two_words : length s.words ≡ 2
    -- and one slot
    pub one_slot : length s.homes ≡ 1
    -- word 0 is the number of entries
    pub served : slice_index s.words 0 ≡ length log
    -- word 1 is that and the number of seats with a ticket
    pub drawn : slice_index s.words 1 ≡ length log + tickets_out s.views
    -- which fits the word
    pub fits : slice_index s.words 1 < 2 ^ 64
    -- the history is legal
    pub is_legal : legal made_with (calls_of log)
    -- where no seat holds the value it is in the slot, and stands for the history
    pub home :
        ((j : ℕ) (v : View C A T) → get_elem? s.views j ≡ some v → is_serving v.stage ≡ false)
        → (x : Locked V C A) × (get_elem? s.homes 0 ≡ some (some (Some x))) × StandsFor log x
    -- what a seat that is not spent knows is true
    pub each :
        (j : ℕ) (v : View C A T) → get_elem? s.views j ≡ some v → is_spent v.stage ≡ false
        → IsLive made_with log owner (length log + tickets_out s.views) j v
    -- a seat that is spent has no share
    pub gone :
        (j : ℕ) (v : View C A T) → get_elem? s.views j ≡ some v → is_spent v.stage ≡ true
        → v.share.parts ≡ 0
    -- no ticket is out twice
    pub apart : (i j : ℕ) (v w : View C A T) (ticket : ℕ)
        → get_elem? s.views i ≡ some v → get_elem? s.views j ≡ some w
        → ticket_of v.stage ≡ Some ticket → ticket_of w.stage ≡ Some ticket → i ≡ j
    -- the owner of a number that was given is a seat that is not spent
    pub given : (q : ℕ) → q < length s.views
        → (v : View C A T) × (get_elem? s.views (owner q) ≡ some v) × (is_spent v.stage ≡ false)
    -- a number that was not given yet is its own, and has no entry
    pub not_given : (q : ℕ) → length s.views ≤ q → (owner q ≡ q) × (entries_of q log ≡ [])
    -- some seat that is not spent has seen the whole history
    pub whole : (j : ℕ) × (v : View C A T)
        × (get_elem? s.views j ≡ some v) × (is_spent v.stage ≡ false) × (v.seen ≡ log)
    -- the shares of all seats make up 1
    pub shares : (depth : ℕ)
        → ((j : ℕ) (v : View C A T) → get_elem? s.views j ≡ some v → v.share.depth ≤ depth)
        → parts_out depth s.views ≡ 2 ^ depth
