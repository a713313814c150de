-- What contracts say of a lock and of its seats.
use Rattle.std.specs.Prelude.{◌≡◌, ◌≢◌, ℕ, ◌<◌, List, [], ◌∷◌, ◌++◌}
use mathlib.Core.List.{IsPrefix}
use Rattle.turn_lock.specs.declared.value.Turn.{Ghosts}
use Rattle.turn_lock.specs.declared.view.Entry.{Entry}
use Rattle.turn_lock.specs.declared.view.Share.{Share}
use Rattle.turn_lock.specs.declared.view.View.{View}
use Rattle.turn_lock.specs.declared.seat.Seat.{Seat}
use Rattle.turn_lock.specs.declared.seat.TurnLock.{TurnLock}
use Rattle.turn_lock.specs.Histories.{entry, calls_of, entries_of, longer_of}
use Rattle.turn_lock.specs.Views.{IsWhole, HasAll, HasOwn, half_of, sum_of}

module _ {V C A T : Type 0} {g : Ghosts V C A T} where
  -- what the seat knows
  abbrev pub view_of : Seat V C A T g → View C A T
  view_of seat = seat.inner.me.0

  -- its number: no other seat that lives has it
  abbrev pub number_of : Seat V C A T g → ℕ
  number_of seat = (view_of seat).number

  -- the setting of the value with which the lock was made
  abbrev pub setting_of : Seat V C A T g → T
  setting_of seat = (view_of seat).setting

  -- the beginning of the history that it has seen
  abbrev pub seen_of : Seat V C A T g → List (Entry C A)
  seen_of seat = (view_of seat).seen

  -- the calls that it has seen, each with its answer
  abbrev pub calls_seen : Seat V C A T g → List (C × A)
  calls_seen seat = calls_of (seen_of seat)

  -- its own entries, and those of the seats that were joined into it
  abbrev pub mine_of : Seat V C A T g → List (Entry C A)
  mine_of seat = (view_of seat).mine

  -- its share of all seats
  abbrev pub share_of : Seat V C A T g → Share
  share_of seat = (view_of seat).share

  -- its share is 1: each seat that was split off was joined in
  abbrev pub HasWholeShare : Seat V C A T g → Type 0
  HasWholeShare seat = IsWhole (share_of seat)

  -- for each number, its own entries with it are, in order, all that it has seen
  abbrev pub IsComplete : Seat V C A T g → Type 0
  IsComplete seat = HasAll (view_of seat)

  -- the seat is one of the lock's
  abbrev pub IsSeatOf : TurnLock V C A T → Seat V C A T g → Type 0
  IsSeatOf lock seat = seat.inner.table_id ≡ lock.table.shared.table_id

  -- the two are seats of one lock
  abbrev pub SameLock : Seat V C A T g → Seat V C A T g → Type 0
  SameLock a b = b.inner.table_id ≡ a.inner.table_id

  -- the first seat of a lock over a value with the setting: nothing was called yet
  pub record IsFirstSeat (lock : TurnLock V C A T) (setting : T) (seat : Seat V C A T g)
      : Type 0 where
    pub of_lock : IsSeatOf lock seat
    pub has_setting : setting_of seat ≡ setting
    pub nothing_seen : seen_of seat ≡ []
    pub none_made : mine_of seat ≡ []
    pub whole_share : HasWholeShare seat

  -- the seat stayed itself: its lock, number, setting and share
  pub record IsSameSeat (old new : Seat V C A T g) : Type 0 where
    pub same_lock : SameLock old new
    pub same_number : number_of new ≡ number_of old
    pub same_setting : setting_of new ≡ setting_of old
    pub same_share : share_of new ≡ share_of old

  -- one entry stands behind all that the seat had seen, and at the end of its own
  pub record AddsEntry (old : Seat V C A T g) (call : C) (answer : A) (new : Seat V C A T g)
      : Type 0 where
    -- other seats may have made calls since
    pub others : List (Entry C A)
    -- none of these entries has its number
    pub none_own : entries_of (number_of old) others ≡ []
    pub seen : seen_of new ≡ (seen_of old ++ others) ++ entry (number_of old) call answer ∷ []
    pub mine : mine_of new ≡ mine_of old ++ entry (number_of old) call answer ∷ []
    -- of the entries with its number it has seen its own, and no more
    pub own : HasOwn (view_of new)

  -- the seat keeps all but half of its share
  pub record KeepsHalf (old new : Seat V C A T g) : Type 0 where
    pub same_lock : SameLock old new
    pub same_number : number_of new ≡ number_of old
    pub same_setting : setting_of new ≡ setting_of old
    pub same_seen : seen_of new ≡ seen_of old
    pub same_mine : mine_of new ≡ mine_of old
    pub half_share : share_of new ≡ half_of (share_of old)

  -- the seat that was split off has seen what its parent has, has half of the share, and no entry
  pub record GetsHalf (parent child : Seat V C A T g) : Type 0 where
    pub same_lock : SameLock parent child
    pub same_setting : setting_of child ≡ setting_of parent
    pub same_seen : seen_of child ≡ seen_of parent
    pub none_made : mine_of child ≡ []
    pub half_share : share_of child ≡ half_of (share_of parent)
    -- its number is a new one: above its parent's, and no entry has it
    pub later_number : number_of parent < number_of child
    pub none_seen : entries_of (number_of child) (seen_of child) ≡ []

  -- the seat knows what it and the other knew, and has both shares
  pub record TakesIn (old other new : Seat V C A T g) : Type 0 where
    pub same_lock : SameLock old new
    pub same_number : number_of new ≡ number_of old
    pub same_setting : setting_of new ≡ setting_of old
    -- the longer of what the two had seen
    pub seen : seen_of new ≡ longer_of (seen_of old) (seen_of other)
    pub mine : mine_of new ≡ mine_of old ++ mine_of other
    pub share : share_of new ≡ sum_of (share_of old) (share_of other)

  -- what each of two seats has seen begins h, and no number stands in both of their own lists
  pub record AreApart (a b : Seat V C A T g) (h : List (Entry C A)) : Type 0 where
    pub seen : IsPrefix (seen_of a) h
    pub other_seen : IsPrefix (seen_of b) h
    pub numbers : number_of a ≢ number_of b
    pub owners : (q : ℕ) → entries_of q (mine_of a) ≢ [] → entries_of q (mine_of b) ≡ []
