-- What contracts say of the receipt of a lock that was closed.
use Rattle.std.specs.Prelude.{◌≡◌, List}
use mathlib.Core.List.{IsPrefix}
use Rattle.turn_lock.specs.declared.value.Turn.{Ghosts}
use Rattle.turn_lock.specs.declared.view.Entry.{Entry}
use Rattle.turn_lock.specs.declared.view.View.{View}
use Rattle.turn_lock.specs.declared.seat.Seat.{Seat}
use Rattle.turn_lock.specs.declared.seat.Receipt.{Receipt}
use Rattle.turn_lock.specs.Views.{HasAll}
use Rattle.turn_lock.specs.Seats.{setting_of, seen_of, mine_of}

module _ {V C A T : Type 0} where
  -- the seat that closed the lock, once it had seen the whole history
  abbrev pub last_of : Receipt V C A T → View C A T
  last_of receipt = receipt.seat.value.me.0

  -- the whole history of the lock
  abbrev pub history_of : Receipt V C A T → List (Entry C A)
  history_of receipt = (last_of receipt).seen

module _ {V C A T : Type 0} {g : Ghosts V C A T} where
  -- the receipt has the closing seat's setting and entries; what that had seen begins the history
  pub record IsReceiptOf (seat : Seat V C A T g) (receipt : Receipt V C A T) : Type 0 where
    pub same_setting : (last_of receipt).setting ≡ setting_of seat
    pub same_mine : (last_of receipt).mine ≡ mine_of seat
    pub seen : IsPrefix (seen_of seat) (history_of receipt)

  -- the seat had seen the whole history, and its own entries with each number are all there are
  pub record ShowsAll (seat : Seat V C A T g) (receipt : Receipt V C A T) : Type 0 where
    pub seen_all : history_of receipt ≡ seen_of seat
    pub own_all : HasAll (last_of receipt)
