-- What a seat gathers while seats that were split off from it are out.
use Rattle.std.specs.Prelude.{◌≡◌, List, [], ◌∷◌, ◌++◌}
use Rattle.turn_lock.specs.declared.seat.Seat.{Seat}
use Rattle.turn_lock.specs.declared.value.Turn.{Ghosts}
use Rattle.turn_lock.specs.declared.view.Entry.{Entry}
use Rattle.turn_lock.specs.declared.view.Share.{Share}
use Rattle.turn_lock.specs.Seats.{SameLock, mine_of, number_of, setting_of, share_of}
use Rattle.turn_lock.specs.Views.{SameShare, sum_of}

-- the share of the seat once those that are out were joined
abbrev pub gathered : Share → List Share → Share
gathered own [] = own
gathered own (other ∷ others) = sum_of (gathered own others) other

-- the seat stayed itself, these entries were added to its own, and what it has of the lock, with
-- the shares that are out, is what it had
pub record Gathers {V C A T : Type 0} {g : Ghosts V C A T}
    (old : Seat V C A T g) (entries : List (Entry C A)) (out : List Share) (new : Seat V C A T g)
    : Type 0 where
  pub same_lock : SameLock old new
  pub same_number : number_of new ≡ number_of old
  pub same_setting : setting_of new ≡ setting_of old
  pub mine : mine_of new ≡ mine_of old ++ entries
  pub share : SameShare (share_of old) (gathered (share_of new) out)
