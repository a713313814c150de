-- The seats of a run: split off one from another, and joined again.
use Rattle.std.specs.Prelude.{◌≡◌, ◌<◌, [], ◌++◌}
use Rattle.turn_lock.specs.declared.value.Turn.{Ghosts}
use Rattle.turn_lock.specs.declared.seat.Seat.{Seat}
use Rattle.turn_lock.specs.Seats.{HasWholeShare, SameLock, mine_of, number_of, setting_of, share_of}
use Rattle.turn_lock.specs.Views.{IsWhole, sum_of}

module _ {V C A T : Type 0} {g : Ghosts V C A T} where
  -- a seat that was split off, above another: it has made no call
  pub record IsAbove (old below above : Seat V C A T g) : Type 0 where
    pub same_lock : SameLock old above
    pub later : number_of below < number_of above
    pub none_made : mine_of above ≡ []

  -- the first seat has kept its number and its entries
  pub record IsKept (old kept : Seat V C A T g) : Type 0 where
    pub same_lock : SameLock old kept
    pub same_number : number_of kept ≡ number_of old
    pub same_setting : setting_of kept ≡ setting_of old
    pub same_mine : mine_of kept ≡ mine_of old

  -- of a seat four were made, whose shares make up the whole where its own did
  pub record IsSplitInFour (old main first second third : Seat V C A T g) : Type 0 where
    pub kept : IsKept old main
    pub first_above : IsAbove old main first
    pub second_above : IsAbove old first second
    pub third_above : IsAbove old second third
    pub whole :
        HasWholeShare old
        → IsWhole
        (sum_of (share_of main)
        (sum_of (share_of first) (sum_of (share_of second) (share_of third))))

  -- of a seat five were made
  pub record IsSplitInFive (old main first second third fourth : Seat V C A T g)
      : Type 0 where
    pub kept : IsKept old main
    pub first_above : IsAbove old main first
    pub second_above : IsAbove old first second
    pub third_above : IsAbove old second third
    pub fourth_above : IsAbove old third fourth
    pub whole :
        HasWholeShare old
        → IsWhole
        (sum_of (share_of main)
        (sum_of (share_of first)
        (sum_of (share_of second) (sum_of (share_of third) (share_of fourth)))))

  -- four seats were joined into the first
  pub record IsJoinOfFour (main first second third new : Seat V C A T g) : Type 0 where
    pub same_lock : SameLock main new
    pub same_number : number_of new ≡ number_of main
    pub same_setting : setting_of new ≡ setting_of main
    pub mine :
        mine_of new
        ≡ mine_of main ++ (mine_of first ++ (mine_of second ++ mine_of third))
    pub share :
        share_of new
        ≡ sum_of (share_of main)
        (sum_of (share_of first) (sum_of (share_of second) (share_of third)))

  -- five seats were joined into the first
  pub record IsJoinOfFive (main first second third fourth new : Seat V C A T g)
      : Type 0 where
    pub same_lock : SameLock main new
    pub same_number : number_of new ≡ number_of main
    pub same_setting : setting_of new ≡ setting_of main
    pub mine :
        mine_of new
        ≡ mine_of main
        ++ (mine_of first ++ (mine_of second ++ (mine_of third ++ mine_of fourth)))
    pub share :
        share_of new
        ≡ sum_of (share_of main)
        (sum_of (share_of first)
        (sum_of (share_of second) (sum_of (share_of third) (share_of fourth))))
