-- The seats of a run, joined again, and the close of its locks.
use Rattle.std.specs.Prelude.{◌≡◌, ℕ, List, [], ◌∷◌}
use Rattle.channel_core.specs.declared.call.EndAnswer.{EndAnswer}
use Rattle.channel_core.specs.declared.call.EndCall.{EndCall}
use Rattle.turn_lock.specs.Histories.{calls_of, entries_of}
use Rattle.turn_lock.specs.Seats.{IsSeatOf, mine_of, seen_of, setting_of, share_of}
use Rattle.turn_lock.specs.Views.{IsWhole, sum_of}
use Rattle.turn_lock.specs.declared.view.Entry.{Entry}
use Rattle.session_run.specs.Adds.{AddsCalls, EndsWith}
use Rattle.session_run.specs.Held.{IsLegalFor}
use Rattle.session_run.specs.Shelf.{IsLegalShelf}
use Rattle.session_run.specs.declared.shelf_call.ShelfAnswer.{ShelfAnswer}
use Rattle.session_run.specs.declared.shelf_call.ShelfCall.{ShelfCall}
use Rattle.session_crews.specs.Seats.{EndLock, EndSeat, ShelfLock, ShelfSeat}
use Rattle.session_end.specs.declared.seats.EndSeats.{EndSeats}
use Rattle.session_end.specs.declared.seats.ShelfSeats.{ShelfSeats}
use Rattle.session_end.specs.Seats.{IsJoinOfFive, IsJoinOfFour}
use Rattle.session_end.specs.Starts.{closing}

-- the seats are all those of the lock over the end
pub record AreEndSeats (ends : EndLock) (seats : EndSeats) : Type 0 where
  pub main : IsSeatOf ends seats.main
  pub reader : IsSeatOf ends seats.reader
  pub writer : IsSeatOf ends seats.writer
  pub resender : IsSeatOf ends seats.resender
  pub deliverer : IsSeatOf ends seats.deliverer
  pub whole :
      IsWhole
      (sum_of (share_of seats.main)
      (sum_of (share_of seats.reader)
      (sum_of (share_of seats.writer)
      (sum_of (share_of seats.resender) (share_of seats.deliverer)))))

-- they are all those of the lock over the shelf
pub record AreShelfSeats (shelf : ShelfLock) (seats : ShelfSeats) : Type 0 where
  pub main : IsSeatOf shelf seats.main
  pub reader : IsSeatOf shelf seats.reader
  pub writer : IsSeatOf shelf seats.writer
  pub deliverer : IsSeatOf shelf seats.deliverer
  pub whole :
      IsWhole
      (sum_of (share_of seats.main)
      (sum_of (share_of seats.reader)
      (sum_of (share_of seats.writer) (share_of seats.deliverer))))

-- the seats were joined, the last call of the end was its close, and both locks were closed with
-- these histories
pub record IsClosing (seats : EndSeats) (shelf_seats : ShelfSeats)
    (h : List (Entry EndCall EndAnswer)) (k : List (Entry ShelfCall ShelfAnswer))
    : Type 0 where
  pub all : EndSeat
  pub closed : EndSeat
  pub shelf_all : ShelfSeat
  pub joined :
      IsJoinOfFive seats.main seats.reader seats.writer seats.resender seats.deliverer all
  pub adds : AddsCalls all (closing ∷ []) closed
  pub ends : EndsWith all EndCall.Close EndAnswer.Done closed
  pub legal : IsLegalFor (setting_of closed) (calls_of h)
  pub seen : h ≡ seen_of closed
  pub own : (q : ℕ) → entries_of q h ≡ entries_of q (mine_of closed)
  pub shelf_joined :
      IsJoinOfFour shelf_seats.main shelf_seats.reader shelf_seats.writer
      shelf_seats.deliverer shelf_all
  pub shelf_legal : IsLegalShelf (calls_of k)
  pub shelf_own : (q : ℕ) → entries_of q k ≡ entries_of q (mine_of shelf_all)
