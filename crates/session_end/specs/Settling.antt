-- What the workers of a run leave.
use Rattle.std.specs.Prelude.{Bool}
use Rattle.chan_io.specs.declared.link.Link.{Link}
use Rattle.session_crews.specs.Seats.{ShelfSeat}
use Rattle.session_end.specs.declared.crew.Joined.{Joined}
use Rattle.session_end.specs.declared.ends.Ends.{Ends}
use Rattle.session_end.specs.declared.seats.EndSeats.{EndSeats}
use Rattle.session_end.specs.declared.seats.ShelfSeats.{ShelfSeats}
use Rattle.session_end.specs.Leftovers.{end_with}

module _ {D N U S W : Type 0} (joined : Joined D N U S W) where
  -- how they ended
  abbrev pub ends_after : Bool → Ends
  ends_after agreed = record {
    writer = joined.written;
    reader = joined.reader.state.over;
    resent = joined.resender.over;
    gave_up = joined.gave_up;
    started = joined.started;
    delivered = end_with joined.refused joined.ended;
    refusals = joined.refusals;
    agreed = agreed;
  }

  -- their link
  abbrev pub link_after : Link D N U
  link_after = record {
    dialer = joined.reader.dialer;
    input = joined.reader.input;
    output = joined.writer.output;
  }

  -- their seats on the lock over the end
  abbrev pub seats_after : EndSeats
  seats_after = record {
    main = joined.main;
    reader = joined.reader.end;
    writer = joined.writer.end;
    resender = joined.resender.end;
    deliverer = joined.service.end;
  }

  -- and on that over the shelf
  abbrev pub shelf_seats_after : ShelfSeat → ShelfSeats
  shelf_seats_after main = record {
    main = main;
    reader = joined.reader.shelf;
    writer = joined.writer.shelf;
    deliverer = joined.service.shelf;
  }
