-- The workers of a run, before their start and after their join.
use Rattle.std.specs.Prelude.{◌≡◌, ℕ, Bool, false, Option, None, List, []}
use Rattle.chan_io.specs.declared.link.Link.{Link}
use Rattle.session_workers.specs.declared.link_setting.LinkSetting.{LinkSetting}
use Rattle.session_workers.specs.ReaderSteps.{first_state}
use Rattle.session_end.specs.declared.crew.Joined.{Joined}
use Rattle.session_end.specs.declared.delivering.AfterDeliverer.{AfterDeliverer}
use Rattle.session_end.specs.declared.seats.EndSeats.{EndSeats}
use Rattle.session_end.specs.declared.seats.ShelfSeats.{ShelfSeats}
use Rattle.session_end.specs.Services.{Leaves}
use Rattle.chan_io.specs.LinksIn.{Arrivals}
use Rattle.chan_io.specs.LinksOut.{Departures}
use Rattle.chan_io.specs.declared.dial.Dial.{Dial}
use Rattle.turn_lock.specs.Seats.{IsSeatOf}
use Rattle.session_run.specs.Adds.{AddsCalls}
use Rattle.session_feeds.specs.Sessions.{Account}
use Rattle.session_feeds.specs.declared.session.SessionFault.{SessionFault}
use Rattle.session_crews.specs.Seats.{EndLock, ShelfLock}
use Rattle.session_end.specs.declared.crew.Crew.{Crew}
use Rattle.session_end.specs.declared.writing.AfterWriter.{AfterWriter}
use Rattle.session_end.specs.Deeds.{early_closes}
use Rattle.session_end.specs.Ran.{DelivererRan, ReaderRan, ResenderRan, WriterRan}

-- the seats are those of the two locks, no worker has ended, and the session was not begun
pub record IsCrewOf {D N U S : Type 0} (begun : S → Bool) (out : S → List ℕ) (ends : EndLock)
    (shelf : ShelfLock) (crew : Crew D N U S)
    : Type 0 where
  pub main : IsSeatOf ends crew.main
  pub read_end : IsSeatOf ends crew.reader.end
  pub read_shelf : IsSeatOf shelf crew.reader.shelf
  pub read_on : crew.reader.state.over ≡ None
  pub write_end : IsSeatOf ends crew.writer.end
  pub write_shelf : IsSeatOf shelf crew.writer.shelf
  pub write_on : crew.writer.over ≡ false
  pub resend_end : IsSeatOf ends crew.resender.end
  pub resend_on : crew.resender.over ≡ false
  pub deliver_end : IsSeatOf ends crew.service.end
  pub deliver_shelf : IsSeatOf shelf crew.service.shelf
  pub unbegun : begun crew.service.session ≡ false
  pub none_out : out crew.service.session ≡ []

-- the workers before their first turns
abbrev pub crew_of : {D N U S : Type 0} → LinkSetting → List ℕ → Link D N U → S → EndSeats
    → ShelfSeats → Crew D N U S
crew_of setting token link session seats shelf_seats = record {
  reader = record {
    setting = setting;
    dialer = link.dialer;
    input = link.input;
    end = seats.reader;
    shelf = shelf_seats.reader;
    state = first_state token;
  };
  writer = record {
    side = setting.side;
    output = link.output;
    end = seats.writer;
    shelf = shelf_seats.writer;
    told = 0;
    over = false;
  };
  resender = record { end = seats.resender; over = false };
  service = record {
    session = session;
    end = seats.deliverer;
    shelf = shelf_seats.deliverer;
  };
  main = seats.main;
}

module _ {D N U S C W : Type 0} (dials_of : D → Option (List Dial)) (dial_faults : D → ℕ)
    (arrivals_of : N → Option Arrivals) (faults : N → ℕ) (departures : U → Option Departures)
    (send_faults : U → ℕ) (stands : S → Account C → Type 0) (out : S → List ℕ)
    (begun : S → Bool) (refused : S → Option SessionFault) where
  -- what the workers did, and the closes that were made for those that were not started
  pub record StartedRan (old : Crew D N U S) (new : AfterWriter D N U S W) (before after : ℕ)
      : Type 0 where
    pub wrote :
        WriterRan departures send_faults old.writer new.writer new.end before after
    pub resent :
        ResenderRan old.resender new.rest.resender new.rest.gave_up before after
    pub read :
        ReaderRan dials_of dial_faults arrivals_of faults old.reader new.rest.rest.reader before
        after
    pub served :
        DelivererRan stands out begun refused old.service new.rest.rest.rest before after
    pub calls :
        AddsCalls old.main
        (early_closes new.end new.rest.resender.over new.rest.rest.reader.state.over
        new.rest.rest.rest.ended)
        new.rest.rest.rest.main

  -- the same, and then what they left was served
  pub record CrewRan (old : Crew D N U S) (new : Joined D N U S W) (before after : ℕ)
      : Type 0 where
    pub wrote :
        WriterRan departures send_faults old.writer new.writer new.written before after
    pub resent : ResenderRan old.resender new.resender new.gave_up before after
    pub read :
        ReaderRan dials_of dial_faults arrivals_of faults old.reader new.reader before after
    -- what was there of the deliverer before
    pub mid : AfterDeliverer S W
    pub served : DelivererRan stands out begun refused old.service mid before after
    pub leaves : Leaves stands out refused mid.service mid.ended new.service new.refused
    pub refusals : new.refusals ≡ mid.refusals
    pub ended : new.ended ≡ mid.ended
    pub started : new.started ≡ mid.started
    pub calls :
        AddsCalls old.main
        (early_closes new.written new.resender.over new.reader.state.over new.ended) new.main
