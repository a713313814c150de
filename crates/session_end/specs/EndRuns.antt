-- A run of one end with its session over its link, once all workers were joined.
use Rattle.std.specs.Prelude.{◌≡◌, ◌<◌, ℕ, Bool, Option, Some, None, Ok, List, [], ◌∷◌, ◌++◌}
use Rattle.chan_io.specs.Draws.{Draws}
use Rattle.chan_io.specs.Faults.{Rises}
use Rattle.chan_io.specs.LinksIn.{Arrivals}
use Rattle.chan_io.specs.LinksOut.{Departures}
use Rattle.chan_io.specs.declared.dial.Dial.{Dial}
use Rattle.chan_io.specs.declared.link.Link.{Link}
use Rattle.channel_core.specs.declared.call.EndAnswer.{EndAnswer}
use Rattle.channel_core.specs.declared.call.EndCall.{EndCall}
use Rattle.turn_lock.specs.Histories.{calls_of, entry}
use Rattle.turn_lock.specs.Receipts.{history_of}
use Rattle.turn_lock.specs.declared.seat.Receipt.{Receipt}
use Rattle.turn_lock.specs.declared.view.Entry.{Entry}
use Rattle.session_run.specs.Held.{IsLegalFor}
use Rattle.session_run.specs.Shelf.{IsLegalShelf}
use Rattle.session_run.specs.declared.held.Held.{Held}
use Rattle.session_run.specs.declared.shelf.Shelf.{Shelf}
use Rattle.session_run.specs.declared.shelf_call.ShelfAnswer.{ShelfAnswer}
use Rattle.session_run.specs.declared.shelf_call.ShelfCall.{ShelfCall}
use Rattle.session_feeds.specs.Sessions.{Account}
use Rattle.session_feeds.specs.declared.session.SessionFault.{SessionFault}
use Rattle.session_end.specs.declared.outcome.Outcome.{Outcome}
use Rattle.session_end.specs.declared.setup.Setup.{Setup}
use Rattle.session_end.specs.Causes.{GaveUp, HasCause}
use Rattle.session_end.specs.Deeds.{Deeds, end_parts, outcome_by, shelf_parts}
use Rattle.session_end.specs.Parts.{IsMadeOf}
use Rattle.session_end.specs.Setups.{first_token, setting_of}
use Rattle.session_end.specs.WorkerParts.{ReaderPart, ResenderPart, SessionPart, WriterPart, resent_by}

module _ {D N U S C : Type 0} (dials_of : D → Option (List Dial)) (dial_faults : D → ℕ)
    (arrivals_of : N → Option Arrivals) (faults : N → ℕ) (departures : U → Option Departures)
    (send_faults : U → ℕ) (stands : S → Account C → Type 0) (out : S → List ℕ)
    (refused : S → Option SessionFault) (agreed : S → Bool) where
  -- the histories of the end and of the shelf are made of what the workers did, in this run with
  -- its base and its outcome
  pub record IsEndRun (setup : Setup) (base : List ℕ) (link new_link : Link D N U)
      (session new_session : S) (spawned new_spawned : ℕ) (h : List (Entry EndCall EndAnswer))
      (k : List (Entry ShelfCall ShelfAnswer)) (came_to : Outcome)
      : Type 0 where
    pub deeds : Deeds
    -- the histories are legal, and the last call of the end is its close
    pub legal : IsLegalFor setup.window (calls_of h)
    pub shelf_legal : IsLegalShelf (calls_of k)
    pub last : (earlier : List (Entry EndCall EndAnswer))
        × (h ≡ earlier ++ entry deeds.main EndCall.Close EndAnswer.Done ∷ [])
    -- each entry is one worker's; the numbers of the seats differ
    pub made : IsMadeOf h (end_parts (first_token setup) deeds)
    pub shelf_made : IsMadeOf k (shelf_parts deeds)
    pub above_main : deeds.main < deeds.reader
    pub above_reader : deeds.reader < deeds.writer
    pub above_writer : deeds.writer < deeds.resender
    pub above_resender : deeds.resender < deeds.delivery.number
    pub shelf_above : deeds.shelf_reader < deeds.shelf_writer
    pub shelf_above_writer : deeds.shelf_writer < deeds.delivery.shelf_number
    -- what each of them did
    pub read :
        ReaderPart dials_of dial_faults arrivals_of faults (setting_of setup base)
        (first_token setup) deeds.steps link.dialer new_link.dialer link.input new_link.input
        spawned new_spawned
    pub wrote :
        WriterPart departures send_faults setup.side deeds.turns deeds.written link.output
        new_link.output spawned new_spawned
    pub resent : ResenderPart deeds.ticks spawned new_spawned
    pub served :
        SessionPart stands out refused deeds.delivery deeds.started deeds.left session
        new_session spawned new_spawned
    -- a number was given up exactly where the end gave it up
    pub given : GaveUp (resent_by deeds.ticks).gave_up h
    pub outcome : came_to ≡ outcome_by (first_token setup) deeds (agreed new_session)
    pub cause :
        HasCause (first_token setup) deeds h k spawned new_spawned (refused new_session)
        (agreed new_session) came_to

-- why nothing was started: no base could be drawn, or there was no memory
abbrev pub IsWhyNot : Outcome → ℕ → ℕ → Type 0
IsWhyNot Outcome.NoMemory before after = Unit {0}
IsWhyNot Outcome.EntropyFault before after = Rises before after
IsWhyNot outcome before after = ⊥

module _ {D N U S C E : Type 0} (dials_of : D → Option (List Dial)) (dial_faults : D → ℕ)
    (arrivals_of : N → Option Arrivals) (faults : N → ℕ) (departures : U → Option Departures)
    (send_faults : U → ℕ) (stands : S → Account C → Type 0) (out : S → List ℕ)
    (refused : S → Option SessionFault) (agreed : S → Bool)
    (draws_of : E → Option (List (List ℕ))) (draw_faults : E → ℕ) where
  -- a run with the base that was drawn; or nothing was started, and all is as it was
  abbrev pub IsRunOrNot : Setup → Link D N U → Link D N U → S → S → E → E → ℕ → ℕ
      → Option (Receipt Held EndCall EndAnswer ℕ)
      → Option (Receipt Shelf ShelfCall ShelfAnswer Unit) → Outcome → Type 0
  IsRunOrNot setup link new_link session new_session entropy new_entropy spawned new_spawned None
      None outcome =
      (new_link ≡ link)
      × (new_session ≡ session)
      × (new_spawned ≡ spawned)
      × IsWhyNot outcome (draw_faults entropy) (draw_faults new_entropy)
  IsRunOrNot setup link new_link session new_session entropy new_entropy spawned new_spawned
      (Some ends) (Some shelf) outcome =
      (base : List ℕ)
      × Draws (Ok base) (draws_of entropy) (draws_of new_entropy)
      × IsEndRun dials_of dial_faults arrivals_of faults departures send_faults stands out
      refused agreed setup base link new_link session new_session spawned new_spawned
      (history_of ends) (history_of shelf) outcome
  IsRunOrNot setup link new_link session new_session entropy new_entropy spawned new_spawned
      ends shelf outcome = ⊥
