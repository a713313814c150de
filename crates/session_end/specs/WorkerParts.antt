-- What each worker of a run did, as lists of its steps or turns.
use Rattle.std.specs.Prelude.{◌≡◌, ℕ, Bool, true, false, Option, None, List, [], is_some}
use Rattle.std.specs.List.{All, flat_map, fold, sum_by}
use Rattle.chan_io.specs.Faults.{Rises}
use Rattle.chan_io.specs.LinksIn.{Arrivals}
use Rattle.chan_io.specs.LinksOut.{Departures}
use Rattle.chan_io.specs.declared.dial.Dial.{Dial}
use Rattle.chan_values.specs.declared.side.Side.{Side}
use Rattle.channel_core.specs.Numbers.{or_else}
use Rattle.turn_lock.specs.Runs.{AllFit}
use Rattle.session_feeds.specs.Sessions.{Account}
use Rattle.session_feeds.specs.declared.session.SessionFault.{SessionFault}
use Rattle.session_crews.specs.Crews.{has_stopped}
use Rattle.session_crews.specs.FeedTurns.{WasStarted}
use Rattle.session_delivery.specs.Deliveries.{DelivererPart, IsDelivererPart, account_after}
use Rattle.session_delivery.specs.Delivering.{delivered_by}
use Rattle.session_workers.specs.declared.link_setting.LinkSetting.{LinkSetting}
use Rattle.session_workers.specs.declared.worker_end.WorkerEnd.{WorkerEnd}
use Rattle.session_workers.specs.ReaderLaws.{AreSteps, state_after}
use Rattle.session_workers.specs.Readers.{DialsAll, ReceivesAll}
use Rattle.session_workers.specs.Reading.{ReaderStep, arrivals_in, dials_in, failed_in, missed_in}
use Rattle.session_workers.specs.ResendRuns.{MayResend, Resent, none_resent, resent_after}
use Rattle.session_workers.specs.Resends.{ResendTurn}
use Rattle.session_workers.specs.WriterRuns.{MayTurn, at_first, progress}
use Rattle.session_workers.specs.Writing.{CountsFailures, Departs, WriterTurn, failures, messages_in, send_in}
use Rattle.session_end.specs.Leftovers.{IsLeft, LeftStep, account_left, left_by}
use Rattle.session_end.specs.Ran.{IsEndedBy}
use Rattle.session_end.specs.Refusals.{refusals_by}
use Rattle.session_end.specs.Starts.{UnlessStarted}

module _ {D N : Type 0} (dials_of : D → Option (List Dial)) (dial_faults : D → ℕ)
    (arrivals_of : N → Option Arrivals) (faults : N → ℕ) where
  -- all that the link reader did, from the token of the first opening on. Where it was not started
  -- it has not ended, it did nothing, and the spawner's count rose
  pub record ReaderPart (setting : LinkSetting) (token : List ℕ) (steps : List ReaderStep)
      (dialer new_dialer : D) (input new_input : N) (before after : ℕ)
      : Type 0 where
    pub may : AreSteps setting token steps
    pub dials : DialsAll (flat_map dials_in steps) (dials_of dialer) (dials_of new_dialer)
    pub arrivals :
        ReceivesAll (flat_map arrivals_in steps) (arrivals_of input) (arrivals_of new_input)
    pub missed :
        CountsFailures (sum_by missed_in steps) (dial_faults dialer) (dial_faults new_dialer)
    pub failed : CountsFailures (sum_by failed_in steps) (faults input) (faults new_input)
    pub started : UnlessStarted (is_some (state_after token steps).over) steps before after

module _ {U : Type 0} (departures : U → Option Departures) (faults : U → ℕ) where
  -- all that the link writer did, and how it ended. The link is shut once, also where the writer
  -- was not started
  pub record WriterPart (side : Side) (turns : List WriterTurn) (end : Option WorkerEnd)
      (output new_output : U) (before after : ℕ)
      : Type 0 where
    pub may : AllFit (progress side) (MayTurn side) (at_first 0) turns
    pub ended : IsEndedBy end (fold (progress side) (at_first 0) turns)
    pub sends :
        Departs (flat_map (messages_in side) turns) true (departures output)
        (departures new_output)
    pub counted :
        CountsFailures (sum_by (λ turn. failures (send_in turn)) turns) (faults output)
        (faults new_output)
    pub started : UnlessStarted (is_some end) turns before after

-- what the turns of the resend worker come to
abbrev pub resent_by : List ResendTurn → Resent
resent_by turns = fold resent_after none_resent turns

-- all that the resend worker did
pub record ResenderPart (turns : List ResendTurn) (before after : ℕ) : Type 0 where
  pub may : AllFit resent_after MayResend none_resent turns
  pub started : UnlessStarted (resent_by turns).over turns before after

module _ {S C : Type 0} (stands : S → Account C → Type 0) (out : S → List ℕ)
    (refused : S → Option SessionFault) where
  -- all that the deliverer did with the session, and what was done behind the join
  pub record SessionPart (p : DelivererPart) (was_started : Bool) (rest : List LeftStep)
      (session new_session : S) (before after : ℕ)
      : Type 0 where
    pub fits : IsDelivererPart p
    pub started : UnlessStarted was_started p.steps before after
    pub idle : was_started ≡ false → p.ended ≡ None
    -- each worker of a feeder was started, unless memory or a thread was wanted
    pub ran : has_stopped (refusals_by p) ≡ false → All WasStarted p.feeders
    pub cause : (refusals_by p).no_thread ≡ true → Rises before after
    pub left : IsLeft p.ended rest
    -- the session took the parcels, gave the items, has its feeders back, and no other is out
    pub account :
        (a : Account C)
        → stands session a
        → stands new_session (account_left rest (account_after p a))
    pub none_out : out new_session ≡ []
    pub refusal :
        (delivered_by p.steps).begun ≡ true
        → refused new_session ≡ or_else (left_by rest).refused (delivered_by p.steps).refused
