-- What a worker did with its seats is what its part of a run says.
use Rattle.std.proofs.Common.{◌≡◌, ℕ, Bool, true, Option, List, ap, ◌∙◌, subst}
use Rattle.std.specs.Prelude.{is_some}
use Rattle.std.specs.List.{flat_map, fold}
use Rattle.chan_io.specs.LinksIn.{Arrivals}
use Rattle.chan_io.specs.LinksOut.{Departures}
use Rattle.chan_io.specs.declared.dial.Dial.{Dial}
use Rattle.chan_values.specs.declared.side.Side.{Side}
use Rattle.turn_lock.specs.Runs.{AllFit}
use Rattle.session_workers.specs.declared.link_reader.LinkReader.{LinkReader}
use Rattle.session_workers.specs.declared.link_setting.LinkSetting.{LinkSetting}
use Rattle.session_workers.specs.declared.link_writer.LinkWriter.{LinkWriter}
use Rattle.session_workers.specs.declared.read_state.ReadEnd.{ReadEnd}
use Rattle.session_workers.specs.declared.resender.Resender.{Resender}
use Rattle.session_workers.specs.declared.worker_end.WorkerEnd.{WorkerEnd}
use Rattle.session_workers.specs.ReaderLaws.{state_after}
use Rattle.session_workers.specs.ReaderSteps.{MayRead, first_state, reader_after}
use Rattle.session_workers.specs.WriterRuns.{MayTurn, at_first, progress}
use Rattle.session_workers.specs.Writing.{Departs, messages_in}
use Rattle.session_end.specs.WorkerParts.{ReaderPart, ResenderPart, WriterPart, resent_by}
use Rattle.session_end.specs.Ran.{IsEndedBy, ReaderRan, ResenderRan, WriterRan}
use Rattle.session_end.specs.Starts.{UnlessStarted}

module _ {D N : Type 0} (dials_of : D → Option (List Dial)) (dial_faults : D → ℕ)
    (arrivals_of : N → Option Arrivals) (faults : N → ℕ)
    (setting : LinkSetting) (token : List ℕ) (old new : LinkReader D N) (before after : ℕ)
    (ran : ReaderRan dials_of dial_faults arrivals_of faults old new before after)
    (setting_is : old.setting ≡ setting) (state_is : old.state ≡ first_state token) where
  -- how the reader ended is what its steps come to
  pub read_end-is : new.state.over ≡ (state_after token ran.steps).over
  read_end-is =
      ap (λ s. s.over) ran.reads.state
      ∙ ap (λ s. (fold reader_after s ran.steps).over) state_is

  pub ReaderPart-of :
      ReaderPart dials_of dial_faults arrivals_of faults setting token ran.steps old.dialer
      new.dialer old.input new.input before after
  ReaderPart-of = record {
    may =
        subst (λ s. AllFit reader_after (MayRead s) (first_state token) ran.steps) setting_is
        (subst (λ s. AllFit reader_after (MayRead old.setting) s ran.steps) state_is
        ran.reads.may);
    dials = ran.reads.dials;
    arrivals = ran.reads.arrivals;
    missed = ran.reads.missed;
    failed = ran.reads.failed;
    started =
        subst (λ (o : Option ReadEnd). UnlessStarted (is_some o) ran.steps before after)
        read_end-is ran.started;
  }

module _ {U : Type 0} (departures : U → Option Departures) (faults : U → ℕ)
    (side : Side) (old new : LinkWriter U) (end : Option WorkerEnd) (before after : ℕ)
    (ran : WriterRan departures faults old new end before after)
    (side_is : old.side ≡ side) (told_is : old.told ≡ 0) where
  pub WriterPart-of :
      WriterPart departures faults side ran.turns end old.output new.output before after
  WriterPart-of = record {
    may =
        subst (λ s. AllFit (progress s) (MayTurn s) (at_first 0) ran.turns) side_is
        (subst
        (λ n. AllFit (progress old.side) (MayTurn old.side) (at_first n) ran.turns)
        told_is ran.may);
    ended =
        subst (λ s. IsEndedBy end (fold (progress s) (at_first 0) ran.turns)) side_is
        (subst (λ n. IsEndedBy end (fold (progress old.side) (at_first n) ran.turns))
        told_is ran.ended);
    sends =
        subst
        (λ s. Departs (flat_map (messages_in s) ran.turns) true (departures old.output)
        (departures new.output))
        side_is ran.sends;
    counted = ran.counted;
    started = ran.started;
  }

module _ (old new : Resender) (gave_up : Option ℕ) (before after : ℕ)
    (ran : ResenderRan old new gave_up before after) where
  -- whether the worker ended is what its turns come to
  pub resent_over-is : new.over ≡ (resent_by ran.turns).over
  resent_over-is = ap (λ p. p.over) ran.progress

  pub gave_up-is : gave_up ≡ (resent_by ran.turns).gave_up
  gave_up-is = ap (λ p. p.gave_up) ran.progress

  pub ResenderPart-of : ResenderPart ran.turns before after
  ResenderPart-of = record {
    may = ran.may;
    started =
        subst (λ (b : Bool). UnlessStarted b ran.turns before after) resent_over-is ran.started;
  }
