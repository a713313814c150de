-- The closes that a run makes beside its workers' turns are of one kind.
use Rattle.std.proofs.Common.{◌≡◌, Bool, true, false, Option, Some, None, ◌∷◌, [], ◌++◌, refl}
use Rattle.std.specs.Prelude.{is_some}
use Rattle.std.specs.List.{list_any}
use Rattle.channel_core.specs.declared.call.EndAnswer.{EndAnswer}
use Rattle.channel_core.specs.declared.call.EndCall.{EndCall}
use Rattle.session_workers.specs.declared.read_state.ReadEnd.{ReadEnd}
use Rattle.session_workers.specs.declared.worker_end.WorkerEnd.{WorkerEnd}
use Rattle.session_workers.specs.ReaderRuns.{reader_closing}
use Rattle.session_delivery.specs.declared.deliver_end.DeliverEnd.{DeliverEnd}
use Rattle.session_end.specs.Deeds.{early_closes}
use Rattle.session_end.specs.Ran.{closing_of}
use Rattle.session_end.specs.Starts.{closing, closing_unless}
use Rattle.session_end.proofs.HistoryLemmas.{none_append, or_none}

module _ (t : EndCall × EndAnswer → Bool) (none : t closing ≡ false) where
  pub one_none : list_any t (closing ∷ []) ≡ false
  one_none = or_none (t closing) false none refl

  pub unless_none : (b : Bool) → list_any t (closing_unless b) ≡ false
  unless_none true = refl
  unless_none false = one_none

  pub early_none : (written : Option WorkerEnd) (resent : Bool) (read : Option ReadEnd)
      (delivered : Option DeliverEnd)
      → list_any t (early_closes written resent read delivered) ≡ false
  early_none written resent read delivered =
      none_append t (closing_unless (is_some written))
      (closing_unless resent
      ++ (closing_unless (is_some read) ++ closing_unless (is_some delivered)))
      (unless_none (is_some written))
      (none_append t (closing_unless resent)
      (closing_unless (is_some read) ++ closing_unless (is_some delivered))
      (unless_none resent)
      (none_append t (closing_unless (is_some read)) (closing_unless (is_some delivered))
      (unless_none (is_some read)) (unless_none (is_some delivered))))

  pub reader_none : (over : Option ReadEnd) → list_any t (reader_closing over) ≡ false
  reader_none None = refl
  reader_none (Some ReadEnd.Closed) = refl
  reader_none (Some ReadEnd.NoMemory) = one_none
  reader_none (Some (ReadEnd.Refused reply)) = one_none
  reader_none (Some ReadEnd.LinkLost) = one_none

  pub writer_none : (end : Option WorkerEnd) → list_any t (closing_of end) ≡ false
  writer_none None = refl
  writer_none (Some WorkerEnd.Closed) = refl
  writer_none (Some WorkerEnd.NoMemory) = one_none
