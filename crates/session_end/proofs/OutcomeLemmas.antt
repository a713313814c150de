-- What the ends of the workers are, where an outcome tells that none was refused.
use Rattle.std.proofs.Common.{◌≡◌, ◌⊎◌, inl, inr, Bool, true, false, Option, Some, None, List, [], refl, ap, ◌∙◌}
use Rattle.std.specs.Prelude.{◌&&◌, not, is_some}
use Rattle.channel_core.specs.Numbers.{or_else}
use Rattle.session_workers.specs.declared.read_state.ReadEnd.{ReadEnd}
use Rattle.session_workers.specs.declared.worker_end.WorkerEnd.{WorkerEnd}
use Rattle.session_feeds.specs.declared.session.SessionFault.{SessionFault}
use Rattle.session_delivery.specs.Delivering.{delivered_by, end_of_fault}
use Rattle.session_delivery.specs.Deliveries.{DelivererPart, IsDelivererPart, refusals_of}
use Rattle.session_delivery.specs.declared.deliver_end.DeliverEnd.{DeliverEnd}
use Rattle.session_end.specs.Leftovers.{IsServed, LeftStep, end_with, left_by}
use Rattle.session_end.specs.Outcomes.{is_deliverer_starved, is_reader_starved, is_writer_starved}
use Rattle.session_end.proofs.DeliveredLemmas.{end_tells, fault_told}

-- ---- truth values

pub not_false_true : (b : Bool) → not b ≡ false → b ≡ true
not_false_true true is = refl
not_false_true false is = absurd (cc)

pub not_true_false : (b : Bool) → not b ≡ true → b ≡ false
not_true_false true is = absurd (cc)
not_true_false false is = refl

pub and_true : (b c : Bool) → (b && c) ≡ true → (b ≡ true) × (c ≡ true)
and_true true c is = (refl, is)
and_true false c is = absurd (cc)

pub and_false : (b c : Bool) → (b && c) ≡ false → (b ≡ false) ⊎ (c ≡ false)
and_false true c is = inr is
and_false false c is = inl refl

-- ---- the link workers

pub writer_closed : (end : Option WorkerEnd) → is_writer_starved end ≡ false
    → is_some end ≡ true
    → end ≡ Some WorkerEnd.Closed
writer_closed None fed some = absurd (cc)
writer_closed (Some WorkerEnd.Closed) fed some = refl
writer_closed (Some WorkerEnd.NoMemory) fed some = absurd (cc)

-- the link reader told no refusal that the outcome has
abbrev pub ReadsOn : Option ReadEnd → Type 0
ReadsOn (Some (ReadEnd.Refused reply)) = ⊥
ReadsOn (Some ReadEnd.LinkLost) = ⊥
ReadsOn end = Unit {0}

pub reader_closed : (end : Option ReadEnd) → ReadsOn end → is_reader_starved end ≡ false
    → is_some end ≡ true
    → end ≡ Some ReadEnd.Closed
reader_closed None on fed some = absurd (cc)
reader_closed (Some ReadEnd.Closed) on fed some = refl
reader_closed (Some ReadEnd.NoMemory) on fed some = absurd (cc)
reader_closed (Some (ReadEnd.Refused reply)) on fed some = absurd on
reader_closed (Some ReadEnd.LinkLost) on fed some = absurd on

-- ---- the deliverer

-- the session met no fault
abbrev pub ServesOn : Option DeliverEnd → Type 0
ServesOn (Some (DeliverEnd.Fault fault)) = ⊥
ServesOn end = Unit {0}

some_closed : (started : Bool) (end : Option DeliverEnd) → started ≡ true → ServesOn end
    → is_deliverer_starved started end ≡ false
    → (refusals_of end).no_thread ≡ false
    → end ≡ Some DeliverEnd.Closed
some_closed started None was on fed threads = absurd (cc)
some_closed started (Some DeliverEnd.Closed) was on fed threads = refl
some_closed started (Some (DeliverEnd.Fault fault)) was on fed threads = absurd on
some_closed started (Some DeliverEnd.NoMemory) was on fed threads = absurd (cc)
some_closed started (Some DeliverEnd.NoThread) was on fed threads = absurd (cc)

fault_never : (fault : SessionFault) (started : Bool) → ServesOn (Some (end_of_fault fault))
    → is_deliverer_starved started (Some (end_of_fault fault)) ≡ false
    → ⊥
fault_never SessionFault.NoMemory started on fed = cc
fault_never (SessionFault.Handshake why) started on fed = on
fault_never SessionFault.Start started on fed = on
fault_never SessionFault.Child started on fed = on
fault_never SessionFault.Port started on fed = on
fault_never SessionFault.Write started on fed = on
fault_never (SessionFault.Frames place) started on fed = on

-- a deliverer that was started, and wanted neither memory nor a thread, found the end closed
pub deliverer_closed : (started : Bool) (refused : Option SessionFault)
    (ended : Option DeliverEnd)
    → started ≡ true
    → ServesOn (end_with refused ended)
    → is_deliverer_starved started (end_with refused ended) ≡ false
    → (refusals_of ended).no_thread ≡ false
    → ended ≡ Some DeliverEnd.Closed
deliverer_closed started (Some fault) ended was on fed threads =
    absurd (fault_never fault started on fed)
deliverer_closed started None ended was on fed threads =
    some_closed started ended was on fed threads

-- no deliverer ends as a feeder that failed
pub none_failed : (ended : Option DeliverEnd) → (refusals_of ended).failed ≡ false
none_failed None = refl
none_failed (Some DeliverEnd.Closed) = refl
none_failed (Some (DeliverEnd.Fault fault)) = refl
none_failed (Some DeliverEnd.NoMemory) = refl
none_failed (Some DeliverEnd.NoThread) = refl

-- ---- a fault of the session

none_by : (steps : List LeftStep) (fault : SessionFault) → steps ≡ []
    → (left_by steps).refused ≡ Some fault
    → ⊥
none_by steps fault none is =
    let empty : (left_by steps).refused ≡ None = ap (λ l. (left_by l).refused) none in cc

left_closed : (ended : Option DeliverEnd) (steps : List LeftStep) (fault : SessionFault)
    → IsServed ended steps
    → (left_by steps).refused ≡ Some fault
    → ended ≡ Some DeliverEnd.Closed
left_closed None steps fault served is = absurd (none_by steps fault served is)
left_closed (Some DeliverEnd.Closed) steps fault served is = refl
left_closed (Some (DeliverEnd.Fault other)) steps fault served is =
    absurd (none_by steps fault served is)
left_closed (Some DeliverEnd.NoMemory) steps fault served is =
    absurd (none_by steps fault served is)
left_closed (Some DeliverEnd.NoThread) steps fault served is =
    absurd (none_by steps fault served is)

module _ (part : DelivererPart) (steps : List LeftStep) (refusal : Option SessionFault)
    (fits : IsDelivererPart part) (served : IsServed part.ended steps)
    (refusal_is : (delivered_by part.steps).begun ≡ true
    → refusal ≡ or_else (left_by steps).refused (delivered_by part.steps).refused)
    (fault : SessionFault) where
  fault_by : (refused : Option SessionFault) → (left_by steps).refused ≡ refused
      → end_with refused part.ended ≡ Some (DeliverEnd.Fault fault)
      → refusal ≡ Some fault
  fault_by (Some other) is ended =
      let closed = left_closed part.ended steps other served is in
      let told = end_tells part fits DeliverEnd.Closed tt closed in
      let same : end_of_fault other ≡ DeliverEnd.Fault fault = cc in
      refusal_is told.0
      ∙ ap (λ o. or_else o (delivered_by part.steps).refused) is
      ∙ fault_told other (DeliverEnd.Fault fault) tt same
  fault_by None is ended =
      let told = end_tells part fits (DeliverEnd.Fault fault) tt ended in
      refusal_is told.0
      ∙ ap (λ o. or_else o (delivered_by part.steps).refused) is
      ∙ told.1

  -- a deliverer that ended with a fault had it of the session
  pub fault_is_refused :
      end_with (left_by steps).refused part.ended ≡ Some (DeliverEnd.Fault fault)
      → refusal ≡ Some fault
  fault_is_refused ended = fault_by (left_by steps).refused refl ended
