-- What a deliverer's end tells of its session: that it was begun, and which refusal it answered.
use Rattle.std.proofs.Common.{◌≡◌, Bool, true, false, Option, Some, None, List, [], ◌∷◌, refl, ap, ◌∙◌, sym}
use Rattle.std.specs.Prelude.{if◌then◌else◌}
use Rattle.std.specs.List.{fold}
use Rattle.turn_lock.specs.Runs.{AllFit}
use Rattle.session_feeds.specs.declared.session.SessionFault.{SessionFault}
use Rattle.session_delivery.specs.Delivering.{DeliverState, DeliverStep, Led, MayDeliver, asks, asks_in_vain, at_first_delivery, begins, deliver_after, delivered_by, end_of_fault, end_of_led, finds_none, refusal_of_led, refuses, takes, treats}
use Rattle.session_delivery.specs.Deliveries.{DelivererPart, IsDelivererPart}
use Rattle.session_delivery.specs.Starts.{Starts, all, end_of_starts, fails, lacks}
use Rattle.session_delivery.specs.declared.deliver_end.DeliverEnd.{DeliverEnd}

-- a refusal with which a deliverer ends so
abbrev pub fault_of : DeliverEnd → Option SessionFault
fault_of (DeliverEnd.Fault fault) = Some fault
fault_of end = None

-- the deliverer found the end closed, or the session met a fault
abbrev pub IsAnswer : DeliverEnd → Type 0
IsAnswer DeliverEnd.Closed = Unit {0}
IsAnswer (DeliverEnd.Fault fault) = Unit {0}
IsAnswer end = ⊥

-- such an end tells that the session was begun, and its refusal
abbrev Tells : DeliverState → Type 0
Tells s = (end : DeliverEnd)
    → IsAnswer end
    → s.ended ≡ Some end
    → (s.begun ≡ true) × (s.refused ≡ fault_of end)

-- no start of a worker ends so
starts_never : (made : Starts) (end : DeliverEnd) → IsAnswer end → end_of_starts made ≡ Some end
    → ⊥
starts_never (all marks) end answer is = cc
starts_never (lacks marks left) DeliverEnd.Closed answer is = cc
starts_never (lacks marks left) (DeliverEnd.Fault fault) answer is = cc
starts_never (lacks marks left) DeliverEnd.NoMemory answer is = answer
starts_never (lacks marks left) DeliverEnd.NoThread answer is = answer
starts_never (fails marks mark true left) DeliverEnd.Closed answer is = cc
starts_never (fails marks mark true left) (DeliverEnd.Fault fault) answer is = cc
starts_never (fails marks mark true left) DeliverEnd.NoMemory answer is = answer
starts_never (fails marks mark true left) DeliverEnd.NoThread answer is = answer
starts_never (fails marks mark false left) DeliverEnd.Closed answer is = cc
starts_never (fails marks mark false left) (DeliverEnd.Fault fault) answer is = cc
starts_never (fails marks mark false left) DeliverEnd.NoMemory answer is = answer
starts_never (fails marks mark false left) DeliverEnd.NoThread answer is = answer

-- a fault that is not want of memory is told as itself
pub fault_told : (fault : SessionFault) (end : DeliverEnd) → IsAnswer end
    → end_of_fault fault ≡ end
    → Path (Option SessionFault) (Some fault) (fault_of end)
fault_told SessionFault.NoMemory DeliverEnd.Closed answer is = absurd (cc)
fault_told SessionFault.NoMemory (DeliverEnd.Fault other) answer is = absurd (cc)
fault_told SessionFault.NoMemory DeliverEnd.NoMemory answer is = absurd answer
fault_told SessionFault.NoMemory DeliverEnd.NoThread answer is = absurd answer
fault_told (SessionFault.Handshake why) end answer is = ap fault_of is
fault_told SessionFault.Start end answer is = ap fault_of is
fault_told SessionFault.Child end answer is = ap fault_of is
fault_told SessionFault.Port end answer is = ap fault_of is
fault_told SessionFault.Write end answer is = ap fault_of is
fault_told (SessionFault.Frames place) end answer is = ap fault_of is

some_fault : (fault : SessionFault) (end : DeliverEnd) → IsAnswer end
    → Path (Option DeliverEnd) (Some (end_of_fault fault)) (Some end)
    → Path (Option SessionFault) (Some fault) (fault_of end)
some_fault fault end answer is =
    let same : end_of_fault fault ≡ end = cc in
    fault_told fault end answer same

led_tells : (led : Led) (end : DeliverEnd) → IsAnswer end → end_of_led led ≡ Some end
    → refusal_of_led led ≡ fault_of end
led_tells (treats t) end answer is = absurd (starts_never t.starts end answer is)
led_tells (refuses fault) end answer is = some_fault fault end answer is

closed_tells : (closed : Bool) (end : DeliverEnd) → IsAnswer end
    → Path (Option DeliverEnd) (if closed then Some DeliverEnd.Closed else None) (Some end)
    → Path (Option SessionFault) None (fault_of end)
closed_tells true end answer is = let same : DeliverEnd.Closed ≡ end = cc in ap fault_of same
closed_tells false end answer is = absurd (cc)

step_tells : (s : DeliverState) (step : DeliverStep) → MayDeliver s step
    → Tells (deliver_after s step)
step_tells s (begins led) may end answer is = (refl, led_tells led end answer is)
step_tells s (asks_in_vain fault) may end answer is =
    (may.1.0, some_fault fault end answer is)
step_tells s (asks ready look made) may end answer is =
    absurd (starts_never made end answer is)
step_tells s (takes parcel led) may end answer is =
    (may.1.0, led_tells led end answer is)
step_tells s finds_none may end answer is = (may.1.0, closed_tells s.closed end answer is)

steps_tell : (s : DeliverState) (steps : List DeliverStep) → Tells s
    → AllFit deliver_after MayDeliver s steps
    → Tells (fold deliver_after s steps)
steps_tell s [] so fit = so
steps_tell s (step ∷ steps) so fit =
    steps_tell (deliver_after s step) steps (step_tells s step fit.0) fit.1

-- so it is of all that a deliverer did
pub end_tells : (part : DelivererPart) → IsDelivererPart part → (end : DeliverEnd)
    → IsAnswer end
    → part.ended ≡ Some end
    → ((delivered_by part.steps).begun ≡ true)
    × ((delivered_by part.steps).refused ≡ fault_of end)
end_tells part fits end answer is =
    steps_tell at_first_delivery part.steps (λ other so never. absurd (cc)) fits.may end answer
    (sym fits.ends ∙ is)
