use Rattle.std.proofs.Common.{inl, inr, subst, sym}
use Rattle.session_audit.specs.Readings.{IsRead}
use Rattle.session_audit.proofs.judge.audit.Goals as goal

pub returns-in-Ok : goal.returns-in-Ok
returns-in-Ok c =
    c.replayed.ensures c.args.bytes.now
    (subst (IsRead c.args.bytes.now) (sym c.as_slice.ensures.value) c.in-Ok.ensures.read)

pub returns-in-Fault : goal.returns-in-Fault
returns-in-Fault c = inr (inl (rw c.in-Fault.is at c.in-Err.ensures.fault))
