-- Why the answer to an item is no item. No public clause cites this file.
use Rattle.std.specs.Prelude.{◌≢◌}
use Rattle.json_members.specs.declared.body_fault.BodyFault.{BodyFault}
use Rattle.handshake.specs.declared.step.Why.{Why}
use Rattle.handshake.specs.declared.stop.Stop.{Stop}

-- a fault of a body as a refusal; want of memory stays what it is
abbrev pub stop_of : BodyFault → Stop
stop_of BodyFault.NoMemory = Stop.NoMemory
stop_of fault = Stop.Refused (Why.Body fault)

-- the item is refused for this, which is not want of memory
abbrev pub IfRefused : (Why → Type 0) → Stop → Type 0
IfRefused P (Stop.Refused why) = P why × (why ≢ Why.Body BodyFault.NoMemory)
IfRefused P Stop.NoMemory = Unit {0}
