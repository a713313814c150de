-- The causes of a capture's fault by number.
use Rattle.std.specs.Prelude.{ℕ}
use Rattle.agent_message.specs.declared.capture_fault.CaptureCause.{CaptureCause}
use Rattle.agent_message.specs.declared.capture_fault.CaptureCause.TheVariants.{Size, Message, Cut}

-- the number by which a cause is told
abbrev pub cause_number : CaptureCause → ℕ
cause_number (Size said) = 1
cause_number (Message refusal) = 2
cause_number (Cut have) = 3
