-- Which answers a call of the switch can get at all, whatever was called before it.
use Rattle.std.specs.Prelude.{Bool, true, false}
use Rattle.relay_switch.specs.declared.switch_call.SwitchCall.{SwitchCall}
use Rattle.relay_switch.specs.declared.switch_call.SwitchAnswer.{SwitchAnswer}

-- the answer to a step that was made, or for which there was no memory
abbrev pub done_or_not : Bool → SwitchAnswer
done_or_not true = SwitchAnswer.Done
done_or_not false = SwitchAnswer.NoMemory

-- the answer is one to a take
abbrev pub IsTakeAnswer : SwitchAnswer → Type 0
IsTakeAnswer SwitchAnswer.Done = ⊥
IsTakeAnswer SwitchAnswer.NoMemory = ⊥
IsTakeAnswer answer = Unit {0}

-- the answer is one to a step
abbrev pub IsStepAnswer : SwitchAnswer → Type 0
IsStepAnswer SwitchAnswer.Done = Unit {0}
IsStepAnswer SwitchAnswer.NoMemory = Unit {0}
IsStepAnswer answer = ⊥

-- the answer is of the call's kind
abbrev pub IsSwitchAnswer : SwitchCall → SwitchAnswer → Type 0
IsSwitchAnswer (SwitchCall.Step event id now) answer = IsStepAnswer answer
IsSwitchAnswer (SwitchCall.Take conn) answer = IsTakeAnswer answer
