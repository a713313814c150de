-- How the worker ends that writes to a connection.
use Rattle.std.specs.Prelude.{◌≡◌, ℕ, Bool, true, false, Option, Some, None}
use Rattle.chan_io.specs.Faults.{Rises}
use Rattle.chan_io.specs.declared.got.Got.{Got}
use Rattle.relay_core.specs.declared.action.Action.{Action}
use Rattle.relay_switch.specs.declared.outlet.Turned.{Turned}
use Rattle.relay_switch.specs.declared.switch_call.SwitchAnswer.{SwitchAnswer}
use Rattle.relay_switch.specs.Outlets.{IsOver, message_in}
use Rattle.relay_run.specs.declared.send_end.SendEnd.{SendEnd}

-- the end behind a last turn
abbrev pub end_of : Turned → SendEnd
end_of Turned.Failed = SendEnd.Failed
end_of Turned.NoMemory = SendEnd.NoMemory
end_of turned = SendEnd.Over

-- whether a take with this answer may be followed by another: a text, a message, or nothing
abbrev pub is_going : SwitchAnswer → Bool
is_going (SwitchAnswer.Next (Action.Text conn text)) = true
is_going (SwitchAnswer.Next (Action.Send conn bytes)) = true
is_going SwitchAnswer.Nothing = true
is_going answer = false

-- how the worker may end, by the answer of its last turn's take and by how often the output's calls
-- failed before and after: the connection is over; the send of a message failed, or found no
-- memory; or it made no last turn, since the mark was set
abbrev pub EndsSending : SendEnd → Option SwitchAnswer → ℕ → ℕ → Type 0
EndsSending SendEnd.Over last was now =
    (answer : SwitchAnswer) × (last ≡ Some answer) × IsOver answer × (now ≡ was)
EndsSending SendEnd.Failed last was now =
    (answer : SwitchAnswer) × (message : Got) × (last ≡ Some answer)
    × (message_in answer ≡ Some message) × Rises was now
EndsSending SendEnd.NoMemory last was now =
    (answer : SwitchAnswer) × (message : Got) × (last ≡ Some answer)
    × (message_in answer ≡ Some message) × (now ≡ was)
EndsSending SendEnd.Stopped last was now = (last ≡ None) × (now ≡ was)
