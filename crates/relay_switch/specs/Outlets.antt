-- What is sent on a connection's output, and what one turn of its writing worker does.
use Rattle.std.specs.Prelude.{◌≡◌, ℕ, ◌≤◌, Bool, true, false, Option, Some, None, Result, Ok, IfSome, List, [], ◌++◌, codes, length}
use Rattle.std.specs.List.{All, filter_map}
use Rattle.chan_io.specs.Faults.{Rises}
use Rattle.chan_io.specs.LinksOut.{Departures, Sends, Shuts}
use Rattle.chan_io.specs.declared.failed.IoFault.{IoFault}
use Rattle.chan_io.specs.declared.got.Got.{Got}
use Rattle.relay_core.specs.declared.action.Action.{Action}
use Rattle.turn_lock.specs.declared.view.Entry.{Entry}
use Rattle.relay_switch.specs.declared.outlet.Turned.{Turned}
use Rattle.relay_switch.specs.declared.switch_call.SwitchCall.{SwitchCall}
use Rattle.relay_switch.specs.declared.switch_call.SwitchAnswer.{SwitchAnswer}

-- an entry of a switch's history
abbrev pub SwitchEntry : Type 0
SwitchEntry = Entry SwitchCall SwitchAnswer

-- the message of an action that a take was answered
abbrev pub message_in : SwitchAnswer → Option Got
message_in (SwitchAnswer.Next (Action.Text conn text)) = Some (Got.Text text)
message_in (SwitchAnswer.Next (Action.Send conn bytes)) = Some (Got.Binary bytes)
message_in answer = None

-- the messages of the actions that these takes were answered, in order
unfoldable pub messages_taken : List SwitchEntry → List Got
messages_taken mine = filter_map (λ e. message_in e.answer) mine

-- Its seat makes takes of this connection alone. What was sent are, in order and each once, the texts
-- and messages that they were answered; once it is over the last one may be missing.
pub record IsOutlet (conn : ℕ) (over : Bool) (told : Option Departures) (mine : List SwitchEntry)
    : Type 0 where
  pub takes : All (λ e. e.call ≡ SwitchCall.Take conn) mine
  pub missing : List Got
  pub one_missing : length missing ≤ 1
  pub none_missing : over ≡ false → missing ≡ []
  pub sent : IfSome told (λ t. t.sent ++ missing ≡ messages_taken mine)

-- the answer is a drop, or that the connection is over
abbrev pub IsOver : SwitchAnswer → Type 0
IsOver (SwitchAnswer.Next (Action.Drop conn)) = Unit {0}
IsOver SwitchAnswer.Over = Unit {0}
IsOver answer = ⊥

-- whether a turn is the last
abbrev pub is_last : Turned → Bool
is_last Turned.Sent = false
is_last Turned.Idle = false
is_last turned = true

-- how a turn ends, by what its take was answered: the message of the action was sent; nothing waited;
-- the connection is over, and the output was shut; or the send of the message failed, or found no
-- memory, and the output was shut
abbrev pub EndsTurn : Turned → SwitchAnswer → Option Departures → Option Departures → ℕ → ℕ
    → Type 0
EndsTurn Turned.Sent answer before after was now =
    (message : Got) × (message_in answer ≡ Some message) × Sends message (Ok tt) before after
    × (now ≡ was)
EndsTurn Turned.Idle answer before after was now =
    (answer ≡ SwitchAnswer.Nothing) × (after ≡ before) × (now ≡ was)
EndsTurn Turned.Over answer before after was now =
    IsOver answer × Shuts before after × (now ≡ was)
EndsTurn Turned.Failed answer before after was now =
    (message : Got) × (message_in answer ≡ Some message) × Shuts before after × Rises was now
EndsTurn Turned.NoMemory answer before after was now =
    (message : Got) × (message_in answer ≡ Some message) × Shuts before after × (now ≡ was)

-- ---- a connection that is refused

-- the reply
abbrev pub refusal : Bool → List ℕ
refusal false = codes "{\"Accepted\":false,\"Ended\":false,\"ResumeToken\":\"\"}"
refusal true = codes "{\"Accepted\":false,\"Ended\":true,\"ResumeToken\":\"\"}"

-- that reply was sent, with this answer, and then the output was shut
abbrev pub Refuses : Bool → Result Unit IoFault → Option Departures → Option Departures → Type 0
Refuses ended result before after =
    (mid : Option Departures) × Sends (Got.Text (refusal ended)) result before mid
    × Shuts mid after
