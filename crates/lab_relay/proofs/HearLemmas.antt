-- What an end answers to the bytes of a letter.
use Rattle.std.proofs.Common.{◌≡◌, inl, inr, ℕ, List, Ok, sym, subst}
use Rattle.chan_values.specs.declared.side.Side.{Side}
use Rattle.chan_values.specs.Sides.{other}
use Rattle.agent_message.specs.Layout.{IsMessage}
use Rattle.channel_core.specs.Arrival.{Answer, AnswerOrNoMemory, Arrives, IsAnswer}
use Rattle.channel_core.specs.Condition.{CanBeEncoded}
use Rattle.channel_core.specs.declared.message.Incoming.{Incoming}
use Rattle.channel_core.specs.declared.message.Outgoing.{Outgoing}
use Rattle.channel_core.specs.Exchange.{incoming_of}
use Rattle.channel_core.specs.Wire.{encoding, message_of}
use Rattle.lab_relay.specs.Held.{IsHeardAs}

-- it is what the letter says, unless memory ran out
pub heard_as : (side : Side) (bytes : List ℕ) (says : Incoming) (result : Answer)
    → IsAnswer (Arrives side bytes) result
    → ((out : Outgoing)
    → CanBeEncoded out
    → IsMessage (message_of (other side) out)
    → bytes ≡ encoding (other side) out
    → AnswerOrNoMemory result (Ok (incoming_of out)))
    → IsHeardAs side bytes says
    → AnswerOrNoMemory result (Ok says)
heard_as side bytes says result answer inverse (inl w) =
    subst (λ x. AnswerOrNoMemory result (Ok x)) (sym w.3) (inverse w.0 w.1.0 w.1.1 w.2)
heard_as side bytes says result answer inverse (inr arrives) = answer.only (Ok says) arrives
