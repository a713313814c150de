-- What became of a call at an end.
use Rattle.std.proofs.Common.{◌≡◌, ◌≢◌, ℕ, Result, IfOk}
use Rattle.std.proofs.lemmas.List.Elements.{All-nil}
use Rattle.std.proofs.lemmas.Result.{IfOk-weaker}
use Rattle.chan_values.specs.declared.no_memory.NoMemory.{NoMemory}
use Rattle.chan_values.specs.declared.side.Side.{Side}
use Rattle.channel_core.specs.declared.call.EndAnswer.TheVariants as EndAnswer
use Rattle.channel_core.specs.declared.call.EndCall.TheVariants as EndCall
use Rattle.channel_core.specs.declared.answer.Heard.{Heard}
use Rattle.channel_core.specs.declared.message.Incoming.{Incoming}
use Rattle.channel_core.specs.Stands.{EndState, Follows}
use Rattle.lab_script.specs.declared.outcome.Outcome.{Outcome}
use Rattle.lab_run.specs.Ends.{IsCalled}
use Rattle.lab_run.specs.Outcomes.{outcome_of_heard}

-- an end heard a message and found memory
pub IsCalled-heard : (side : Side) (k now : ℕ) (old new : EndState) (message : Incoming)
    (heard : Heard)
    (r : Result Outcome NoMemory)
    → Follows old new (EndCall.Heard now message) (EndAnswer.Heard heard)
    → IfOk r (λ outcome. (outcome ≡ outcome_of_heard heard) ×
    ((i : Incoming) → heard ≢ Heard.NoMemory i))
    → IfOk r (IsCalled side k (EndCall.Heard now message) old new)
IsCalled-heard side k now old new message heard r follows told =
    IfOk-weaker r _ _
    (λ outcome t. record {
      answer = EndAnswer.Heard heard;
      follows = follows;
      memory = λ e. t.1 message (cc);
      told = t.0;
      sendable = All-nil _;
    })
    told
