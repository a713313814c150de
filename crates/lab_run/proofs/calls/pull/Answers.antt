use Rattle.std.proofs.Common.{[], refl, ap, ◌∙◌}
use Rattle.std.proofs.lemmas.List.Elements.{All-nil, All-push}
use Rattle.channel_core.specs.declared.call.EndAnswer.TheVariants as EndAnswer
use Rattle.channel_core.specs.declared.answer.Pull.TheVariants as Pull
use Rattle.lab_script.specs.declared.outcome.Outcome.TheVariants as Outcome
use Rattle.lab_run.specs.Ends.{IsSendable}
use Rattle.lab_run.proofs.calls.pull.Goals as goal

pub returns-in_ok-outgoing-in-Emit : goal.returns-in_ok-outgoing-in-Emit
returns-in_ok-outgoing-in-Emit c =
    let encodable = c.in-Emit.ensures.encodable in
    record {
      answer = EndAnswer.Pull (Pull.Emit c.in-Emit.out);
      follows = c.in-Emit.ensures.follows;
      memory = λ e. cc;
      told = ap (Outcome.Emit c.args.number)
          (c.new-encoding.ensures ∙ c.in_ok-outgoing-in-Emit.ensures.encoded);
      sendable = All-push (IsSendable c.args.side) [] c.in-Emit.out (All-nil _)
          (encodable, c.in_ok-outgoing-in-Emit.ensures.typed);
    }

pub returns-in-Idle : goal.returns-in-Idle
returns-in-Idle c =
    record {
      answer = EndAnswer.Pull Pull.Idle;
      follows = c.in-Idle.ensures.follows;
      memory = λ e. cc;
      told = refl;
      sendable = All-nil _;
    }
