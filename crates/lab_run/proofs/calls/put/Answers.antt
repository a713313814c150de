use Rattle.std.proofs.lemmas.List.Elements.{All-nil}
use Rattle.channel_core.specs.declared.call.EndAnswer.TheVariants as EndAnswer
use Rattle.lab_run.proofs.calls.put.Goals as goal

pub returns : goal.returns
returns c side k =
    record {
      answer = EndAnswer.Put c.put.result;
      follows = rw (← c.id_of.ensures) c.put.ensures;
      memory = λ e. e;
      told = c.outcome_of_put.ensures;
      sendable = All-nil _;
    }
