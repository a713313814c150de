use Rattle.std.proofs.Common.{refl}
use Rattle.std.proofs.lemmas.List.Elements.{All-nil}
use Rattle.channel_core.specs.declared.call.EndAnswer.TheVariants as EndAnswer
use Rattle.channel_core.specs.declared.answer.Tick.TheVariants as Tick
use Rattle.lab_run.proofs.calls.tick.Goals as goal

pub returns-in-Nothing : goal.returns-in-Nothing
returns-in-Nothing c side k =
    record {
      answer = EndAnswer.Tick Tick.Nothing;
      follows = c.in-Nothing.ensures;
      memory = λ e. e;
      told = refl;
      sendable = All-nil _;
    }

pub returns-in-Due : goal.returns-in-Due
returns-in-Due c side k =
    record {
      answer = EndAnswer.Tick (Tick.Due c.in-Due.seq);
      follows = c.in-Due.ensures;
      memory = λ e. e;
      told = refl;
      sendable = All-nil _;
    }

pub returns-in-GaveUp : goal.returns-in-GaveUp
returns-in-GaveUp c side k =
    record {
      answer = EndAnswer.Tick (Tick.GaveUp c.in-GaveUp.seq);
      follows = c.in-GaveUp.ensures;
      memory = λ e. e;
      told = refl;
      sendable = All-nil _;
    }
