use Rattle.std.proofs.Common.{[], refl}
use Rattle.std.proofs.lemmas.List.Elements.{All-nil}
use Rattle.channel_core.specs.History.{emissions}
use Rattle.channel_core.proofs.LegalLemmas.{IsLegal-nil}
use Rattle.lab_gen.proofs.latest.Latest.connected.Goals as goal

pub returns : goal.returns
unfolding emissions
returns c =
    record {
      sent = [];
      done = record {
        stands = (c.opened.ensures c.args.window [] (IsLegal-nil c.args.window)
            c.in_ok-end.ensures).1;
        encoded = refl;
        sendable = All-nil _;
      };
      kept = refl;
    }
