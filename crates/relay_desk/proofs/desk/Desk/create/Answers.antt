use Rattle.std.proofs.Common.{refl}
use Rattle.session_register.specs.Rows.{Creates}
use Rattle.relay_desk.specs.declared.desk_call.DeskAnswer.{DeskAnswer}
use Rattle.relay_desk.specs.declared.desk_call.DeskCall.{DeskCall}
use Rattle.relay_desk.proofs.DeskLemmas.{asked, goes}
use Rattle.relay_desk.proofs.desk.Desk.create.Goals as goal

pub returns : goal.returns
returns g c =
    let asks = c.create.ensures in
    record {
      began = refl;
      goes =
          goes _ _ _ _ _ _ _ _ _ _ _
          (asked (DeskCall.Create c.args.session.now c.args.plugin c.args.agent) DeskAnswer.Create
          (Creates c.args.session.now c.args.plugin c.args.agent)
          (λ r. tt) (λ x. refl) (λ f. refl) (λ x. refl) refl (λ r. refl) (λ r. refl) c.create.result
          _ _ _ _ _ _ asks.meets asks.same asks.failed asks.counted);
    }
