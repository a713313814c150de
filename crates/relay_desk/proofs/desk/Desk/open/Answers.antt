use Rattle.std.proofs.Common.{refl}
use Rattle.session_register.specs.Rows.{Opens}
use Rattle.relay_desk.specs.declared.desk_call.DeskAnswer.{DeskAnswer}
use Rattle.relay_desk.specs.declared.desk_call.DeskCall.{DeskCall}
use Rattle.relay_desk.proofs.DeskLemmas.{asked, goes}
use Rattle.relay_desk.proofs.desk.Desk.open.Goals as goal

pub returns : goal.returns
returns g c =
    let asks = c.open.ensures in
    record {
      began = refl;
      goes =
          goes _ _ _ _ _ _ _ _ _ _ _
          (asked (DeskCall.Open c.args.session.now c.args.role c.args.token c.args.fresh) DeskAnswer.Open
          (Opens c.args.session.now c.args.role c.args.token c.args.fresh)
          (λ r. tt) (λ x. refl) (λ f. refl) (λ x. refl) refl (λ r. refl) (λ r. refl) c.open.result
          _ _ _ _ _ _ asks.meets asks.same asks.failed asks.counted);
    }
