use Rattle.std.proofs.Common.{refl}
use Rattle.session_register.specs.Rows.{Ends}
use Rattle.relay_desk.specs.declared.desk_call.DeskAnswer.{DeskAnswer}
use Rattle.relay_desk.specs.declared.desk_call.DeskCall.{DeskCall}
use Rattle.relay_desk.proofs.DeskLemmas.{asked, goes}
use Rattle.relay_desk.proofs.desk.Desk.end.Goals as goal

pub returns : goal.returns
returns g c =
    let asks = c.end.ensures in
    record {
      began = refl;
      goes =
          goes _ _ _ _ _ _ _ _ _ _ _
          (asked (DeskCall.End c.args.session.now) DeskAnswer.End
          (Ends c.args.session.now)
          (λ r. tt) (λ x. refl) (λ f. refl) (λ x. refl) refl (λ r. refl) (λ r. refl) c.end.result
          _ _ _ _ _ _ asks.meets asks.same asks.failed asks.counted);
    }
