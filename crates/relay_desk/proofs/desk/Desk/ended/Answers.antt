use Rattle.std.proofs.Common.{refl}
use Rattle.session_register.specs.Rows.{AsksEnded}
use Rattle.relay_desk.specs.declared.desk_call.DeskAnswer.{DeskAnswer}
use Rattle.relay_desk.specs.declared.desk_call.DeskCall.{DeskCall}
use Rattle.relay_desk.proofs.DeskLemmas.{asked, goes, on-err}
use Rattle.relay_desk.proofs.desk.Desk.ended.Goals as goal

pub returns : goal.returns
returns g c =
    let asks = c.ended.ensures in
    record {
      began = refl;
      goes =
          goes _ _ _ _ _ _ _ _ _ _ _
          (asked (DeskCall.Ended c.args.session.now) DeskAnswer.Ended
          (AsksEnded c.args.session.now)
          (λ r. tt) (λ x. refl) (λ f. refl) (λ x. refl) refl (λ r. refl) (λ r. refl) c.ended.result
          _ _ _ _ _ _ asks.meets
          (on-err c.ended.result asks.same) asks.failed asks.counted);
    }
