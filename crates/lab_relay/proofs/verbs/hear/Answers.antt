use Rattle.std.proofs.Common.{◌≡◌, ⊎_elim}
use Rattle.std.proofs.lemmas.Result.{IfOk-weaker}
use Rattle.channel_core.specs.declared.wire.InRefusal.TheVariants as InRefusal
use Rattle.lab_relay.proofs.HearLemmas.{heard_as}
use Rattle.lab_relay.proofs.verbs.hear.Goals as goal

pub returns-in-Ok : goal.returns-in-Ok
returns-in-Ok c k says is =
    let answer =
    heard_as c.args.side c.args.bytes.now says _ c.in-Ok.ensures.answer c.in-Ok.ensures.inverse is in
    let same : c.in-Ok.message ≡ says = ⊎_elim (λ e. cc) (λ e. cc) answer in
    rw (← same) (c.hear_message.ensures c.args.side k)

pub returns-in-Err : goal.returns-in-Err
returns-in-Err c k says is =
    let answer =
    heard_as c.args.side c.args.bytes.now says _ c.in-Err.ensures.answer c.in-Err.ensures.inverse is
    in
    let memory : c.in-Err.refusal ≡ InRefusal.NoMemory = ⊎_elim (λ e. cc) (λ e. cc) answer in
    IfOk-weaker c.unheard.result _ _ (λ outcome told. absurd (told memory)) c.unheard.ensures
