use Rattle.std.proofs.Common.{◌≡◌, ⊎_elim}
use Rattle.std.proofs.lemmas.Result.{IfOk-weaker}
use Rattle.channel_core.specs.Exchange.{incoming_of}
use Rattle.channel_core.specs.declared.wire.InRefusal.TheVariants as InRefusal
use Rattle.lab_run.proofs.calls.hear.Goals as goal

pub returns-in-Ok : goal.returns-in-Ok
returns-in-Ok c k out sendable is =
    let inverse = c.in-Ok.ensures.inverse out sendable.0 sendable.1 is in
    let same : c.in-Ok.message ≡ incoming_of out = ⊎_elim (λ is. cc) (λ is. cc) inverse in
    rw (← same) (c.hear_message.ensures c.args.side k)

pub returns-in-Err : goal.returns-in-Err
returns-in-Err c k out sendable is =
    let inverse = c.in-Err.ensures.inverse out sendable.0 sendable.1 is in
    let memory : c.in-Err.refusal ≡ InRefusal.NoMemory = ⊎_elim (λ is. cc) (λ is. cc) inverse in
    IfOk-weaker c.outcome_of_refusal.result _ _ (λ outcome told. absurd (told.1 memory))
    c.outcome_of_refusal.ensures
