use Rattle.std.proofs.Common.{Ok, Err, ◌∙◌}
use Rattle.std.proofs.lemmas.Result.{IfOk-weaker}
use Rattle.chan_values.specs.Sides.{other}
use Rattle.channel_core.specs.Arrival.{Arrives, IsAnswer}
use Rattle.channel_core.specs.Wire.{message_of}
use Rattle.lab_run.proofs.DamageLemmas.{IsDamaged}
use Rattle.lab_run.proofs.HurtLemmas.{IsDamaged-copy, outcome_of_hurt-heard, outcome_of_hurt-past, outcome_of_hurt-refused}
use Rattle.lab_run.proofs.damage.hurt.Goals as goal

pub returns-in_default : goal.returns-in_default
returns-in_default c out sendable is =
    let past = rw c.in_default.is at c.in_ok-damaged.ensures in
    outcome_of_hurt-past c.args.side c.args.place out c.args.bytes.now sendable is past

pub returns-in-Ok : goal.returns-in-Ok
returns-in-Ok c out sendable is =
    let side = other c.args.side in
    let copied = rw c.in-Some.is at c.in_ok-damaged.ensures in
    let copy = c.as_slice.result.now in
    let d : IsDamaged (message_of side out) c.args.place copy =
    IsDamaged-copy side out c.args.place c.args.bytes.now copy sendable is copied.0
    (c.as_slice.ensures.value ∙ copied.1) in
    let answer : IsAnswer (Arrives c.args.side copy) (Ok c.in-Ok.field-0) =
    c.in-Ok.ensures.answer in
    outcome_of_hurt-heard c.args.side c.args.place out copy c.in-Ok.field-0 d answer

pub returns : goal.returns
returns c out sendable is =
    let side = other c.args.side in
    let copied = rw c.in-Some.is at c.in_ok-damaged.ensures in
    let copy = c.as_slice.result.now in
    let d : IsDamaged (message_of side out) c.args.place copy =
    IsDamaged-copy side out c.args.place c.args.bytes.now copy sendable is copied.0
    (c.as_slice.ensures.value ∙ copied.1) in
    let answer : IsAnswer (Arrives c.args.side copy) (Err c.in-Err.refusal) =
    c.in-Err.ensures.answer in
    IfOk-weaker c.outcome_of_refusal.result _ _
    (λ outcome told.
    told.0
    ∙ outcome_of_hurt-refused c.args.side c.args.place out copy c.in-Err.refusal d answer told.1)
    c.outcome_of_refusal.ensures
