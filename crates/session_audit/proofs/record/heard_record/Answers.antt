use Rattle.std.proofs.Common.{◌≡◌, Ok, Err, inl, inr, refl}
use Rattle.channel_core.specs.declared.wire.InRefusal.{InRefusal}
use Rattle.session_audit.proofs.RecordLemmas.{heard_reading}
use Rattle.session_audit.proofs.record.heard_record.Goals as goal

pub returns-in-Ok : goal.returns-in-Ok
returns-in-Ok c =
    let answer = c.in-Ok.ensures.answer in
    heard_reading c.args.side c.args.message.now c.in-Ok.heard
    (elim answer.given [ inl arrives ↦ arrives | inr none ↦ absurd (cc) ])
    (λ other arrives. elim (answer.only (Ok other) arrives) [ inl is ↦ cc | inr none ↦ absurd (cc) ])
    (λ e arrives. elim (answer.only (Err e) arrives) [ inl is ↦ cc | inr none ↦ cc ])
    c.in-Ok.ensures.numbered

pub returns-in_default : goal.returns-in_default
returns-in_default c =
    let answer = c.in-Err.ensures.answer in
    elim answer.given [
      | inl arrives ↦ (c.args.side, c.args.message.now, inr (refl, arrives))
      | inr none ↦
          let is : c.in-Err.refusal ≡ InRefusal.NoMemory = cc in
          absurd (c.in_default.not-NoMemory is)
    ]
