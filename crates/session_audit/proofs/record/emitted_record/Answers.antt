use Rattle.std.proofs.Common.{inl, inr}
use Rattle.session_audit.proofs.RecordLemmas.{emitted_reading, foreign_reading, refused_reading}
use Rattle.session_audit.proofs.record.emitted_record.Goals as goal

pub returns-in-Some : goal.returns-in-Some
returns-in-Some c =
    emitted_reading c.args.side c.other.result c.args.message.now c.in-Some.out c.other.ensures
    (rw c.in-Some.is at c.in-Ok.ensures.found)
    (rw c.in-Some.is at c.in-Ok.ensures.only)
    c.in-Ok.ensures.judged

pub returns-in-None : goal.returns-in-None
returns-in-None c =
    foreign_reading c.args.side c.other.result c.args.message.now c.other.ensures
    (rw c.in-None.is at c.in-Ok.ensures.only)
    c.in-Ok.ensures.judged

pub returns-in_default : goal.returns-in_default
returns-in_default c =
    elim c.in-Err.ensures.refused [
      | inl none ↦ absurd (c.in_default.not-NoMemory none)
      | inr arrives ↦
          refused_reading c.args.side c.other.result c.args.message.now c.in-Err.refusal
          c.other.ensures arrives
    ]
