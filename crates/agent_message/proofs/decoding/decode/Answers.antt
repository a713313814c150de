use Rattle.std.proofs.Common.{Err, inl, inr, arith}
use Rattle.std.proofs.lemmas.Result.{err_from_is_err_and, IfErr-weaker}
use Rattle.agent_message.proofs.Faults.{accepted}
use Rattle.agent_message.proofs.SoundSpelling.{reads, answers, again}
use Rattle.agent_message.proofs.decoding.decode.Goals as goal

pub returns-in_err-name-clause-only : goal.returns-in_err-name-clause-only
returns-in_err-name-clause-only c =
    let p = err_from_is_err_and c.from_residual.result c.from_residual.ensures.1 in
    rw (p.1, p.2) (answers (Err c.in_err-name.field-0.0) c.args.bytes.now tt
    (inr c.in_err-name.ensures.refused))

pub returns-in_err-name-clause-again : goal.returns-in_err-name-clause-again
returns-in_err-name-clause-again c =
    again c.from_residual.result c.args.bytes.now (returns-in_err-name-clause-only c)

pub returns-clause-read : goal.returns-clause-read
returns-clause-read c =
    reads c.message_of.result c.args.bytes.now
    (accepted c.args.bytes.now (λ i. omega (arith, c.type_inv.bytes i))
    c.in_ok-name.ensures.faultless)
    c.message_of.ensures.read

pub returns-clause-only : goal.returns-clause-only
returns-clause-only c =
    answers c.message_of.result c.args.bytes.now (returns-clause-read c)
    (IfErr-weaker c.message_of.result _ _ (λ e none. inl none) c.message_of.ensures.refused)

pub returns-clause-again : goal.returns-clause-again
returns-clause-again c = again c.message_of.result c.args.bytes.now (returns-clause-only c)
