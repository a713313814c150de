use Rattle.std.proofs.Common.{Err, ap, refl}
use Rattle.std.proofs.lemmas.Result.{err_from_is_err_and}
use Rattle.lab_cmd.proofs.AuditLemmas.{MeansRead-judged}
use Rattle.lab_cmd.proofs.program.tell_verdict.Goals as goal

pub returns-in_err-judge-clause-means : goal.returns-in_err-judge-clause-means
returns-in_err-judge-clause-means g c =
    let err = err_from_is_err_and c.from_residual.result c.from_residual.ensures.1 in
    rw (err.1, err.2)
    (MeansRead-judged c.args.window c.args.input.now c.in_err-judge.field-0.0 _ _ _ _ _
    (λ fault is. c.in_err-judge.ensures.fault fault (ap Err is))
    (λ is. c.in_err-judge.ensures.write (ap Err is))
    (λ other. c.in_err-judge.ensures.unwritten c.in_err-judge.field-0.0 refl other)
    (λ other. c.in_err-judge.ensures.steady (λ is. other (cc is))))
