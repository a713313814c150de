use Rattle.std.proofs.Common.{Err, ap}
use Rattle.std.proofs.lemmas.Result.{err_from_is_err_and}
use Rattle.lab_cmd.proofs.MeaningLemmas.{MeansRead-unshown}
use Rattle.lab_cmd.proofs.program.list.Goals as goal

pub returns-in_err-show-clause-means : goal.returns-in_err-show-clause-means
returns-in_err-show-clause-means g c =
    let err = err_from_is_err_and c.from_residual.result c.from_residual.ensures.1 in
    rw (err.1, err.2)
    (MeansRead-unshown c.args.input.now c.in_err-show.field-0.0 _ _ _ _ _
    (λ fault is. c.in_err-show.ensures.fault fault (ap Err is))
    (λ is. c.in_err-show.ensures.write (ap Err is))
    (λ is. c.in_err-show.ensures.no_memory (ap Err is))
    (λ other. c.in_err-show.ensures.steady (λ is. other (cc))))
