use Rattle.std.proofs.Common.{refl}
use Rattle.std.proofs.lemmas.Result.{err_from_is_err_and}
use Rattle.lab_cmd.specs.Meanings.{beside}
use Rattle.lab_cmd.proofs.MeaningLemmas.{MeansMade-ok, MeansMade-stop}
use Rattle.lab_cmd.proofs.program.generate.Goals as goal

pub returns-in_err-run_generated-clause-means : goal.returns-in_err-run_generated-clause-means
returns-in_err-run_generated-clause-means g c input reads =
    let err = err_from_is_err_and c.from_residual.result c.from_residual.ensures.1 in
    rw (err.1, err.2)
    (MeansMade-stop _ c.in_err-run_generated.field-0.0 _ _ (refl, refl)
    c.in_err-run_generated.ensures.part c.in_err-run_generated.ensures.failed
    c.in_err-run_generated.ensures.memory)

pub returns-clause-means : goal.returns-clause-means
returns-clause-means g c input reads =
    let at = beside input reads in
    MeansMade-ok _ (at (g.K.Sink.output c.args.sink.now) (g.K.Sink.faults c.args.sink.now))
    (at (g.K.Sink.output c.run_generated.new.sink) (g.K.Sink.faults c.run_generated.new.sink))
    (refl, refl) c.in_ok-run_generated.ensures.printed
