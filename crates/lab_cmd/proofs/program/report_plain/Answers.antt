use Rattle.std.proofs.Common.{Err, ap, refl}
use Rattle.std.proofs.lemmas.Result.{err_from_is_err_and}
use Rattle.lab_run.specs.Run.{report, run}
use Rattle.lab_cmd.specs.declared.words.Mode.{Mode}
use Rattle.lab_cmd.specs.declared.words.Task.{Task}
use Rattle.lab_cmd.proofs.MeaningLemmas.{MeansRead-script, MeansRead-stop}
use Rattle.lab_cmd.proofs.program.report_plain.Goals as goal

pub returns-in_err-commands-clause-means : goal.returns-in_err-commands-clause-means
returns-in_err-commands-clause-means g c =
    let err = err_from_is_err_and c.from_residual.result c.from_residual.ensures.1 in
    rw (err.1, err.2)
    (MeansRead-script (Mode.Windowed Task.Plain c.args.window) c.args.input.now
    c.in_err-commands.field-0.0 _ _ _ refl
    (λ n is. c.in_err-commands.ensures.bad n (ap Err is)))

pub returns-in_err-run-clause-means : goal.returns-in_err-run-clause-means
returns-in_err-run-clause-means g c =
    let err =
    err_from_is_err_and c.from_residual-in_err-run.result c.from_residual-in_err-run.ensures.1 in
    let commands = c.in_ok-commands.commands.items in
    rw (err.1, err.2)
    (MeansRead-stop (Mode.Windowed Task.Plain c.args.window) c.args.input.now
    (report (run c.args.window commands)) _ _ _ _ _ _
    (commands, c.in_ok-commands.ensures.script, refl)
    c.in_err-run.ensures.part c.in_err-run.ensures.failed c.in_err-run.ensures.memory)
