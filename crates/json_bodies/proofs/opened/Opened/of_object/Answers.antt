use Rattle.std.proofs.Common.{sym}
use Rattle.std.proofs.lemmas.Result.{err_from_is_err_and}
use Rattle.serde_json.specs.View.{view}
use Rattle.json_bodies.proofs.OpenedLemmas.{first_fault-resume}
use Rattle.json_bodies.proofs.opened.Opened.of_object.Goals as goal

pub returns-in_err-resume-clause-fault : goal.returns-in_err-resume-clause-fault
returns-in_err-resume-clause-fault c =
    let err = err_from_is_err_and c.from_residual-in_err-resume.result c.from_residual-in_err-resume.ensures.1 in
    rw (err.1, err.2) (first_fault-resume (view c.args.body.now) _ _ _ (sym c.in_ok-accepted.ensures) (sym c.in_ok-truth.ensures) c.in_err-resume.ensures)
