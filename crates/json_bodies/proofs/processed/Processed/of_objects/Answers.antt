use Rattle.std.proofs.lemmas.Result.{err_from_is_err_and}
use Rattle.json_bodies.proofs.ProcessedLemmas.{processed_table}
use Rattle.json_bodies.proofs.LoopLemmas.{fault_in_list, given_in_list}
use Rattle.json_bodies.proofs.processed.Processed.of_objects.Goals as goal

pub returns-in_err-of_object-clause-fault : goal.returns-in_err-of_object-clause-fault
returns-in_err-of_object-clause-fault c =
    let err = err_from_is_err_and c.from_residual.result c.from_residual.ensures.1 in
    rw (err.1, err.2)
    (fault_in_list processed_table _ _ _ _ c.loop-object-test.true c.object-item.is c.loop-object.invariant _ c.in_err-of_object.ensures.fault)

pub loop-object-preserved : goal.loop-object-preserved
loop-object-preserved c =
    rw c.in_ok-push.ensures.items
    (given_in_list processed_table _ _ _ _ c.loop-object-test.true c.object-item.is c.loop-object.invariant _ c.in_ok-of_object.ensures.gives)
