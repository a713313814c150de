use Rattle.std.proofs.Common.{◌∙◌, refl}
use Rattle.session_crews.proofs.tests.bench.run_in.Goals as goal

pub returns-clause-lock : goal.returns-clause-lock
returns-clause-lock g c = c.run_started.ensures.joins.end_made.same_lock ∙ c.requires.lock

pub returns-clause-shelf_lock : goal.returns-clause-shelf_lock
returns-clause-shelf_lock g c =
    c.run_started.ensures.joins.shelf_made.same_lock ∙ c.requires.shelf_lock
