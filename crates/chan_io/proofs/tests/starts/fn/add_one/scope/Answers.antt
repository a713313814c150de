use Rattle.chan_io.proofs.tests.starts.fn.add_one.scope.Goals as goal

pub returns-in-Ok : goal.returns-in-Ok
returns-in-Ok g c = c.join-sum.ensures (record { number = c.captures.number }) c.in-Ok.ensures.started
