use Rattle.std.proofs.Common.{◌∙◌}
use Rattle.relay_accept.proofs.StepLemmas.{Steps-none, Steps-then}
use Rattle.relay_accept.proofs.accept.accept_until_over.Goals as goal

pub loop-init : goal.loop-init
loop-init g c = Steps-none _ _ _ _ _ _ c.requires.out

pub accept_once-requires-clause-desk : goal.accept_once-requires-clause-desk
accept_once-requires-clause-desk g c κs within = c.loop.invariant.same_desk ∙ c.requires.desk

pub accept_once-requires-clause-switches : goal.accept_once-requires-clause-switches
accept_once-requires-clause-switches g c κs within =
    c.loop.invariant.same_switches ∙ c.requires.switches

pub accept_once-requires-clause-out : goal.accept_once-requires-clause-out
accept_once-requires-clause-out g c κs within = c.loop.invariant.out

pub loop-preserved : goal.loop-preserved
loop-preserved g c =
    Steps-then _ _ _ _ _ _ _ _ _ _ _ _ c.loop.invariant c.accept_once.ensures
