use Rattle.std.proofs.Common.{false, refl, true}
use Rattle.session_run.proofs.AddsLemmas.{AddsCalls-none}
use Rattle.relay_desk.specs.Hearing.{steps, undrawn}
use Rattle.relay_desk.proofs.TurnLemmas.{stepped}
use Rattle.relay_desk.proofs.inlet.step_event.Goals as goal

pub returns-in-Err : goal.returns-in-Err
returns-in-Err g c = (
  undrawn c.in-Err._fault,
  record { seat = AddsCalls-none _; desk = c.in-Err.ensures; heard = refl },
)

pub returns-then-step : goal.returns-then-step
returns-then-step g c = (
  steps c.in-Ok.id c.now-now.result true,
  record {
    seat = stepped _ _ _ _ _ _ _ c.if-step.true c.step.ensures;
    desk = c.in-Ok.ensures;
    heard = refl;
  },
)

pub returns-else-step : goal.returns-else-step
returns-else-step g c = (
  steps c.in-Ok.id c.now-now.result false,
  record {
    seat = stepped _ _ _ _ _ _ _ c.if-step.false c.step.ensures;
    desk = c.in-Ok.ensures;
    heard = refl;
  },
)
