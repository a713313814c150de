use Rattle.std.proofs.Common.{refl}
use Rattle.session_run.proofs.AddsLemmas.{AddsCalls-then}
use Rattle.session_workers.proofs.resender.Resender.turn.Goals as goal

pub returns : goal.returns
returns g c = (
  record { now = c.now-now.result; tick = c.tick-found.result; look = c.look-seen.result },
  record {
    end = AddsCalls-then _ _ _ _ _ c.tick-found.ensures c.look-seen.ensures;
    over = refl;
    answer = c.gave_up.ensures;
  },
)
