use Rattle.std.proofs.Common.{refl}
use Rattle.relay_desk.proofs.DeskLemmas.{drawn, goes}
use Rattle.relay_desk.proofs.desk.Desk.draw.Goals as goal

pub returns : goal.returns
returns g c =
    record {
      began = refl;
      goes =
          goes _ _ _ _ _ _ _ _ _ _ _
          (drawn c.draw.result _ _ _ _ _ _ c.draw.ensures.draws c.draw.ensures.failed
          c.draw.ensures.counted);
    }
