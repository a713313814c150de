use Rattle.std.proofs.Common.{refl}
use Rattle.relay_desk.proofs.inlet.Inlet.step.Goals as goal

pub returns : goal.returns
returns g c =
    let s = c.step_event-heard.ensures in (
      s.0,
      record {
        steps = record {
          makes = record {
            conn = refl;
            session = refl;
            role = refl;
            seat = s.1.seat;
            over = c.is_last_heard-self.ensures;
          };
          input = refl;
          comes = s.1.heard;
        };
        desk = s.1.desk;
      },
    )
