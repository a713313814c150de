use Rattle.std.proofs.Common.{Some, ap, refl, sym, ◌∙◌}
use Rattle.relay_core.specs.declared.event.Event.{Event}
use Rattle.session_run.proofs.AddsLemmas.{AddsCalls-none, AddsCalls-then}
use Rattle.relay_desk.specs.Hearing.{goes, is_last_heard, unended}
use Rattle.relay_desk.proofs.TurnLemmas.{store-last}
use Rattle.relay_desk.proofs.inlet.Inlet.end.Goals as goal

pub returns-in-Ok : goal.returns-in-Ok
returns-in-Ok g c =
    let s = c.step.ensures in (
      goes (Event.EndSession c.args.self.now.session) (Some c.in-Ok._closing) s.0,
      record {
        ends = record {
          may = (refl, refl);
          makes = s.1.steps.makes;
          input = s.1.steps.input;
          comes = s.1.steps.comes;
        };
        desk = AddsCalls-then _ _ _ _ _ c.in-Ok.ensures s.1.desk;
      },
    )

pub returns-in-Err : goal.returns-in-Err
returns-in-Err g c = (
  unended c.in-Err.fault,
  record {
    ends = record {
      may = tt;
      makes = record {
        conn = refl;
        session = refl;
        role = refl;
        seat = AddsCalls-none _;
        over = store-last c.in-Err.fault ∙ ap is_last_heard (sym c.store_end.ensures);
      };
      input = refl;
      comes = c.store_end.ensures;
    };
    desk = c.in-Err.ensures;
  },
)
