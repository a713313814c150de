use Rattle.std.proofs.Common.{refl}
use Rattle.chan_io.specs.declared.got.Got.{Got}
use Rattle.session_run.proofs.AddsLemmas.{AddsCalls-none}
use Rattle.relay_desk.specs.Hearing.{passes}
use Rattle.relay_desk.proofs.TurnLemmas.{may-end, text-due, text-passed}
use Rattle.relay_desk.proofs.inlet.Inlet.hear_text.Goals as goal

pub returns-then-ends_session : goal.returns-then-ends_session
returns-then-ends_session g c =
    let old = c.args.self.now in
    let e = c.end.ensures in (
      e.0,
      record {
        hears = record {
          may =
              may-end old.conn old.session old.role (Got.Text c.args.text.now) e.0
              (text-due old.conn old.session old.role c.args.text.now _ c.ends_session.ensures
              c.if-ends_session.true)
              e.1.ends.may;
          makes = e.1.ends.makes;
          input = e.1.ends.input;
          comes = e.1.ends.comes;
        };
        desk = e.1.desk;
      },
    )

pub returns-else-ends_session : goal.returns-else-ends_session
returns-else-ends_session g c =
    let old = c.args.self.now in (
      passes,
      record {
        hears = record {
          may =
              text-passed old.conn old.session old.role c.args.text.now _ c.ends_session.ensures
              c.if-ends_session.false;
          makes = record {
            conn = refl;
            session = refl;
            role = refl;
            seat = AddsCalls-none _;
            over = c.requires.over;
          };
          input = refl;
          comes = refl;
        };
        desk = AddsCalls-none _;
      },
    )
