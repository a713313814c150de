use Rattle.std.proofs.Common.{None, ap, refl, subst, sym}
use Rattle.relay_core.specs.declared.event.Event.{Event}
use Rattle.relay_desk.specs.Hearing.{event_due, goes}
use Rattle.relay_desk.proofs.TurnLemmas.{text-heard}
use Rattle.relay_desk.proofs.inlet.Inlet.hear.Goals as goal

pub returns-in-Binary : goal.returns-in-Binary
returns-in-Binary g c =
    let old = c.args.self.now in
    let s = c.step.ensures in (
      goes (Event.Binary old.conn c.in-Binary.bytes) None s.0,
      record {
        hears = record {
          may = (ap (event_due old.conn old.session old.role) c.in-Binary.is, refl);
          makes = s.1.steps.makes;
          input = s.1.steps.input;
          comes = s.1.steps.comes;
        };
        desk = s.1.desk;
      },
    )

pub returns-in-Text : goal.returns-in-Text
returns-in-Text g c =
    let h = c.hear_text.ensures in (
      h.0,
      record {
        hears =
            text-heard c.args.self.now c.args.got c.in-Text.text _ h.0 _ _ c.in-Text.is
            c.as_slice.ensures h.1.hears;
        desk = h.1.desk;
      },
    )

pub returns-in-Gone : goal.returns-in-Gone
returns-in-Gone g c =
    let old = c.args.self.now in
    let s = c.step-in-Gone.ensures in (
      goes (Event.Gone old.conn) None s.0,
      record {
        hears = record {
          may = (ap (event_due old.conn old.session old.role) c.in-Gone.is, refl);
          makes = s.1.steps.makes;
          input = s.1.steps.input;
          comes = s.1.steps.comes;
        };
        desk = s.1.desk;
      },
    )
