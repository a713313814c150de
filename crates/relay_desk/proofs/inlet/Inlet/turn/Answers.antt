use Rattle.std.proofs.Common.{Err, None, Some, ap, refl, ◌∙◌}
use Rattle.session_run.proofs.AddsLemmas.{AddsCalls-none}
use Rattle.relay_desk.specs.InletTurns.{hears, starves}
use Rattle.relay_desk.proofs.TurnLemmas.{Reads-heard, Reads-starved}
use Rattle.relay_desk.proofs.inlet.Inlet.turn.Goals as goal

pub returns-in-Ok : goal.returns-in-Ok
returns-in-Ok g c =
    let h = c.hear.ensures in (
      hears (Some c.in-Ok.got) h.0,
      record {
        reads =
            Reads-heard _ _ c.args.self.now _ c.receive.new.self _ (Some c.in-Ok.got) h.0 _ refl
            h.1.hears c.in-Ok.ensures.receives c.in-Ok.ensures.steady c.in-Ok.ensures.failed;
        desk = h.1.desk;
      },
    )

pub returns-in-Err-Failed : goal.returns-in-Err-Failed
returns-in-Err-Failed g c =
    let is = c.in-Err-Failed.is ∙ ap Err c.in-Err-Failed.field-0-is in
    let h = c.hear-in-Err-Failed.ensures in
    let r = c.receive.ensures in (
      hears None h.0,
      record {
        reads =
            Reads-heard _ _ c.args.self.now _ c.receive.new.self c.receive.result None h.0 _ is
            h.1.hears r.receives r.steady r.failed;
        desk = h.1.desk;
      },
    )

pub returns-in-Err-NoMemory : goal.returns-in-Err-NoMemory
returns-in-Err-NoMemory g c =
    let is = c.in-Err-NoMemory.is ∙ ap Err c.in-Err-NoMemory.field-0-is in
    let r = c.receive.ensures in (
      starves,
      record {
        reads =
            Reads-starved _ _ c.args.self.now c.receive.new.self c.receive.result is r.receives
            r.steady;
        desk = AddsCalls-none _;
      },
    )
