use Rattle.std.proofs.Common.{refl, subst}
use Rattle.session_run.proofs.AddsLemmas.{AddsCalls-none}
use Rattle.relay_desk.specs.Openings.{Judges}
use Rattle.relay_desk.specs.Admissions.{declines, starves}
use Rattle.relay_desk.proofs.AdmitLemmas.{may-ask}
use Rattle.relay_desk.proofs.opening.admit.Goals as goal

pub returns-in-Ok-Some : goal.returns-in-Ok-Some
returns-in-Ok-Some g c =
    let a = c.ask.ensures in (
      a.0,
      record {
        may =
            may-ask c.args.first.now c.args.names.now c.in-Ok-Some.value a.0
            (subst (Judges c.args.first.now c.args.names.now) c.in-Ok-Some.field-0-is
            c.in-Ok-Some.ensures)
            a.1.may;
        calls = a.1.calls;
        answer = a.1.answer;
      },
    )
