use Rattle.std.proofs.Common.{arith, refl, subst, sym}
use Rattle.chan_io.specs.declared.got.Got.{Got}
use Rattle.relay_desk.specs.Openings.{Judges, Names, is_named}
use Rattle.relay_desk.proofs.AdmitLemmas.{judges-if, judges-none}
use Rattle.relay_desk.proofs.opening.judged_text.Goals as goal

pub returns-in-Ok-Some : goal.returns-in-Ok-Some
returns-in-Ok-Some c =
    let text = c.args.text.now in
    let names = c.args.names.now in
    let value = c.in-Ok-Some.value in
    subst (Judges (Got.Text text) names) (sym c.if_named.ensures)
    (judges-if names text value (is_named names value.session)
    (omega (arith, c.if-text-gt-MAX_OPENING.false))
    (subst (Names text) c.in-Ok-Some.field-0-is c.in-Ok-Some.ensures) refl)

pub returns-in-Ok-None : goal.returns-in-Ok-None
returns-in-Ok-None c =
    judges-none c.args.names.now c.args.text.now
    (subst (Names c.args.text.now) c.in-Ok-None.field-0-is c.in-Ok-None.ensures)
