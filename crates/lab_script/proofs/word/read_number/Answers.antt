use Rattle.std.proofs.Common.{◌≡◌, sym, ◌∙◌}
use Rattle.std.proofs.lemmas.Bool.{false≢true}
use Rattle.std.proofs.lemmas.Slice.Eq.{bytes_eq-Decides}
use Rattle.lab_script.proofs.Digits.{IsUtf8-decimal, parse_again}
use Rattle.lab_script.proofs.word.read_number.Goals as goal

pub returns-in_default-clause-none : goal.returns-in_default-clause-none
returns-in_default-clause-none c =
    λ n small e. c.in_default.ensures.cases.0 (IsUtf8-decimal n c.args.word.now small e)

pub returns-in_default-parse-clause-none : goal.returns-in_default-parse-clause-none
returns-in_default-parse-clause-none c = λ n small e.
    let again = parse_again n c.in-Ok.text.now c.parse.result small
    (e ∙ sym c.in-Ok.ensures.cases.0) c.parse.ensures.value.0 in
    cc

pub returns-else-eq-clause-none : goal.returns-else-eq-clause-none
returns-else-eq-clause-none c = λ n small e.
    let again = parse_again n c.in-Ok.text.now c.parse.result small
    (e ∙ sym c.in-Ok.ensures.cases.0) c.parse.ensures.value.0 in
    let same : c.format.result.now ≡ c.in-Ok.text.now =
    cc (c.format.ensures.text, e, again, c.in-Ok-parse.is, c.in-Ok.ensures.cases.0) in
    absurd (false≢true (sym c.if-eq.false ∙ c.eq.ensures
    ∙ (bytes_eq-Decides c.format.result.now c.in-Ok.text.now).1 same))
