use Rattle.std.proofs.Common.{◌≡◌, FitsSigned, sym, ap, ◌∙◌, subst, w32}
use Rattle.std.proofs.lemmas.Bool.{false≢true}
use Rattle.std.proofs.lemmas.Int.{to_z-of_z}
use Rattle.std.proofs.lemmas.Slice.Eq.{bytes_eq-Decides}
use Rattle.std.specs.Fmt.{signed_decimal}
use Rattle.chan_values.specs.declared.item.Item.{Item}
use Rattle.shell_session.proofs.ExitLemmas.{one_value, status_again, status_utf8}
use Rattle.shell_session.proofs.exit.exit_of.Goals as goal

pub returns-in_default-clause-none : goal.returns-in_default-clause-none
returns-in_default-clause-none c =
    λ status fits e. c.in_default.ensures.cases.0
    (status_utf8 status c.as_slice.result.now fits
    (c.as_slice.ensures ∙ ap (λ (i : Item). i.payload) e))

pub returns-in_default-parse-clause-none : goal.returns-in_default-parse-clause-none
returns-in_default-parse-clause-none c = λ status fits e.
    let is : c.in-Ok.text.now ≡ signed_decimal status = c.in-Ok.ensures.cases.0
    ∙ (c.as_slice.ensures ∙ ap (λ (i : Item). i.payload) e) in
    let again = status_again status c.in-Ok.text.now c.parse.result fits is
    c.parse.ensures.value.0 in
    cc

pub returns-else-eq-clause-none : goal.returns-else-eq-clause-none
returns-else-eq-clause-none c = λ status fits e.
    let is : c.in-Ok.text.now ≡ signed_decimal status = c.in-Ok.ensures.cases.0
    ∙ (c.as_slice.ensures ∙ ap (λ (i : Item). i.payload) e) in
    let again = status_again status c.in-Ok.text.now c.parse.result fits is
    c.parse.ensures.value.0 in
    let one = one_value c.parse.result c.in-Ok-parse.status status c.in-Ok-parse.is again in
    let fits' = subst (λ z. FitsSigned w32 z) (sym one) fits in
    let same : c.format.result.now ≡ c.in-Ok.text.now =
    c.format.ensures.text
    ∙ (ap signed_decimal (to_z-of_z w32 c.in-Ok-parse.status fits')
    ∙ (ap signed_decimal one ∙ sym is)) in
    absurd (false≢true
    (sym c.if-eq.false ∙ c.eq.ensures
    ∙ (bytes_eq-Decides c.format.result.now c.in-Ok.text.now).1 same))
