use Rattle.std.proofs.Common.{◌≡◌, ◌<◌, ◌^◌, arith, sym, ◌∙◌}
use Rattle.std.proofs.lemmas.Fmt.{decimal_injective}
use Rattle.program_words.proofs.number.read_positive.Goals as goal

pub returns-then-n-eq0-clause-none : goal.returns-then-n-eq0-clause-none
returns-then-n-eq0-clause-none c = λ n fits same.
    let zero_below : c.in_ok-n.n < 2 ^ 64 = omega (arith, c.if-n-eq0.true) in
    let below : n < 2 ^ 64 = omega (arith, fits.1) in
    let one = decimal_injective n c.in_ok-n.n below zero_below (same ∙ sym c.in_ok-n.ensures.found) in
    omega (arith, one, c.if-n-eq0.true, fits.0)
