use Rattle.std.proofs.Common.{◌≡◌, ℕ, ◌<◌, ◌^◌, Result, Ok, Err, arith, ◌∙◌, sym, List, decimal}
use Rattle.std.specs.Prelude.{IfNone}
use Rattle.std.specs.Result.{result_ok, OkIff}
use Rattle.std.proofs.lemmas.Fmt.{decimal_injective}
use Rattle.program_words.proofs.number.read_short.Goals as goal

none_below : {E : Type 0} (big : ℕ) (r : Result ℕ E) → big < 2 ^ 64 → OkIff r (big < 2 ^ 16) big
    → (word : List ℕ) → decimal big ≡ word
    → IfNone (result_ok r) ((n : ℕ) → n < 2 ^ 16 → decimal n ≡ word → ⊥)
none_below big (Ok x) fits h word e = tt
none_below big (Err x) fits h word e = λ n below same.
    let one = decimal_injective n big (omega arith) fits (same ∙ sym e) in h (omega (arith, one))

pub returns-in-Some-clause-none : goal.returns-in-Some-clause-none
returns-in-Some-clause-none c =
    rw c.ok.ensures.value (none_below c.in-Some.n c.try_from.result (omega arith)
    c.try_from.ensures c.args.text.now c.in-Some.ensures.found)
