use Rattle.std.proofs.Common.{◌≡◌, sym, ◌∙◌, arith}
use Rattle.std.proofs.lemmas.Fmt.{decimal_injective}
use Rattle.lab_cmd.proofs.words.read_rounds.Goals as goal

pub returns-then-rounds-eq0-clause-none : goal.returns-then-rounds-eq0-clause-none
returns-then-rounds-eq0-clause-none c = λ n fits spelled.
    let word : c.as_bytes.result.now ≡ c.args.word.now = cc in
    let same : n ≡ c.in_ok-rounds.rounds =
    decimal_injective n c.in_ok-rounds.rounds (omega (arith, fits)) (omega arith)
    (spelled ∙ sym word ∙ sym c.in_ok-rounds.ensures.found) in
    omega (arith, same, fits)
