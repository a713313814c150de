use Rattle.std.proofs.Common.{◌≡◌, ◌∙◌, sym, arith}
use Rattle.std.proofs.lemmas.Fmt.{decimal_injective}
use Rattle.lab_script.proofs.stream_grammar.read_size.Goals as goal

pub returns-then-most-eq0-clause-none : goal.returns-then-most-eq0-clause-none
returns-then-most-eq0-clause-none c n size spelled =
    let one : n ≡ c.in_ok-most.most =
    decimal_injective n c.in_ok-most.most (omega arith) (omega arith)
    (spelled ∙ sym c.in_ok-most.ensures.found) in
    let either = c.then-most-eq0.either in
    omega (arith, one, size)
