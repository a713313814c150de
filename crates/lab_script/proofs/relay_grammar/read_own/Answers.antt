use Rattle.lab_script.proofs.RelayLines.{IsNoOwn-first}
use Rattle.lab_script.proofs.relay_grammar.read_own.Goals as goal

pub returns-in_default-read : goal.returns-in_default-read
returns-in_default-read c =
    IsNoOwn-first c.in-Some.word.now c.args.words.now _ c.in-Some.ensures
    c.in_default-read.ensures.none
