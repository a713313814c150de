use Rattle.lab_script.proofs.GrammarLemmas.{IsNoCommand-first}
use Rattle.lab_script.proofs.grammar.read_command.Goals as goal

pub returns-in_default-read : goal.returns-in_default-read
returns-in_default-read c =
    IsNoCommand-first c.in-Some.word.now c.args.words.now _ c.in-Some.ensures
    c.in_default-read.ensures.none
