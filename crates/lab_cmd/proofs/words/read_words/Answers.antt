use Rattle.std.proofs.Common.{◌≡◌, ◌≢◌, ◌<◌, codes, length, rules}
use Rattle.lab_cmd.proofs.WordLemmas.{IsWords-alone, IsWordsFault-alone, IsWordsFault-other}
use Rattle.lab_cmd.proofs.words.read_words.Goals as goal

pub returns-in_default-read_alone-clause-fault : goal.returns-in_default-read_alone-clause-fault
returns-in_default-read_alone-clause-fault c =
    let second : c.in-Some.option.now ≢ codes "--window" = search rules in
    let third : c.in-Some.option.now ≢ codes "--gen" = search rules in
    IsWordsFault-other c.args.words.now c.in-Some.option.now c.in-Some.operands.now
    c.in-Some.ensures.cases.0 second third c.in_default-read_alone.ensures.none

pub returns-then-not-is_empty-clause-fault : goal.returns-then-not-is_empty-clause-fault
returns-then-not-is_empty-clause-fault c =
    let some : 0 < length c.in-Some.operands.now = search rules in
    IsWordsFault-alone c.args.words.now c.in-Some.option.now c.in-Some.operands.now
    c.in-Some-read_alone.mode c.in-Some.ensures.cases.0 c.in-Some-read_alone.ensures.found some

pub returns-clause-mode : goal.returns-clause-mode
returns-clause-mode c =
    let last : length c.in-Some.operands.now ≡ 0 = search rules in
    IsWords-alone c.args.words.now c.in-Some.option.now c.in-Some.operands.now
    c.in-Some-read_alone.mode c.in-Some.ensures.cases.0 c.in-Some-read_alone.ensures.found last
