use Rattle.std.proofs.Common.{◌≡◌, ◌≢◌, ℕ, ◌<◌, ◌^◌, decimal, length, ◌∙◌, arith, rules}
use Rattle.lab_cmd.proofs.GenWordLemmas.{IsWordsFault-beyond, IsWordsFault-gen, IsWordsFault-rounds, IsWordsFault-start, IsWordsFault-startless}
use Rattle.lab_cmd.proofs.words.read_generated.Goals as goal

pub returns-in_default-clause-fault : goal.returns-in_default-clause-fault
returns-in_default-clause-fault c =
    IsWordsFault-gen c.args.operands.now c.in_default.ensures.cases

pub returns-in_default-read_rounds-clause-fault : goal.returns-in_default-read_rounds-clause-fault
returns-in_default-read_rounds-clause-fault c =
    IsWordsFault-rounds c.args.operands.now c.in-Some.count.now c.in-Some.more.now
    c.in-Some.ensures.cases.0 c.in_default-read_rounds.ensures.none

pub returns-in_default-split_first-clause-fault : goal.returns-in_default-split_first-clause-fault
returns-in_default-split_first-clause-fault c =
    IsWordsFault-startless c.args.operands.now c.in-Some.count.now c.in-Some.more.now
    c.in-Some-read_rounds.rounds c.in-Some.ensures.cases.0 c.in-Some-read_rounds.ensures.found.0
    c.in-Some-read_rounds.ensures.found.1 c.in_default-split_first.ensures.cases

pub returns-in_default-read_number-clause-fault : goal.returns-in_default-read_number-clause-fault
returns-in_default-read_number-clause-fault c =
    let word : c.as_bytes.result.now ≡ c.in-Some-split_first.first.now = cc in
    let other : (n : ℕ) → n < 2 ^ 64 → decimal n ≢ c.in-Some-split_first.first.now =
    rw (← word) c.in_default-read_number.ensures.none in
    IsWordsFault-start c.args.operands.now c.in-Some.count.now c.in-Some.more.now
    c.in-Some-read_rounds.rounds c.in-Some-split_first.first.now c.in-Some-split_first.rest.now
    c.in-Some.ensures.cases.0 c.in-Some-read_rounds.ensures.found.0
    c.in-Some-read_rounds.ensures.found.1 c.in-Some-split_first.ensures.cases.0 other

pub returns-then-not-is_empty-clause-fault : goal.returns-then-not-is_empty-clause-fault
returns-then-not-is_empty-clause-fault c =
    let word : c.as_bytes.result.now ≡ c.in-Some-split_first.first.now = cc in
    let small : c.in-Some-read_number.start < 2 ^ 64 = omega arith in
    let some : 0 < length c.in-Some-split_first.rest.now = search rules in
    IsWordsFault-beyond c.args.operands.now c.in-Some.count.now c.in-Some.more.now
    c.in-Some-read_rounds.rounds c.in-Some-split_first.first.now c.in-Some-split_first.rest.now
    c.in-Some-read_number.start c.in-Some.ensures.cases.0 c.in-Some-read_rounds.ensures.found.0
    c.in-Some-read_rounds.ensures.found.1 c.in-Some-split_first.ensures.cases.0 small
    (c.in-Some-read_number.ensures.found ∙ word) some
