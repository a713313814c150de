use Rattle.std.proofs.Common.{◌≡◌, [], sym, ◌∙◌, append-nil}
use Rattle.lab_script.proofs.StreamLines.{IsStreamCommand-own}
use Rattle.lab_script.proofs.StreamSpelling.{SaysStream-from_words, stream_nothing_left, words-from_SaysStream}
use Rattle.lab_script.proofs.stream_grammar.parse_own.Goals as goal

pub returns-in_default-clause-none : goal.returns-in_default-clause-none
returns-in_default-clause-none c command own said =
    let none = rw c.in_default.is at c.in_ok-command.ensures in
    none command own
    (sym (words-from_SaysStream c.args.line.now command said) ∙ sym c.new-words.ensures)

pub returns-then-is_empty-clause-found : goal.returns-then-is_empty-clause-found
returns-then-is_empty-clause-found c =
    let begins = rw c.in-Some.is at c.in_ok-command.ensures in
    let left : c.read_own.new.words ≡ [] = c.is_empty.ensures.0 c.if-is_empty.true in
    SaysStream-from_words c.args.line.now c.in-Some.command
    (IsStreamCommand-own c.in-Some.command begins.own)
    (sym c.new-words.ensures ∙ begins.spelled ∙ rw left (append-nil _))

pub returns-else-is_empty-clause-none : goal.returns-else-is_empty-clause-none
returns-else-is_empty-clause-none c command own said =
    let begins = rw c.in-Some.is at c.in_ok-command.ensures in
    let none : c.read_own.new.words ≡ [] =
    stream_nothing_left c.in-Some.command command c.read_own.new.words
    (sym (words-from_SaysStream c.args.line.now command said) ∙ sym c.new-words.ensures
    ∙ begins.spelled) in
    let taken = c.is_empty.ensures.1 none in
    absurd (cc (taken, c.if-is_empty.false))
