use Rattle.std.proofs.Common.{◌≡◌, [], sym, ◌∙◌, append-nil}
use Rattle.lab_script.proofs.RelayLines.{IsRelayCommand-own}
use Rattle.lab_script.proofs.RelaySpelling.{SaysRelay-from_words, relay_nothing_left, words-from_SaysRelay}
use Rattle.lab_script.proofs.relay_grammar.parse_own.Goals as goal

pub returns-in_default-clause-none : goal.returns-in_default-clause-none
returns-in_default-clause-none c command own said =
    c.in_default.ensures command own
    (sym (words-from_SaysRelay c.args.line.now command said) ∙ sym c.new-words.ensures)

pub returns-then-is_empty-clause-found : goal.returns-then-is_empty-clause-found
returns-then-is_empty-clause-found c =
    let begins = c.in-Some.ensures in
    let left : c.read_own.new.words ≡ [] = c.is_empty.ensures.0 c.if-is_empty.true in
    SaysRelay-from_words c.args.line.now c.in-Some.command
    (IsRelayCommand-own c.in-Some.command begins.own)
    (sym c.new-words.ensures ∙ begins.spelled ∙ rw left (append-nil _))

pub returns-else-is_empty-clause-none : goal.returns-else-is_empty-clause-none
returns-else-is_empty-clause-none c command own said =
    let begins = c.in-Some.ensures in
    let none : c.read_own.new.words ≡ [] =
    relay_nothing_left c.in-Some.command command c.read_own.new.words
    (sym (words-from_SaysRelay c.args.line.now command said) ∙ sym c.new-words.ensures
    ∙ begins.spelled) in
    let taken = c.is_empty.ensures.1 none in
    absurd (cc (taken, c.if-is_empty.false))
