use Rattle.std.proofs.Common.{◌≡◌, [], sym, ◌∙◌, append-nil}
use Rattle.lab_script.proofs.Spelling.{Says-from_words, nothing_left, words-from_Says}
use Rattle.lab_script.proofs.grammar.parse.Goals as goal

pub returns-in_default-clause-none : goal.returns-in_default-clause-none
returns-in_default-clause-none c said =
    let none = rw c.in_default.is at c.in_ok-command.ensures in
    none said.0 said.1.in_range
    (sym (words-from_Says c.args.line.now said.0 said.1) ∙ sym c.new-words.ensures)

pub returns-then-is_empty-clause-found : goal.returns-then-is_empty-clause-found
returns-then-is_empty-clause-found c =
    let begins = rw c.in-Some.is at c.in_ok-command.ensures in
    let left : c.read_command.new.words ≡ [] = c.is_empty.ensures.0 c.if-is_empty.true in
    Says-from_words c.args.line.now c.in-Some.command begins.in_range
    (sym c.new-words.ensures ∙ begins.spelled ∙ rw left (append-nil _))

pub returns-else-is_empty-clause-none : goal.returns-else-is_empty-clause-none
returns-else-is_empty-clause-none c said =
    let begins = rw c.in-Some.is at c.in_ok-command.ensures in
    let none : c.read_command.new.words ≡ [] =
    nothing_left c.in-Some.command said.0 c.read_command.new.words
    (sym (words-from_Says c.args.line.now said.0 said.1) ∙ sym c.new-words.ensures
    ∙ begins.spelled) in
    let taken = c.is_empty.ensures.1 none in
    absurd (cc (taken, c.if-is_empty.false))
