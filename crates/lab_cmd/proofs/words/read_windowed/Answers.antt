use Rattle.std.proofs.Common.{◌<◌, ◌≡◌, length, rules}
use Rattle.lab_cmd.proofs.WindowWordLemmas.{IsWords-task, IsWords-window, IsWordsFault-early, IsWordsFault-task, IsWordsFault-more, IsWordsFault-number}
use Rattle.lab_cmd.proofs.words.read_windowed.Goals as goal

pub returns-in_default-clause-fault : goal.returns-in_default-clause-fault
returns-in_default-clause-fault c =
    IsWordsFault-early c.args.operands.now c.in_default.ensures.cases

pub returns-in_default-read_window-clause-fault : goal.returns-in_default-read_window-clause-fault
returns-in_default-read_window-clause-fault c =
    IsWordsFault-number c.args.operands.now c.in-Some.number.now c.in-Some.more.now
    c.in-Some.ensures.cases.0 c.in_default-read_window.ensures.none

pub returns-in_default-split_first-clause-mode : goal.returns-in_default-split_first-clause-mode
returns-in_default-split_first-clause-mode c =
    IsWords-window c.in-Some-read_window.window c.args.operands.now c.in-Some.number.now
    c.in-Some.more.now c.in-Some.ensures.cases.0 c.in_default-split_first.ensures.cases
    c.in-Some-read_window.ensures.found.0 c.in-Some-read_window.ensures.found.1

pub returns-in_default-read_task-clause-fault : goal.returns-in_default-read_task-clause-fault
returns-in_default-read_task-clause-fault c =
    IsWordsFault-task c.args.operands.now c.in-Some.number.now c.in-Some.more.now
    c.in-Some-read_window.window c.in-Some-split_first.name.now c.in-Some-split_first.rest.now
    c.in-Some.ensures.cases.0 c.in-Some-read_window.ensures.found.0
    c.in-Some-read_window.ensures.found.1 c.in-Some-split_first.ensures.cases.0
    c.in_default-read_task.ensures.none

pub returns-then-not-is_empty-clause-fault : goal.returns-then-not-is_empty-clause-fault
returns-then-not-is_empty-clause-fault c =
    let some : 0 < length c.in-Some-split_first.rest.now = search rules in
    IsWordsFault-more c.args.operands.now c.in-Some.number.now c.in-Some.more.now
    c.in-Some-read_window.window c.in-Some-split_first.name.now c.in-Some-split_first.rest.now
    c.in-Some-read_task.task
    c.in-Some.ensures.cases.0 c.in-Some-read_window.ensures.found.0
    c.in-Some-read_window.ensures.found.1 c.in-Some-split_first.ensures.cases.0
    c.in-Some-read_task.ensures.found some

pub returns-clause-mode : goal.returns-clause-mode
returns-clause-mode c =
    let last : length c.in-Some-split_first.rest.now ≡ 0 = search rules in
    IsWords-task c.args.operands.now c.in-Some.number.now c.in-Some.more.now
    c.in-Some-read_window.window c.in-Some-split_first.name.now c.in-Some-split_first.rest.now
    c.in-Some-read_task.task
    c.in-Some.ensures.cases.0 c.in-Some-read_window.ensures.found.0
    c.in-Some-read_window.ensures.found.1 c.in-Some-split_first.ensures.cases.0
    c.in-Some-read_task.ensures.found last
