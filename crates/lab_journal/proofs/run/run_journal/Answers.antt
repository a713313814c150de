use Rattle.std.proofs.Common.{◌≡◌, ℕ, ◌+◌, List, [], ◌∷◌, ◌++◌, refl, sym, ap, subst, ◌∙◌, append_assoc, append-nil}
use Rattle.std.proofs.lemmas.List.{nil_from_length}
use Rattle.std.proofs.lemmas.Result.{err_from_is_err_and}
use Rattle.std.specs.Vec.Iter.{into_iter_items}
use Rattle.lab_script.specs.declared.command.Command.{Command}
use Rattle.lab_run.specs.Printing.{Prints, Stops, printout}
use Rattle.lab_run.specs.Run.{run}
use Rattle.lab_run.specs.Steps.{world_of}
use Rattle.lab_run.proofs.WritingLemmas.{Prints-emptied, Prints-then, Stops-at}
use Rattle.lab_journal.specs.Records.{journal_of}
use Rattle.lab_journal.proofs.RunLemmas.{Runs-none, Runs-push, Runs-stops, Stops-first, Stops-second}
use Rattle.lab_journal.proofs.run.run_journal.Goals as goal

pub returns-in_err-add : goal.returns-in_err-add
returns-in_err-add g c =
    let err =
    err_from_is_err_and c.from_residual-in_err-add.result c.from_residual-in_err-add.ensures.1 in
    let at = printout g.K.Sink.output g.K.Sink.faults in
    let old = at [] c.args.sink.now in
    rw (err.1, err.2)
    (Stops-at _ _ old _ []
    (Stops-first c.args.window c.args.commands.items _ old _
    (rw c.new-2.ensures at c.in_err-add.ensures)))

pub returns-in_err-add-2 : goal.returns-in_err-add-2
returns-in_err-add-2 g c =
    let err =
    err_from_is_err_and c.from_residual-in_err-add-2.result c.from_residual-in_err-add-2.ensures.1
    in
    let at = printout g.K.Sink.output g.K.Sink.faults in
    let old = at [] c.args.sink.now in
    rw (err.1, err.2)
    (Stops-at _ _ old _ []
    (Stops-second c.args.window c.args.commands.items _ old _ _
    (rw c.new-2.ensures at c.in_ok-add.ensures) c.in_err-add-2.ensures))

pub loop-command-init : goal.loop-command-init
loop-command-init g c =
    let at = printout g.K.Sink.output g.K.Sink.faults in
    record {
      split = c.into_iter-command-iterator.ensures.into_iter_gives.0;
      runs =
          Runs-none c.args.window c.in_ok-new.field-0 (at [] c.args.sink.now) _ _
          c.in_ok-new.ensures (rw c.new-2.ensures at c.in_ok-add.ensures)
          c.in_ok-add-2.ensures;
    }

pub loop-command-preserved : goal.loop-command-preserved
loop-command-preserved g c =
    let w = c.args.window in
    let xs : List Command = c.loop-command.yielded in
    let command = c.in-Some.command in
    let inv = c.loop-command.invariant in
    let world = world_of (run w xs) in
    let made = c.in_ok-moment.ensures.recorded world inv.runs.ends in
    record {
      split =
          append_assoc xs (command ∷ []) (into_iter_items c.next.new.self)
          ∙ ap (λ (cs : List Command). xs ++ cs) (sym c.in-Some.ensures.steps.0)
          ∙ inv.split;
      runs =
          Runs-push w xs command c.loop-command.moment _ c.loop-command.line _ _ _ _ _ inv.runs
          c.in_ok-moment.ensures.moment made.0 made.1;
    }

pub returns-in_err-moment : goal.returns-in_err-moment
returns-in_err-moment g c =
    let err =
    err_from_is_err_and c.from_residual-in_err-moment.result
    c.from_residual-in_err-moment.ensures.1 in
    let w = c.args.window in
    let xs : List Command = c.loop-command.yielded in
    let command = c.in-Some.command in
    let inv = c.loop-command.invariant in
    let rest = into_iter_items c.next.new.self in
    let split : (xs ++ command ∷ []) ++ rest ≡ c.args.commands.items =
    append_assoc xs (command ∷ []) rest
    ∙ ap (λ (cs : List Command). xs ++ cs) (sym c.in-Some.ensures.steps.0)
    ∙ inv.split in
    let at = printout g.K.Sink.output g.K.Sink.faults in
    let old = at [] c.args.sink.now in
    let new = at c.follow.new.self.writer c.follow.new.sink in
    let stops =
    Runs-stops w xs command rest c.loop-command.moment c.loop-command.line _ _ old _ new inv.runs
    (c.in_err-moment.ensures.recorded (world_of (run w xs)) inv.runs.ends) in
    let stop = c.in_err-moment.field-0.0 in
    let P : List Command → Type 0 = λ cs. Stops (journal_of w cs) stop old new in
    rw (err.1, err.2) (Stops-at _ stop old new [] (subst P split stops))

pub returns : goal.returns
returns g c =
    let w = c.args.window in
    let xs : List Command = c.loop-command.yielded in
    let inv = c.loop-command.invariant in
    let rest = c.loop-command.command-iterator.rest in
    let none : into_iter_items c.loop-command.command-iterator ≡ [] =
    nil_from_length rest.items (sym rest.ok.0 ∙ c.in-None.ensures.steps.0) in
    let all : xs ≡ c.args.commands.items =
    sym (append-nil xs) ∙ ap (λ (cs : List Command). xs ++ cs) (sym none) ∙ inv.split in
    let at = printout g.K.Sink.output g.K.Sink.faults in
    let old = at [] c.args.sink.now in
    let new = at c.flush.new.self c.flush.new.sink in
    let written =
    Prints-then (journal_of w xs) [] c.flush.result old _ new inv.runs.written
    c.flush.ensures.written in
    let P : List ℕ → Type 0 = λ text. Prints text c.flush.result old new in
    rw (← all)
    (Prints-emptied (journal_of w xs) c.flush.result old new c.flush.ensures.emptied
    (subst P (append-nil (journal_of w xs)) written))
