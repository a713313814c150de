use Rattle.std.proofs.Common.{◌≡◌, ℕ, List, [], ◌∷◌, ◌++◌, sym, ap, subst, ◌∙◌, append_assoc, append-nil}
use Rattle.std.proofs.lemmas.List.{nil_from_length}
use Rattle.std.proofs.lemmas.Result.{err_from_is_err_and}
use Rattle.std.specs.Vec.Iter.{into_iter_items}
use Rattle.lab_script.specs.declared.stream_command.StreamCommand.{StreamCommand}
use Rattle.lab_run.specs.Printing.{Prints, Stops, printout}
use Rattle.lab_streams.specs.Run.{past_of, stream_report, stream_run}
use Rattle.lab_streams.proofs.RunLemmas.{Runs-none, Runs-push, Runs-stops}
use Rattle.lab_run.proofs.WritingLemmas.{Prints-emptied, Prints-then, Stops-at}
use Rattle.lab_streams.proofs.script.run.Goals as goal

pub loop-command-init : goal.loop-command-init
loop-command-init g c =
    record {
      split = c.into_iter-command-iterator.ensures.into_iter_gives.0;
      runs = rw c.new-printer.ensures
          (Runs-none c.args.window c.in_ok-streams.streams _ c.in_ok-streams.ensures);
    }

pub loop-command-preserved : goal.loop-command-preserved
loop-command-preserved g c =
    let w = c.args.window in
    let xs : List StreamCommand = c.loop-command.yielded in
    let command = c.in-Some.command in
    let inv = c.loop-command.invariant in
    let past = past_of (stream_run w xs) in
    record {
      split =
          append_assoc xs (command ∷ []) (into_iter_items c.next.new.self)
          ∙ ap (λ (cs : List StreamCommand). xs ++ cs) (sym c.in-Some.ensures.steps.0)
          ∙ inv.split;
      runs =
          Runs-push w xs command c.loop-command.moment _ c.loop-command.line _ _ _ _ _ inv.runs
          c.in_ok-moment.ensures.moment
          (c.in_ok-moment.ensures.made past inv.runs.ends)
          (c.in_ok-moment.ensures.printed past inv.runs.ends);
    }

pub returns-in_err-moment : goal.returns-in_err-moment
returns-in_err-moment g c =
    let err =
    err_from_is_err_and c.from_residual-in_err-moment.result
    c.from_residual-in_err-moment.ensures.1 in
    let w = c.args.window in
    let xs : List StreamCommand = c.loop-command.yielded in
    let command = c.in-Some.command in
    let inv = c.loop-command.invariant in
    let rest = into_iter_items c.next.new.self in
    let split : (xs ++ command ∷ []) ++ rest ≡ c.args.commands.items =
    append_assoc xs (command ∷ []) rest
    ∙ ap (λ (cs : List StreamCommand). xs ++ cs) (sym c.in-Some.ensures.steps.0)
    ∙ inv.split in
    let at = printout g.K.Sink.output g.K.Sink.faults in
    let old = at [] c.args.sink.now in
    let new = at c.follow.new.printer c.follow.new.sink in
    let stops =
    Runs-stops w xs command rest c.loop-command.moment c.loop-command.line _ _ old _ new inv.runs
    (c.in_err-moment.ensures.printed (past_of (stream_run w xs)) inv.runs.ends) in
    let stop = c.in_err-moment.field-0.0 in
    let P : List StreamCommand → Type 0 = λ cs. Stops (stream_report (stream_run w cs)) stop old new in
    rw (err.1, err.2) (Stops-at _ stop old new [] (subst P split stops))

pub returns : goal.returns
returns g c =
    let w = c.args.window in
    let xs : List StreamCommand = c.loop-command.yielded in
    let inv = c.loop-command.invariant in
    let rest = c.loop-command.command-iterator.rest in
    let none : into_iter_items c.loop-command.command-iterator ≡ [] =
    nil_from_length rest.items (sym rest.ok.0 ∙ c.in-None.ensures.steps.0) in
    let all : xs ≡ c.args.commands.items =
    sym (append-nil xs) ∙ ap (λ (cs : List StreamCommand). xs ++ cs) (sym none) ∙ inv.split in
    let at = printout g.K.Sink.output g.K.Sink.faults in
    let old = at [] c.args.sink.now in
    let new = at c.flush.new.self c.flush.new.sink in
    let printed =
    Prints-then (stream_report (stream_run w xs)) [] c.flush.result old _ new inv.runs.printed
    c.flush.ensures.printed in
    let P : List ℕ → Type 0 = λ text. Prints text c.flush.result old new in
    rw (← all)
    (Prints-emptied (stream_report (stream_run w xs)) c.flush.result old new c.flush.ensures.emptied
    (subst P (append-nil (stream_report (stream_run w xs))) printed))

-- the link is one of which something may have happened
pub follow-requires-clause-stands : goal.follow-requires-clause-stands
follow-requires-clause-stands g c =
    let runs = c.loop-command.invariant.runs in
    (past_of (stream_run c.args.window c.loop-command.yielded), runs.ends.link)
