use Rattle.std.proofs.Common.{◌≡◌, ℕ, List, ◌∷◌, ap, subst, ◌∙◌}
use Rattle.std.proofs.lemmas.Result.{err_from_is_err_and}
use Rattle.session_audit.specs.Journal.{framed, letter}
use Rattle.relay_core.specs.Messages.{closing, pause, start}
use Rattle.lab_relay.specs.Scene.{lab}
use Rattle.lab_run.specs.Printing.{Prints, printout}
use Rattle.lab_run.specs.Steps.{id_of}
use Rattle.lab_run.proofs.WritingLemmas.{Stops-unprinted}
use Rattle.lab_journal.proofs.TextLemmas.{Prints-one}
use Rattle.lab_journal.proofs.recorder.Recorder.record.Goals as goal

pub returns-in_ok-bytes-in-Pause-clause-recorded : goal.returns-in_ok-bytes-in-Pause-clause-recorded
returns-in_ok-bytes-in-Pause-clause-recorded g c =
    let at = printout g.K.Sink.output g.K.Sink.faults in
    let moment = c.args.context.now.moment in
    let message : c.deref.result.now ≡ pause (id_of c.args.context.now.line) moment =
    c.deref.ensures.value
    ∙ c.in_ok-bytes-in-Pause.ensures
    ∙ ap (λ (id : List ℕ). pause id moment) c.line_id.ensures in
    let P : List ℕ → Type 0 =
    λ m. Prints (framed (letter c.args.side ∷ 1 ∷ m)) c.add.result
    (at c.args.self.now.writer c.args.sink.now) (at c.add.new.self c.add.new.sink) in
    rw c.in-Pause.is
    (Prints-one (letter c.args.side ∷ 1 ∷ pause (id_of c.args.context.now.line) moment) c.add.result
    (at c.args.self.now.writer c.args.sink.now) (at c.add.new.self c.add.new.sink)
    (subst P message c.add.ensures))

pub returns-in_ok-bytes-in-Start-clause-recorded : goal.returns-in_ok-bytes-in-Start-clause-recorded
returns-in_ok-bytes-in-Start-clause-recorded g c =
    let at = printout g.K.Sink.output g.K.Sink.faults in
    let moment = c.args.context.now.moment in
    let message : c.deref-in-Start.result.now ≡ start (id_of c.args.context.now.line) moment =
    c.deref-in-Start.ensures.value
    ∙ c.in_ok-bytes-in-Start.ensures
    ∙ ap (λ (id : List ℕ). start id moment) c.line_id.ensures in
    let P : List ℕ → Type 0 =
    λ m. Prints (framed (letter c.args.side ∷ 1 ∷ m)) c.add-in-Start.result
    (at c.args.self.now.writer c.args.sink.now) (at c.add-in-Start.new.self c.add-in-Start.new.sink) in
    rw c.in-Start.is
    (Prints-one (letter c.args.side ∷ 1 ∷ start (id_of c.args.context.now.line) moment) c.add-in-Start.result
    (at c.args.self.now.writer c.args.sink.now) (at c.add-in-Start.new.self c.add-in-Start.new.sink)
    (subst P message c.add-in-Start.ensures))

pub returns-in_ok-bytes-in-End-clause-recorded : goal.returns-in_ok-bytes-in-End-clause-recorded
returns-in_ok-bytes-in-End-clause-recorded g c =
    let at = printout g.K.Sink.output g.K.Sink.faults in
    let moment = c.args.context.now.moment in
    let message : c.deref-in-End.result.now ≡ closing lab (id_of c.args.context.now.line) moment =
    c.deref-in-End.ensures.value
    ∙ c.in_ok-bytes-in-End.ensures
    ∙ ap (λ (id : List ℕ). closing lab id moment) c.line_id.ensures in
    let P : List ℕ → Type 0 =
    λ m. Prints (framed (letter c.args.side ∷ 1 ∷ m)) c.add-in-End.result
    (at c.args.self.now.writer c.args.sink.now) (at c.add-in-End.new.self c.add-in-End.new.sink) in
    rw c.in-End.is
    (Prints-one (letter c.args.side ∷ 1 ∷ closing lab (id_of c.args.context.now.line) moment) c.add-in-End.result
    (at c.args.self.now.writer c.args.sink.now) (at c.add-in-End.new.self c.add-in-End.new.sink)
    (subst P message c.add-in-End.ensures))

pub returns-in_err-bytes-in-End-clause-recorded : goal.returns-in_err-bytes-in-End-clause-recorded
returns-in_err-bytes-in-End-clause-recorded g c =
    let err = err_from_is_err_and c.from_residual-in_err-bytes-in-End.result
    c.from_residual-in_err-bytes-in-End.ensures.1 in
    rw (err.1, err.2) (Stops-unprinted _ _)
