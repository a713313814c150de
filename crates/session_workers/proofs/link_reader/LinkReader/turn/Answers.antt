use Rattle.std.proofs.Common.{[], ◌∷◌, Some, ap, refl, sym}
use Rattle.std.specs.Prelude.{if◌then◌else◌}
use Rattle.session_workers.specs.declared.read_state.ReadEnd.{ReadEnd}
use Rattle.session_workers.specs.Reading.{looks}
use Rattle.session_run.proofs.AddsLemmas.{AddsCalls-none}
use Rattle.session_workers.proofs.ReaderLemmas.{DialsAll-none, ReceivesAll-none}
use Rattle.session_workers.proofs.ReaderRunLemmas.{Reads-one, Reads-then}
use Rattle.session_workers.proofs.WritingLemmas.{CountsFailures-none}
use Rattle.session_workers.proofs.link_reader.LinkReader.turn.Goals as goal

pub returns-then-seen : goal.returns-then-seen
returns-then-seen g c =
    let old = c.args.self.now in (
      looks c.look-seen.result ∷ [],
      c.if-seen.true,
      Reads-one _ _ _ _ _ _ _ (record {
        may = c.requires.on;
        state =
            ap (λ b. record old.state
            { over = if b then Some ReadEnd.Closed else old.state.over }) (sym c.if-seen.true);
        setting = refl;
        end = c.look-seen.ensures;
        shelf = AddsCalls-none _;
        dials = DialsAll-none _;
        arrivals = ReceivesAll-none _;
        missed = CountsFailures-none _;
        failed = CountsFailures-none _;
      }),
    )

pub returns-then-self : goal.returns-then-self
returns-then-self g c =
    let old = c.args.self.now in
    let mid = record old { end = c.look-seen.new.seat } in
    let step = c.receive.ensures in (
      looks c.look-seen.result ∷ step.0 ∷ [],
      c.if-seen.false,
      Reads-then _ _ _ _ old mid _ _ _ (Reads-one _ _ _ _ old mid _ (record {
        may = c.requires.on;
        state =
            ap (λ b. record old.state
            { over = if b then Some ReadEnd.Closed else old.state.over }) (sym c.if-seen.false);
        setting = refl;
        end = c.look-seen.ensures;
        shelf = AddsCalls-none _;
        dials = DialsAll-none _;
        arrivals = ReceivesAll-none _;
        missed = CountsFailures-none _;
        failed = CountsFailures-none _;
      })) (Reads-one _ _ _ _ _ _ _ step.1),
    )

pub returns-else-self : goal.returns-else-self
returns-else-self g c =
    let old = c.args.self.now in
    let mid = record old { end = c.look-seen.new.seat } in
    let step = c.dial.ensures in (
      looks c.look-seen.result ∷ step.0 ∷ [],
      c.if-seen.false,
      Reads-then _ _ _ _ old mid _ _ _ (Reads-one _ _ _ _ old mid _ (record {
        may = c.requires.on;
        state =
            ap (λ b. record old.state
            { over = if b then Some ReadEnd.Closed else old.state.over }) (sym c.if-seen.false);
        setting = refl;
        end = c.look-seen.ensures;
        shelf = AddsCalls-none _;
        dials = DialsAll-none _;
        arrivals = ReceivesAll-none _;
        missed = CountsFailures-none _;
        failed = CountsFailures-none _;
      })) (Reads-one _ _ _ _ _ _ _ step.1),
    )
