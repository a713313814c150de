use Rattle.std.proofs.Common.{◌≡◌, List, ap, subst, ◌∙◌}
use Rattle.std.specs.Prelude.{nat_lt, length}
use Rattle.std.proofs.lemmas.Result.{err_from_is_err_and}
use Rattle.chan_values.specs.declared.item.Item.{Item}
use Rattle.lab_run.specs.Outcomes.{is_emission}
use Rattle.lab_run.specs.Steps.{step_of}
use Rattle.lab_run.proofs.RightLemmas.{IsOf-step_of}
use Rattle.lab_run.proofs.WritingLemmas.{Stops-behind}
use Rattle.lab_streams.specs.Ends.{KeepsBytes}
use Rattle.lab_streams.specs.Outcomes.{items_in}
use Rattle.lab_streams.specs.Steps.{bytes_of}
use Rattle.lab_streams.proofs.PushLemmas.{IsStreams-end}
use Rattle.lab_streams.proofs.ReportLemmas.{report-end}
use Rattle.lab_streams.proofs.streams.Streams.end_step.Goals as goal

pub returns-in_err-line-clause-printed : goal.returns-in_err-line-clause-printed
returns-in_err-line-clause-printed g c w past is =
    let err = err_from_is_err_and c.from_residual-in_err-line.result
    c.from_residual-in_err-line.ensures.1 in
    let text =
    report-end w past.events c.args.context.now.moment c.args.context.now.line c.args.side
    c.args.action
    c.in_ok-outcome.outcome (c.in_ok-outcome.ensures w past.events is.pair).here.told in
    rw (err.1, err.2, text, ← c.verb-verb.ensures) c.in_err-line.ensures

pub returns-in_err-came-clause-printed : goal.returns-in_err-came-clause-printed
returns-in_err-came-clause-printed g c w past is =
    let err = err_from_is_err_and c.from_residual-in_err-came.result
    c.from_residual-in_err-came.ensures.1 in
    let text =
    report-end w past.events c.args.context.now.moment c.args.context.now.line c.args.side
    c.args.action
    c.in_ok-outcome.outcome (c.in_ok-outcome.ensures w past.events is.pair).here.told in
    rw (err.1, err.2, text, ← c.verb-verb.ensures) (Stops-behind _ _ _ c.in_ok-line.ensures)

pub returns-in_err-keep-clause-printed : goal.returns-in_err-keep-clause-printed
returns-in_err-keep-clause-printed g c w past is =
    let err = err_from_is_err_and c.from_residual-in_err-keep.result
    c.from_residual-in_err-keep.ensures.1 in
    let text =
    report-end w past.events c.args.context.now.moment c.args.context.now.line c.args.side
    c.args.action
    c.in_ok-outcome.outcome (c.in_ok-outcome.ensures w past.events is.pair).here.told in
    rw (err.1, err.2, text, ← c.verb-verb.ensures) (Stops-behind _ _ _ c.in_ok-line.ensures)

pub returns-clause-told : goal.returns-clause-told
returns-clause-told g c w past is =
    let told = (c.in_ok-outcome.ensures w past.events is.pair).here.told in
    let items = c.items_in.ensures ∙ ap items_in told in (
      c.is_emission-emitted.ensures ∙ ap is_emission told,
      c.in_ok-came.ensures.came
          ∙ ap (λ (l : List Item). nat_lt 0 (length (bytes_of l))) items,
    )

pub returns-clause-made : goal.returns-clause-made
returns-clause-made g c w past is =
    let now = c.args.context.now.moment in
    let line = c.args.context.now.line in
    let made = c.in_ok-outcome.ensures w past.events is.pair in
    let s = step_of w past.events now line c.args.side c.args.action in
    let of = IsOf-step_of w past.events now line c.args.side c.args.action in
    let items : c.items_in.result.now ≡ items_in s.outcome =
    c.items_in.ensures ∙ ap items_in made.here.told in
    IsStreams-end w past now line c.args.side c.args.action c.args.self.now _ is
    (c.in_ok-keep.ensures w past.events s of.at made)
    (subst
    (λ (l : List Item). KeepsBytes c.args.side (bytes_of l) c.args.self.now.link
    c.keep.new.self)
    items c.in_ok-came.ensures.kept)

pub returns-clause-printed : goal.returns-clause-printed
returns-clause-printed g c w past is =
    let text =
    report-end w past.events c.args.context.now.moment c.args.context.now.line c.args.side
    c.args.action
    c.in_ok-outcome.outcome (c.in_ok-outcome.ensures w past.events is.pair).here.told in
    rw (text, ← c.verb-verb.ensures) c.in_ok-line.ensures
