use Rattle.std.proofs.Common.{[], ◌∷◌, Some, ap, refl, sym, subst, ◌∙◌}
use Rattle.std.proofs.lemmas.Result.{err_from_is_err_and, on_ok_weaker}
use Rattle.lab_script.specs.declared.outcome.Outcome.{Outcome}
use Rattle.lab_script.specs.declared.verb.Verb.TheVariants as Verb
use Rattle.lab_script.specs.Report.{report_line}
use Rattle.lab_run.proofs.WritingLemmas.{Stops-unprinted}
use Rattle.smux_streams.specs.Call.{Outs}
use Rattle.lab_streams.specs.Ends.{IsStreams}
use Rattle.lab_streams.specs.Outcomes.{outcome_of_no_room}
use Rattle.lab_streams.specs.Run.{stream_report}
use Rattle.lab_streams.specs.Steps.{Past, StreamStep, put_step, refused_step, with_call}
use Rattle.lab_streams.proofs.PushLemmas.{push-empty, push-refused, pushes}
use Rattle.lab_streams.proofs.ReportLemmas.{report-once}
use Rattle.lab_streams.proofs.streams.Streams.push.Goals as goal

pub returns-then-look-eq0-clause-printed : goal.returns-then-look-eq0-clause-printed
returns-then-look-eq0-clause-printed g c w past is =
    let line = c.args.context.now.line in
    let side = c.args.side in
    let look = c.look-look.ensures w past.events is.pair in
    let refused = refused_step line side (outcome_of_no_room c.look-look.result) in
    let text =
    ap (λ (s : StreamStep). stream_report (s ∷ []))
    (push-refused w past c.args.context.now.moment line side c.args.most c.look-look.result look
    c.if-look-eq0.true)
    ∙ report-once refused line Verb.StreamPush (Some side) _ refl refl
    ∙ ap (λ (o : Outcome). report_line line Verb.StreamPush (Some side) o)
    (sym c.outcome_of_no_room-outcome.ensures) in
    rw text c.line.ensures

pub returns-in_err-bytes-clause-printed : goal.returns-in_err-bytes-clause-printed
returns-in_err-bytes-clause-printed g c w past is =
    let err = err_from_is_err_and c.from_residual.result c.from_residual.ensures.1 in
    rw (err.1, err.2) (Stops-unprinted _ _)

pub returns-then-is_empty-clause-printed : goal.returns-then-is_empty-clause-printed
returns-then-is_empty-clause-printed g c w past is =
    let now = c.args.context.now.moment in
    let line = c.args.context.now.line in
    let side = c.args.side in
    let look = c.look-look.ensures w past.events is.pair in
    let gives = c.in_ok-bytes.ensures.given past is.link in
    let none = sym c.is_empty.ensures ∙ c.if-is_empty.true in
    let empty = put_step w past now line side c.args.most [] in
    let text =
    ap (λ (s : StreamStep). stream_report (s ∷ []))
    (push-empty w past now line side c.args.most c.look-look.result _ look c.if-look-eq0.false
    gives.given none)
    ∙ report-once empty line Verb.StreamPush (Some side) _ refl refl in
    rw text c.line-then-is_empty.ensures

pub returns-clause-made : goal.returns-clause-made
returns-clause-made g c w past is =
    let now = c.args.context.now.moment in
    let line = c.args.context.now.line in
    let look = c.look-look.ensures w past.events is.pair in
    let gives = c.in_ok-bytes.ensures.given past is.link in
    let some = sym c.is_empty.ensures ∙ c.if-is_empty.false in
    let p =
    pushes w past now line c.args.side c.args.most c.look-look.result _ look c.if-look-eq0.false
    gives.given some in
    let given = with_call past c.args.side (Outs c.args.most (Some c.in_ok-bytes.bytes)) in
    let mid : IsStreams w given (record c.args.self.now { link = c.give_out.new.self }) =
    record { pair = is.pair; link = gives.made } in
    on_ok_weaker c.put.result
    (λ ends. subst (λ (q : Past). IsStreams w q c.put.new.self) (sym p.leaves) ends)
    (c.put.ensures.made w given mid)

pub returns-clause-printed : goal.returns-clause-printed
returns-clause-printed g c w past is =
    let now = c.args.context.now.moment in
    let line = c.args.context.now.line in
    let look = c.look-look.ensures w past.events is.pair in
    let gives = c.in_ok-bytes.ensures.given past is.link in
    let some = sym c.is_empty.ensures ∙ c.if-is_empty.false in
    let p =
    pushes w past now line c.args.side c.args.most c.look-look.result _ look c.if-look-eq0.false
    gives.given some in
    let given = with_call past c.args.side (Outs c.args.most (Some c.in_ok-bytes.bytes)) in
    let mid : IsStreams w given (record c.args.self.now { link = c.give_out.new.self }) =
    record { pair = is.pair; link = gives.made } in
    rw p.told (c.put.ensures.printed w given mid)
