use Rattle.std.proofs.Common.{sym, ◌∙◌}
use Rattle.std.proofs.lemmas.Result.{err_from_is_err_and}
use Rattle.lab_run.proofs.RightLemmas.{IsOf-step_of}
use Rattle.lab_streams.proofs.StepLemmas.{adds-none, adds-some, came_none, came_some, made-none, made-some, stops-plain, stops-some}
use Rattle.lab_streams.proofs.streams.Streams.step.Goals as goal

pub returns-in_err-done-clause-printed : goal.returns-in_err-done-clause-printed
returns-in_err-done-clause-printed g c w past is =
    let err = err_from_is_err_and c.from_residual.result c.from_residual.ensures.1 in
    rw (err.1, err.2) (stops-plain past _ _ _ _ (c.in_err-done.ensures.printed w past is))

-- nothing came
pub returns-then-not-done-clause-made : goal.returns-then-not-done-clause-made
returns-then-not-done-clause-made g c w past is =
    let told = (c.in_ok-done.ensures.told w past is).1 in
    let none = came_none c.in_ok-done.done.came c.if-not-done.true in
    made-none w past _ _ (sym told ∙ none) (c.in_ok-done.ensures.made w past is)

pub returns-then-not-done-clause-printed : goal.returns-then-not-done-clause-printed
returns-then-not-done-clause-printed g c w past is =
    let told = (c.in_ok-done.ensures.told w past is).1 in
    let none = came_none c.in_ok-done.done.came c.if-not-done.true in
    adds-none past _ _ _ (sym told ∙ none) (c.in_ok-done.ensures.printed w past is)

-- the feed could not be done or told
pub returns-in_err-feed-clause-printed : goal.returns-in_err-feed-clause-printed
returns-in_err-feed-clause-printed g c w past is =
    let err = err_from_is_err_and c.from_residual-in_err-feed.result
    c.from_residual-in_err-feed.ensures.1 in
    let of = IsOf-step_of w past.events c.args.context.now.moment c.args.context.now.line
    c.args.side c.args.action in
    let told = (c.in_ok-done.ensures.told w past is).1 in
    let some = came_some c.in_ok-done.done.came c.if-not-done.false in
    rw (err.1, err.2)
    (stops-some past _ _ _ _ _ _ _ of.number of.at (sym told ∙ some)
    (c.in_ok-done.ensures.printed w past is)
    (c.in_err-feed.ensures.printed w _ (c.in_ok-done.ensures.made w past is)))

pub returns-clause-made : goal.returns-clause-made
returns-clause-made g c w past is =
    let of = IsOf-step_of w past.events c.args.context.now.moment c.args.context.now.line
    c.args.side c.args.action in
    let told = (c.in_ok-done.ensures.told w past is).1 in
    let some = came_some c.in_ok-done.done.came c.if-not-done.false in
    made-some w past _ _ _ _ of.number of.at (sym told ∙ some)
    (c.in_ok-feed.ensures.made w _ (c.in_ok-done.ensures.made w past is))

pub returns-clause-printed : goal.returns-clause-printed
returns-clause-printed g c w past is =
    let of = IsOf-step_of w past.events c.args.context.now.moment c.args.context.now.line
    c.args.side c.args.action in
    let told = (c.in_ok-done.ensures.told w past is).1 in
    let some = came_some c.in_ok-done.done.came c.if-not-done.false in
    adds-some past _ _ _ _ _ _ of.number of.at (sym told ∙ some)
    (c.in_ok-done.ensures.printed w past is)
    (c.in_ok-feed.ensures.printed w _ (c.in_ok-done.ensures.made w past is))
