use Rattle.std.proofs.Common.{[], ◌∷◌, refl, subst}
use Rattle.std.proofs.lemmas.Result.{err_from_is_err_and, on_ok_weaker}
use Rattle.lab_streams.specs.Ends.{IsStreams}
use Rattle.lab_streams.specs.Steps.{Past, after, feed_step, take_step}
use Rattle.lab_streams.proofs.PastLemmas.{after-then}
use Rattle.lab_streams.proofs.PushLemmas.{IsStreams-mux}
use Rattle.lab_streams.proofs.ReportLemmas.{Prints-steps, Stops-before}
use Rattle.lab_streams.proofs.StepLemmas.{report-called}
use Rattle.lab_streams.proofs.streams.Streams.take.Goals as goal

pub returns-in_err-line-clause-printed : goal.returns-in_err-line-clause-printed
returns-in_err-line-clause-printed g c w past is =
    let err = err_from_is_err_and c.from_residual-in_err-line.result
    c.from_residual-in_err-line.ensures.1 in
    let line = c.args.context.now.line in
    let s = take_step past line c.args.side c.args.sid c.args.most in
    let fed = feed_step (after past (s ∷ [])) line c.args.side in
    let text = report-called past s line _ _ _ _ refl (c.in_ok-outcome.ensures past line is.link) in
    rw (err.1, err.2) (Stops-before (s ∷ []) (fed ∷ []) _ _ _ (rw text c.in_err-line.ensures))

pub returns-clause-made : goal.returns-clause-made
returns-clause-made g c w past is =
    let line = c.args.context.now.line in
    let s = take_step past line c.args.side c.args.sid c.args.most in
    let one = after past (s ∷ []) in
    let fed = feed_step one line c.args.side in
    let taken = (c.in_ok-outcome.ensures past line is.link).made in
    on_ok_weaker c.feed.result
    (λ ends.
    subst (λ (p : Past). IsStreams w p c.feed.new.self) (after-then past (s ∷ []) (fed ∷ [])) ends)
    (c.feed.ensures.made w one (IsStreams-mux w past s c.args.self.now _ refl is taken))

pub returns-clause-printed : goal.returns-clause-printed
returns-clause-printed g c w past is =
    let line = c.args.context.now.line in
    let s = take_step past line c.args.side c.args.sid c.args.most in
    let one = after past (s ∷ []) in
    let fed = feed_step one line c.args.side in
    let outcome = c.in_ok-outcome.ensures past line is.link in
    let text = report-called past s line _ _ _ _ refl outcome in
    Prints-steps (s ∷ []) (fed ∷ []) c.feed.result _ _ _ (rw text c.in_ok-line.ensures)
    (c.feed.ensures.printed w one (IsStreams-mux w past s c.args.self.now _ refl is outcome.made))
