use Rattle.std.proofs.lemmas.Result.{on_ok_weaker}
use Rattle.lab_run.specs.Steps.{step_of}
use Rattle.lab_run.proofs.RightLemmas.{IsOf-step_of}
use Rattle.lab_relay.proofs.SceneLemmas.{StandsFor-step}
use Rattle.lab_relay.proofs.relayed.Relayed.act.Goals as goal

pub returns : goal.returns
returns c w s stands =
    let now = c.args.context.now.moment in
    let line = c.args.context.now.line in
    let step = step_of w s.world now line c.args.side c.args.action in
    let of = IsOf-step_of w s.world now line c.args.side c.args.action in
    on_ok_weaker c.keep.result
    (StandsFor-step w s step c.args.self.now c.keep.new.self stands)
    (c.keep.ensures w s.world step of.at (c.in_ok-outcome.ensures w s.world stands.pair))
