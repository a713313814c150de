use Rattle.std.proofs.Common.{ℕ, List, sym, subst}
use Rattle.chan_values.specs.declared.side.Side.TheVariants.{Plugin, Agent}
use Rattle.lab_relay.specs.Held.{IsHeardAs}
use Rattle.lab_relay.proofs.HeardLemmas.{Leaves-taken}
use Rattle.lab_relay.proofs.verbs.take.Goals as goal

pub returns-in-Plugin : goal.returns-in-Plugin
returns-in-Plugin c w s stands =
    let found = rw c.in-Plugin.is at c.in-Some.ensures in
    rw c.in-Plugin.is
    (Leaves-taken w s c.args.context.now.line c.args.context.now.moment Plugin c.args.which
    c.args.relayed.now _ c.hear.result c.in-Some.bytes.now stands found
    (λ k says is.
    c.hear.ensures k says
    (subst (λ (b : List ℕ). IsHeardAs Plugin b says) (sym c.as_slice-bytes.ensures) is)))

pub returns-in-Agent : goal.returns-in-Agent
returns-in-Agent c w s stands =
    let found = rw c.in-Agent.is at c.in-Some.ensures in
    rw c.in-Agent.is
    (Leaves-taken w s c.args.context.now.line c.args.context.now.moment Agent c.args.which
    c.args.relayed.now _ c.hear-in-Agent.result c.in-Some.bytes.now stands found
    (λ k says is.
    c.hear-in-Agent.ensures k says
    (subst (λ (b : List ℕ). IsHeardAs Agent b says) (sym c.as_slice-bytes.ensures) is)))
