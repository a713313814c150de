use Rattle.std.proofs.Common.{eq-eqb, sym, ◌∙◌}
use Rattle.relay_switch.proofs.QueueLemmas.{found-here}
use Rattle.relay_switch.proofs.lines.index_to.Goals as goal

pub returns-then-conn_of-conn-clause-out : goal.returns-then-conn_of-conn-clause-out
returns-then-conn_of-conn-clause-out c =
    (found-here c.args.added.now c.args.conn c.loop-index.index c.index-added-index.result
    c.loop-index-test.true c.index-added-index.is
    (eq-eqb _ _ (sym c.conn_of.ensures ∙ c.if-conn_of-conn.true))
    c.loop-index.invariant.without c.loop-index.invariant.first).0

pub returns-then-conn_of-conn-clause-first : goal.returns-then-conn_of-conn-clause-first
returns-then-conn_of-conn-clause-first c =
    (found-here c.args.added.now c.args.conn c.loop-index.index c.index-added-index.result
    c.loop-index-test.true c.index-added-index.is
    (eq-eqb _ _ (sym c.conn_of.ensures ∙ c.if-conn_of-conn.true))
    c.loop-index.invariant.without c.loop-index.invariant.first).1
