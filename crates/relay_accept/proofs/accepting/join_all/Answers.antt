use Rattle.std.proofs.Common.{[], ◌-◌, sym, ap, ◌∙◌, subst, take}
use Rattle.std.proofs.lemmas.List.{append-nil}
use Rattle.relay_accept.specs.Accepting.{Steps}
use Rattle.relay_accept.specs.Seats.{locks_in}
use Rattle.relay_accept.proofs.StepLemmas.{Steps-lose, Steps-none, Steps-then, out_at}
use Rattle.std.specs.List.{All}
use Rattle.relay_accept.specs.Accepting.{IsOut}
use Rattle.relay_accept.proofs.accepting.join_all.Goals as goal

pub loop-init : goal.loop-init
loop-init g c port = Steps-none _ _ _ port c.args.conns.items c.args.acceptor.now c.requires.out

pub join_conn-requires-clause-desk : goal.join_conn-requires-clause-desk
join_conn-requires-clause-desk g c κs within = (c.loop.invariant 0).same_desk ∙ c.requires.desk

pub join_conn-requires-clause-switches : goal.join_conn-requires-clause-switches
join_conn-requires-clause-switches g c κs within =
    (c.loop.invariant 0).same_switches ∙ c.requires.switches

pub join_conn-requires-clause-out : goal.join_conn-requires-clause-out
join_conn-requires-clause-out g c κs within =
    (out_at g.W.Spawner.faults c.args.ctx.now.desk.now (locks_in c.args.ctx.now.switches.now)
    c.pop.new.self.items [] c.in-Some-pop.conn
    (subst
    (All (IsOut g.W.Spawner.faults c.args.ctx.now.desk.now (locks_in c.args.ctx.now.switches.now)))
    c.in-Some-pop.ensures.items (c.loop.invariant 0).out)).1

pub loop-preserved : goal.loop-preserved
loop-preserved g c port =
    Steps-then _ _ _ port port port _ _ _ _ _ _ (c.loop.invariant port)
    (Steps-lose _ _ _ port c.pop.new.self.items [] _ _ c.in-Some-pop.conn _ _
    c.in-Some-pop.ensures.items (sym (append-nil c.pop.new.self.items))
    (c.loop.invariant port).out c.join_conn.ensures.desk c.join_conn.ensures.switches
    c.join_conn.ensures.loses)

pub returns-in-None-pop : goal.returns-in-None-pop
returns-in-None-pop g c port =
    subst
    (λ l. Steps g.W.Spawner.faults c.args.ctx.now.desk.now (locks_in c.args.ctx.now.switches.now)
    port port c.args.conns.items l c.args.acceptor.now c.loop.acceptor)
    (c.in-None-pop.ensures.items
    ∙ append-nil c.pop.new.self.items
    ∙ c.in-None-pop.ensures.rest
    ∙ ap (λ n. take (n - 1) c.loop.conns.items) c.in-None-pop.ensures.cases.0) (c.loop.invariant port)
