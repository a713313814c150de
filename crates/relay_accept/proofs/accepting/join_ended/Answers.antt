use Rattle.std.proofs.Common.{◌<◌, length, suc, ◌∙◌, subst, take, drop}
use Rattle.std.specs.List.{All}
use Rattle.relay_accept.specs.Accepting.{IsOut}
use Rattle.relay_accept.specs.Seats.{locks_in}
use Rattle.relay_accept.proofs.StepLemmas.{Steps-lose, Steps-none, Steps-then, out_at, out_in_place}
use Rattle.relay_accept.proofs.accepting.join_ended.Goals as goal

pub loop-init : goal.loop-init
loop-init g c port = Steps-none _ _ _ port c.args.conns.now.items c.args.acceptor.now c.requires.out

pub join_conn-requires-clause-desk : goal.join_conn-requires-clause-desk
join_conn-requires-clause-desk g c κs within = (c.loop.invariant 0).same_desk ∙ c.requires.desk

pub join_conn-requires-clause-switches : goal.join_conn-requires-clause-switches
join_conn-requires-clause-switches g c κs within =
    (c.loop.invariant 0).same_switches ∙ c.requires.switches

pub join_conn-requires-clause-out : goal.join_conn-requires-clause-out
join_conn-requires-clause-out g c κs within =
    let locks = locks_in c.args.ctx.now.switches.now in
    let place = c.in-Some-first_ended.place in
    let all = c.loop.conns.items in
    (out_at g.W.Spawner.faults c.args.ctx.now.desk.now locks (take place all) (drop (suc place) all)
    c.remove-conn.result
    (subst (All (IsOut g.W.Spawner.faults c.args.ctx.now.desk.now locks))
    (out_in_place g.W.Spawner.faults c.args.ctx.now.desk.now locks all place c.remove-conn.result
    (subst (λ l. place < length l) c.as_slice.ensures.value c.in-Some-first_ended.ensures)
    c.remove-conn.ensures.value)
    (c.loop.invariant 0).out)).1

pub loop-preserved : goal.loop-preserved
loop-preserved g c port =
    let place = c.in-Some-first_ended.place in
    let all = c.loop.conns.items in
    Steps-then _ _ _ port port port _ _ _ _ _ _ (c.loop.invariant port)
    (Steps-lose _ _ _ port (take place all) (drop (suc place) all) _ _ c.remove-conn.result _ _
    (out_in_place g.W.Spawner.faults c.args.ctx.now.desk.now
    (locks_in c.args.ctx.now.switches.now) all place c.remove-conn.result
    (subst (λ l. place < length l) c.as_slice.ensures.value c.in-Some-first_ended.ensures)
    c.remove-conn.ensures.value)
    c.remove-conn.ensures.items
    (c.loop.invariant port).out c.join_conn.ensures.desk c.join_conn.ensures.switches
    c.join_conn.ensures.loses)
