use Rattle.std.proofs.Common.{refl, sym, ap, ◌∙◌}
use Rattle.relay_accept.specs.Seats.{locks_in}
use Rattle.relay_accept.proofs.StepLemmas.{Steps-refused, Steps-start}
use Rattle.relay_accept.proofs.accepting.start.Goals as goal

pub invariant_of-start : goal.invariant_of-start
invariant_of-start g c = record {
  unsent = c.requires.unsent;
  desk_seat =
      c.in-Ok-split.ensures.desk.same_lock
      ∙ c.requires.desk
      ∙ ap (λ l. l.table.shared.table_id) (sym c.again.ensures.desk);
  switch_seats =
      c.in-Ok-split.ensures.switches
      ∙ c.requires.switches
      ∙ ap locks_in (sym c.again.ensures.switches);
}

pub returns-in-Ok-start_conn : goal.returns-in-Ok-start_conn
returns-in-Ok-start_conn g c port =
    Steps-start g.W.Spawner.faults _ _ port c.args.conns.now.items _ c.in-Ok-start_conn.call
    c.of.result c.in-Ok.flag c.in-Ok-split.seats c.args.acceptor.now _ c.of.ensures
    c.push_reserved.ensures.items c.requires.out c.in-Ok-start_conn.ensures.started
    c.requires.desk c.requires.switches c.in-Ok-split.ensures.split c.in-Ok-split.ensures.desk
    c.split.ensures.same c.in-Ok-split.ensures.switches refl c.start_conn.ensures.counted

pub returns-in-Err : goal.returns-in-Err
returns-in-Err g c port =
    Steps-refused g.W.Spawner.faults _ _ port c.args.conns.now.items c.of.result
    c.in-Ok-split.seats c.args.acceptor.now
    (record c.args.acceptor.now { seats = c.split.new.self; spawner = c.start_conn.new.spawner })
    _ _ c.in-Err.done c.of.ensures c.requires.out
    c.in-Ok-split.ensures.split c.in-Ok-split.ensures.desk c.split.ensures.same refl
    c.in-Err.ensures.failed c.start_conn.ensures.counted c.in-Err.ensures.back
    c.absorb.ensures.desk c.absorb.ensures.switches c.absorb.ensures.end c.absorb.ensures.merges
    c.absorb.ensures.counted c.end_by-in-Err.ensures
