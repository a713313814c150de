use Rattle.relay_accept.proofs.HoldLemmas.{Holds-join}
use Rattle.relay_accept.proofs.EndLemmas.{conn_ended}
use Rattle.relay_accept.proofs.accepting.join_conn.Goals as goal

pub returns-clause-loses : goal.returns-clause-loses
returns-clause-loses g c before behind port seats count was so =
    Holds-join g.W.Spawner.faults seats count was port before behind _ _ _ _ c.requires.out.none_made
    (conn_ended _ _ _ _ c.requires.out.started c.join-done.ensures)
    c.absorb.ensures.desk c.absorb.ensures.switches c.absorb.ensures.end c.absorb.ensures.merges
    c.absorb.ensures.counted so
