use Rattle.std.proofs.Common.{refl}
use Rattle.relay_accept.proofs.AskedLemmas.{Steps-asked, Steps-asked-end}
use Rattle.relay_accept.proofs.accept.over_if.Goals as goal

pub returns-in-Some : goal.returns-in-Some
returns-in-Some g c port =
    Steps-asked-end g.W.Spawner.faults _ _ port c.args.conns.now c.in-Some.ensures.0 _
    c.args.acceptor.now _ _ c.requires.out c.in-Some.ensures.1.adds refl refl refl
    c.in-Some.ensures.1.ends c.end_by.ensures

pub returns-in-None : goal.returns-in-None
returns-in-None g c port =
    Steps-asked g.W.Spawner.faults _ _ port c.args.conns.now c.all_ended.ensures.0
    c.args.acceptor.now _ c.requires.out c.all_ended.ensures.1.adds refl refl refl
