use Rattle.relay_desk.proofs.DeskLemmas.{new-stands, none-legal}
use Rattle.relay_desk.proofs.desk.Desk.new.Goals as goal

pub returns-clause-stands : goal.returns-clause-stands
returns-clause-stands g c =
    new-stands g.K.Keeper.rows g.K.Keeper.faults g.E.Entropy.draws g.E.Entropy.fault_count _
    c.of-register_then.ensures c.of-entropy_then.ensures

pub returns-clause-legal : goal.returns-clause-legal
returns-clause-legal g c = none-legal _
