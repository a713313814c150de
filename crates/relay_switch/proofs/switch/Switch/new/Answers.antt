use Rattle.relay_switch.proofs.HistoryLemmas.{IsLegalSwitch-nil}
use Rattle.relay_switch.proofs.SwitchLemmas.{stands-nil}
use Rattle.relay_switch.proofs.switch.Switch.new.Goals as goal

pub returns-clause-stands : goal.returns-clause-stands
returns-clause-stands c =
    stands-nil _ c.new.ensures c.new-2.ensures.empty c.new-3.ensures.items c.new-4.ensures.empty

pub returns-clause-legal : goal.returns-clause-legal
returns-clause-legal c = IsLegalSwitch-nil
