use Rattle.relay_switch.proofs.KindLemmas.{switch_kind}
use Rattle.relay_switch.proofs.switch_seat.call_switch.Goals as goal

pub returns-clause-kind : goal.returns-clause-kind
returns-clause-kind g c = switch_kind _ _ _ _ _ c.act.ensures.entry.seen c.act.ensures.legal
