use Rattle.relay_desk.proofs.KindLemmas.{desk_kind}
use Rattle.relay_desk.proofs.desk_seat.call_desk.Goals as goal

pub returns-clause-kind : goal.returns-clause-kind
returns-clause-kind g c = desk_kind _ _ _ _ _ _ c.act.ensures.entry.seen c.act.ensures.legal
