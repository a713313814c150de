use Rattle.session_audit.proofs.OrderLemmas.{order_is_free}
use Rattle.session_audit.proofs.laws.order_is_free.Goals as goal

pub returns : goal.returns
returns c = order_is_free
