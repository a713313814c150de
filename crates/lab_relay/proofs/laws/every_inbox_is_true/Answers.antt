use Rattle.lab_relay.proofs.TrueLemmas.{inboxes_are_true}
use Rattle.lab_relay.proofs.laws.every_inbox_is_true.Goals as goal

pub returns : goal.returns
returns c = inboxes_are_true
