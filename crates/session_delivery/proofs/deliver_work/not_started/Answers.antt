use Rattle.std.proofs.Common.{refl}
use Rattle.session_delivery.proofs.DoneLemmas.{IsDelivery-none}
use Rattle.session_delivery.proofs.deliver_work.not_started.Goals as goal

pub returns-clause-did : goal.returns-clause-did
returns-clause-did g c =
    IsDelivery-none _ _ _ _ _ _ _ _ _ c.requires.new c.requires.none_out refl refl refl refl refl
