use Rattle.std.proofs.Common.{rules, ap, ◌∙◌, ◌≡◌, true, arith}
use Rattle.turn_lock.specs.Stages.{is_idle}
use Rattle.turn_lock.proofs.TicketLemmas.{draws}
use Rattle.turn_lock.proofs.seat.TurnLock.draw.Goals as goal

pub compare_exchange-requires : goal.compare_exchange-requires
compare_exchange-requires g c =
    let idle : is_idle c.loop.inner.me.0.stage ≡ true = ap (λ m. is_idle m.0.stage) c.loop.invariant.seat
    ∙ c.requires.idle.0 in
    (search rules, search rules, draws g.V.Turn _ _ _ _ _ idle (omega arith))
