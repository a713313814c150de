use Rattle.std.proofs.Common.{rules, ◌∷◌, sym, ap, ◌∙◌, Some}
use Rattle.atomic_table.specs.Table.{rest}
use Rattle.turn_lock.proofs.seat.TurnLock.begin.Goals as goal

pub exchange-requires : goal.exchange-requires
exchange-requires g c = let x = c.wait.ensures.turn.4 in
    (search rules, (Some x.0, x.1 ∙ (λ i. (0, Some x.0) ∷ sym (ap rest x.1) i)))
