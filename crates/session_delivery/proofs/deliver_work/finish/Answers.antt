use Rattle.std.proofs.Common.{ℕ, ◌∙◌}
use Rattle.session_delivery.proofs.DoneLemmas.{IsDelivery-of, back_order, left_order}
use Rattle.session_delivery.proofs.deliver_work.finish.Goals as goal

pub leave-done-requires-after_bounds : goal.leave-done-requires-after_bounds
leave-done-requires-after_bounds g c κs within =
    let so = c.requires.serving.4 in
    (c.requires.serving.1, c.requires.serving.2, _, _, _, so.crew)

pub give_back-requires-after_bounds : goal.give_back-requires-after_bounds
give_back-requires-after_bounds g c κs within =
    let so = c.requires.serving.4 in
    let l = c.leave-done.ensures.joins _ _ _ _ _ so.crew so.cause in
    let j = c.gather-end.ensures.joins _ _ l.1 in (
      _,
      back_order _ _ _ _ _ _ _ _ _ _ _ _ _ _ so _ _ j.1,
    )

pub give_back_left-requires-after_bounds : goal.give_back_left-requires-after_bounds
give_back_left-requires-after_bounds g c κs within =
    let so = c.requires.serving.4 in
    let l = c.leave-done.ensures.joins _ _ _ _ _ so.crew so.cause in
    let j = c.gather-end.ensures.joins _ _ l.1 in (
      (λ (q : ℕ). 0),
      left_order _ _ _ _ _ _ _ _ _ _ _ _ _ _ so _ _ c.leave-done.ensures.left
          (c.give_back.ensures.out _ (back_order _ _ _ _ _ _ _ _ _ _ _ _ _ _ so _ _ j.1)),
    )

pub returns : goal.returns
returns g c session0 end0 shelf0 steps so =
    let l = c.leave-done.ensures.joins _ _ _ _ _ so.crew so.cause in
    let j = c.gather-end.ensures.joins _ _ l.1 in
    let out_is = c.give_back.ensures.out _
    (back_order _ _ _ _ _ _ _ _ _ _ _ _ _ _ so _ _ j.1) in
    IsDelivery-of _ _ _ _ _ _ _ _ session0 end0 shelf0 steps _ _ so _ _ _ _ _ j.1
    c.leave-done.ensures.left c.give_back.ensures.stands c.give_back_left.ensures.stands _
    c.ended-ended.ensures c.requires.last (c.gather-end.ensures.started ∙ c.leave-done.ensures.started)
    (c.give_back_left.ensures.out (λ q. 0)
    (left_order _ _ _ _ _ _ _ _ _ _ _ _ _ _ so _ _ c.leave-done.ensures.left out_is))
    (c.give_back_left.ensures.begun ∙ c.give_back.ensures.begun)
    (c.give_back_left.ensures.refused ∙ c.give_back.ensures.refused)
