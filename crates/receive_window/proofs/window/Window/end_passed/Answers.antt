use Rattle.std.proofs.Common.{◌≡◌, ◌+◌, ◌<◌, ◌∙◌, false, arith, sym}
use Rattle.receive_window.specs.Window.{is_below}
use Rattle.receive_window.proofs.EndLemmas.{not_past_end}
use Rattle.receive_window.proofs.ItemLemmas.{numbers-found}
use Rattle.receive_window.proofs.window.Window.end_passed.Goals as goal

pub returns-else-above-beyond : goal.returns-else-above-beyond
returns-else-above-beyond c m =
    let inside = c.self.inside in
    let early = inside.early in
    let room = c.self.invariant.room in
    let base = c.base.ensures.value in
    let apart : is_below inside.last c.args.seq ≡ false =
    sym c.is_below.ensures ∙ c.if-is_below.false in (
      (λ is. cc),
      (λ past. absurd (not_past_end c.args.self.now c.args.seq c.args.last m
          c.requires.from
          (rw (← c.self.view_is) apart)
          (rw (← c.self.view_is) (λ k low high. c.next_taken-above.ensures.passed k low
          (let end = c.if-above-beyond.false in omega arith)))
          (rw (← c.self.view_is) (λ k some.
          numbers-found (λ n. n < early.base + inside.window) early.held k
          (λ j d below. let in_ring = (c.base.ensures.sound.within j d below).1 in omega arith) some))
          past)),
    )
