use Rattle.std.proofs.Common.{◌+◌, arith}
use Rattle.receive_window.proofs.ItemLemmas.{above_next, length-between, numbers_differ}
use Rattle.receive_window.proofs.window.Window.held.Goals as goal

pub returns-clause-different : goal.returns-clause-different
returns-clause-different c =
    rw (← c.self.view_is) (numbers_differ c.self.inside.early.held c.len.ensures.sound.ascending)

pub returns-clause-few : goal.returns-clause-few
returns-clause-few c =
    let inside = c.self.inside in
    let early = inside.early in
    let ring = c.len.ensures.sound in
    let above = above_next early ring c.self.invariant.missing in
    let count = length-between early.held (early.base + 1) (early.base + early.capacity)
    ring.ascending
    (λ k d below. (
      let more = above k d below in omega arith,
      (ring.within k d below).1,
    )) in
    let has = c.len.ensures.value in
    let room = c.self.invariant.room in
    rw (← c.self.view_is) (omega arith)
