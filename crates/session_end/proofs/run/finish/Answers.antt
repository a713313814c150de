use Rattle.std.proofs.Common.{◌∙◌, ap}
use Rattle.turn_lock.specs.Histories.{entries_of}
use Rattle.session_end.proofs.run.finish.Goals as goal

pub returns-clause-closing : goal.returns-clause-closing
returns-clause-closing g c =
    let held = c.close_whole-held.ensures in
    let left = c.close_whole-left.ensures in
    record {
      all = c.join-main.result;
      closed = c.close.new.seat;
      shelf_all = c.join-shelf_main.result;
      joined = c.join-main.ensures;
      adds = c.close.ensures.calls;
      ends = c.close.ensures.last;
      legal = held.legal;
      seen = held.whole.seen_all;
      own = λ q. held.whole.own_all q ∙ ap (entries_of q) held.receipt.same_mine;
      shelf_joined = c.join-shelf_main.ensures;
      shelf_legal = left.legal;
      shelf_own = λ q. left.whole.own_all q ∙ ap (entries_of q) left.receipt.same_mine;
    }
