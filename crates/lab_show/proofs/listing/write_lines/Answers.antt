use Rattle.std.proofs.Common.{length, ap, arith}
use Rattle.std.proofs.lemmas.List.Sums.{sum_by_more_le}
use Rattle.std.proofs.lemmas.Result.{err_from_is_err_and}
use Rattle.agent_message.specs.Captures.{piece_length}
use Rattle.lab_show.proofs.ListingLemmas.{next_line, place-more}
use Rattle.lab_show.proofs.WritingLemmas.{WritesPart-nothing}
use Rattle.lab_show.proofs.listing.write_lines.Goals as goal

pub returns-in_err-push_line-clause-err : goal.returns-in_err-push_line-clause-err
returns-in_err-push_line-clause-err g c =
    let err = err_from_is_err_and c.from_residual.result c.from_residual.ensures.1 in
    rw err.1 (WritesPart-nothing _ _)

pub overflow_add-next-in-loop-message : goal.overflow_add-next-in-loop-message
overflow_add-next-in-loop-message g c =
    let a = c.loop-message.invariant in
    let within = sum_by_more_le piece_length c.args.messages.now c.loop-message.message-index
    c.message-item.result c.loop-message-test.true in
    let size = ap (λ m. length m.payload) c.message-item.is in
    omega (arith, c.len.ensures)

pub loop-message-preserved : goal.loop-message-preserved
loop-message-preserved g c =
    let a = c.loop-message.invariant in
    let i = c.loop-message.message-index in
    let m = c.message-item.result in
    let place =
    place-more c.args.messages.now i m c.loop-message-test.true c.message-item.is in (
      omega (arith, c.len.ensures),
      next_line c.args.at c.loop-message.next c.args.messages.now i m c.loop-message.lines.items
          c.push_line.new.out.items c.loop-message-test.true c.message-item.is a.1 a.0
          c.in_ok-push_line.ensures,
    )
