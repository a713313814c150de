use Rattle.std.proofs.Common.{arith}
use Rattle.relay_switch.proofs.QueueLemmas.{moved-or-not}
use Rattle.relay_switch.proofs.StepLemmas.{WaitsSame-lines}
use Rattle.relay_switch.proofs.lines.move_first.Goals as goal

pub returns-in_err-keep_line-clause-same : goal.returns-in_err-keep_line-clause-same
returns-in_err-keep_line-clause-same c = WaitsSame-lines _ _ _ c.keep_line.ensures.same

pub returns-clause-same : goal.returns-clause-same
returns-clause-same c =
    moved-or-not _ c.conn_of-conn.result c.args.lines.now.entries c.keep_line.new.lines.entries
    c.take_over.new.lines.entries c.args.added.now.items c.take_over.new.added.items
    c.index.result.now (omega (arith, c.requires, c.args.added.now.ok.0)) c.index.ensures c.conn_of-conn.ensures c.keep_line.ensures.same
    c.take_over.ensures.line c.take_over.ensures.rest
