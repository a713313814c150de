use Rattle.relay_switch.proofs.QueueLemmas.{takes-added, takes-line}
use Rattle.relay_switch.proofs.lines.take_first.Goals as goal

pub returns-in-Some : goal.returns-in-Some
returns-in-Some c =
    takes-line c.args.conn _ _ c.args.added.now.items c.pop_line.ensures.rest _
    c.in-Some.ensures.first

pub returns-in-None : goal.returns-in-None
returns-in-None c =
    takes-added c.args.conn _ _ c.args.added.now.items c.pop_line.ensures.rest _ _
    c.in-None.ensures.first c.take_added.ensures.first c.take_added.ensures.rest
