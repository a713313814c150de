use Rattle.std.proofs.Common.{take, map}
use Rattle.lab_script.specs.Appending.{spaced}
use Rattle.lab_script.specs.Report.{item_text}
use Rattle.lab_script.proofs.Appends.{Keeps-after, OnErr-from}
use Rattle.lab_script.proofs.report.push_items.Goals as goal

pub returns-in_err-push_item-clause-err : goal.returns-in_err-push_item-clause-err
returns-in_err-push_item-clause-err c =
    OnErr-from c.from_residual.result
    (Keeps-after c.args.out.now.items
    (spaced (map item_text (take c.loop-item.item-index c.args.items.now)))
    c.loop-item.out.items c.push_item.new.out.items c.loop-item.invariant
    c.in_err-push_item.ensures.err)
