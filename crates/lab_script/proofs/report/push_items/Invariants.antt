use Rattle.std.proofs.Common.{◌≡◌, ◌++◌, take, map}
use Rattle.lab_script.specs.Appending.{spaced}
use Rattle.lab_script.specs.Report.{item_text}
use Rattle.lab_script.proofs.report.push_items.Given as goal

abbrev pub invariant-loop-item : goal.invariant-loop-item
invariant-loop-item l = l.out.items ≡ l.fn.out.items ++ spaced
    (map item_text (take l.item-index l.items))
