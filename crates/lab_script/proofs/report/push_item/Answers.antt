use Rattle.std.proofs.Common.{rules, ◌∷◌, ◌++◌, [], decimal}
use Rattle.std.proofs.lemmas.List.{append_assoc}
use Rattle.std.proofs.lemmas.Result.{on_err_weaker}
use Rattle.lab_script.proofs.Appends.{Keeps-after}
use Rattle.lab_script.proofs.report.push_item.Goals as goal

pub returns-clause-err : goal.returns-clause-err
returns-clause-err c = on_err_weaker c.push_bytes.result
    (Keeps-after c.args.out.now.items (32 ∷ (decimal c.args.item.now.ptype ++ 58 ∷ []))
    c.push-2.new.self.items c.push_bytes.new.out.items (search (rules, append_assoc)))
    c.push_bytes.ensures.err
