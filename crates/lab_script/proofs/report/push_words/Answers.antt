use Rattle.std.proofs.Common.{rules, ◌++◌, ◌∷◌, decimal}
use Rattle.std.proofs.lemmas.List.{append_assoc}
use Rattle.lab_script.specs.Verb.{verb_text}
use Rattle.lab_script.specs.Report.{side_words}
use Rattle.lab_script.specs.Appending.{spaced}
use Rattle.lab_script.proofs.Appends.{Keeps-after, OnErr-from, report_line-parts}
use Rattle.lab_script.proofs.report.push_words.Goals as goal

pub returns-in_err-push_side-clause-err : goal.returns-in_err-push_side-clause-err
returns-in_err-push_side-clause-err c =
    OnErr-from c.from_residual-in_err-push_side.result
    (Keeps-after c.args.out.now.items (decimal c.args.number ++ 32 ∷ verb_text c.args.verb)
    c.push_word.new.out.items c.push_side.new.out.items (search (rules, append_assoc))
    c.in_err-push_side.ensures.err)

pub returns-in_err-push_outcome-clause-err : goal.returns-in_err-push_outcome-clause-err
returns-in_err-push_outcome-clause-err c =
    OnErr-from c.from_residual-in_err-push_outcome.result
    (Keeps-after c.args.out.now.items
    (decimal c.args.number ++ 32 ∷ (verb_text c.args.verb ++ spaced (side_words c.args.side)))
    c.push_side.new.out.items c.push_outcome.new.out.items (search (rules, append_assoc))
    c.in_err-push_outcome.ensures.err)

pub returns-clause-ok : goal.returns-clause-ok
returns-clause-ok c =
    rw (report_line-parts c.args.number c.args.verb c.args.side c.args.outcome.now)
    (search (rules, append_assoc))
