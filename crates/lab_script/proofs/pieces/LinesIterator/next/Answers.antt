use Rattle.std.proofs.Common.{◌≡◌, ◌∷◌, sym, ap, length, ◌∙◌, arith}
use Rattle.lab_script.specs.Lines.{lines_of}
use Rattle.lab_script.proofs.Cutting.{lines_of-cut}
use Rattle.lab_script.proofs.pieces.LinesIterator.next.Goals as goal
use Rattle.lab_script.proofs.pieces.LinesIterator.next.Goals.{In-Some}

-- the line is the first of those that were left
cut : (c : In-Some) → c.args.self.now ≡ c.in-Some.line.now ∷ lines_of c.in-Some.rest.now
cut c = sym c.self.view_is
    ∙ lines_of-cut c.self.inside.rest.now c.in-Some.line.now c.in-Some.rest.now c.in-Some.ensures

pub returns-in-Some-clause-steps : goal.returns-in-Some-clause-steps
returns-in-Some-clause-steps c = cut (goal.at.returns-in-Some-clause-steps c).In-Some

pub returns-in-Some-clause-goes : goal.returns-in-Some-clause-goes
returns-in-Some-clause-goes c =
    let fewer = ap length (cut (goal.at.returns-in-Some-clause-goes c).In-Some) in
    record { on = λ _. (tt, tt, omega (arith, fewer)); keeps = tt; rests = λ _. tt }
