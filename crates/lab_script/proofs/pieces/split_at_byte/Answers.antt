use Rattle.std.proofs.Common.{◌==◌, sym, ◌+◌}
use Rattle.std.proofs.lemmas.List.{take_rest}
use Rattle.lab_script.proofs.Cutting.{slice_split-position_none, slice_split-position_some}
use Rattle.lab_script.proofs.pieces.split_at_byte.Goals as goal

pub returns-in-None : goal.returns-in-None
returns-in-None c = slice_split-position_none (λ b. b == c.args.byte) c.args.text.now
    (sym c.in-None.ensures)

pub returns-in-Some : goal.returns-in-Some
returns-in-Some c =
    rw (take_rest c.args.text.now (c.in-Some.at + 1))
    (slice_split-position_some (λ b. b == c.args.byte) c.args.text.now c.in-Some.at
    (sym c.in-Some.ensures))
