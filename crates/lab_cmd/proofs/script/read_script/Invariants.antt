use Rattle.std.proofs.Common.{◌≡◌, ◌++◌, map}
use Rattle.std.specs.List.{All}
use Rattle.lab_script.specs.Lines.{lines_of}
use Rattle.lab_cmd.proofs.script.read_script.Given as goal

-- the lines so far say the commands so far
abbrev pub invariant-loop-line : goal.invariant-loop-line
invariant-loop-line g l =
    record {
      can : (goal.iterator-loop-line g).can_next l.line-iterator;
      finite : (goal.iterator-loop-line g).is_finite l.line-iterator;
      spelled : map g.C.Line.spelling l.commands.items ++ l.line-iterator ≡ lines_of l.input;
      in_range : All g.C.Line.in_range l.commands.items;
    }
