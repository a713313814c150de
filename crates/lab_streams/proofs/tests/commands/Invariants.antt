use Rattle.std.specs.List.{All}
use Rattle.lab_script.specs.StreamCommand.{IsStreamCommand}
use Rattle.lab_streams.proofs.tests.commands.Given as goal

-- the commands so far are of the grammar
abbrev pub invariant-loop-line : goal.invariant-loop-line
invariant-loop-line l =
    record {
      can : (goal.iterator-loop-line).can_next l.line-iterator;
      finite : (goal.iterator-loop-line).is_finite l.line-iterator;
      in_range : All IsStreamCommand l.commands.items;
    }
