use Rattle.std.specs.List.{All}
use Rattle.lab_script.specs.RelayCommand.{IsRelayCommand}
use Rattle.lab_relay.proofs.tests.commands.Given as goal

-- the commands so far are of the grammar
abbrev pub invariant-loop-line : goal.invariant-loop-line
invariant-loop-line l = All IsRelayCommand l.commands.items
