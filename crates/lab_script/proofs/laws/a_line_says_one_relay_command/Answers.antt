use Rattle.lab_script.proofs.RelaySpelling.{says_one_relay}
use Rattle.lab_script.proofs.laws.a_line_says_one_relay_command.Goals as goal

pub returns : goal.returns
returns c = says_one_relay
