use Rattle.lab_script.proofs.OneSpelling.{says_one}
use Rattle.lab_script.proofs.laws.a_line_says_one_command.Goals as goal

pub returns : goal.returns
returns c = says_one
