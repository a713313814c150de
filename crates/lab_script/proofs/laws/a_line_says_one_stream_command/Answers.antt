use Rattle.lab_script.proofs.StreamSpelling.{says_one_stream}
use Rattle.lab_script.proofs.laws.a_line_says_one_stream_command.Goals as goal

pub returns : goal.returns
returns c = says_one_stream
