use Rattle.lab_streams.proofs.LawLemmas.{every_script_is_faithful}
use Rattle.lab_streams.proofs.laws.every_script_is_faithful.Goals as goal

pub returns : goal.returns
returns c = every_script_is_faithful
