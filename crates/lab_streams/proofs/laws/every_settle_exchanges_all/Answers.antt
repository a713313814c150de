use Rattle.lab_streams.proofs.LawLemmas.{every_settle_exchanges_all}
use Rattle.lab_streams.proofs.laws.every_settle_exchanges_all.Goals as goal

pub returns : goal.returns
returns c = every_settle_exchanges_all
