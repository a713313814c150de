use Rattle.std.proofs.Common.{refl}
use Rattle.lab_streams.proofs.CallLemmas.{MakesStep-open}
use Rattle.lab_streams.proofs.link.Link.open.Goals as goal

-- the plugin's side opens streams
pub open-requires : goal.open-requires
open-requires c = c.requires.1.plugin.stands.client

pub returns : goal.returns
returns c past line is =
    MakesStep-open past line c.open.result c.args.self.now _ c.outcome_of_open.result is
    (record { here = record { follows = c.open.ensures; kept = refl }; there = refl })
    c.outcome_of_open.ensures
