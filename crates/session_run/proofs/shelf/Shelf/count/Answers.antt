use Rattle.std.proofs.Common.{◌∙◌}
use Rattle.session_run.proofs.ShelfCallLemmas.{counted, stays_view}
use Rattle.session_run.proofs.shelf.Shelf.count.Goals as goal

pub returns : goal.returns
returns c =
    stays_view _ _ _ _ c.self.view_is
    (counted _ _ (c.len.ensures ∙ c.self.inside.parcels.ok.0))
