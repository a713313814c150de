use Rattle.session_run.proofs.ShelfCallLemmas.{follows_view, taken}
use Rattle.session_run.proofs.shelf.Shelf.first.Goals as goal

pub returns : goal.returns
returns c =
    follows_view _ _ _ _ _ c.self.view_is
    (taken _ _ _ c.pop_front.ensures.items c.pop_front.ensures.rest)
