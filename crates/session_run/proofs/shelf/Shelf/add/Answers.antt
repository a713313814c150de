use Rattle.session_run.proofs.ShelfCallLemmas.{asked, follows_view}
use Rattle.session_run.proofs.shelf.Shelf.add.Goals as goal

pub returns : goal.returns
returns c =
    follows_view _ _ _ _ _ c.self.view_is
    (asked _ _ _ _ _ _ c.push_back.ensures.items c.is_ok-added.ensures.value c.added_or_not.ensures)
