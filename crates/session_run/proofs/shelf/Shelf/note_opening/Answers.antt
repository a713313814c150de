use Rattle.session_run.proofs.ShelfCallLemmas.{follows_view, opened}
use Rattle.session_run.proofs.shelf.Shelf.note_opening.Goals as goal

pub returns : goal.returns
returns c =
    follows_view _ _ _ _ _ c.self.view_is (opened _ _ c.saturating_add-self-inside.ensures)
