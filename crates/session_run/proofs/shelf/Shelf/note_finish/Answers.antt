use Rattle.session_run.proofs.ShelfCallLemmas.{finished, follows_view}
use Rattle.session_run.proofs.shelf.Shelf.note_finish.Goals as goal

pub returns : goal.returns
returns c = follows_view _ _ _ _ _ c.self.view_is (finished _ c.args.fault)
