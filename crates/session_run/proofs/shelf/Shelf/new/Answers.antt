use Rattle.session_run.proofs.ShelfCallLemmas.{empty}
use Rattle.session_run.proofs.ShelfLemmas.{IsLegalShelf-nil}
use Rattle.session_run.proofs.shelf.Shelf.new.Goals as goal

pub returns-clause-stands : goal.returns-clause-stands
returns-clause-stands c = empty _ c.new.ensures.items

pub returns-clause-legal : goal.returns-clause-legal
returns-clause-legal c = IsLegalShelf-nil
