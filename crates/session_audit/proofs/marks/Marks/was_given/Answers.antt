use Rattle.session_audit.proofs.marks.Marks.was_given.Goals as goal

pub returns-in-Hears : goal.returns-in-Hears
returns-in-Hears c = rw c.in-Hears.is c.is_known.ensures
