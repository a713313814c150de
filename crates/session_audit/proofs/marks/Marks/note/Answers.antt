use Rattle.session_audit.proofs.marks.Marks.note.Goals as goal
use Rattle.session_audit.proofs.NoteLemmas.{notes_nothing, notes_opens}

pub returns-in-Emits : goal.returns-in-Emits
returns-in-Emits c = rw c.in-Emits.is c.note_out.ensures

pub returns-in-Opens : goal.returns-in-Opens
returns-in-Opens c = rw (c.in-Opens.is, ← c.self.view_is) (notes_opens _ c.args.place)

pub returns-in_default : goal.returns-in_default
returns-in_default c =
    notes_nothing c.args.self.now c.args.place c.args.act.now
    (λ out is. c.in_default.not-Emits out is) (λ is. c.in_default.not-Opens is)
