use Rattle.std.proofs.Common.{true, ap, ◌∙◌}
use Rattle.session_audit.specs.declared.marks.Mark.{Mark}
use Rattle.session_audit.proofs.EndLemmas.{on_ok}
use Rattle.session_audit.proofs.MarkLemmas.{notes_ack, notes_stream}
use Rattle.session_audit.proofs.marks.Marks.note_out.Goals as goal

pub returns-in-Stream : goal.returns-in-Stream
returns-in-Stream c =
    rw c.in-Stream.is
    (on_ok c.note_stream.result _ _ c.note_stream.ensures
    (notes_stream c.args.self.now c.note_stream.new.self c.args.place c.in-Stream.sent))

pub returns-in-Ack : goal.returns-in-Ack
returns-in-Ack c =
    rw c.in-Ack.is
    (on_ok c.put.result _ _ c.put.ensures
    (λ p.
    notes_ack c.args.self.now c.put.new.self c.args.place c.in-Ack.seq _ _
    (record {
      opened = p.opened;
      put = p.put
          ∙ ap
          (λ (m : Mark). record { place = m.place; last = m.last; acked = true })
          c.mark-old.ensures;
      kept = p.kept;
    })))
