use Rattle.session_audit.specs.Playing.{SeatState}
use Rattle.session_audit.proofs.TryLemmas.{tried_done, tried_not_shown, tried_unheard}
use Rattle.session_audit.proofs.seat.Seat.try_act.Goals as goal

pub returns-in_ok-note-in-Done : goal.returns-in_ok-note-in-Done
returns-in_ok-note-in-Done c =
    let old : SeatState = record {
      end = c.self.inside.end;
      marks = c.self.inside.marks;
      next = c.self.inside.next;
      stuck = c.self.inside.stuck;
    } in
    let theirs : SeatState = record {
      end = c.other.inside.end;
      marks = c.other.inside.marks;
      next = c.other.inside.next;
      stuck = c.other.inside.stuck;
    } in
    rw (← c.self.view_is, ← c.other.view_is)
    (tried_done old theirs c.args.sayings.now c.args.act.now c.advance.new.end c.note.new.self
    (rw c.in-Done.is at c.in_ok-step.ensures) c.in_ok-note-in-Done.ensures)

pub returns-in-NotShown : goal.returns-in-NotShown
returns-in-NotShown c =
    let old : SeatState = record {
      end = c.self.inside.end;
      marks = c.self.inside.marks;
      next = c.self.inside.next;
      stuck = c.self.inside.stuck;
    } in
    let theirs : SeatState = record {
      end = c.other.inside.end;
      marks = c.other.inside.marks;
      next = c.other.inside.next;
      stuck = c.other.inside.stuck;
    } in
    rw (← c.self.view_is, ← c.other.view_is)
    (tried_not_shown old theirs c.args.sayings.now c.args.act.now c.advance.new.end
    (rw c.in-NotShown.is at c.in_ok-step.ensures))

pub returns-in-Unheard : goal.returns-in-Unheard
returns-in-Unheard c =
    let old : SeatState = record {
      end = c.self.inside.end;
      marks = c.self.inside.marks;
      next = c.self.inside.next;
      stuck = c.self.inside.stuck;
    } in
    let theirs : SeatState = record {
      end = c.other.inside.end;
      marks = c.other.inside.marks;
      next = c.other.inside.next;
      stuck = c.other.inside.stuck;
    } in
    rw (← c.self.view_is, ← c.other.view_is)
    (tried_unheard old theirs c.args.sayings.now c.args.act.now c.advance.new.end
    (rw c.in-Unheard.is at c.in_ok-step.ensures))
