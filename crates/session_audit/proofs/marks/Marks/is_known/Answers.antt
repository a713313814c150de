use Rattle.std.proofs.Common.{ap, sym, ◌∙◌}
use Rattle.session_audit.specs.declared.marks.Mark.{Mark}
use Rattle.session_audit.proofs.GivenLemmas.{ack_decided, stream_decided, stream_unknown}
use Rattle.session_audit.proofs.marks.Marks.is_known.Goals as goal

pub returns-in-Some : goal.returns-in-Some
returns-in-Some c acts before x one =
    rw c.in-Stream.is
    (stream_decided c.args.self.now c.args.sayings.now acts before c.in-Stream.seq _ _ _
    c.in-Some.place c.is_said_at.result x one
    (ap (λ (m : Mark). m.place) (sym c.mark.ensures) ∙ c.in-Some.is)
    (rw c.in-Stream.is at c.is_said_at.ensures))

pub returns-in-None : goal.returns-in-None
returns-in-None c acts before x one =
    rw c.in-Stream.is
    (stream_unknown c.args.self.now c.args.sayings.now acts before c.in-Stream.seq _ _ _ x
    (ap (λ (m : Mark). m.place) (sym c.mark.ensures) ∙ c.in-None.is))

pub returns-in-Ack : goal.returns-in-Ack
returns-in-Ack c acts before x one =
    rw c.in-Ack.is
    (ack_decided c.args.self.now c.args.sayings.now acts before c.in-Ack.seq _ x
    (ap (λ (m : Mark). m.acked) c.mark-in-Ack.ensures))
