use Rattle.std.proofs.Common.{ℕ, List, ap, sym, ◌∙◌}
use Rattle.channel_core.specs.Numbers.{has_number}
use Rattle.session_audit.proofs.step.goes_again.Goals as goal

pub returns-in-Stream : goal.returns-in-Stream
returns-in-Stream c sayings acts before h marks sent =
    rw (c.in-Emits.is, c.in-Stream.is)
    (c.was_sent.ensures sayings acts before marks
    ∙ ap (λ (l : List ℕ). has_number l c.in-Stream.message.seq) (sym sent))
