use Rattle.std.proofs.Common.{◌≡◌, ◌+◌, take}
use Rattle.std.specs.List.{sum_by}
use Rattle.agent_message.specs.Captures.{piece_length}
use Rattle.lab_show.specs.Lines.{show_lines}
use Rattle.lab_show.proofs.listing.write_lines.Given as goal

-- the lines of the messages so far
abbrev pub invariant-loop-message : goal.invariant-loop-message
invariant-loop-message g l =
    (l.next ≡ l.fn.at + sum_by piece_length (take l.message-index l.messages))
    × (l.lines.items ≡ show_lines l.fn.at (take l.message-index l.messages))
