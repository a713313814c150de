use Rattle.std.proofs.Common.{◌≡◌, take}
use Rattle.chan_ports.proofs.messages.Messages.copy_of.Given as goal

-- the messages so far were copied
abbrev pub invariant-loop-message : goal.invariant-loop-message
invariant-loop-message l = l.copied.items ≡ take l.message-index l.messages
