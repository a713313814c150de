-- The one answer to a list of bytes.
use Rattle.std.specs.Prelude.{List, ℕ, Result, Ok, Err}
use Rattle.agent_message.specs.Layout.{Spells, IsSound}
use Rattle.agent_message.specs.Refusals.{Refuses}
use Rattle.agent_message.specs.declared.message.Message.{Message}
use Rattle.agent_message.specs.declared.refusal.Refusal.{Refusal}

-- the message that they spell, where it is sound, or the first thing that is wrong with them
abbrev pub Decodes : List ℕ → Result Message Refusal → Type 0
Decodes bytes (Ok m) = Spells m bytes × IsSound m bytes
Decodes bytes (Err fault) = Refuses bytes fault
