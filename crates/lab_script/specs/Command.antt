-- The lines of a script: each command has one text.
use Rattle.std.specs.Prelude.{◌≡◌, ℕ, ◌<◌, ◌≤◌, ◌^◌, List, [], ◌∷◌, length, decimal, All, ⊤}
use Rattle.std.specs.List.{join_with_byte}
use Rattle.chan_values.specs.Limits.{max_payload}
use Rattle.chan_values.specs.declared.item.Item.{Item}
use Rattle.lab_script.specs.declared.command.Action.{Action}
use Rattle.lab_script.specs.declared.command.Command.{Command}
use Rattle.lab_script.specs.declared.verb.Verb.{Verb}
use Rattle.lab_script.specs.Verb.{verb_text}
use Rattle.lab_script.specs.Words.{side_text, hex_text, which_text, IsWhich}

-- the verb of an action
abbrev pub verb_of : Action → Verb
verb_of (Action.Put item) = Verb.Put
verb_of (Action.PutLast item) = Verb.Last
verb_of Action.Pull = Verb.Pull
verb_of Action.Tick = Verb.Tick
verb_of Action.Close = Verb.Close
verb_of (Action.Hear which) = Verb.Hear
verb_of (Action.Hurt which place) = Verb.Hurt
verb_of Action.Lost = Verb.Lost
verb_of Action.Open = Verb.Open
verb_of Action.Pause = Verb.Pause
verb_of Action.Start = Verb.Start
verb_of Action.End = Verb.End

-- the words of an item: its type and its payload
abbrev pub item_words : Item → List (List ℕ)
item_words item = decimal item.ptype ∷ hex_text item.payload ∷ []

-- the words of an action behind its verb and its end, in order
abbrev pub operands_of : Action → List (List ℕ)
operands_of (Action.Put item) = item_words item
operands_of (Action.PutLast item) = item_words item
operands_of (Action.Hear which) = which_text which ∷ []
operands_of (Action.Hurt which place) = which_text which ∷ decimal place ∷ []
operands_of action = []

-- the words of a command, in order
abbrev pub words_of : Command → List (List ℕ)
words_of (Command.At moment) = verb_text Verb.At ∷ decimal moment ∷ []
words_of Command.Settle = verb_text Verb.Settle ∷ []
words_of (Command.On side action) =
    verb_text (verb_of action) ∷ side_text side ∷ operands_of action

-- the one text of a command: its words, with one space between two of them
abbrev pub spelling : Command → List ℕ
spelling command = join_with_byte 32 (words_of command)

-- bytes, and no more of them than a message carries
abbrev pub IsPayload : List ℕ → Type 0
IsPayload bytes = All (λ b. b < 256) bytes × (length bytes ≤ max_payload)

-- the type and the payload of an item are in range
abbrev pub IsItem : Item → Type 0
IsItem item = (item.ptype < 2 ^ 32) × IsPayload item.payload

-- the numbers and the payload of an action are in range
abbrev pub IsAction : Action → Type 0
IsAction (Action.Put item) = IsItem item
IsAction (Action.PutLast item) = IsItem item
IsAction (Action.Hear which) = IsWhich which
IsAction (Action.Hurt which place) = IsWhich which × (place < 2 ^ 64)
IsAction action = ⊤

-- the numbers and the payload of a command are in range
abbrev pub IsCommand : Command → Type 0
IsCommand (Command.At moment) = moment < 2 ^ 64
IsCommand Command.Settle = ⊤
IsCommand (Command.On side action) = IsAction action

-- the line says this command
pub record Says (line : List ℕ) (command : Command) : Type 0 where
  pub in_range : IsCommand command
  pub spelled : spelling command ≡ line

-- a line of the grammar: it says some command
abbrev pub IsScriptLine : List ℕ → Type 0
IsScriptLine line = (command : Command) × Says line command
