-- The lines of a script whose ends reach each other through the relay: each command has one text.
use Rattle.std.specs.Prelude.{◌≡◌, ℕ, ◌<◌, ◌^◌, List, [], ◌∷◌, decimal, ⊤}
use Rattle.std.specs.List.{join_with_byte}
use Rattle.lab_script.specs.declared.relay_command.RelayAction.{RelayAction}
use Rattle.lab_script.specs.declared.relay_command.RelayCommand.{RelayCommand}
use Rattle.lab_script.specs.declared.verb.Verb.{Verb}
use Rattle.lab_script.specs.Command.{IsItem, item_words}
use Rattle.lab_script.specs.Verb.{verb_text}
use Rattle.lab_script.specs.Words.{side_text, which_text, IsWhich}

-- the verb of an action
abbrev pub relay_verb_of : RelayAction → Verb
relay_verb_of (RelayAction.Put item) = Verb.Put
relay_verb_of (RelayAction.PutLast item) = Verb.Last
relay_verb_of RelayAction.Pull = Verb.Pull
relay_verb_of RelayAction.Tick = Verb.Tick
relay_verb_of RelayAction.Close = Verb.Close
relay_verb_of RelayAction.Dial = Verb.Dial
relay_verb_of RelayAction.Gone = Verb.Gone
relay_verb_of (RelayAction.Post which) = Verb.Post
relay_verb_of (RelayAction.Take which) = Verb.Take

-- the words of an action behind its verb and its end, in order
abbrev pub relay_operands_of : RelayAction → List (List ℕ)
relay_operands_of (RelayAction.Put item) = item_words item
relay_operands_of (RelayAction.PutLast item) = item_words item
relay_operands_of (RelayAction.Post which) = which_text which ∷ []
relay_operands_of (RelayAction.Take which) = which_text which ∷ []
relay_operands_of action = []

-- the words of a command, in order
abbrev pub relay_words_of : RelayCommand → List (List ℕ)
relay_words_of (RelayCommand.At moment) = verb_text Verb.At ∷ decimal moment ∷ []
relay_words_of RelayCommand.Finish = verb_text Verb.Finish ∷ []
relay_words_of (RelayCommand.On side action) =
    verb_text (relay_verb_of action) ∷ side_text side ∷ relay_operands_of action

-- the one text of a command: its words, with one space between two of them
abbrev pub relay_spelling : RelayCommand → List ℕ
relay_spelling command = join_with_byte 32 (relay_words_of command)

-- the numbers and the payload of an action are in range
abbrev pub IsRelayAction : RelayAction → Type 0
IsRelayAction (RelayAction.Put item) = IsItem item
IsRelayAction (RelayAction.PutLast item) = IsItem item
IsRelayAction (RelayAction.Post which) = IsWhich which
IsRelayAction (RelayAction.Take which) = IsWhich which
IsRelayAction action = ⊤

-- the numbers and the payload of a command are in range
abbrev pub IsRelayCommand : RelayCommand → Type 0
IsRelayCommand (RelayCommand.At moment) = moment < 2 ^ 64
IsRelayCommand RelayCommand.Finish = ⊤
IsRelayCommand (RelayCommand.On side action) = IsRelayAction action

-- the line says this command
pub record SaysRelay (line : List ℕ) (command : RelayCommand) : Type 0 where
  pub in_range : IsRelayCommand command
  pub spelled : relay_spelling command ≡ line

-- a line of the grammar: it says some command
abbrev pub IsRelayLine : List ℕ → Type 0
IsRelayLine line = (command : RelayCommand) × SaysRelay line command
