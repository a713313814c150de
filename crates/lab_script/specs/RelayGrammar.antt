-- What the readers of the relay's lines take of a line. The private readers alone cite this.
use Rattle.std.specs.Prelude.{◌≡◌, ◌≢◌, ℕ, Option, Some, None, List, ◌∷◌, ◌++◌, ⊤}
use Rattle.std.specs.Option.{option_map}
use Rattle.chan_values.specs.declared.side.Side.{Side}
use Rattle.lab_script.specs.declared.command.Action.{Action}
use Rattle.lab_script.specs.declared.command.Command.{Command}
use Rattle.lab_script.specs.declared.relay_command.RelayAction.{RelayAction}
use Rattle.lab_script.specs.declared.relay_command.RelayCommand.{RelayCommand}
use Rattle.lab_script.specs.declared.verb.Verb.{Verb}
use Rattle.lab_script.specs.RelayCommand.{relay_operands_of, relay_verb_of, relay_words_of}
use Rattle.lab_script.specs.Words.{side_text, IsWhich}

-- the action with the same text where the relay stands between the ends
abbrev pub relayed_action : Action → Option RelayAction
relayed_action (Action.Put item) = Some (RelayAction.Put item)
relayed_action (Action.PutLast item) = Some (RelayAction.PutLast item)
relayed_action Action.Pull = Some RelayAction.Pull
relayed_action Action.Tick = Some RelayAction.Tick
relayed_action Action.Close = Some RelayAction.Close
relayed_action action = None

-- the command with the same text where the relay stands between the ends
abbrev pub relayed : Command → Option RelayCommand
relayed (Command.At moment) = Some (RelayCommand.At moment)
relayed Command.Settle = None
relayed (Command.On side action) = option_map (RelayCommand.On side) (relayed_action action)

-- an action of the relay's own verbs, in range
abbrev pub IsOwnAction : RelayAction → Type 0
IsOwnAction RelayAction.Dial = ⊤
IsOwnAction RelayAction.Gone = ⊤
IsOwnAction (RelayAction.Post which) = IsWhich which
IsOwnAction (RelayAction.Take which) = IsWhich which
IsOwnAction action = ⊥

-- a command of the relay's own verbs, in range
abbrev pub IsOwn : RelayCommand → Type 0
IsOwn (RelayCommand.At moment) = ⊥
IsOwn RelayCommand.Finish = ⊤
IsOwn (RelayCommand.On side action) = IsOwnAction action

-- the words are those of the command, and then the ones that are left
pub record BeginsOwn (words left : List (List ℕ)) (command : RelayCommand) : Type 0 where
  pub own : IsOwn command
  pub spelled : words ≡ relay_words_of command ++ left

-- the words are those of no command of the relay's own verbs
abbrev pub IsNoOwn : List (List ℕ) → Type 0
IsNoOwn words = (command : RelayCommand) → IsOwn command → relay_words_of command ≢ words

-- the words are the operands of an action with this verb, and then the ones that are left
pub record TakesOperands (verb : Verb) (words left : List (List ℕ)) (action : RelayAction) : Type 0 where
  pub own : IsOwnAction action
  pub same_verb : relay_verb_of action ≡ verb
  pub spelled : words ≡ relay_operands_of action ++ left

-- the words are the operands of no action with this verb
abbrev pub IsNoOperands : Verb → List (List ℕ) → Type 0
IsNoOperands verb words =
    (action : RelayAction)
    → IsOwnAction action → relay_verb_of action ≡ verb → relay_operands_of action ≢ words

-- the words are no end with the operands of an action of this verb
abbrev pub IsNoEnd : Verb → List (List ℕ) → Type 0
IsNoEnd verb words =
    (side : Side) (action : RelayAction)
    → IsOwnAction action → relay_verb_of action ≡ verb
    → side_text side ∷ relay_operands_of action ≢ words
