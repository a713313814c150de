-- What the readers of the streams' own lines take of a line's words. The private readers alone cite this.
use Rattle.std.specs.Prelude.{◌≡◌, ◌≢◌, ℕ, List, ◌∷◌, ◌++◌, ⊤}
use Rattle.chan_values.specs.declared.side.Side.{Side}
use Rattle.lab_script.specs.declared.stream_command.StreamAction.{StreamAction}
use Rattle.lab_script.specs.declared.stream_command.StreamCommand.{StreamCommand}
use Rattle.lab_script.specs.declared.verb.Verb.{Verb}
use Rattle.lab_script.specs.StreamCommand.{IsStreamAction, stream_operands_of, stream_verb_of, stream_words_of}
use Rattle.lab_script.specs.Words.{side_text}

-- a command of the streams' own verbs, in range
abbrev pub IsOwn : StreamCommand → Type 0
IsOwn (StreamCommand.Plain command) = ⊥
IsOwn StreamCommand.Open = ⊤
IsOwn (StreamCommand.On side action) = IsStreamAction action

-- the words are those of the command, and then the ones that are left
pub record BeginsOwn (words left : List (List ℕ)) (command : StreamCommand) : Type 0 where
  pub own : IsOwn command
  pub spelled : words ≡ stream_words_of command ++ left

-- the words are those of no command of the streams' own verbs
abbrev pub IsNoOwn : List (List ℕ) → Type 0
IsNoOwn words = (command : StreamCommand) → IsOwn command → stream_words_of command ≢ words

-- the words are the operands of an action with this verb, and then the ones that are left
pub record TakesOperands (verb : Verb) (words left : List (List ℕ)) (action : StreamAction) : Type 0 where
  pub in_range : IsStreamAction action
  pub same_verb : stream_verb_of action ≡ verb
  pub spelled : words ≡ stream_operands_of action ++ left

-- the words are the operands of no action with this verb
abbrev pub IsNoOperands : Verb → List (List ℕ) → Type 0
IsNoOperands verb words =
    (action : StreamAction)
    → IsStreamAction action → stream_verb_of action ≡ verb → stream_operands_of action ≢ words

-- the words are no end with the operands of an action of this verb
abbrev pub IsNoEnd : Verb → List (List ℕ) → Type 0
IsNoEnd verb words =
    (side : Side) (action : StreamAction)
    → IsStreamAction action → stream_verb_of action ≡ verb
    → side_text side ∷ stream_operands_of action ≢ words
