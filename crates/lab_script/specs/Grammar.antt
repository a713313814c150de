-- What the readers of a line take of its words. The private readers alone cite this.
use Rattle.std.specs.Prelude.{◌≡◌, ◌≢◌, ℕ, List, ◌++◌}
use Rattle.chan_values.specs.declared.item.Item.{Item}
use Rattle.lab_script.specs.declared.command.Action.{Action}
use Rattle.lab_script.specs.declared.command.Command.{Command}
use Rattle.lab_script.specs.declared.verb.Verb.{Verb}
use Rattle.lab_script.specs.Command.{IsAction, IsCommand, IsItem, item_words, operands_of, verb_of, words_of}

-- the words are those of the command, and then the ones that are left
pub record BeginsWith (words left : List (List ℕ)) (command : Command) : Type 0 where
  pub in_range : IsCommand command
  pub spelled : words ≡ words_of command ++ left

-- the words are those of no command
abbrev pub IsNoCommand : List (List ℕ) → Type 0
IsNoCommand words = (command : Command) → IsCommand command → words_of command ≢ words

-- the words are the operands of an action with this verb, and then the ones that are left
pub record TakesAction (verb : Verb) (words left : List (List ℕ)) (action : Action) : Type 0 where
  pub in_range : IsAction action
  pub same_verb : verb_of action ≡ verb
  pub spelled : words ≡ operands_of action ++ left

-- the words are the operands of no action with this verb
abbrev pub IsNoAction : Verb → List (List ℕ) → Type 0
IsNoAction verb words =
    (action : Action) → IsAction action → verb_of action ≡ verb → operands_of action ≢ words

-- the words are those of an item, and then the ones that are left
pub record TakesItem (words left : List (List ℕ)) (item : Item) : Type 0 where
  pub in_range : IsItem item
  pub spelled : words ≡ item_words item ++ left

-- the words are those of no item
abbrev pub IsNoItem : List (List ℕ) → Type 0
IsNoItem words = (item : Item) → IsItem item → item_words item ≢ words
