-- Which lines are of the grammar of a script with the relay.
use Rattle.std.proofs.Common.{◌≡◌, ◌≢◌, ℕ, false, Option, Some, None, List, ◌∷◌, refl, sym, ◌∙◌}
use Rattle.std.specs.Prelude.{IfSome, IfNone}
use Rattle.chan_values.specs.declared.side.Side.{Side}
use Rattle.lab_script.specs.declared.command.Action.{Action}
use Rattle.lab_script.specs.declared.command.Command.{Command}
use Rattle.lab_script.specs.declared.relay_command.RelayAction.{RelayAction}
use Rattle.lab_script.specs.declared.relay_command.RelayCommand.{RelayCommand}
use Rattle.lab_script.specs.declared.verb.Verb.{Verb}
use Rattle.lab_script.specs.Command.{IsScriptLine, Says}
use Rattle.lab_script.specs.RelayCommand.{IsRelayAction, IsRelayCommand, IsRelayLine, SaysRelay}
use Rattle.lab_script.specs.RelayGrammar.{IsNoOwn, IsOwn, IsOwnAction, relayed}
use Rattle.lab_script.specs.Verb.{verb_text}
use Rattle.lab_script.proofs.RelaySpelling.{not_of_relay, of_relay, relay_first_verb, relay_words_of-parts, words-from_SaysRelay}
use Rattle.lab_script.proofs.Spelling.{first_verb, words-from_Says, words_behind, words_of-parts}

-- ---- lines of the relay's own verbs

IsRelayAction-own : (action : RelayAction) → IsOwnAction action → IsRelayAction action
IsRelayAction-own (RelayAction.Post which) own = own
IsRelayAction-own (RelayAction.Take which) own = own
IsRelayAction-own (RelayAction.Put item) own = absurd own
IsRelayAction-own (RelayAction.PutLast item) own = absurd own
IsRelayAction-own _ own = tt

-- a command of the relay's own verbs is one of the grammar
pub IsRelayCommand-own : (command : RelayCommand) → IsOwn command → IsRelayCommand command
IsRelayCommand-own (RelayCommand.At moment) own = absurd own
IsRelayCommand-own RelayCommand.Finish own = own
IsRelayCommand-own (RelayCommand.On side action) own = IsRelayAction-own action own

-- a first word that is no verb begins no command
pub IsNoOwn-first : (word : List ℕ) (words rest : List (List ℕ))
    → words ≡ word ∷ rest → ((verb : Verb) → verb_text verb ≢ word) → IsNoOwn words
IsNoOwn-first word words rest front none command own same =
    let parts = relay_words_of-parts command in none (relay_first_verb command) (cc)

-- ---- a line that is neither of the plain script nor of the relay's own verbs

neither_on : (line : List ℕ)
    → ¬ IsScriptLine line
    → ((command : RelayCommand) → IsOwn command → ¬ SaysRelay line command)
    → (side : Side) (action : RelayAction) → ¬ SaysRelay line (RelayCommand.On side action)
neither_on line no_script no_own side (RelayAction.Put item) said =
    no_script (
      Command.On side (Action.Put item),
      record { in_range = said.in_range; spelled = said.spelled },
    )
neither_on line no_script no_own side (RelayAction.PutLast item) said =
    no_script (
      Command.On side (Action.PutLast item),
      record { in_range = said.in_range; spelled = said.spelled },
    )
neither_on line no_script no_own side RelayAction.Pull said =
    no_script (Command.On side Action.Pull, record { in_range = tt; spelled = said.spelled })
neither_on line no_script no_own side RelayAction.Tick said =
    no_script (Command.On side Action.Tick, record { in_range = tt; spelled = said.spelled })
neither_on line no_script no_own side RelayAction.Close said =
    no_script (Command.On side Action.Close, record { in_range = tt; spelled = said.spelled })
neither_on line no_script no_own side RelayAction.Dial said =
    no_own (RelayCommand.On side RelayAction.Dial) tt said
neither_on line no_script no_own side RelayAction.Gone said =
    no_own (RelayCommand.On side RelayAction.Gone) tt said
neither_on line no_script no_own side (RelayAction.Post which) said =
    no_own (RelayCommand.On side (RelayAction.Post which)) said.in_range said
neither_on line no_script no_own side (RelayAction.Take which) said =
    no_own (RelayCommand.On side (RelayAction.Take which)) said.in_range said

neither : (line : List ℕ)
    → ¬ IsScriptLine line
    → ((command : RelayCommand) → IsOwn command → ¬ SaysRelay line command)
    → (command : RelayCommand) → ¬ SaysRelay line command
neither line no_script no_own (RelayCommand.At moment) said =
    no_script (Command.At moment, record { in_range = said.in_range; spelled = said.spelled })
neither line no_script no_own RelayCommand.Finish said = no_own RelayCommand.Finish tt said
neither line no_script no_own (RelayCommand.On side action) said =
    neither_on line no_script no_own side action said

pub none_of_both : (line : List ℕ) (read : Option RelayCommand)
    → ¬ IsScriptLine line
    → IfNone read ((command : RelayCommand) → IsOwn command → ¬ SaysRelay line command)
    → IfNone read (¬ IsRelayLine line)
none_of_both line None no_script no_own =
    λ (given : IsRelayLine line). neither line no_script no_own given.0 given.1
none_of_both line (Some command) no_script no_own = tt

-- ---- a line of the plain script

-- it is said by the command of the same text, where there is one
said_on : (line : List ℕ) (side : Side) (action : Action) → Says line (Command.On side action)
    → IfSome (relayed (Command.On side action)) (SaysRelay line)
said_on line side (Action.Put item) said =
    record { in_range = said.in_range; spelled = said.spelled }
said_on line side (Action.PutLast item) said =
    record { in_range = said.in_range; spelled = said.spelled }
said_on line side Action.Pull said = record { in_range = tt; spelled = said.spelled }
said_on line side Action.Tick said = record { in_range = tt; spelled = said.spelled }
said_on line side Action.Close said = record { in_range = tt; spelled = said.spelled }
said_on line side _ said = tt

pub SaysRelay-relayed : (line : List ℕ) (command : Command) → Says line command
    → IfSome (relayed command) (SaysRelay line)
SaysRelay-relayed line (Command.At moment) said =
    record { in_range = said.in_range; spelled = said.spelled }
SaysRelay-relayed line Command.Settle said = tt
SaysRelay-relayed line (Command.On side action) said = said_on line side action said

-- a line with another verb is out of the grammar
other_verb : (line : List ℕ) (command : Command) → Says line command
    → of_relay (first_verb command) ≡ false → ¬ IsRelayLine line
other_verb line command said other given =
    not_of_relay given.0 (first_verb command) (words_behind command) other
    (sym (words-from_SaysRelay line given.0 given.1) ∙ words-from_Says line command said
    ∙ words_of-parts command)

not_said_on : (line : List ℕ) (side : Side) (action : Action) → Says line (Command.On side action)
    → IfNone (relayed (Command.On side action)) (¬ IsRelayLine line)
not_said_on line side (Action.Put item) said = tt
not_said_on line side (Action.PutLast item) said = tt
not_said_on line side Action.Pull said = tt
not_said_on line side Action.Tick said = tt
not_said_on line side Action.Close said = tt
not_said_on line side (Action.Hear which) said =
    other_verb line (Command.On side (Action.Hear which)) said refl
not_said_on line side (Action.Hurt which place) said =
    other_verb line (Command.On side (Action.Hurt which place)) said refl
not_said_on line side Action.Lost said = other_verb line (Command.On side Action.Lost) said refl
not_said_on line side Action.Open said = other_verb line (Command.On side Action.Open) said refl
not_said_on line side Action.Pause said = other_verb line (Command.On side Action.Pause) said refl
not_said_on line side Action.Start said = other_verb line (Command.On side Action.Start) said refl
not_said_on line side Action.End said = other_verb line (Command.On side Action.End) said refl

pub not_IsRelayLine : (line : List ℕ) (command : Command) → Says line command
    → IfNone (relayed command) (¬ IsRelayLine line)
not_IsRelayLine line (Command.At moment) said = tt
not_IsRelayLine line Command.Settle said = other_verb line Command.Settle said refl
not_IsRelayLine line (Command.On side action) said = not_said_on line side action said
