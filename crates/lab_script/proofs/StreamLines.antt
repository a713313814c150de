-- Which lines are of the grammar of a script with streams.
use Rattle.std.proofs.Common.{◌≡◌, ◌≢◌, ℕ, Option, Some, None, Result, Ok, Err, List, ◌∷◌, sym, ◌∙◌}
use Rattle.std.specs.Prelude.{IfOk, IfNone}
use Rattle.lab_script.specs.declared.command.Command.{Command}
use Rattle.lab_script.specs.declared.stream_command.StreamCommand.{StreamCommand}
use Rattle.lab_script.specs.declared.verb.Verb.{Verb}
use Rattle.lab_script.specs.Command.{IsScriptLine, Says}
use Rattle.lab_script.specs.StreamCommand.{IsBesideStreams, IsStreamCommand, IsStreamLine, SaysStream}
use Rattle.lab_script.specs.StreamGrammar.{IsNoOwn, IsOwn}
use Rattle.lab_script.specs.Verb.{verb_text}
use Rattle.lab_script.proofs.OneSpelling.{says_one}
use Rattle.lab_script.proofs.Spelling.{words-from_Says}
use Rattle.lab_script.proofs.StreamSpelling.{plain_is_not_on, plain_is_not_open, stream_first_verb, stream_words_of-parts, words-from_SaysStream}

-- a command of the streams' own verbs is one of the grammar
pub IsStreamCommand-own : (command : StreamCommand) → IsOwn command → IsStreamCommand command
IsStreamCommand-own (StreamCommand.Plain command) own = absurd own
IsStreamCommand-own StreamCommand.Open own = own
IsStreamCommand-own (StreamCommand.On side action) own = own

-- a first word that is no verb begins no command
pub IsNoOwn-first : (word : List ℕ) (words rest : List (List ℕ))
    → words ≡ word ∷ rest → ((verb : Verb) → verb_text verb ≢ word) → IsNoOwn words
IsNoOwn-first word words rest front none command own same =
    let parts = stream_words_of-parts command in none (stream_first_verb command) (cc)

-- a line that is neither of the plain script nor of the streams' own verbs is out of the grammar
neither : (line : List ℕ)
    → ¬ IsScriptLine line
    → ((command : StreamCommand) → IsOwn command → ¬ SaysStream line command)
    → (command : StreamCommand) → ¬ SaysStream line command
neither line no_script no_own (StreamCommand.Plain command) said =
    no_script (command, record { in_range = said.in_range.0; spelled = said.spelled })
neither line no_script no_own StreamCommand.Open said = no_own StreamCommand.Open tt said
neither line no_script no_own (StreamCommand.On side action) said =
    no_own (StreamCommand.On side action) said.in_range said

pub none_of_both : {E : Type 0} (line : List ℕ) (r : Result (Option StreamCommand) E)
    → ¬ IsScriptLine line
    → IfOk r (λ read. IfNone read
    ((command : StreamCommand) → IsOwn command → ¬ SaysStream line command))
    → IfOk r (λ read. IfNone read (¬ IsStreamLine line))
none_of_both line (Ok None) no_script no_own =
    λ (given : IsStreamLine line). neither line no_script no_own given.0 given.1
none_of_both line (Ok (Some command)) no_script no_own = tt
none_of_both line (Err fault) no_script no_own = tt

-- a command of the plain script is said beside streams, unless it puts in their bytes
pub SaysStream-plain : (line : List ℕ) (command : Command) → Says line command
    → IsBesideStreams command → SaysStream line (StreamCommand.Plain command)
SaysStream-plain line command said beside =
    record { in_range = (said.in_range, beside); spelled = said.spelled }

-- and no other command is
not_beside : (line : List ℕ) (command : Command) → Says line command → ¬ IsBesideStreams command
    → (other : StreamCommand) → ¬ SaysStream line other
not_beside line command said out (StreamCommand.Plain other) also =
    let one : other ≡ command =
    says_one line other command (record { in_range = also.in_range.0; spelled = also.spelled }) said in
    out (rw one at also.in_range.1)
not_beside line command said out StreamCommand.Open also =
    plain_is_not_open command (sym (words-from_Says line command said)
    ∙ words-from_SaysStream line StreamCommand.Open also)
not_beside line command said out (StreamCommand.On side action) also =
    plain_is_not_on command side action (sym (words-from_Says line command said)
    ∙ words-from_SaysStream line (StreamCommand.On side action) also)

pub not_IsStreamLine : (line : List ℕ) (command : Command) → Says line command
    → ¬ IsBesideStreams command → ¬ IsStreamLine line
not_IsStreamLine line command said out given = not_beside line command said out given.0 given.1
