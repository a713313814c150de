-- Words that begin with those of a command or an action, and words that are those of none.
use Rattle.std.proofs.Common.{◌≡◌, ◌≢◌, ℕ, ◌<◌, ◌^◌, false, List, [], ◌∷◌, refl, sym, decimal}
use Rattle.chan_values.specs.declared.side.Side.{Side}
use Rattle.lab_script.specs.declared.command.Action.{Action}
use Rattle.lab_script.specs.declared.command.Command.{Command}
use Rattle.lab_script.specs.declared.verb.Verb.{Verb}
use Rattle.lab_script.specs.declared.verb.Verb.TheVariants as verbs
use Rattle.lab_script.specs.Command.{IsAction, operands_of, verb_of}
use Rattle.lab_script.specs.Grammar.{IsNoCommand}
use Rattle.lab_script.specs.Verb.{verb_text}
use Rattle.lab_script.specs.Words.{side_text}
use Rattle.lab_script.proofs.Spelling.{first_verb, words_of-parts}
use Rattle.lab_script.proofs.Verbs.{of_one_end, of_one_end-verb_of, same_verb}

-- ---- words of no command

-- no word is those of none
pub IsNoCommand-nothing : (words : List (List ℕ)) → words ≡ [] → IsNoCommand words
IsNoCommand-nothing words none command fits same =
    let parts = words_of-parts command in absurd (cc)

-- nor is a first word that is no verb
pub IsNoCommand-first : (word : List ℕ) (words rest : List (List ℕ))
    → words ≡ word ∷ rest → ((verb : Verb) → verb_text verb ≢ word) → IsNoCommand words
IsNoCommand-first word words rest front none command fits same =
    let parts = words_of-parts command in none (first_verb command) (cc)

-- a verb of one end is not that of a line without an end
pub not_of_one_end : (action : Action) (verb : Verb) → verb_of action ≡ verb
    → of_one_end verb ≡ false → ⊥
not_of_one_end action verb same none =
    let one = of_one_end-verb_of action in absurd (cc)

-- `at`, and no moment
pub IsNoCommand-at : (rest : List (List ℕ))
    → ((n : ℕ) → n < 2 ^ 64 → decimal n ∷ [] ≢ rest) → IsNoCommand (verb_text verbs.At ∷ rest)
IsNoCommand-at rest none (Command.At moment) fits same = none moment fits (cc same)
IsNoCommand-at rest none Command.Settle fits same =
    let verb : verbs.Settle ≡ verbs.At = same_verb verbs.Settle verbs.At (cc same) in absurd (cc)
IsNoCommand-at rest none (Command.On side action) fits same =
    let verb = same_verb (verb_of action) verbs.At (cc same) in
    not_of_one_end action verbs.At verb refl

-- a verb of one end, and no end with operands
pub IsNoCommand-on : (verb : Verb) (rest : List (List ℕ))
    → verb ≢ verbs.At
    → verb ≢ verbs.Settle
    → ((side : Side) (action : Action) → IsAction action → verb_of action ≡ verb
    → side_text side ∷ operands_of action ≢ rest)
    → IsNoCommand (verb_text verb ∷ rest)
IsNoCommand-on verb rest not_at not_settle none (Command.At moment) fits same =
    not_at (sym (same_verb verbs.At verb (cc same)))
IsNoCommand-on verb rest not_at not_settle none Command.Settle fits same =
    not_settle (sym (same_verb verbs.Settle verb (cc same)))
IsNoCommand-on verb rest not_at not_settle none (Command.On side action) fits same =
    none side action fits (same_verb (verb_of action) verb (cc same)) (cc same)

-- ---- words of no action
