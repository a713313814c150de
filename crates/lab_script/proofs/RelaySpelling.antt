-- A command of a script with the relay, the words of its text, and that these are of no other.
use Rattle.std.proofs.Common.{◌≡◌, ℕ, ◌+◌, true, false, List, [], ◌∷◌, ◌++◌, length, refl, sym, ap, ◌∙◌, arith, decimal, Bool}
use Rattle.std.specs.List.{AllByRecursion}
use Rattle.std.proofs.lemmas.Fmt.{decimal_injective}
use Rattle.chan_values.specs.declared.item.Item.{Item}
use Rattle.chan_values.specs.declared.side.Side.{Side}
use Rattle.lab_script.specs.declared.relay_command.RelayAction.{RelayAction}
use Rattle.lab_script.specs.declared.relay_command.RelayCommand.{RelayCommand}
use Rattle.lab_script.specs.declared.verb.Verb.{Verb}
use Rattle.lab_script.specs.declared.verb.Verb.TheVariants as verbs
use Rattle.lab_script.specs.declared.word.Which.{Which}
use Rattle.lab_script.specs.Lines.{words_in}
use Rattle.lab_script.specs.RelayCommand.{IsRelayAction, IsRelayCommand, SaysRelay, relay_operands_of, relay_spelling, relay_verb_of, relay_words_of}
use Rattle.lab_script.specs.Verb.{verb_text}
use Rattle.lab_script.specs.Words.{side_text}
use Rattle.lab_script.proofs.OneSpelling.{same_item, same_side, same_which}
use Rattle.lab_script.proofs.Spelling.{AreWords-item_words, IsWord-side_text, IsWord-which_text, nothing_left_behind, word_count}
use Rattle.lab_script.proofs.Verbs.{IsWord-verb_text, same_verb}
use Rattle.lab_script.proofs.WordLists.{IsWord, words-join_with_byte, same_from_words, IsWord-decimal}

-- ---- the words of a command

AreWords-operands_of : (action : RelayAction) → IsRelayAction action
    → AllByRecursion IsWord (relay_operands_of action)
AreWords-operands_of (RelayAction.Put item) fits = AreWords-item_words item fits
AreWords-operands_of (RelayAction.PutLast item) fits = AreWords-item_words item fits
AreWords-operands_of (RelayAction.Post which) fits = (IsWord-which_text which fits, tt)
AreWords-operands_of (RelayAction.Take which) fits = (IsWord-which_text which fits, tt)
AreWords-operands_of _ fits = tt

-- the words of a command's text are those of the command
words-relay_spelling : (command : RelayCommand) → IsRelayCommand command
    → words_in (relay_spelling command) ≡ relay_words_of command
words-relay_spelling (RelayCommand.At moment) fits =
    words-join_with_byte (verb_text verbs.At) (decimal moment ∷ []) (IsWord-verb_text verbs.At)
    (IsWord-decimal moment fits, tt)
words-relay_spelling RelayCommand.Finish fits =
    words-join_with_byte (verb_text verbs.Finish) [] (IsWord-verb_text verbs.Finish) tt
words-relay_spelling (RelayCommand.On side action) fits =
    words-join_with_byte (verb_text (relay_verb_of action))
    (side_text side ∷ relay_operands_of action)
    (IsWord-verb_text (relay_verb_of action))
    (IsWord-side_text side, AreWords-operands_of action fits)

-- a line says the command of its words, and no other
pub SaysRelay-from_words : (line : List ℕ) (command : RelayCommand)
    → IsRelayCommand command → words_in line ≡ relay_words_of command → SaysRelay line command
SaysRelay-from_words line command fits same =
    record {
      in_range = fits;
      spelled =
          same_from_words (relay_spelling command) line
          (words-relay_spelling command fits ∙ sym same);
    }

pub words-from_SaysRelay : (line : List ℕ) (command : RelayCommand)
    → SaysRelay line command → words_in line ≡ relay_words_of command
words-from_SaysRelay line command said =
    ap words_in (sym said.spelled) ∙ words-relay_spelling command said.in_range

-- ---- the first word of a command, and how many there are

abbrev pub relay_first_verb : RelayCommand → Verb
relay_first_verb (RelayCommand.At moment) = verbs.At
relay_first_verb RelayCommand.Finish = verbs.Finish
relay_first_verb (RelayCommand.On side action) = relay_verb_of action

abbrev pub relay_words_behind : RelayCommand → List (List ℕ)
relay_words_behind (RelayCommand.At moment) = decimal moment ∷ []
relay_words_behind RelayCommand.Finish = []
relay_words_behind (RelayCommand.On side action) = side_text side ∷ relay_operands_of action

pub relay_words_of-parts : (command : RelayCommand)
    → relay_words_of command
    ≡ verb_text (relay_first_verb command) ∷ relay_words_behind command
relay_words_of-parts (RelayCommand.At moment) = refl
relay_words_of-parts RelayCommand.Finish = refl
relay_words_of-parts (RelayCommand.On side action) = refl

length-operands_of : (action : RelayAction)
    → length (relay_operands_of action) + 1 ≡ word_count (relay_verb_of action)
length-operands_of (RelayAction.Put item) = refl
length-operands_of (RelayAction.PutLast item) = refl
length-operands_of (RelayAction.Post which) = refl
length-operands_of (RelayAction.Take which) = refl
length-operands_of _ = refl

length-relay_words_behind : (command : RelayCommand)
    → length (relay_words_behind command) ≡ word_count (relay_first_verb command)
length-relay_words_behind (RelayCommand.At moment) = refl
length-relay_words_behind RelayCommand.Finish = refl
length-relay_words_behind (RelayCommand.On side action) = omega (arith, length-operands_of action)

-- no command has the words of another one and more
pub relay_nothing_left : (a b : RelayCommand) (left : List (List ℕ))
    → relay_words_of b ≡ relay_words_of a ++ left → left ≡ []
relay_nothing_left a b left same =
    nothing_left_behind (relay_first_verb a) (relay_first_verb b)
    (relay_words_behind a) (relay_words_behind b) left
    (length-relay_words_behind a) (length-relay_words_behind b)
    (sym (relay_words_of-parts b) ∙ same
    ∙ ap (λ (ws : List (List ℕ)). ws ++ left) (relay_words_of-parts a))

-- ---- a verb that begins no command

-- whether a line begins with this verb
abbrev pub of_relay : Verb → Bool
of_relay verbs.At = true
of_relay verbs.Put = true
of_relay verbs.Last = true
of_relay verbs.Pull = true
of_relay verbs.Tick = true
of_relay verbs.Close = true
of_relay verbs.Dial = true
of_relay verbs.Gone = true
of_relay verbs.Post = true
of_relay verbs.Take = true
of_relay verbs.Finish = true
of_relay _ = false

of_relay-relay_verb_of : (action : RelayAction) → of_relay (relay_verb_of action) ≡ true
of_relay-relay_verb_of (RelayAction.Put item) = refl
of_relay-relay_verb_of (RelayAction.PutLast item) = refl
of_relay-relay_verb_of (RelayAction.Post which) = refl
of_relay-relay_verb_of (RelayAction.Take which) = refl
of_relay-relay_verb_of _ = refl

of_relay-relay_first_verb : (command : RelayCommand) → of_relay (relay_first_verb command) ≡ true
of_relay-relay_first_verb (RelayCommand.At moment) = refl
of_relay-relay_first_verb RelayCommand.Finish = refl
of_relay-relay_first_verb (RelayCommand.On side action) = of_relay-relay_verb_of action

pub not_of_relay : (command : RelayCommand) (verb : Verb) (rest : List (List ℕ))
    → of_relay verb ≡ false → relay_words_of command ≡ verb_text verb ∷ rest → ⊥
not_of_relay command verb rest other same =
    let verbs_are : relay_first_verb command ≡ verb =
    same_verb (relay_first_verb command) verb (cc (relay_words_of-parts command, same)) in
    let own : of_relay (relay_first_verb command) ≡ true = of_relay-relay_first_verb command in
    absurd (cc)

-- ---- a command is known by its text

-- a verb that one end has is not that of the other lines
abbrev of_one_end : Verb → Bool
of_one_end verbs.At = false
of_one_end verbs.Finish = false
of_one_end _ = true

of_one_end-relay_verb_of : (action : RelayAction) → of_one_end (relay_verb_of action) ≡ true
of_one_end-relay_verb_of (RelayAction.Put item) = refl
of_one_end-relay_verb_of (RelayAction.PutLast item) = refl
of_one_end-relay_verb_of (RelayAction.Post which) = refl
of_one_end-relay_verb_of (RelayAction.Take which) = refl
of_one_end-relay_verb_of _ = refl

on_is_not : (verb : Verb) (rest : List (List ℕ)) (side : Side) (action : RelayAction)
    → of_one_end verb ≡ false
    → verb_text verb ∷ rest ≡ relay_words_of (RelayCommand.On side action) → ⊥
on_is_not verb rest side action other same =
    let verbs_are : verb ≡ relay_verb_of action = same_verb verb (relay_verb_of action) (cc same) in
    let one = of_one_end-relay_verb_of action in
    absurd (cc)

same_action : (a b : RelayAction)
    → IsRelayAction a
    → IsRelayAction b
    → relay_verb_of a ≡ relay_verb_of b
    → relay_operands_of a ≡ relay_operands_of b
    → a ≡ b
same_action (RelayAction.Put item) (RelayAction.Put item') fits fits' verb same =
    ap (λ (i : Item). RelayAction.Put i) (same_item item item' fits fits' same)
same_action (RelayAction.PutLast item) (RelayAction.PutLast item') fits fits' verb same =
    ap (λ (i : Item). RelayAction.PutLast i) (same_item item item' fits fits' same)
same_action (RelayAction.Post which) (RelayAction.Post which') fits fits' verb same =
    ap (λ (w : Which). RelayAction.Post w) (same_which which which' fits fits' (cc same))
same_action (RelayAction.Take which) (RelayAction.Take which') fits fits' verb same =
    ap (λ (w : Which). RelayAction.Take w) (same_which which which' fits fits' (cc same))
same_action RelayAction.Pull RelayAction.Pull fits fits' verb same = refl
same_action RelayAction.Tick RelayAction.Tick fits fits' verb same = refl
same_action RelayAction.Close RelayAction.Close fits fits' verb same = refl
same_action RelayAction.Dial RelayAction.Dial fits fits' verb same = refl
same_action RelayAction.Gone RelayAction.Gone fits fits' verb same = refl
same_action _ _ fits fits' verb same = absurd (cc verb)

same_relay_command : (a b : RelayCommand)
    → IsRelayCommand a → IsRelayCommand b → relay_words_of a ≡ relay_words_of b → a ≡ b
same_relay_command (RelayCommand.At moment) (RelayCommand.At moment') fits fits' same =
    ap (λ (n : ℕ). RelayCommand.At n) (decimal_injective moment moment' fits fits' (cc same))
same_relay_command (RelayCommand.At moment) RelayCommand.Finish fits fits' same = absurd (cc same)
same_relay_command (RelayCommand.At moment) (RelayCommand.On side action) fits fits' same =
    absurd (on_is_not verbs.At (decimal moment ∷ []) side action refl same)
same_relay_command RelayCommand.Finish (RelayCommand.At moment) fits fits' same = absurd (cc same)
same_relay_command RelayCommand.Finish RelayCommand.Finish fits fits' same = refl
same_relay_command RelayCommand.Finish (RelayCommand.On side action) fits fits' same =
    absurd (on_is_not verbs.Finish [] side action refl same)
same_relay_command (RelayCommand.On side action) (RelayCommand.At moment) fits fits' same =
    absurd (on_is_not verbs.At (decimal moment ∷ []) side action refl (sym same))
same_relay_command (RelayCommand.On side action) RelayCommand.Finish fits fits' same =
    absurd (on_is_not verbs.Finish [] side action refl (sym same))
same_relay_command (RelayCommand.On side action) (RelayCommand.On side' action') fits fits' same =
    let sides : side ≡ side' = same_side side side' (cc same) in
    let verb : relay_verb_of action ≡ relay_verb_of action' =
    same_verb (relay_verb_of action) (relay_verb_of action') (cc same) in
    let actions : action ≡ action' = same_action action action' fits fits' verb (cc same) in
    ap (λ (s : Side). RelayCommand.On s action) sides
    ∙ ap (λ (a : RelayAction). RelayCommand.On side' a) actions

pub says_one_relay : (line : List ℕ) (a b : RelayCommand)
    → SaysRelay line a → SaysRelay line b → a ≡ b
says_one_relay line a b said_a said_b =
    same_relay_command a b said_a.in_range said_b.in_range
    (sym (words-from_SaysRelay line a said_a) ∙ words-from_SaysRelay line b said_b)
