-- A command and the words of its text.
use Rattle.std.proofs.Common.{◌≡◌, ℕ, ◌+◌, true, false, List, [], ◌∷◌, ◌++◌, length, refl, sym, ap, ◌∙◌, arith, decimal}
use Rattle.std.specs.Prelude.{codes}
use Rattle.std.specs.List.{AllByRecursion}
use Rattle.std.proofs.lemmas.List.{length-append, nil_from_length}
use Rattle.chan_values.specs.declared.item.Item.{Item}
use Rattle.chan_values.specs.declared.side.Side.{Side}
use Rattle.chan_values.specs.declared.side.Side.TheVariants.{Plugin, Agent}
use Rattle.lab_script.specs.declared.command.Action.{Action}
use Rattle.lab_script.specs.declared.command.Command.{Command}
use Rattle.lab_script.specs.declared.verb.Verb.{Verb}
use Rattle.lab_script.specs.declared.verb.Verb.TheVariants as verbs
use Rattle.lab_script.specs.declared.word.Which.{Which}
use Rattle.lab_script.specs.declared.word.Which.TheVariants.{Number, Last}
use Rattle.lab_script.specs.Command.{IsAction, IsCommand, IsItem, Says, item_words, operands_of, spelling, verb_of, words_of}
use Rattle.lab_script.specs.Lines.{words_in}
use Rattle.lab_script.specs.Verb.{verb_text}
use Rattle.lab_script.specs.Words.{side_text, hex_text, which_text, IsWhich}
use Rattle.lab_script.proofs.Verbs.{IsWord-verb_text, of_plain, of_plain-verb_of, same_verb}
use Rattle.lab_script.proofs.WordLists.{IsWord, IsWord-from_test, words-join_with_byte, same_from_words, IsWord-decimal, IsWord-encode_lower}

-- ---- the words of a command

pub IsWord-side_text : (side : Side) → IsWord (side_text side)
IsWord-side_text Plugin = IsWord-from_test (codes "P") refl
IsWord-side_text Agent = IsWord-from_test (codes "A") refl

pub IsWord-which_text : (which : Which) → IsWhich which → IsWord (which_text which)
IsWord-which_text (Number n) fits = IsWord-decimal n fits
IsWord-which_text Last fits = IsWord-from_test (codes "last") refl

pub IsWord-hex_text : (bytes : List ℕ) → IsWord (hex_text bytes)
IsWord-hex_text [] = IsWord-from_test (codes "-") refl
IsWord-hex_text (b ∷ bytes) = IsWord-encode_lower (b ∷ bytes)

pub AreWords-item_words : (item : Item) → IsItem item → AllByRecursion IsWord (item_words item)
AreWords-item_words item fits =
    (IsWord-decimal item.ptype (omega (arith, fits.0)), (IsWord-hex_text item.payload, tt))

AreWords-operands_of : (action : Action) → IsAction action
    → AllByRecursion IsWord (operands_of action)
AreWords-operands_of (Action.Put item) fits = AreWords-item_words item fits
AreWords-operands_of (Action.PutLast item) fits = AreWords-item_words item fits
AreWords-operands_of (Action.Hear which) fits = (IsWord-which_text which fits, tt)
AreWords-operands_of (Action.Hurt which place) fits =
    (IsWord-which_text which fits.0, (IsWord-decimal place fits.1, tt))
AreWords-operands_of _ fits = tt

-- the words of a command's text are those of the command
pub words-spelling : (command : Command) → IsCommand command
    → words_in (spelling command) ≡ words_of command
words-spelling (Command.At moment) fits =
    words-join_with_byte (verb_text verbs.At) (decimal moment ∷ []) (IsWord-verb_text verbs.At)
    (IsWord-decimal moment fits, tt)
words-spelling Command.Settle fits =
    words-join_with_byte (verb_text verbs.Settle) [] (IsWord-verb_text verbs.Settle) tt
words-spelling (Command.On side action) fits =
    words-join_with_byte (verb_text (verb_of action)) (side_text side ∷ operands_of action)
    (IsWord-verb_text (verb_of action))
    (IsWord-side_text side, AreWords-operands_of action fits)

-- a line says the command of its words, and no other
pub Says-from_words : (line : List ℕ) (command : Command)
    → IsCommand command → words_in line ≡ words_of command → Says line command
Says-from_words line command fits same =
    record {
      in_range = fits;
      spelled =
          same_from_words (spelling command) line (words-spelling command fits ∙ sym same);
    }

pub words-from_Says : (line : List ℕ) (command : Command)
    → Says line command → words_in line ≡ words_of command
words-from_Says line command said =
    ap words_in (sym said.spelled) ∙ words-spelling command said.in_range

-- ---- the first word of a command, and how many there are

abbrev pub first_verb : Command → Verb
first_verb (Command.At moment) = verbs.At
first_verb Command.Settle = verbs.Settle
first_verb (Command.On side action) = verb_of action

of_plain-first_verb : (command : Command) → of_plain (first_verb command) ≡ true
of_plain-first_verb (Command.At moment) = refl
of_plain-first_verb Command.Settle = refl
of_plain-first_verb (Command.On side action) = of_plain-verb_of action

abbrev pub words_behind : Command → List (List ℕ)
words_behind (Command.At moment) = decimal moment ∷ []
words_behind Command.Settle = []
words_behind (Command.On side action) = side_text side ∷ operands_of action

pub words_of-parts : (command : Command)
    → words_of command ≡ verb_text (first_verb command) ∷ words_behind command
words_of-parts (Command.At moment) = refl
words_of-parts Command.Settle = refl
words_of-parts (Command.On side action) = refl

-- a verb of another script's lines is not that of a command
pub not_of_plain : (command : Command) (verb : Verb) (rest : List (List ℕ))
    → of_plain verb ≡ false → words_of command ≡ verb_text verb ∷ rest → ⊥
not_of_plain command verb rest other same =
    let verbs_are : first_verb command ≡ verb =
    same_verb (first_verb command) verb (cc (words_of-parts command, same)) in
    let plain : of_plain (first_verb command) ≡ true = of_plain-first_verb command in
    absurd (cc)

-- the verb says how many words there are behind it
abbrev pub word_count : Verb → ℕ
word_count verbs.Settle = 0
word_count verbs.StreamOpen = 0
word_count verbs.Finish = 0
word_count verbs.Put = 3
word_count verbs.Last = 3
word_count verbs.Hear = 2
word_count verbs.Hurt = 3
word_count verbs.StreamWrite = 3
word_count verbs.StreamClose = 2
word_count verbs.StreamPush = 2
word_count verbs.StreamTake = 3
word_count verbs.Post = 2
word_count verbs.Take = 2
word_count _ = 1

length-operands_of : (action : Action)
    → length (operands_of action) + 1 ≡ word_count (verb_of action)
length-operands_of (Action.Put item) = refl
length-operands_of (Action.PutLast item) = refl
length-operands_of _ = refl

pub length-words_behind : (command : Command)
    → length (words_behind command) ≡ word_count (first_verb command)
length-words_behind (Command.At moment) = refl
length-words_behind Command.Settle = refl
length-words_behind (Command.On side action) = omega (arith, length-operands_of action)

-- words that begin with a verb, and as many behind it as it has, are not those of a line and more
pub nothing_left_behind : (va vb : Verb) (a b left : List (List ℕ))
    → length a ≡ word_count va
    → length b ≡ word_count vb
    → verb_text vb ∷ b ≡ verb_text va ∷ (a ++ left)
    → left ≡ []
nothing_left_behind va vb a b left count_a count_b same =
    let verb : vb ≡ va = same_verb vb va (cc same) in
    let behind : b ≡ a ++ left = cc same in
    nil_from_length left
    (omega (arith, ap length behind, length-append a left, count_a, count_b, ap word_count verb))

-- no command has the words of another one and more
pub nothing_left : (a b : Command) (left : List (List ℕ)) → words_of b ≡ words_of a ++ left
    → left ≡ []
nothing_left a b left same =
    nothing_left_behind (first_verb a) (first_verb b) (words_behind a) (words_behind b) left
    (length-words_behind a) (length-words_behind b)
    (sym (words_of-parts b) ∙ same ∙ ap (λ (ws : List (List ℕ)). ws ++ left) (words_of-parts a))
