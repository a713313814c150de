-- A command of a script with streams, the words of its text, and that these are of no other.
use Rattle.std.proofs.Common.{◌≡◌, ℕ, ◌+◌, ◌<◌, ◌^◌, false, List, [], ◌∷◌, ◌++◌, length, refl, sym, ap, ◌∙◌, arith, decimal}
use Rattle.std.specs.List.{AllByRecursion}
use Rattle.std.proofs.lemmas.Fmt.{decimal_injective}
use Rattle.chan_values.specs.declared.side.Side.{Side}
use Rattle.lab_script.specs.declared.command.Command.{Command}
use Rattle.lab_script.specs.declared.stream_command.StreamAction.{StreamAction}
use Rattle.lab_script.specs.declared.stream_command.StreamCommand.{StreamCommand}
use Rattle.lab_script.specs.declared.verb.Verb.{Verb}
use Rattle.lab_script.specs.declared.verb.Verb.TheVariants as verbs
use Rattle.lab_script.specs.Command.{IsPayload, words_of}
use Rattle.lab_script.specs.Lines.{words_in}
use Rattle.lab_script.specs.StreamCommand.{IsStreamAction, IsStreamCommand, IsWritten, SaysStream, stream_operands_of, stream_spelling, stream_verb_of, stream_words_of}
use Rattle.lab_script.specs.Verb.{verb_text}
use Rattle.lab_script.specs.Words.{side_text}
use Rattle.lab_script.proofs.OneSpelling.{same_command, same_payload, same_side}
use Rattle.lab_script.proofs.Spelling.{IsWord-side_text, IsWord-hex_text, first_verb, length-words_behind, not_of_plain, nothing_left_behind, word_count, words-spelling, words_behind, words_of-parts}
use Rattle.lab_script.proofs.Verbs.{IsWord-verb_text, of_plain, same_verb}
use Rattle.lab_script.proofs.WordLists.{IsWord, words-join_with_byte, same_from_words, IsWord-decimal}

-- ---- the words of a command

AreWords-operands_of : (action : StreamAction) → IsStreamAction action
    → AllByRecursion IsWord (stream_operands_of action)
AreWords-operands_of (StreamAction.Write sid bytes) fits =
    (IsWord-decimal sid (omega (arith, fits.0)), (IsWord-hex_text bytes, tt))
AreWords-operands_of (StreamAction.Close sid) fits = (IsWord-decimal sid (omega (arith, fits)), tt)
AreWords-operands_of (StreamAction.Push most) fits =
    (IsWord-decimal most (omega (arith, fits.1)), tt)
AreWords-operands_of (StreamAction.Take sid most) fits =
    (IsWord-decimal sid (omega (arith, fits.0)), (IsWord-decimal most (omega (arith, fits.1.1)), tt))

-- the words of a command's text are those of the command
words-stream_spelling : (command : StreamCommand) → IsStreamCommand command
    → words_in (stream_spelling command) ≡ stream_words_of command
words-stream_spelling (StreamCommand.Plain command) fits = words-spelling command fits.0
words-stream_spelling StreamCommand.Open fits =
    words-join_with_byte (verb_text verbs.StreamOpen) [] (IsWord-verb_text verbs.StreamOpen) tt
words-stream_spelling (StreamCommand.On side action) fits =
    words-join_with_byte (verb_text (stream_verb_of action))
    (side_text side ∷ stream_operands_of action)
    (IsWord-verb_text (stream_verb_of action))
    (IsWord-side_text side, AreWords-operands_of action fits)

-- a line says the command of its words, and no other
pub SaysStream-from_words : (line : List ℕ) (command : StreamCommand)
    → IsStreamCommand command → words_in line ≡ stream_words_of command → SaysStream line command
SaysStream-from_words line command fits same =
    record {
      in_range = fits;
      spelled =
          same_from_words (stream_spelling command) line
          (words-stream_spelling command fits ∙ sym same);
    }

pub words-from_SaysStream : (line : List ℕ) (command : StreamCommand)
    → SaysStream line command → words_in line ≡ stream_words_of command
words-from_SaysStream line command said =
    ap words_in (sym said.spelled) ∙ words-stream_spelling command said.in_range

-- ---- the first word of a command, and how many there are

abbrev pub stream_first_verb : StreamCommand → Verb
stream_first_verb (StreamCommand.Plain command) = first_verb command
stream_first_verb StreamCommand.Open = verbs.StreamOpen
stream_first_verb (StreamCommand.On side action) = stream_verb_of action

abbrev pub stream_words_behind : StreamCommand → List (List ℕ)
stream_words_behind (StreamCommand.Plain command) = words_behind command
stream_words_behind StreamCommand.Open = []
stream_words_behind (StreamCommand.On side action) = side_text side ∷ stream_operands_of action

pub stream_words_of-parts : (command : StreamCommand)
    → stream_words_of command
    ≡ verb_text (stream_first_verb command) ∷ stream_words_behind command
stream_words_of-parts (StreamCommand.Plain command) = words_of-parts command
stream_words_of-parts StreamCommand.Open = refl
stream_words_of-parts (StreamCommand.On side action) = refl

length-operands_of : (action : StreamAction)
    → length (stream_operands_of action) + 1 ≡ word_count (stream_verb_of action)
length-operands_of (StreamAction.Write sid bytes) = refl
length-operands_of (StreamAction.Close sid) = refl
length-operands_of (StreamAction.Push most) = refl
length-operands_of (StreamAction.Take sid most) = refl

length-stream_words_behind : (command : StreamCommand)
    → length (stream_words_behind command) ≡ word_count (stream_first_verb command)
length-stream_words_behind (StreamCommand.Plain command) = length-words_behind command
length-stream_words_behind StreamCommand.Open = refl
length-stream_words_behind (StreamCommand.On side action) = omega (arith, length-operands_of action)

-- no command has the words of another one and more
pub stream_nothing_left : (a b : StreamCommand) (left : List (List ℕ))
    → stream_words_of b ≡ stream_words_of a ++ left → left ≡ []
stream_nothing_left a b left same =
    nothing_left_behind (stream_first_verb a) (stream_first_verb b)
    (stream_words_behind a) (stream_words_behind b) left
    (length-stream_words_behind a) (length-stream_words_behind b)
    (sym (stream_words_of-parts b) ∙ same
    ∙ ap (λ (ws : List (List ℕ)). ws ++ left) (stream_words_of-parts a))

-- ---- a command is known by its text

of_plain-stream_verb_of : (action : StreamAction) → of_plain (stream_verb_of action) ≡ false
of_plain-stream_verb_of (StreamAction.Write sid bytes) = refl
of_plain-stream_verb_of (StreamAction.Close sid) = refl
of_plain-stream_verb_of (StreamAction.Push most) = refl
of_plain-stream_verb_of (StreamAction.Take sid most) = refl

-- a line of the plain script is none of the streams' own
pub plain_is_not_open : (command : Command)
    → words_of command ≡ stream_words_of StreamCommand.Open → ⊥
plain_is_not_open command same = not_of_plain command verbs.StreamOpen [] refl same

pub plain_is_not_on : (command : Command) (side : Side) (action : StreamAction)
    → words_of command ≡ stream_words_of (StreamCommand.On side action) → ⊥
plain_is_not_on command side action same =
    not_of_plain command (stream_verb_of action) (side_text side ∷ stream_operands_of action)
    (of_plain-stream_verb_of action) same

-- nor is that of one end the opening of a stream
open_is_not_on : (side : Side) (action : StreamAction)
    → stream_words_of StreamCommand.Open ≡ stream_words_of (StreamCommand.On side action) → ⊥
open_is_not_on side action same =
    let none : [] ≡ side_text side ∷ stream_operands_of action = cc same in absurd (cc none)

pub IsPayload-written : (bytes : List ℕ) → IsWritten bytes → IsPayload bytes
IsPayload-written bytes written = (written.each, omega (arith, written.few))

same_number : (m n : ℕ) → m < 2 ^ 32 → n < 2 ^ 32 → decimal m ≡ decimal n → m ≡ n
same_number m n fits_m fits_n same =
    decimal_injective m n (omega (arith, fits_m)) (omega (arith, fits_n)) same

same_action : (a b : StreamAction)
    → IsStreamAction a
    → IsStreamAction b
    → stream_verb_of a ≡ stream_verb_of b
    → stream_operands_of a ≡ stream_operands_of b
    → a ≡ b
same_action (StreamAction.Write sid bytes) (StreamAction.Write sid' bytes') fits fits' verb same =
    let sids = same_number sid sid' fits.0 fits'.0 (cc same) in
    let texts = same_payload bytes bytes' (IsPayload-written bytes fits.1)
    (IsPayload-written bytes' fits'.1) (cc same) in
    ap (λ (n : ℕ). StreamAction.Write n bytes) sids
    ∙ ap (λ (b : List ℕ). StreamAction.Write sid' b) texts
same_action (StreamAction.Close sid) (StreamAction.Close sid') fits fits' verb same =
    ap (λ (n : ℕ). StreamAction.Close n) (same_number sid sid' fits fits' (cc same))
same_action (StreamAction.Push most) (StreamAction.Push most') fits fits' verb same =
    ap (λ (n : ℕ). StreamAction.Push n)
    (same_number most most' (omega (arith, fits.1)) (omega (arith, fits'.1)) (cc same))
same_action (StreamAction.Take sid most) (StreamAction.Take sid' most') fits fits' verb same =
    let sids = same_number sid sid' fits.0 fits'.0 (cc same) in
    let sizes = same_number most most' (omega (arith, fits.1.1)) (omega (arith, fits'.1.1)) (cc same) in
    ap (λ (n : ℕ). StreamAction.Take n most) sids
    ∙ ap (λ (n : ℕ). StreamAction.Take sid' n) sizes
same_action _ _ fits fits' verb same = absurd (cc verb)

same_stream_command : (a b : StreamCommand)
    → IsStreamCommand a → IsStreamCommand b → stream_words_of a ≡ stream_words_of b → a ≡ b
same_stream_command (StreamCommand.Plain command) (StreamCommand.Plain command') fits fits' same =
    ap (λ (c : Command). StreamCommand.Plain c) (same_command command command' fits.0 fits'.0 same)
same_stream_command (StreamCommand.Plain command) StreamCommand.Open fits fits' same =
    absurd (plain_is_not_open command same)
same_stream_command (StreamCommand.Plain command) (StreamCommand.On side action) fits fits' same =
    absurd (plain_is_not_on command side action same)
same_stream_command StreamCommand.Open (StreamCommand.Plain command) fits fits' same =
    absurd (plain_is_not_open command (sym same))
same_stream_command StreamCommand.Open StreamCommand.Open fits fits' same = refl
same_stream_command StreamCommand.Open (StreamCommand.On side action) fits fits' same =
    absurd (open_is_not_on side action same)
same_stream_command (StreamCommand.On side action) (StreamCommand.Plain command) fits fits' same =
    absurd (plain_is_not_on command side action (sym same))
same_stream_command (StreamCommand.On side action) StreamCommand.Open fits fits' same =
    absurd (open_is_not_on side action (sym same))
same_stream_command (StreamCommand.On side action) (StreamCommand.On side' action')
    fits fits' same =
    let sides : side ≡ side' = same_side side side' (cc same) in
    let verb : stream_verb_of action ≡ stream_verb_of action' =
    same_verb (stream_verb_of action) (stream_verb_of action') (cc same) in
    let actions : action ≡ action' = same_action action action' fits fits' verb (cc same) in
    ap (λ (s : Side). StreamCommand.On s action) sides
    ∙ ap (λ (a : StreamAction). StreamCommand.On side' a) actions

pub says_one_stream : (line : List ℕ) (a b : StreamCommand)
    → SaysStream line a → SaysStream line b → a ≡ b
says_one_stream line a b said_a said_b =
    same_stream_command a b said_a.in_range said_b.in_range
    (sym (words-from_SaysStream line a said_a) ∙ words-from_SaysStream line b said_b)
