-- A command is known by its text.
use Rattle.std.proofs.Common.{◌≡◌, ℕ, ◌<◌, ◌^◌, List, [], ◌∷◌, length, get_or, refl, sym, ap, subst, ◌∙◌, arith, decimal}
use Rattle.std.specs.Prelude.{codes}
use Rattle.std.proofs.lemmas.Fmt.{decimal_injective, decimal_is_IsNumeral}
use Rattle.std.specs.Str.Parse.{IsNumeral}
use Rattle.hex.specs.Hex.{decode_of}
use Rattle.chan_values.specs.declared.item.Item.{Item}
use Rattle.chan_values.specs.declared.side.Side.{Side}
use Rattle.chan_values.specs.declared.side.Side.TheVariants.{Plugin, Agent}
use Rattle.lab_script.specs.declared.command.Action.{Action}
use Rattle.lab_script.specs.declared.command.Command.{Command}
use Rattle.lab_script.specs.declared.verb.Verb.TheVariants as verbs
use Rattle.lab_script.specs.declared.word.Which.{Which}
use Rattle.lab_script.specs.declared.word.Which.TheVariants.{Number, Last}
use Rattle.lab_script.specs.Command.{IsAction, IsCommand, IsItem, IsPayload, Says, item_words, operands_of, verb_of, words_of}
use Rattle.lab_script.specs.Words.{side_text, hex_text, which_text, IsWhich}
use Rattle.lab_script.proofs.GrammarLemmas.{not_of_one_end}
use Rattle.lab_script.proofs.Payloads.{decode_of-hex_text, length-hex_text}
use Rattle.lab_script.proofs.Spelling.{words-from_Says}
use Rattle.lab_script.proofs.Verbs.{same_verb}

-- ---- each word stands for one value

pub same_side : (a b : Side) → side_text a ≡ side_text b → a ≡ b
same_side Plugin Plugin e = refl
same_side Agent Agent e = refl
same_side Plugin Agent e = absurd (omega (arith, ap (λ (xs : List ℕ). get_or xs 0 0) e))
same_side Agent Plugin e = absurd (omega (arith, ap (λ (xs : List ℕ). get_or xs 0 0) e))

-- `last` is no number
last_is_no_number : (n : ℕ) → n < 2 ^ 64 → decimal n ≡ codes "last" → ⊥
last_is_no_number n fits e =
    let digits = subst (IsNumeral 10) e (decimal_is_IsNumeral n fits).0 in
    omega (arith, digits.1.0)

pub same_which : (a b : Which) → IsWhich a → IsWhich b → which_text a ≡ which_text b → a ≡ b
same_which (Number m) (Number n) fits_m fits_n e = ap Number (decimal_injective m n fits_m fits_n e)
same_which (Number m) Last fits_m fits_n e = absurd (last_is_no_number m fits_m e)
same_which Last (Number n) fits_m fits_n e = absurd (last_is_no_number n fits_n (sym e))
same_which Last Last fits_m fits_n e = refl

pub same_payload : (a b : List ℕ) → IsPayload a → IsPayload b → hex_text a ≡ hex_text b → a ≡ b
same_payload [] [] fits_a fits_b e = refl
same_payload [] (y ∷ ys) fits_a fits_b e = absurd (omega (arith, ap length e, length-hex_text y ys))
same_payload (x ∷ xs) [] fits_a fits_b e = absurd (omega (arith, ap length e, length-hex_text x xs))
same_payload (x ∷ xs) (y ∷ ys) fits_a fits_b e =
    cc (sym (decode_of-hex_text x xs fits_a) ∙ ap decode_of e ∙ decode_of-hex_text y ys fits_b)

-- ---- and so do all words of a command

pub same_item : (a b : Item) → IsItem a → IsItem b → item_words a ≡ item_words b → a ≡ b
same_item a b fits_a fits_b same =
    let types : a.ptype ≡ b.ptype =
    decimal_injective a.ptype b.ptype (omega (arith, fits_a.0)) (omega (arith, fits_b.0))
    (cc same) in
    let payloads : a.payload ≡ b.payload =
    same_payload a.payload b.payload fits_a.1 fits_b.1 (cc same) in
    ap (λ (n : ℕ). record { ptype = n; payload = a.payload }) types
    ∙ ap (λ (p : List ℕ). record { ptype = b.ptype; payload = p }) payloads

same_action : (a b : Action)
    → IsAction a → IsAction b → verb_of a ≡ verb_of b → operands_of a ≡ operands_of b → a ≡ b
same_action (Action.Put item) (Action.Put item') fits fits' verb same =
    ap (λ (i : Item). Action.Put i) (same_item item item' fits fits' same)
same_action (Action.PutLast item) (Action.PutLast item') fits fits' verb same =
    ap (λ (i : Item). Action.PutLast i) (same_item item item' fits fits' same)
same_action (Action.Hear which) (Action.Hear which') fits fits' verb same =
    ap (λ (w : Which). Action.Hear w) (same_which which which' fits fits' (cc same))
same_action (Action.Hurt which place) (Action.Hurt which' place') fits fits' verb same =
    ap (λ (w : Which). Action.Hurt w place) (same_which which which' fits.0 fits'.0 (cc same))
    ∙ ap (λ (n : ℕ). Action.Hurt which' n) (decimal_injective place place' fits.1 fits'.1 (cc same))
same_action Action.Pull Action.Pull fits fits' verb same = refl
same_action Action.Tick Action.Tick fits fits' verb same = refl
same_action Action.Close Action.Close fits fits' verb same = refl
same_action Action.Lost Action.Lost fits fits' verb same = refl
same_action Action.Open Action.Open fits fits' verb same = refl
same_action Action.Pause Action.Pause fits fits' verb same = refl
same_action Action.Start Action.Start fits fits' verb same = refl
same_action Action.End Action.End fits fits' verb same = refl
same_action _ _ fits fits' verb same = absurd (cc verb)

pub same_command : (a b : Command) → IsCommand a → IsCommand b → words_of a ≡ words_of b → a ≡ b
same_command (Command.At moment) (Command.At moment') fits fits' same =
    ap (λ (n : ℕ). Command.At n) (decimal_injective moment moment' fits fits' (cc same))
same_command (Command.At moment) Command.Settle fits fits' same = absurd (cc same)
same_command (Command.At moment) (Command.On side action) fits fits' same =
    absurd (not_of_one_end action verbs.At (same_verb (verb_of action) verbs.At (cc same)) refl)
same_command Command.Settle (Command.At moment) fits fits' same = absurd (cc same)
same_command Command.Settle Command.Settle fits fits' same = refl
same_command Command.Settle (Command.On side action) fits fits' same = absurd (cc same)
same_command (Command.On side action) (Command.At moment) fits fits' same =
    absurd (not_of_one_end action verbs.At (same_verb (verb_of action) verbs.At (cc same)) refl)
same_command (Command.On side action) Command.Settle fits fits' same = absurd (cc same)
same_command (Command.On side action) (Command.On side' action') fits fits' same =
    let sides : side ≡ side' = same_side side side' (cc same) in
    let verb : verb_of action ≡ verb_of action' =
    same_verb (verb_of action) (verb_of action') (cc same) in
    let actions : action ≡ action' = same_action action action' fits fits' verb (cc same) in
    ap (λ (s : Side). Command.On s action) sides
    ∙ ap (λ (a : Action). Command.On side' a) actions

pub says_one : (line : List ℕ) (a b : Command) → Says line a → Says line b → a ≡ b
says_one line a b said_a said_b =
    same_command a b said_a.in_range said_b.in_range
    (sym (words-from_Says line a said_a) ∙ words-from_Says line b said_b)
