-- The text of a payload, read and written.
use Rattle.std.proofs.Common.{inl, inr, ◌≡◌, ◌≢◌, ℕ, ◌*◌, ◌%◌, ◌<◌, ◌≤◌, Bool, true, false, cond, eqb, List, [], ◌∷◌, length, Result, Ok, Err, refl, sym, ap, subst, ◌∙◌, arith, All}
use Rattle.std.specs.Prelude.{codes}
use Rattle.std.specs.Char.{is_ascii_uppercase}
use Rattle.std.specs.List.{list_any}
use Rattle.std.proofs.lemmas.List.{get_or_past}
use Rattle.std.proofs.lemmas.Bool.{cases_lt}
use Rattle.hex.specs.Hex.{IsBytes, encode_lower, decode_of, decode_pairs, lower_digits}
use Rattle.hex.specs.declared.error.FromHexError.{FromHexError}
use Rattle.hex.specs.declared.error.FromHexError.TheVariants.{OddLength}
use Rattle.hex.proofs.HexLemmas.{length-encode_with, decode_of-encode_lower}
use Rattle.lab_script.specs.Words.{hex_text}
use Rattle.lab_script.specs.Command.{IsPayload}
use Rattle.lab_script.proofs.HexDigits.{list_any-encode_lower, encode_lower-decode_pairs}

-- the text of a payload that is not `-`
pub record IsEncoding (word payload : List ℕ) : Type 0 where
  pub some : 0 < length word
  pub short : length word ≤ 131072
  pub lower : list_any is_ascii_uppercase word ≡ false
  pub decoded : decode_of word ≡ Ok payload

IsBytes-from_all : (bytes : List ℕ) → All (λ b. b < 256) bytes → IsBytes bytes
IsBytes-from_all bytes each i =
    elim (cases_lt i (length bytes)) [
      | inl below ↦ each i 0 below
      | inr past ↦ rw (get_or_past bytes i 0 past) (omega arith)
    ]

-- what an encoding decodes to
pub decode_of-hex_text : (b : ℕ) (bytes : List ℕ) → IsPayload (b ∷ bytes)
    → decode_of (hex_text (b ∷ bytes)) ≡ Ok (b ∷ bytes)
decode_of-hex_text b bytes fits =
    decode_of-encode_lower (b ∷ bytes) (IsBytes-from_all (b ∷ bytes) fits.0)

pub length-hex_text : (b : ℕ) (bytes : List ℕ)
    → length (hex_text (b ∷ bytes)) ≡ 2 * length (b ∷ bytes)
length-hex_text b bytes = length-encode_with lower_digits (b ∷ bytes)

pub IsEncoding-from_text : (word payload : List ℕ) → IsPayload payload → hex_text payload ≡ word
    → word ≢ codes "-"
    → IsEncoding word payload
IsEncoding-from_text word [] fits e other = absurd (other (sym e))
IsEncoding-from_text word (b ∷ bytes) fits e other =
    let len = length-hex_text b bytes in
    subst (λ (w : List ℕ). IsEncoding w (b ∷ bytes)) e (record {
      some = omega (arith, len);
      short = omega (arith, len, fits.1);
      lower = list_any-encode_lower (b ∷ bytes);
      decoded = decode_of-hex_text b bytes fits;
    })

-- a test that did not fail
guard_ok : {A : Type 0} (b : Bool) (d : FromHexError) (x : Result A FromHexError) (y : A)
    → cond b (Err d) x ≡ Ok y → x ≡ Ok y
guard_ok true d x y e = absurd cc
guard_ok false d x y e = e

hex_text-some : (bytes : List ℕ) → 0 < length bytes → hex_text bytes ≡ encode_lower bytes
hex_text-some [] some = absurd (omega arith)
hex_text-some (b ∷ bytes) some = refl

pub text_from_decoded : (word payload : List ℕ) → 0 < length word → length word ≤ 131072
    → list_any is_ascii_uppercase word ≡ false
    → decode_of word ≡ Ok payload → IsPayload payload × (hex_text payload ≡ word)
text_from_decoded word payload some short lower e =
    let pairs = guard_ok (eqb (length word % 2) 1) OddLength (decode_pairs 0 word) payload e in
    let read = encode_lower-decode_pairs 0 word payload lower pairs in
    let len : length word ≡ 2 * length payload = ap length (sym read.0)
    ∙ length-encode_with lower_digits payload in
    ((read.1, omega (arith, len)), hex_text-some payload (omega (arith, len)) ∙ read.0)
