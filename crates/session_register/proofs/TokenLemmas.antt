-- A token, its bytes and its digits; and the parts of a value's text.
use Rattle.std.proofs.Common.{◌≡◌, ◌≢◌, ℕ, ◌+◌, ◌-◌, ◌*◌, ◌/◌, ◌%◌, ◌^◌, ◌<◌, ◌≤◌, nat_le, nat_eq, zero, suc, Bool, true, false, List, [], ◌∷◌, ◌++◌, length, take, drop, reverse, get_or, Option, Some, None, Result, Ok, Err, refl, sym, ap, subst, ◌∙◌, arith, length-append}
use Rattle.std.specs.Result.{MatchResult}
use Rattle.std.specs.Int.{w64, byte_at, bytes_high_first, to_be_bytes}
use Rattle.std.specs.Cmp.Lexicographic.{bytes_decides, pointwise}
use Rattle.std.proofs.Math.Nat.{mod-lt}
use Rattle.std.proofs.lemmas.Nat.{from_be_bytes-to_be_bytes_8}
use Rattle.std.proofs.lemmas.List.{append_cancel_right, drop_at, reverse-append, take-append-drop, take_at}
use Rattle.std.proofs.lemmas.Bool.Decides.{nat_tests}
use Rattle.hex.specs.Hex.{IsBytes, decode_sized, encode_lower, lower_digits}
use Rattle.hex.specs.declared.error.FromHexError.{FromHexError}
use Rattle.hex.proofs.HexLemmas.{decode_sized-encode_lower, length-encode_with}
use Rattle.chan_values.specs.declared.side.Side.{Side}
use Rattle.chan_values.specs.declared.side.Side.TheVariants.{Plugin, Agent}
use Rattle.session_register.specs.declared.token.Token.{Token}
use Rattle.session_register.specs.declared.token_value.TokenValue.{TokenValue}
use Rattle.session_register.specs.Rows.{IsToken, greatest}
use Rattle.session_register.specs.Stored.{read_token}
use Rattle.session_register.specs.Tokens.{IsWord, number_at, token_bytes, token_digits, token_of}
use Rattle.session_register.specs.TokenTexts.{IsTextOf, role_part, token_text}

-- ---- bytes

byte-fits : (k n : ℕ) → byte_at k n < 256
byte-fits zero n = mod-lt n (omega arith)
byte-fits (suc k) n = mod-lt (n / 256 ^ suc k) (omega arith)

high_first-fit : (k n : ℕ) → IsBytes (bytes_high_first k n)
high_first-fit zero n i = omega arith
high_first-fit (suc k) n zero = byte-fits k n
high_first-fit (suc k) n (suc i) = high_first-fit k n i

append-fit : (xs ys : List ℕ) → IsBytes xs → IsBytes ys → IsBytes (xs ++ ys)
append-fit [] ys first second i = second i
append-fit (x ∷ xs) ys first second zero = first 0
append-fit (x ∷ xs) ys first second (suc i) = append-fit xs ys (λ k. first (suc k)) second i

-- the token of its bytes
pub token_of-token_bytes : (token : Token) → IsWord token → token_of (token_bytes token) ≡ token
token_of-token_bytes token fits = λ i. record {
  count = from_be_bytes-to_be_bytes_8 token.count fits.0 i;
  random = from_be_bytes-to_be_bytes_8 token.random fits.1 i;
}

read_by : (bytes : List ℕ) (token : Token) → length bytes ≡ 16 → token_of bytes ≡ token
    → IsToken token → read_token bytes ≡ Some token
read_by bytes token sized is kept =
    let count : number_at 0 bytes ≡ token.count = ap (λ (t : Token). t.count) is in
    let whole : nat_eq (length bytes) 16 ≡ true = grind (arith, nat_tests) in
    let least : nat_le 1 (number_at 0 bytes) ≡ true = grind (arith, nat_tests) in
    let most : nat_le (number_at 0 bytes) greatest ≡ true = grind (arith, nat_tests) in
    rw (whole, least, most) (ap (λ (t : Token). Some t) is)

-- the bytes of a token that may be kept are read
pub read_token-token_bytes : (token : Token) → IsToken token → token.random < 2 ^ 64
    → read_token (token_bytes token) ≡ Some token
read_token-token_bytes token kept drawn =
    read_by (token_bytes token) token refl
    (token_of-token_bytes token (omega (arith, kept.1), drawn)) kept

-- ---- digits

pub length-token_digits : (token : Token) → length (token_digits token) ≡ 32
length-token_digits token = length-encode_with lower_digits (token_bytes token)

-- the digits of a token decode to its bytes
pub decodes : (digits bytes : List ℕ) (room : ℕ) (result : Result (Unit {0}) FromHexError)
    (token : Token) → room ≡ 16 → digits ≡ token_digits token
    → MatchResult (decode_sized digits room) (λ found. (result ≡ Ok tt) × (bytes ≡ found))
    (λ e. result ≡ Err e)
    → (result ≡ Ok tt) × (bytes ≡ token_bytes token)
decodes digits bytes room result token sized spelled decoded =
    let fit = append-fit (to_be_bytes w64 token.count) (to_be_bytes w64 token.random)
    (high_first-fit 8 token.count) (high_first-fit 8 token.random) in
    let is : decode_sized digits room ≡ Ok (token_bytes token) =
    ap (λ text. decode_sized text room) spelled
    ∙ decode_sized-encode_lower (token_bytes token) room (sym sized) fit in
    subst
    (λ (r : Result (List ℕ) FromHexError).
    MatchResult r (λ found. (result ≡ Ok tt) × (bytes ≡ found)) (λ e. result ≡ Err e))
    is decoded

-- ---- the parts of a text

-- what stands before its end
pub before_end : (front end name : List ℕ)
    → pointwise nat_eq (drop (length front - length end) front) end ≡ true
    → name ≡ take (length front - length end) front → front ≡ name ++ end
before_end front end name same is =
    let behind = (bytes_decides (drop (length front - length end) front) end).0 same in
    sym (take-append-drop (length front - length end) front)
    ∙ ap (λ xs. xs ++ drop (length front - length end) front) (sym is)
    ∙ ap (λ xs. name ++ xs) behind

-- and that its end is that
pub ends_so : (front name end : List ℕ) → front ≡ name ++ end
    → pointwise nat_eq (drop (length front - length end) front) end ≡ true
ends_so front name end is =
    let sized : length name ≡ length front - length end =
    omega (arith, ap length is, length-append name end) in
    let behind : drop (length front - length end) front ≡ end =
    ap (drop (length front - length end)) is ∙ drop_at name end _ sized in
    (bytes_decides (drop (length front - length end) front) end).1 behind

-- no text ends in the words of both ends
ends_apart : (name other : List ℕ) → name ++ role_part Plugin ≡ other ++ role_part Agent → ⊥
ends_apart name other same =
    let turned = sym (reverse-append name (role_part Plugin)) ∙ ap reverse same
    ∙ reverse-append other (role_part Agent) in
    let no : true ≡ false = ap (λ xs. nat_eq (get_or xs 1 0) 110) turned in
    absurd (cc)

-- the name and the end before the digits are one way alone
pub one_role : (front name other : List ℕ) (role second : Side) → front ≡ name ++ role_part role
    → front ≡ other ++ role_part second → (name ≡ other) × (role ≡ second)
one_role front name other Plugin Plugin first is =
    (append_cancel_right name other (role_part Plugin) (sym first ∙ is), refl)
one_role front name other Agent Agent first is =
    (append_cancel_right name other (role_part Agent) (sym first ∙ is), refl)
one_role front name other Plugin Agent first is = absurd (ends_apart name other (sym first ∙ is))
one_role front name other Agent Plugin first is = absurd (ends_apart other name (sym is ∙ first))

pub record HasParts (value : TokenValue) (text : List ℕ) : Type 0 where
  pub long : 32 ≤ length text
  pub front : take (length text - 32) text ≡ value.session ++ role_part value.role
  pub digits : drop (length text - 32) text ≡ token_digits value.token

pub parts : (value : TokenValue) (text : List ℕ) → IsTextOf value text → HasParts value text
parts value text is =
    let before = value.session ++ role_part value.role in
    let counted = length-token_digits value.token in
    let whole : length text ≡ length before + 32 =
    ap length is.spelled ∙ omega (
      arith,
      length-append before (token_digits value.token),
      counted,
    ) in
    let sized : length before ≡ length text - 32 = omega (arith, whole) in
    record {
      long = omega (arith, whole);
      front = ap (take (length text - 32)) is.spelled
          ∙ take_at before (token_digits value.token) _ sized;
      digits = ap (drop (length text - 32)) is.spelled
          ∙ drop_at before (token_digits value.token) _ sized;
    }
