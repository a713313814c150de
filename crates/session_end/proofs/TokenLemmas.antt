-- The digits of a token are ASCII.
use Rattle.std.proofs.Common.{◌≡◌, ℕ, true, ltb, get_or, inl, inr, refl, ap}
use Rattle.std.specs.Str.{IsAscii}
use Rattle.std.proofs.lemmas.Bool.{agree_below_at, cases_lt, ltb-true}
use Rattle.std.proofs.lemmas.List.{get_or_past}
use Rattle.hex.proofs.HexLemmas.{IsAscii-encode_with}
use Rattle.hex.specs.Hex.{lower_digits}
use Rattle.session_register.specs.declared.token.Token.{Token}
use Rattle.session_register.specs.Tokens.{token_bytes, token_digits}

-- each digit of the table is, and past its end stands 0
low : (d : ℕ) → ltb (get_or lower_digits d 0) 128 ≡ true
low d =
    elim (cases_lt d 16) [
      | inl below ↦ agree_below_at (λ k. ltb (get_or lower_digits k 0) 128) (λ _. true) 16 d refl
          below
      | inr past ↦ ap (λ (n : ℕ). ltb n 128) (get_or_past lower_digits d 0 past)
    ]

pub digits_ascii : (token : Token) → IsAscii (token_digits token)
digits_ascii token =
    IsAscii-encode_with lower_digits (token_bytes token)
    (λ d. ltb-true (get_or lower_digits d 0) 128 (low d))
