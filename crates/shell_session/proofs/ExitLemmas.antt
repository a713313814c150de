-- The texts of statuses.
use Rattle.std.proofs.Common.{◌≡◌, ◌<◌, ◌^◌, ℕ, ℤ, pos, negsuc, List, Result, Ok, Err, IsUtf8, FitsSigned, sym, ap, ◌∙◌, subst, arith, w32}
use Rattle.std.specs.Fmt.{signed_decimal}
use Rattle.std.specs.Str.Parse.{ParsesSigned}
use Rattle.std.proofs.lemmas.Fmt.{IsAscii-signed, parse-signed_decimal}
use Rattle.std.proofs.lemmas.Str.{IsUtf8-from_ascii}
use lib.Signed.{mag}

short_status : (z : ℤ) → FitsSigned w32 z → mag z < 2 ^ 63
short_status (pos n) fits = omega (arith, fits.sfits)
short_status (negsuc n) fits = omega (arith, fits.sfits)

value_in : {E : Type 0} → Result ℤ E → ℤ
value_in (Ok z) = z
value_in (Err e) = pos 0

-- one value was read
pub one_value : {E : Type 0} (r : Result ℤ E) (y z : ℤ) → r ≡ Ok y → r ≡ Ok z → y ≡ z
unfolding value_in
one_value r y z a b = ap (λ q. value_in q) (sym a ∙ b)

-- the text of a status is UTF-8
pub status_utf8 : (z : ℤ) (bytes : List ℕ)
    → FitsSigned w32 z
    → bytes ≡ signed_decimal z
    → IsUtf8 bytes
status_utf8 z bytes fits is =
    subst IsUtf8 (sym is)
    (IsUtf8-from_ascii (signed_decimal z) (IsAscii-signed z (short_status z fits)))

-- and is read as it
pub status_again : {E : Type 0} (z : ℤ) (bytes : List ℕ) (r : Result ℤ E)
    → FitsSigned w32 z
    → bytes ≡ signed_decimal z
    → ParsesSigned w32 10 bytes r
    → r ≡ Ok z
status_again z bytes r fits is parses =
    parse-signed_decimal w32 z bytes r fits (short_status z fits) is parses
