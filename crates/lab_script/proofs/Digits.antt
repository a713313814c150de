-- Numbers in decimal, read by `parse`.
use Rattle.std.proofs.Common.{◌≡◌, ℕ, ◌<◌, ◌^◌, List, Result, Ok, sym, subst, decimal}
use Rattle.std.specs.Str.{IsUtf8}
use Rattle.std.specs.Str.Parse.{ParsesUnsigned}
use Rattle.std.proofs.lemmas.Fmt.{IsAscii-decimal, parse-decimal}
use Rattle.std.proofs.lemmas.Str.{IsUtf8-from_ascii}

-- the text of a number is UTF-8
pub IsUtf8-decimal : (n : ℕ) (word : List ℕ) → n < 2 ^ 64 → decimal n ≡ word → IsUtf8 word
IsUtf8-decimal n word small e =
    subst IsUtf8 e (IsUtf8-from_ascii (decimal n) (IsAscii-decimal n small))

-- `parse` reads the text of a number as the number
pub parse_again : {E : Type 0} (n : ℕ) (word : List ℕ) (r : Result ℕ E) → n < 2 ^ 64
    → decimal n ≡ word
    → ParsesUnsigned 64 10 word r → r ≡ Ok n
parse_again n word r small e h = parse-decimal 64 n word r small small (sym e) h
