-- Numbers in a list, and the least one that is missing.
use Rattle.std.specs.Prelude.{ℕ, ◌+◌, zero, suc, Bool, not, ◌&&◌, Option, Some, None, List, map, if◌then◌else◌, nat_eq, nat_lt, unwrap_or}
use Rattle.std.specs.List.{list_any, sum}
use Rattle.chan_values.specs.declared.item.Item.{Item}

-- whether the number is in the list
abbrev pub has_number : List ℕ → ℕ → Bool
has_number numbers n = list_any (nat_eq n) numbers

-- the first value, or else the second
abbrev pub or_else : {X : Type 0} → Option X → Option X → Option X
or_else (Some x) other = Some x
or_else None other = other

-- the least number below the bound that passes the test
abbrev pub least_below : (ℕ → Bool) → ℕ → Option ℕ
least_below test zero = None
least_below test (suc bound) =
    or_else (least_below test bound) (if test bound then Some bound else None)

-- the least number that is not in the list; it is at most one more than the sum
unfoldable pub least_absent : List ℕ → ℕ
least_absent numbers =
    unwrap_or (least_below (λ n. not (has_number numbers n)) (sum numbers + 2)) 0

-- the least number of the list above this one
abbrev pub least_above : List ℕ → ℕ → Option ℕ
least_above numbers n = least_below (λ m. nat_lt n m && has_number numbers m) (sum numbers + 1)

-- the numbers of a list of numbered items
abbrev pub numbers_of : List (ℕ × Item) → List ℕ
numbers_of items = map (λ p. p.0) items
