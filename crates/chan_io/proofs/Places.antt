-- Places in a list.
use Rattle.std.proofs.Common.{◌≡◌, ℕ, ◌+◌, ◌≤◌, List, [], drop, length, sym, ap, ◌∙◌}
use Rattle.std.proofs.lemmas.List.{drop-drop, drop_all}

-- after the end of a list nothing more is dropped
pub drop_ended : {X : Type 0} (xs : List X) (n : ℕ) → length xs ≤ n → drop n xs ≡ drop 1 (drop n xs)
drop_ended xs n ended =
    let none : drop n xs ≡ [] = drop_all n xs ended in none ∙ ap (drop 1) (sym none)

-- one more is dropped
pub drop_more : {X : Type 0} (xs : List X) (n : ℕ) → drop (n + 1) xs ≡ drop 1 (drop n xs)
drop_more xs n = sym (drop-drop 1 n xs)
