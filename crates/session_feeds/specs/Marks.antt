-- Marks of feeders as a count for each mark, and the order in which feeders come back.
use Rattle.std.specs.Prelude.{◌≡◌, ℕ, ◌+◌, List, [], ◌∷◌, Option, None, nat_eq, if◌then◌else◌}
use Rattle.chan_values.specs.declared.item.Item.{Item}
use Rattle.session_feeds.specs.declared.feeder.Came.{Came}

-- 1 for the same mark, and 0 for another
abbrev pub same_mark : ℕ → ℕ → ℕ
same_mark mark q = if nat_eq mark q then 1 else 0

-- how often a mark stands in the list
abbrev pub times : List ℕ → ℕ → ℕ
times [] q = 0
times (mark ∷ marks) q = same_mark mark q + times marks q

-- what a feeder tells of itself
pub record Told : Type 0 where
  pub mark : ℕ
  -- the marks of the feeders that it gave
  pub children : List ℕ
  pub pieces : List Item
  pub came : Option Came
  -- how many calls of its source and of its ports failed
  pub faults : ℕ

-- a feeder that gave nothing yet
pub record IsNew (t : Told) : Type 0 where
  pub no_children : t.children ≡ []
  pub no_pieces : t.pieces ≡ []
  pub on : t.came ≡ None

-- with these marks out, the feeders come back in this order, each while its mark is out, and those
-- that it gave are out from then on; then the other marks are out
abbrev pub ComesBack : (ℕ → ℕ) → List Told → (ℕ → ℕ) → Type 0
ComesBack out [] left = (q : ℕ) → out q ≡ left q
ComesBack out (f ∷ fs) left =
    (others : ℕ → ℕ)
    × ((q : ℕ) → out q ≡ same_mark f.mark q + others q)
    × ComesBack (λ q. others q + times f.children q) fs left
