-- The list in which an end keeps the acknowledgements that it owes.
use Rattle.std.specs.Prelude.{ℕ, ◌^◌, ◌<◌, ◌≤◌, List, All}

-- such a list
pub record OwedState : Type 0 where
  -- how many it may have
  pub limit : ℕ
  -- number and MessageId of what was heard, the oldest first
  pub acks : List (ℕ × List ℕ)

-- there is room for as many as it may have, and each number is below 2^63
pub record HasRoom (limit capacity : ℕ) (acks : List (ℕ × List ℕ)) : Type 0 where
  pub room : limit ≤ capacity
  pub numbers : All (λ p. p.0 < 2 ^ 63) acks
