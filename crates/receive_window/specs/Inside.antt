-- What the fields of a receive window keep to. No public clause cites this file.
use Rattle.std.specs.Prelude.{◌≡◌, ℕ, ◌^◌, ◌<◌, ◌≤◌, nat_le, None, List, filter, All}
use Rattle.chan_values.specs.declared.item.Item.{Item}
use Rattle.chan_values.specs.Limits.{max_window}
use Rattle.slot_ring.specs.Ring.{Ring, value_with}

-- the items with a number and those above
abbrev pub from_number : ℕ → List (ℕ × Item) → List (ℕ × Item)
from_number n held = filter (λ (e : ℕ × Item). nat_le n e.0) held

-- the ring begins at the next number, which it does not have, and reaches as far as the window
pub record IsReassembly (window : ℕ) (early : Ring Item) : Type 0 where
  pub narrow : 1 ≤ window
  pub wide : window ≤ max_window
  pub numbers : early.base ≤ 2 ^ 63
  pub missing : value_with early.held early.base ≡ None
  pub small : All (λ (e : ℕ × Item). e.0 < 2 ^ 63) early.held
  pub room : early.capacity ≡ window
