-- What the slots of a ring stand for and keep to. No public clause cites this file.
use Rattle.std.specs.Prelude.{◌≡◌, ℕ, ◌%◌, ◌^◌, ◌<◌, ◌≤◌, Option, None, List, filter_map, length, slice_index_or}
use Rattle.std.specs.List.{range_with_len}
use Rattle.std.specs.Option.{option_map}

module _ {T : Type 0} where
  -- what the slot of a number has, in a ring with this capacity
  abbrev pub slot_at : ℕ → List (Option T) → ℕ → Option T
  slot_at capacity slots n = slice_index_or slots (n % capacity) None

  -- a value with its number
  abbrev pub tagged : (ℕ → Option T) → ℕ → Option (ℕ × T)
  tagged at n = option_map (λ v. (n, v)) (at n)

  -- the values of so many numbers from the first on, by number
  abbrev pub numbered : (ℕ → Option T) → ℕ → ℕ → List (ℕ × T)
  numbered at from count = filter_map (tagged at) (range_with_len from count)

  -- each slot belongs to one number that has room, and the values are counted
  pub record IsSound
      (capacity : ℕ) (slots : List (Option T)) (base taken : ℕ)
      : Type 0 where
    pub small : base ≤ 2 ^ 63
    pub few : capacity < 2 ^ 63
    pub sized : length slots ≡ capacity
    pub counted : taken ≡ length (numbered (slot_at capacity slots) base capacity)
