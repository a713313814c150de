-- The receive window of one end: what came, by number (RCV.NXT of RFC 9293, 3.3.1, in messages).
use Rattle.std.specs.Prelude.{◌≡◌, ◌≢◌, AllPairs, ℕ, ◌+◌, ◌-◌, ◌<◌, ◌≤◌, Bool, true, false, ◌&&◌, ◌||◌, IsTrue, Option, Some, None, List, [], is_some, IsSome, nat_eq, nat_le, nat_lt, if◌then◌else◌}
use Rattle.std.specs.Bool.{MatchBool}
use Rattle.std.specs.List.{filter_map, range_with_len}
use Rattle.std.specs.Map.{lookup}
use Rattle.chan_values.specs.declared.item.Item.{Item}
use Rattle.receive_window.specs.declared.take.Take.{Take}
use Rattle.receive_window.specs.declared.take.Take.TheVariants as takes

-- a receive window
pub record WindowState : Type 0 where
  -- how many numbers from the next one on are taken
  pub window : ℕ
  -- the least number that wasn't taken
  pub expected : ℕ
  -- the items that were taken out of order, by number
  pub early : List (ℕ × Item)
  -- the number of the message that is the last of its direction, if it was taken
  pub last : Option ℕ

-- nothing was taken
abbrev pub empty_window : ℕ → WindowState
empty_window window = record { window = window; expected = 0; early = []; last = None }

-- the item with a number
abbrev pub item_with : List (ℕ × Item) → ℕ → Option Item
item_with items n = lookup (nat_eq n) items

-- no number stands twice: with the look-up of each number this fixes which items there are
abbrev pub AreDifferent : List (ℕ × Item) → Type 0
AreDifferent items = AllPairs (λ (p q : ℕ × Item). p.0 ≢ q.0) items

-- whether a number was taken
abbrev pub is_taken : WindowState → ℕ → Bool
is_taken state n = nat_lt n state.expected || is_some (item_with state.early n)

-- a number inside the window that wasn't taken
abbrev pub IsNew : WindowState → ℕ → Type 0
IsNew state n = (is_taken state n ≡ false) × (n < state.expected + state.window)

-- the least number above the first that was taken
abbrev pub IsLeastTakenAbove : WindowState → ℕ → ℕ → Type 0
IsLeastTakenAbove state n m =
    (n < m) × IsTrue (is_taken state m) × ((k : ℕ) → n < k → k < m → is_taken state k ≡ false)

-- whether a message with this number, if there is one, stands below the second number
abbrev pub is_below : Option ℕ → ℕ → Bool
is_below None n = false
is_below (Some m) n = nat_lt m n

-- a message cannot be taken: the last one, m, stands below it, or it is last and m, taken, stands
-- above it
abbrev pub IsPastEnd : WindowState → ℕ → Bool → ℕ → Type 0
IsPastEnd state n last m =
    MatchBool (is_below state.last n)
    (state.last ≡ Some m)
    (IsTrue last × IsLeastTakenAbove state n m)

-- the number of the last message, where one more is taken
abbrev pub last_with : Option ℕ → ℕ → Bool → Option ℕ
last_with before n last = if last then Some n else before

-- whether the last message is among those from the first bound up to the second
abbrev pub is_last_among : Option ℕ → ℕ → ℕ → Bool
is_last_among None from to = false
is_last_among (Some m) from to = nat_le from m && nat_lt m to

-- the items with the numbers from the first bound up to the second, by number
abbrev pub items_in_order : List (ℕ × Item) → ℕ → ℕ → List Item
items_in_order items from to = filter_map (item_with items) (range_with_len from (to - from))

-- of these items, all that follow one another from the old next number on are released, and the
-- others stay; the direction is finished where the last message is released
pub record Releases
    (old : WindowState)
    (arrived : List (ℕ × Item))
    (end : Option ℕ)
    (items : List Item)
    (done : Bool)
    (new : WindowState)
    : Type 0 where
  -- the window stays
  pub window : new.window ≡ old.window
  -- the next number doesn't fall
  pub grows : old.expected ≤ new.expected
  -- each number up to the new next one has come
  pub there : (n : ℕ) → old.expected ≤ n → n < new.expected → IsSome (item_with arrived n)
  -- and the new next one hasn't
  pub missing : item_with arrived new.expected ≡ None
  -- what is released
  pub released : items ≡ items_in_order arrived old.expected new.expected
  -- what stays
  pub early : (n : ℕ)
      → item_with new.early n ≡ (if nat_lt n new.expected then None else item_with arrived n)
  -- each once
  pub different : AreDifferent new.early
  -- which message is the last
  pub last : new.last ≡ end
  -- and whether it is among those that are released
  pub finished : done ≡ is_last_among end old.expected new.expected

-- a message that is taken: what is released, and whether the direction is finished with it
abbrev pub IfTaken : Take → (List Item → Bool → Type 0) → Type 0
IfTaken (takes.Released items) P = P items false
IfTaken (takes.Finished items) P = P items true
IfTaken answer P = Unit {0}

-- a message that isn't taken changes nothing, and comes back where memory is wanted
abbrev pub IfRefused : Take → Item → WindowState → WindowState → Type 0
IfRefused (takes.Released items) item old new = Unit {0}
IfRefused (takes.Finished items) item old new = Unit {0}
IfRefused (takes.NoMemory back) item old new = (back ≡ item) × (new ≡ old)
IfRefused answer item old new = new ≡ old
