-- A message past the end of its direction.
use Rattle.std.proofs.Common.{◌≡◌, ℕ, ◌+◌, ◌<◌, ◌≤◌, Bool, false, None, refl, sym, ◌∙◌, arith}
use Rattle.std.specs.Bool.{MatchBool}
use Rattle.std.specs.Option.{IsSome, is_some}
use Rattle.std.proofs.lemmas.Bool.{le-ltb}
use Rattle.receive_window.specs.Window.{IsPastEnd, WindowState, is_below, is_taken, item_with}
use Rattle.receive_window.proofs.ItemLemmas.{not_some}

-- what a test that fails leaves
pub otherwise : (b : Bool) (P Q : Type 0) → b ≡ false → MatchBool b P Q → Q
otherwise b P Q is both = rw is at both

-- from the next number on a taken message waits for an earlier one
pub taken-early : (state : WindowState) (n : ℕ)
    → state.expected ≤ n
    → is_taken state n ≡ is_some (item_with state.early n)
taken-early state n from = rw (le-ltb n state.expected from) refl

-- a message that is not below the last one is not past the end where none above it waits
pub not_past_end : (state : WindowState) (n : ℕ) (last : Bool) (m : ℕ)
    → state.expected ≤ n
    → is_below state.last n ≡ false
    → ((k : ℕ) → n + 1 ≤ k → k < state.expected + state.window → item_with state.early k ≡ None)
    → ((k : ℕ) → IsSome (item_with state.early k) → k < state.expected + state.window)
    → IsPastEnd state n last m
    → ⊥
not_past_end state n last m from apart free within past =
    let least = (otherwise (is_below state.last n) _ _ apart past).1 in
    let waits : IsSome (item_with state.early m)
    = sym (taken-early state m (omega arith)) ∙ least.1 in
    not_some (item_with state.early m) (free m (omega arith) (within m waits)) waits
