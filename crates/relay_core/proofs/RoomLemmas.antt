-- A room in a map, by the test of its key.
use Rattle.std.proofs.Common.{◌≡◌, ℕ, Bool, true, false, cond, Option, Some, None, unwrap_or, List, sym, ap, ◌∙◌, refl}
use Rattle.std.specs.BTreeMap.{is_at}
use Rattle.std.specs.Cmp.Lexicographic.{slice_cmp}
use Rattle.std.specs.Map.{lookup}
use Rattle.std.specs.Ordering.{nat_cmp}
use Rattle.session_register.proofs.NameLemmas.{same_name-key, same_name-true}
use Rattle.relay_core.specs.declared.room.Room.{Room}
use Rattle.relay_core.specs.Changes.{cleared_room}
use Rattle.relay_core.specs.Kept.{empty_room, room_in}

-- a key that passes is the session
key-true : (session s : List ℕ) → is_at (slice_cmp nat_cmp session) s ≡ true → session ≡ s
key-true session s is = same_name-true session s (sym (same_name-key session s) ∙ is)

module _ (rooms : List (List ℕ × Room)) (session s : List ℕ) where
  abbrev found : Option Room
  found = lookup (is_at (slice_cmp nat_cmp s)) rooms

  kept-by : (room : Room) (b : Bool) → (b ≡ true → session ≡ s) → room ≡ room_in rooms session
      → unwrap_or (cond b (Some room) found) empty_room ≡ room_in rooms s
  kept-by room true same is = is ∙ ap (room_in rooms) (same refl)
  kept-by room false same is = refl

  -- a session's own room, put in its place
  pub room-kept : (new : List (List ℕ × Room)) (room : Room) → room ≡ room_in rooms session
      → lookup (is_at (slice_cmp nat_cmp s)) new
      ≡ cond (is_at (slice_cmp nat_cmp session) s) (Some room) found
      → room_in new s ≡ room_in rooms s
  room-kept new room is put =
      ap (λ o. unwrap_or o empty_room) put
      ∙ kept-by room (is_at (slice_cmp nat_cmp session) s) (key-true session s) is

  cleared-by : (conn : ℕ) (b : Bool) → (b ≡ true → session ≡ s)
      → lookup (is_at (slice_cmp nat_cmp session)) rooms ≡ None
      → room_in rooms s ≡ cond b (cleared_room conn (room_in rooms session)) (room_in rooms s)
  cleared-by conn true same none =
      ap (room_in rooms) (sym (same refl))
      ∙ ap (λ o. unwrap_or o empty_room) none
      ∙ sym (ap (λ o. cleared_room conn (unwrap_or o empty_room)) none)
  cleared-by conn false same none = refl

  -- a session without a room has no connection to clear
  pub room-none : (conn : ℕ) → lookup (is_at (slice_cmp nat_cmp session)) rooms ≡ None
      → room_in rooms s
      ≡ cond (is_at (slice_cmp nat_cmp session) s) (cleared_room conn (room_in rooms session))
      (room_in rooms s)
  room-none conn none =
      cleared-by conn (is_at (slice_cmp nat_cmp session) s) (key-true session s) none
