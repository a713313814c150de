-- What a session stands for, and what its calls change of it.
use Rattle.std.specs.Prelude.{◌≡◌, ◌≤◌, ℕ, Bool, true, Option, Some, None, List, [], ◌∷◌, ◌++◌, map, length, Result, Ok, Err, Vec}
use Rattle.std.specs.List.{All, flat_map}
use Rattle.chan_values.specs.Limits.{max_payload}
use Rattle.chan_values.specs.declared.item.Item.{Item}
use Rattle.session_run.specs.declared.parcel.Parcel.{Parcel}
use Rattle.session_feeds.specs.declared.feeder.Came.{Came}
use Rattle.session_feeds.specs.declared.session.SessionFault.{SessionFault}
use Rattle.session_feeds.specs.declared.session.Verdict.{Verdict}
use Rattle.session_feeds.specs.Marks.{Told}

-- what a session was given and gave
pub record Account (Contents : Type 0) : Type 0 where
  -- what its objects held at first
  pub contents : Contents
  -- the parcels that it took, in order
  pub taken : List Parcel
  -- the items that it and the feeders that came back gave
  pub given : List Item
  -- the feeders that came back, each with how it came to its end
  pub back : List (ℕ × Option Came)

-- the refusal of a call, if it was refused
abbrev pub refusal_in : {X : Type 0} → Result X SessionFault → Option SessionFault
refusal_in (Ok answer) = None
refusal_in (Err fault) = Some fault

-- it was begun, and no call was refused
abbrev pub MayCall : Bool → Option SessionFault → Type 0
MayCall begun refused = (begun ≡ true) × (refused ≡ None)

-- each of these items fits into a message
abbrev pub AllSmall : List Item → Type 0
AllSmall items = All (λ item. length item.payload ≤ max_payload) items

module _ {F : Type 0} where
  -- the items of a verdict
  abbrev pub puts_in : Result (Verdict F) SessionFault → List Item
  puts_in (Ok verdict) = verdict.puts
  puts_in (Err fault) = []

  -- the feeders of a verdict
  abbrev pub feeders_of : Result (Verdict F) SessionFault → List F
  feeders_of (Ok verdict) = verdict.feeders.items
  feeders_of (Err fault) = []

  -- the feeders that were made when it was tried again
  abbrev pub made_ready : {B A : Type 0} → Result (B × Vec F A) SessionFault → List F
  made_ready (Ok made) = made.1.items
  made_ready (Err fault) = []

-- these feeders are out, beside those that were
abbrev pub AddsMarks : {F : Type 0} → (F → Told) → List ℕ → List F → List ℕ → Type 0
AddsMarks told before feeders after = after ≡ before ++ map (λ f. (told f).mark) feeders

-- the mark of a feeder left the list, and those of the feeders that it gave came in
abbrev pub TakesOut : Told → List ℕ → List ℕ → Type 0
TakesOut f before after =
    (xs ys : List ℕ) × (before ≡ xs ++ f.mark ∷ ys) × (after ≡ xs ++ ys ++ f.children)

-- the account stays
abbrev pub Stays : {C : Type 0} → (Account C → Type 0) → (Account C → Type 0) → Type 0
Stays {C} before after = (a : Account C) → before a → after a

-- the call took these parcels and gave these items
abbrev pub Gives : {C : Type 0} → (Account C → Type 0) → List Parcel → List Item
    → (Account C → Type 0) → Type 0
Gives {C} before parcels items after = (a : Account C)
    → before a
    → after (record a { taken = a.taken ++ parcels; given = a.given ++ items })

-- a feeder came back, with its pieces
abbrev pub BringsBack : {C : Type 0} → Told → (Account C → Type 0) → (Account C → Type 0)
    → Type 0
BringsBack {C} f before after = (a : Account C)
    → before a
    → after (record a { given = a.given ++ f.pieces; back = a.back ++ (f.mark, f.came) ∷ [] })

-- these feeders came back, in order, each with its pieces
abbrev pub AllCameBack : {C : Type 0} → (Account C → Type 0) → List Told
    → (Account C → Type 0) → Type 0
AllCameBack {C} before fs after = (a : Account C)
    → before a
    → after (record a {
      given = a.given ++ flat_map (λ f. f.pieces) fs;
      back = a.back ++ map (λ f. (f.mark, f.came)) fs;
    })
