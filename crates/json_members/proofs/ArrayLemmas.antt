-- The loops that write a list: one more of its values, and all of them.
use Rattle.std.proofs.Common.{◌≡◌, ℕ, ◌<◌, ◌≤◌, ◌+◌, List, [], ◌∷◌, ◌++◌, length, get_or, take, map, All, sym, ap, ◌∙◌, subst, Vec, Global}
use Rattle.std.proofs.lemmas.List.{map-append, take_all}
use Rattle.std.proofs.lemmas.List.Elements.{All-more, All-same}
use Rattle.serde_json.proofs.Views.{view-Array}
use Rattle.serde_json.specs.Data.{Data}
use Rattle.serde_json.specs.View.{view}
use Rattle.serde_json.specs.declared.value.Value.{Value}
use Rattle.serde_json.specs.declared.value.Value.TheVariants.{Array}
use Rattle.json_members.specs.Object.{array_of}
use Rattle.json_members.proofs.ListLemmas.{map_taken}

module _ {T : Type 0} (tree : T → Data) (values : List T) (i : ℕ) (value : T) (within : i < length values) (is : value ≡ get_or values i value) where
  pub made_in_list : (made : List Value) (object : Value) → map view made ≡ map tree (take i values) → view object ≡ tree value
      → map view (made ++ object ∷ []) ≡ map tree (take (i + 1) values)
  made_in_list made object so_far one =
      map-append view made (object ∷ []) ∙ rw (so_far, one) (sym (map_taken tree values i value within is))

  pub one_more : (P : T → Type 0) → All P (take i values) → P value → All P (take (i + 1) values)
  one_more P so_far one = All-more P values i value within so_far (subst P is one)

pub all_of_them : {T : Type 0} (P : T → Type 0) (values : List T) (i : ℕ) → length values ≤ i → All P (take i values) → All P values
all_of_them P values i all taken = All-same P values (take i values) (sym (take_all i values all)) taken

-- all of them as a list
pub view-made : {T : Type 0} (tree : T → Data) (values : List T) (i : ℕ) (list : Vec Value Global) → length values ≤ i
    → map view list.items ≡ map tree (take i values) → view (Array list) ≡ array_of (map tree values)
view-made tree values i list all made =
    view-Array list ∙ ap array_of (made ∙ ap (map tree) (take_all i values all))
