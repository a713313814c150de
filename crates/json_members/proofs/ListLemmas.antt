-- Lists of a body: their elements, each judged as its kind.
use Rattle.std.proofs.Common.{◌≡◌, ℕ, ◌<◌, ◌+◌, length, List, [], ◌∷◌, ◌++◌, Bool, true, false, cond, ◌&&◌, Option, Some, None, Ok, is_some, option_and_then, option_map, get_or, take, drop, map, refl, sym, ap, ◌∙◌, add-one, drop-cons}
use Rattle.std.proofs.lemmas.List.{map-append, map_more, take-append-drop}
use Rattle.std.specs.List.{list_all}
use Rattle.serde_json.specs.Data.{Data}
use Rattle.serde_json.specs.Find.{get, as_array, as_object}
use Rattle.serde_json.specs.View.{view, items_of}
use Rattle.serde_json.specs.declared.value.Value.{Value}
use Rattle.json_members.specs.Member.{name_of}
use Rattle.json_members.specs.Members.{as_whole_object, each_as, elements, is_given, list_at}
use Rattle.json_members.specs.declared.member.Member.{Member}

pub elements-items_of : (values : List Data) → elements (items_of values) ≡ values
elements-items_of [] = refl
elements-items_of (value ∷ values) = ap (λ vs. value ∷ vs) (elements-items_of values)

pub list_at-given : (body : Data) (name : Member) (value : Data) (values : List Data) → is_given body name ≡ true
    → get (name_of name) body ≡ Some value → Some (items_of values) ≡ as_array value → list_at body name ≡ Ok values
list_at-given body name value values given found list =
    rw (given, found, sym list) (ap Ok (elements-items_of values))

-- ---- objects

each_as-object : (test later : Bool) (value : Data) (values : List Data) → is_some (as_object value) ≡ test
    → each_as as_whole_object values ≡ cond later (Some values) None
    → each_as as_whole_object (value ∷ values) ≡ cond (test && later) (Some (value ∷ values)) None
each_as-object true true value values is rest = rw (is, rest) refl
each_as-object true false value values is rest = rw (is, rest) refl
each_as-object false later value values is rest = rw is refl

pub each_as-objects : (values : List Value)
    → each_as as_whole_object (map view values)
    ≡ cond (list_all (λ value. is_some (as_object (view value))) values) (Some (map view values)) None
each_as-objects [] = refl
each_as-objects (value ∷ values) =
    each_as-object (is_some (as_object (view value))) _ (view value) (map view values) refl (each_as-objects values)

-- ---- one more element

-- the list is what stands before an element, the element, and what stands behind
pub map_split : {X Y : Type 0} (f : X → Y) (xs : List X) (i : ℕ) (x : X) → i < length xs → x ≡ get_or xs i x
    → map f xs ≡ map f (take i xs) ++ f x ∷ map f (drop (i + 1) xs)
map_split f xs i x within is =
    let here : drop i xs ≡ x ∷ drop (i + 1) xs = rw (add-one, is) (drop-cons xs i x within) in
    ap (map f) (sym (take-append-drop i xs)) ∙ map-append f (take i xs) (drop i xs) ∙ ap (λ l. map f (take i xs) ++ map f l) here

pub map_taken : {X Y : Type 0} (f : X → Y) (xs : List X) (i : ℕ) (x : X) → i < length xs → x ≡ get_or xs i x
    → map f (take (i + 1) xs) ≡ map f (take i xs) ++ f x ∷ []
map_taken f xs i x within is = map_more f xs i x within ∙ ap (λ y. map f (take i xs) ++ f y ∷ []) (sym is)

module _ {T : Type 0} where
  -- the first as its kind before the rest as theirs
  abbrev before : Option T → Option (List T) → Option (List T)
  before head rest = option_and_then (λ first. option_map (λ others. first ∷ others) rest) head

  push_behind : (head : Option T) (rest more : Option (List T)) (found : List T) (last : T) → before head rest ≡ Some found
      → ((others : List T) → rest ≡ Some others → more ≡ Some (others ++ last ∷ [])) → before head more ≡ Some (found ++ last ∷ [])
  push_behind None rest more found last is next = absurd (cc)
  push_behind (Some first) None more found last is next = absurd (cc)
  push_behind (Some first) (Some others) more found last is next =
      let whole : first ∷ others ≡ found = cc in
      rw (next others refl) (ap (λ l. Some (l ++ last ∷ [])) whole)

  none_before : (head : Option T) → before head None ≡ None
  none_before None = refl
  none_before (Some first) = refl

module _ {T : Type 0} (kind : Data → Option T) where
  pub each_as-push : (done : List Data) (found : List T) (value : Data) (last : T) → each_as kind done ≡ Some found
      → kind value ≡ Some last → each_as kind (done ++ value ∷ []) ≡ Some (found ++ last ∷ [])
  each_as-push [] found value last is one =
      let none : [] ≡ found = cc in rw one (ap (λ l. Some (l ++ last ∷ [])) none)
  each_as-push (first ∷ done) found value last is one =
      push_behind (kind first) (each_as kind done) _ found last is
      (λ others rest. each_as-push done others value last rest one)

  pub each_as-none : (done rest : List Data) (value : Data) → kind value ≡ None → each_as kind (done ++ value ∷ rest) ≡ None
  each_as-none [] rest value is = rw is refl
  each_as-none (first ∷ done) rest value is = rw (each_as-none done rest value is) (none_before (kind first))
