-- Objects inside of objects, and lists of them: what they give, their faults, and how they are written.
use Rattle.std.proofs.Common.{◌≡◌, ℕ, List, [], ◌∷◌, ◌++◌, Some, Result, Ok, Err, inl, inr, map, flat_map, refl}
use Rattle.std.specs.Prelude.{IsOkAnd}
use Rattle.std.specs.List.{All, AllByRecursion, AllZip, slice_get}
use Rattle.std.proofs.lemmas.List.Elements.{recursion_from_All}
use Rattle.serde_json.specs.Data.{Data, string}
use Rattle.serde_json.specs.Find.{get, as_str}
use Rattle.json_members.specs.Member.{name_of}
use Rattle.json_members.specs.Object.{Field, array_of, object_with}
use Rattle.json_members.specs.Members.{as_whole_object, each_as, objects_at, texts_at}
use Rattle.json_bodies.specs.Reading.{faults_within, IsFirst}
use Rattle.json_members.specs.declared.member.Member.{Member}
use Rattle.json_members.specs.declared.body_fault.BodyFault.{BodyFault}
use Rattle.json_members.proofs.ListLemmas.{elements-items_of}

-- ---- what was found under a member

-- two facts of it hold of one value
pub found_same : {T U : Type 0} (found : Result T BodyFault) {P Q : T → Type 0} (a b : U) → IsOkAnd found P → IsOkAnd found Q
    → ((value : T) → P value → Q value → a ≡ b) → a ≡ b
found_same (Ok value) a b p q same = same value p q
found_same (Err fault) a b p q same = absurd p

-- it has no fault, where nothing inside of it has
pub found_faultless : {T : Type 0} (inside : T → List BodyFault) (found : Result T BodyFault) {P : T → Type 0} → IsOkAnd found P
    → ((value : T) → P value → inside value ≡ []) → faults_within inside found ≡ []
found_faultless inside (Ok value) p none = none value p
found_faultless inside (Err fault) p none = absurd p

-- ---- lists

module _ {T : Type 0} (Gives : Data → T → Type 0) where
  pub all_same : ((body : Data) (a b : T) → Gives body a → Gives body b → a ≡ b) → (bodies : List Data) (xs ys : List T)
      → AllZip Gives bodies xs → AllZip Gives bodies ys → xs ≡ ys
  all_same same [] [] [] g h = refl
  all_same same [] [] (y ∷ ys) g h = absurd h
  all_same same [] (x ∷ xs) ys g h = absurd g
  all_same same (body ∷ bodies) [] ys g h = absurd g
  all_same same (body ∷ bodies) (x ∷ xs) [] g h = absurd h
  all_same same (body ∷ bodies) (x ∷ xs) (y ∷ ys) g h =
      λ i. same body x y g.0 h.0 i ∷ all_same same bodies xs ys g.1 h.1 i

  pub all_faultless : (faults : Data → List BodyFault) → ((body : Data) (value : T) → Gives body value → faults body ≡ [])
      → (bodies : List Data) (values : List T) → AllZip Gives bodies values → flat_map faults bodies ≡ []
  all_faultless faults none [] values g = refl
  all_faultless faults none (body ∷ bodies) [] g = absurd g
  all_faultless faults none (body ∷ bodies) (value ∷ values) g =
      rw (none body value g.0) (all_faultless faults none bodies values g.1)

  pub AllZip-more : (bodies : List Data) (values : List T) (body : Data) (value : T) → AllZip Gives bodies values → Gives body value
      → AllZip Gives (bodies ++ body ∷ []) (values ++ value ∷ [])
  AllZip-more [] [] body value g one = (one, tt)
  AllZip-more [] (first ∷ values) body value g one = absurd g
  AllZip-more (first ∷ bodies) [] body value g one = absurd g
  AllZip-more (first ∷ bodies) (head ∷ values) body value g one =
      (g.0, AllZip-more bodies values body value g.1 one)

  each_given : (tree : T → Data) (P : T → Type 0) → ((value : T) → P value → Gives (tree value) value) → (values : List T)
      → AllByRecursion P values → AllZip Gives (map tree values) values
  each_given tree P gives [] p = tt
  each_given tree P gives (value ∷ values) p = (gives value p.0, each_given tree P gives values p.1)

  pub all_given : (tree : T → Data) (P : T → Type 0) → ((value : T) → P value → Gives (tree value) value) → (values : List T)
      → All P values → AllZip Gives (map tree values) values
  all_given tree P gives values p = each_given tree P gives values (recursion_from_All P values p)

-- the first fault of some faults is the first of more
first_of_more : (faults more : List BodyFault) (fault : BodyFault) → slice_get faults 0 ≡ Some fault → slice_get (faults ++ more) 0 ≡ Some fault
first_of_more [] more fault is = absurd (cc)
first_of_more (first ∷ faults) more fault is = is

both_none : (faults more : List BodyFault) → faults ++ more ≡ [] → (faults ≡ []) × (more ≡ [])
both_none [] more is = (refl, is)
both_none (first ∷ faults) more is = absurd (cc)

behind_none : (faults : Data → List BodyFault) (before behind : List Data) (body : Data) (fault : BodyFault) → flat_map faults before ≡ []
    → slice_get (faults body) 0 ≡ Some fault → slice_get (flat_map faults (before ++ body ∷ behind)) 0 ≡ Some fault
behind_none faults [] behind body fault none is = first_of_more (faults body) (flat_map faults behind) fault is
behind_none faults (first ∷ before) behind body fault none is =
    let parts = both_none (faults first) (flat_map faults before) none in
    rw parts.0 (behind_none faults before behind body fault parts.1 is)

pub first_of_list : (faults : Data → List BodyFault) (before behind : List Data) (body : Data) (fault : BodyFault) → flat_map faults before ≡ []
    → IsFirst (faults body) fault → IsFirst (flat_map faults (before ++ body ∷ behind)) fault
first_of_list faults before behind body fault none (inl is) = inl (behind_none faults before behind body fault none is)
first_of_list faults before behind body fault none (inr memory) = inr memory

-- ---- how lists are written

each_object : {T : Type 0} (fields : T → List Field) (values : List T)
    → each_as as_whole_object (map (λ value. object_with (fields value)) values) ≡ Some (map (λ value. object_with (fields value)) values)
each_object fields [] = refl
each_object fields (value ∷ values) = rw (each_object fields values) refl

each_text : (texts : List (List ℕ)) → each_as as_str (map string texts) ≡ Some texts
each_text [] = refl
each_text (text ∷ texts) = rw (each_text texts) refl

pub objects_at-written : {T : Type 0} (fields : T → List Field) (values : List T) (body : Data) (name : Member)
    → get (name_of name) body ≡ Some (array_of (map (λ value. object_with (fields value)) values))
    → objects_at body name ≡ Ok (map (λ value. object_with (fields value)) values)
objects_at-written fields values body name is =
    rw (is, elements-items_of (map (λ value. object_with (fields value)) values), each_object fields values) refl

pub texts_at-written : (texts : List (List ℕ)) (body : Data) (name : Member) → get (name_of name) body ≡ Some (array_of (map string texts))
    → texts_at body name ≡ Ok texts
texts_at-written texts body name is = rw (is, elements-items_of (map string texts), each_text texts) refl
