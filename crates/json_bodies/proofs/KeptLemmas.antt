-- A value that is written and read back: how one is made of others.
use Rattle.std.proofs.Common.{◌≡◌, ℕ, ◌+◌, ◌≤◌, List, [], ◌∷◌, ◌++◌, Bool, true, false, Option, Some, None, Ok, IsUtf8, refl, sym, ap, ◌∙◌, subst, arith, is_some, true≢false}
use Rattle.std.specs.Prelude.{⊤, IfSome, option_map}
use Rattle.std.specs.List.{All, AllByRecursion}
use Rattle.std.proofs.lemmas.List.Elements.{recursion_from_All}
use Rattle.json.proofs.Printed.Utf8.{are_ascii}
use Rattle.serde_json.specs.Data.{Data, null, boolean, number, string, array, object, Num, unsigned, negative, float, Items, no_items, item, Members, no_members, member, depth, items_depth, members_depth}
use Rattle.serde_json.specs.Find.{is_float, as_object}
use Rattle.serde_json.specs.View.{items_of}
use Rattle.serde_json.specs.Written.{has_float, items_have_float, members_have_float, compact_text}
use Rattle.json_members.specs.Member.{name_of}
use Rattle.json_members.specs.Object.{Field, member_if, present, object_with}
use Rattle.json_members.specs.Members.{object_of}
use Rattle.json_members.specs.declared.member.Member.{Member}
use Rattle.json_bodies.proofs.ObjectLemmas.{both, is_behind, are_in_order, put-present, present-absent}
use Rattle.json_bodies.proofs.WrittenLemmas.{IsInteger, IsPlain, ArePlainItems, ArePlain, Follows, joined, object_of-compact_text}

-- the value is written and read back, and nests no deeper
pub record IsKept (n : ℕ) (value : Data) : Type 0 where
  pub plain : IsPlain value
  pub nests : depth value ≤ n

-- so are the values of the fields
abbrev pub AreKept : ℕ → List Field → Type 0
AreKept n [] = ⊤
AreKept n (field ∷ fields) = IfSome field.1 (IsKept n) × AreKept n fields

-- ---- the parts of an object

joined-member_if : (name : Member) (found : Option Data) (before behind all : Members) → joined before behind ≡ all
    → joined (member_if name found before) behind ≡ member_if name found all
joined-member_if name None before behind all is = is
joined-member_if name (Some value) before behind all is = ap (member (name_of name) value) is

joined-present : (done fields : List Field) → joined (present done) (present fields) ≡ present (done ++ fields)
joined-present [] fields = refl
joined-present (first ∷ done) fields =
    joined-member_if first.0 first.1 _ _ _ (joined-present done fields)

Follows-member_if : (done : List Field) (name : Member) (found : Option Data) (fields : List Field)
    → is_behind name done ≡ true → Follows (present (done ++ (name, found) ∷ [])) (present fields)
    → Follows (present done) (member_if name found (present fields))
Follows-member_if done name None fields behind later =
    subst (λ ms. Follows ms (present fields)) (present-absent name done) later
Follows-member_if done name (Some value) fields behind later =
    let all = joined-present done ((name, Some value) ∷ []) in
    (put-present name value done behind ∙ sym all, subst (λ ms. Follows ms (present fields)) (sym all) later)

Follows-present : (done fields : List Field) → are_in_order done fields ≡ true → Follows (present done) (present fields)
Follows-present done [] h = tt
Follows-present done (field ∷ fields) h =
    let parts = both (is_behind field.0 done) (are_in_order (done ++ field ∷ []) fields) h in
    Follows-member_if done field.0 field.1 fields parts.0 (Follows-present (done ++ field ∷ []) fields parts.1)

ascii_name : (name : Member) (done : List Field) → is_behind name done ≡ true → are_ascii (name_of name) ≡ true
ascii_name name [] h = h
ascii_name name (field ∷ fields) h = ascii_name name fields (both _ (is_behind name fields) h).1

ArePlain-member_if : (n : ℕ) (name : Member) (found : Option Data) (others : Members) → are_ascii (name_of name) ≡ true
    → IfSome found (IsKept n) → ArePlain others → ArePlain (member_if name found others)
ArePlain-member_if n name None others ascii kept later = later
ArePlain-member_if n name (Some value) others ascii kept later = (ascii, (kept.plain, later))

ArePlain-present : (n : ℕ) (done fields : List Field) → are_in_order done fields ≡ true → AreKept n fields → ArePlain (present fields)
ArePlain-present n done [] h kept = tt
ArePlain-present n done (field ∷ fields) h kept =
    let parts = both (is_behind field.0 done) (are_in_order (done ++ field ∷ []) fields) h in
    ArePlain-member_if n field.0 field.1 _ (ascii_name field.0 done parts.0) kept.0
    (ArePlain-present n (done ++ field ∷ []) fields parts.1 kept.1)

members_depth-member_if : (n : ℕ) (name : Member) (found : Option Data) (others : Members) → IfSome found (IsKept n)
    → members_depth others ≤ n → members_depth (member_if name found others) ≤ n
members_depth-member_if n name None others kept later = later
members_depth-member_if n name (Some value) others kept later = omega (arith, kept.nests)

members_depth-present : (n : ℕ) (fields : List Field) → AreKept n fields → members_depth (present fields) ≤ n
members_depth-present n [] kept = omega arith
members_depth-present n (field ∷ fields) kept =
    members_depth-member_if n field.0 field.1 _ kept.0 (members_depth-present n fields kept.1)

-- an object whose names are in order
pub IsKept-object_with : (n : ℕ) (fields : List Field) → are_in_order [] fields ≡ true → AreKept n fields → IsKept (n + 1) (object_with fields)
IsKept-object_with n fields order kept = record {
  plain = (Follows-present [] fields order, ArePlain-present n [] fields order kept);
  nests = omega (arith, members_depth-present n fields kept);
}

-- ---- the other kinds of value

pub IsKept-string : (n : ℕ) (text : List ℕ) → IsUtf8 text → IsKept n (string text)
IsKept-string n text utf8 = record { plain = utf8; nests = omega arith }

pub IsKept-number : (n : ℕ) (whole : Num) → IsInteger whole → IsKept n (number whole)
IsKept-number n whole fits = record { plain = fits; nests = omega arith }

pub IsKept-boolean : (n : ℕ) (truth : Bool) → IsKept n (boolean truth)
IsKept-boolean n truth = record { plain = tt; nests = omega arith }

pub IsKept-null : (n : ℕ) → IsKept n null
IsKept-null n = record { plain = tt; nests = omega arith }

pub kept_string_if : (n : ℕ) (text : Option (List ℕ)) → IfSome text IsUtf8 → IfSome (option_map string text) (IsKept n)
kept_string_if n None utf8 = tt
kept_string_if n (Some text) utf8 = IsKept-string n text utf8

ArePlain-items : (n : ℕ) (values : List Data) → AllByRecursion (IsKept n) values → ArePlainItems (items_of values)
ArePlain-items n [] kept = tt
ArePlain-items n (value ∷ values) kept = (kept.0.plain, ArePlain-items n values kept.1)

items_depth-kept : (n : ℕ) (values : List Data) → AllByRecursion (IsKept n) values → items_depth (items_of values) ≤ n
items_depth-kept n [] kept = omega arith
items_depth-kept n (value ∷ values) kept = omega (arith, kept.0.nests, items_depth-kept n values kept.1)

-- a list
pub IsKept-array : (n : ℕ) (values : List Data) → All (IsKept n) values → IsKept (n + 1) (array (items_of values))
IsKept-array n values kept =
    let each = recursion_from_All (IsKept n) values kept in
    record { plain = ArePlain-items n values each; nests = omega (arith, items_depth-kept n values each) }

-- ---- what is written has no float, and holds the object

whole_number : (n : Num) → IsInteger n → is_float n ≡ false
whole_number (unsigned n) h = refl
whole_number (negative z) h = refl
whole_number (float x) h = absurd h

mutual
  floatless : (d : Data) → IsPlain d → has_float d ≡ false
  floatless null h = refl
  floatless (boolean b) h = refl
  floatless (number n) h = whole_number n h
  floatless (string s) h = refl
  floatless (array ds) h = floatless_items ds h
  floatless (object ms) h = floatless_members ms h.1

  floatless_items : (ds : Items) → ArePlainItems ds → items_have_float ds ≡ false
  floatless_items no_items h = refl
  floatless_items (item d ds) h = rw (floatless d h.0) (floatless_items ds h.1)

  floatless_members : (ms : Members) → ArePlain ms → members_have_float ms ≡ false
  floatless_members no_members h = refl
  floatless_members (member k d ms) h = rw (floatless d h.1.0) (floatless_members ms h.1.1)

pub has_float-kept : {n : ℕ} {value : Data} → IsKept n value → has_float value ≡ false
has_float-kept {n} {value} kept = floatless value kept.plain

pub object_of-kept : (value : Data) → is_some (as_object value) ≡ true → IsKept 127 value
    → object_of (compact_text value) ≡ Ok value
object_of-kept null is kept = absurd (true≢false (sym is))
object_of-kept (boolean b) is kept = absurd (true≢false (sym is))
object_of-kept (number n) is kept = absurd (true≢false (sym is))
object_of-kept (string s) is kept = absurd (true≢false (sym is))
object_of-kept (array ds) is kept = absurd (true≢false (sym is))
object_of-kept (object ms) is kept = object_of-compact_text ms kept.plain kept.nests
