-- An object that is written: members put in by the order of their names stand as they are listed,
-- and each is found under its name.
use Rattle.std.proofs.Common.{◌≡◌, ℕ, List, [], ◌∷◌, ◌++◌, Bool, true, false, ◌&&◌, Option, Some, None, refl, sym, ap, ◌∙◌, true≢false, append_assoc, append-nil, Ordering, Less, Equal, Greater}
use Rattle.std.specs.Ordering.{is_gt, nat_cmp, match_ordering}
use Rattle.std.specs.Option.{option_or}
use Rattle.std.specs.Cmp.Lexicographic.{slice_cmp}
use Rattle.json.proofs.Printed.Utf8.{are_ascii}
use Rattle.serde_json.specs.Data.{Data, object, Members, no_members, member, put}
use Rattle.serde_json.specs.Find.{get, get_member}
use Rattle.json_members.specs.Member.{name_of}
use Rattle.json_members.specs.Object.{Field, member_if, present, object_with, put_if}
use Rattle.json_members.specs.declared.member.Member.{Member}

pub both : (a b : Bool) → a && b ≡ true → (a ≡ true) × (b ≡ true)
both true b h = (refl, h)
both false b h = absurd (true≢false (sym h))

is_greater : (o : Ordering) → is_gt o ≡ true → o ≡ Greater
is_greater Less h = absurd (true≢false (sym h))
is_greater Equal h = absurd (true≢false (sym h))
is_greater Greater h = refl

-- the name is ASCII, and stands behind those of the fields
abbrev pub is_behind : Member → List Field → Bool
is_behind name [] = are_ascii (name_of name)
is_behind name (field ∷ fields) =
    is_gt (slice_cmp nat_cmp (name_of name) (name_of field.0)) && is_behind name fields

-- the names of the fields stand in order behind those before them
abbrev pub are_in_order : List Field → List Field → Bool
are_in_order done [] = true
are_in_order done (field ∷ fields) =
    is_behind field.0 done && are_in_order (done ++ field ∷ []) fields

put-member_if : (name : List ℕ) (value : Data) (first : Member) (found : Option Data)
    (others after : Members) → slice_cmp nat_cmp name (name_of first) ≡ Greater
    → put name value others ≡ after
    → put name value (member_if first found others) ≡ member_if first found after
put-member_if name value first None others after behind is = is
put-member_if name value first (Some other) others after behind is =
    rw behind (ap (member (name_of first) other) is)

pub put-present : (name : Member) (value : Data) (fields : List Field) → is_behind name fields ≡ true
    → put (name_of name) value (present fields) ≡ present (fields ++ (name, Some value) ∷ [])
put-present name value [] h = refl
put-present name value (field ∷ fields) h =
    let parts = both _ (is_behind name fields) h in
    put-member_if _ value field.0 field.1 _ _ (is_greater _ parts.0)
    (put-present name value fields parts.1)

pub present-absent : (name : Member) (fields : List Field) → present (fields ++ (name, None) ∷ []) ≡ present fields
present-absent name [] = refl
present-absent name (field ∷ fields) = ap (member_if field.0 field.1) (present-absent name fields)

put_if-present : (name : Member) (found : Option Data) (fields : List Field) → is_behind name fields ≡ true
    → put_if name found (present fields) ≡ present (fields ++ (name, found) ∷ [])
put_if-present name None fields h = sym (present-absent name fields)
put_if-present name (Some value) fields h = put-present name value fields h

-- the members, put in one after another
abbrev pub put_all : List Field → Members → Members
put_all [] others = others
put_all (field ∷ fields) others = put_all fields (put_if field.0 field.1 others)

put_all-present : (done fields : List Field) → are_in_order done fields ≡ true
    → put_all fields (present done) ≡ present (done ++ fields)
put_all-present done [] h = ap present (sym (append-nil done))
put_all-present done (field ∷ fields) h =
    let parts = both (is_behind field.0 done) (are_in_order (done ++ field ∷ []) fields) h in
    ap (put_all fields) (put_if-present field.0 field.1 done parts.0)
    ∙ put_all-present (done ++ field ∷ []) fields parts.1
    ∙ ap present (append_assoc done (field ∷ []) fields)

-- so they stand as they are listed
pub put_all-in_order : (fields : List Field) → are_in_order [] fields ≡ true
    → put_all fields no_members ≡ present fields
put_all-in_order fields h = put_all-present [] fields h

-- so an object of them is the one with these fields
pub object-put_all : (fields : List Field) (put : Members) → are_in_order [] fields ≡ true
    → put ≡ put_all fields no_members → object put ≡ object_with fields
object-put_all fields put order is = ap object (is ∙ put_all-in_order fields order)

-- the value under a name
abbrev pub found_at : List ℕ → List Field → Option Data
found_at name [] = None
found_at name (field ∷ fields) =
    match_ordering (slice_cmp nat_cmp name (name_of field.0)) (found_at name fields)
    (option_or field.1 (found_at name fields)) (found_at name fields)

either_way : (o : Ordering) (found : Option Data) → found ≡ match_ordering o found found found
either_way Less found = refl
either_way Equal found = refl
either_way Greater found = refl

get-member_if : (name : List ℕ) (first : Member) (value : Option Data) (others : Members) (found : Option Data)
    → get_member name others ≡ found
    → get_member name (member_if first value others)
    ≡ match_ordering (slice_cmp nat_cmp name (name_of first)) found (option_or value found) found
get-member_if name first None others found is =
    is ∙ either_way (slice_cmp nat_cmp name (name_of first)) found
get-member_if name first (Some value) others found is = rw is refl

get_member-present : (name : List ℕ) (fields : List Field) → get_member name (present fields) ≡ found_at name fields
get_member-present name [] = refl
get_member-present name (field ∷ fields) =
    get-member_if name field.0 field.1 (present fields) (found_at name fields) (get_member-present name fields)

pub get-object_with : (name : List ℕ) (fields : List Field) → get name (object_with fields) ≡ found_at name fields
get-object_with name fields = get_member-present name fields
