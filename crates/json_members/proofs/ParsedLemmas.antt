-- What a parse says of the object in its bytes.
use Rattle.std.proofs.Common.{◌≡◌, ℕ, List, Bool, true, false, Option, Some, None, Result, Ok, Err, IsOk, ◌↔◌, is_some, is_ok, true≢false, IsUtf8, refl, sym, ap, ◌∙◌}
use Rattle.std.specs.Str.{is_utf8}
use Rattle.std.proofs.lemmas.Str.{IsUtf8-from_is_utf8, is_utf8-from_IsUtf8}
use Rattle.serde_json.specs.Data.{Data}
use Rattle.serde_json.specs.Read.{read}
use Rattle.serde_json.specs.Find.{as_object}
use Rattle.json_members.specs.declared.body_fault.BodyFault.TheVariants.{NotJson, NotObject}
use Rattle.json_members.specs.Members.{json_of, object_of}

-- the value of a text that was read
json_of-read : (bytes : List ℕ) (value : Data) → IsUtf8 bytes → read bytes ≡ Some value → json_of bytes ≡ Some value
json_of-read bytes value utf8 is = rw (is_utf8-from_IsUtf8 bytes utf8) is

json_of-none : (bytes : List ℕ) (test : Bool) → is_utf8 bytes ≡ test → (IsUtf8 bytes → read bytes ≡ None) → json_of bytes ≡ None
json_of-none bytes true is refused = rw is (refused (IsUtf8-from_is_utf8 bytes is))
json_of-none bytes false is refused = rw is refl

pub object_of-object : (bytes : List ℕ) (value : Data) → IsUtf8 bytes × (read bytes ≡ Some value) → is_some (as_object value) ≡ true → object_of bytes ≡ Ok value
object_of-object bytes value parse is = rw (json_of-read bytes value parse.0 parse.1, is) refl

pub object_of-other : (bytes : List ℕ) (value : Data) → IsUtf8 bytes × (read bytes ≡ Some value) → is_some (as_object value) ≡ false → object_of bytes ≡ Err NotObject
object_of-other bytes value parse other = rw (json_of-read bytes value parse.0 parse.1, other) refl

pub object_of-refused : (bytes : List ℕ) → (IsUtf8 bytes → read bytes ≡ None) → object_of bytes ≡ Err NotJson
object_of-refused bytes refused = rw (json_of-none bytes (is_utf8 bytes) refl refused) refl

-- no value, where a test for one failed
pub none_from_err : {T E : Type 0} (result : Result T E) (found : Option (List ℕ)) (error : E) → result ≡ Err error
    → (IsOk result ↔ ((id : List ℕ) × (found ≡ Some id))) → found ≡ None
none_from_err result None error is ok = refl
none_from_err result (Some id) error is ok = absurd (true≢false (sym (ok.1 (id, refl)) ∙ ap is_ok is))
