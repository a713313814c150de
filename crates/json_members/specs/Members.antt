-- How the members of a JSON body are read: the object in its bytes, and each kind of member in it.
use Rattle.std.specs.Prelude.{◌≡◌, ◌⊎◌, ℕ, ◌-◌, ◌^◌, ℤ, pos, negsuc, Bool, List, [], ◌∷◌, ◌||◌, int_lt, Option, Some, None, is_some, ok_or, option_map, option_and_then, Result, Ok, Err, if◌then◌else◌, nat_eq}
use Rattle.std.specs.Cmp.Lexicographic.{pointwise}
use Rattle.std.specs.Str.{is_utf8}
use Rattle.serde_json.specs.Data.{Data, object, Items, no_items, item, no_members}
use Rattle.serde_json.specs.Read.{read}
use Rattle.serde_json.specs.Find.{get, as_null, as_bool, as_number, as_str, as_array, as_object, as_integer}
use Rattle.uuid.specs.Text.{parsed}
use Rattle.json_members.specs.Member.{name_of}
use Rattle.json_members.specs.declared.member.Member.{Member}
use Rattle.json_members.specs.declared.body_fault.BodyFault.{BodyFault}
use Rattle.json_members.specs.declared.body_fault.BodyFault.TheVariants.{NotJson, NotObject, Missing, Kind, Range, NoMemory}

-- the error, or what f makes of the value
abbrev pub result_and_then : {T U E : Type 0} → (T → Result U E) → Result T E → Result U E
result_and_then f (Ok value) = f value
result_and_then f (Err error) = Err error

-- the value that serde_json reads in the bytes, where they are UTF-8 and it takes them
abbrev pub json_of : List ℕ → Option Data
json_of bytes = if is_utf8 bytes then read bytes else None

-- the object in the bytes, or why there is none
abbrev pub object_of : List ℕ → Result Data BodyFault
object_of bytes =
    result_and_then (λ value. if is_some (as_object value) then Ok value else Err NotObject)
    (ok_or (json_of bytes) NotJson)

-- the value of a member as its kind, or Missing, then Kind; of equal keys serde_json keeps the last
abbrev pub at_member : {T : Type 0} → (Data → Option T) → Data → Member → Result T BodyFault
at_member kind body member =
    result_and_then (λ value. ok_or (kind value) (Kind member))
    (ok_or (get (name_of member) body) (Missing member))

-- the value of a member as what its range makes of it, or the fault before, then Range
abbrev pub in_range : {T U : Type 0} → (T → Option U) → Member
    → Result T BodyFault → Result U BodyFault
in_range range member found = result_and_then (λ value. ok_or (range value) (Range member)) found

-- an integer of 64 bits, with a sign or without; a float is none, and 1.0 is a float
abbrev pub as_whole : Data → Option ℤ
as_whole value = option_and_then as_integer (as_number value)

-- a value that is an object, as it is
abbrev pub as_whole_object : Data → Option Data
as_whole_object value = if is_some (as_object value) then Some value else None

-- a value that is not null
abbrev pub unless_null : Data → Option Data
unless_null value = if is_some (as_null value) then None else Some value

-- the elements of a list
abbrev pub elements : Items → List Data
elements no_items = []
elements (item value items) = value ∷ elements items

-- each value as its kind, if all are of that kind
abbrev pub each_as : {T : Type 0} → (Data → Option T) → List Data → Option (List T)
each_as kind [] = Some []
each_as kind (value ∷ values) =
    option_and_then (λ first. option_map (λ rest. first ∷ rest) (each_as kind values))
    (kind value)

-- the number, if it is neither below the first nor above the second
abbrev pub within : ℤ → ℤ → ℤ → Option ℤ
within low high number = if int_lt number low || int_lt high number then None else Some number

-- a member that is a text
abbrev pub text_at : Data → Member → Result (List ℕ) BodyFault
text_at = at_member as_str

-- a member that is a truth value
abbrev pub truth_at : Data → Member → Result Bool BodyFault
truth_at = at_member as_bool

-- a member that is a whole number, with its least and its greatest value
abbrev pub whole_at : ℤ → ℤ → Data → Member → Result ℤ BodyFault
whole_at low high body member = in_range (within low high) member (at_member as_whole body member)

-- a member that is a whole number of an i64
abbrev pub i64_at : Data → Member → Result ℤ BodyFault
i64_at = whole_at (negsuc (2 ^ 63 - 1)) (pos (2 ^ 63 - 1))

-- a member that is a whole number of a u32
abbrev pub u32_at : Data → Member → Result ℤ BodyFault
u32_at = whole_at (pos 0) (pos (2 ^ 32 - 1))

-- a member that is the text of an id, in one of the four forms that uuid reads
abbrev pub id_at : Data → Member → Result (List ℕ) BodyFault
id_at body member = in_range parsed member (text_at body member)

-- whether two texts are the same
abbrev pub same_text : List ℕ → List ℕ → Bool
same_text = pointwise nat_eq

-- a member that is this text and no other
abbrev pub fixed_text_at : List ℕ → Data → Member → Result (List ℕ) BodyFault
fixed_text_at expected body member =
    in_range (λ text. if same_text text expected then Some text else None) member
    (text_at body member)

-- a member that is a text or absent; null is no text
abbrev pub optional_text_at : Data → Member → Result (Option (List ℕ)) BodyFault
optional_text_at body member =
    if is_some (get (name_of member) body)
    then result_and_then (λ text. Ok (Some text)) (text_at body member) else Ok None

-- whether a member is there and not null
abbrev pub is_given : Data → Member → Bool
is_given body member = is_some (option_and_then unless_null (get (name_of member) body))

-- a member that may be absent or null, and what it is read as then
abbrev pub when_given : {T : Type 0} → T → (Data → Member → Result T BodyFault)
    → Data → Member → Result T BodyFault
when_given absent reading body member =
    if is_given body member then reading body member else Ok absent

-- a member that is a text; absent or null is the empty text
abbrev pub text_or_empty_at : Data → Member → Result (List ℕ) BodyFault
text_or_empty_at = when_given [] text_at

-- a member that is an object
abbrev pub object_at : Data → Member → Result Data BodyFault
object_at = at_member as_whole_object

-- a member that is an object; absent or null has no members
abbrev pub object_or_empty_at : Data → Member → Result Data BodyFault
object_or_empty_at = when_given (object no_members) object_at

-- a member that is a list; absent or null is the empty list
abbrev pub list_at : Data → Member → Result (List Data) BodyFault
list_at = when_given [] (at_member (λ value. option_map elements (as_array value)))

-- a member that is a list, its elements all of a kind; the list is judged whole
abbrev pub each_at : {T : Type 0} → (Data → Option T) → Data → Member
    → Result (List T) BodyFault
each_at kind body member =
    result_and_then (λ values. ok_or (each_as kind values) (Kind member)) (list_at body member)

-- a member that is a list of objects
abbrev pub objects_at : Data → Member → Result (List Data) BodyFault
objects_at = each_at as_whole_object

-- a member that is a list of texts
abbrev pub texts_at : Data → Member → Result (List (List ℕ)) BodyFault
texts_at = each_at as_str

-- the answer, unless memory ran out
abbrev pub UnlessNoMemory : {T : Type 0} → Result T BodyFault → Result T BodyFault → Type 0
UnlessNoMemory result answer = (result ≡ answer) ⊎ (result ≡ Err NoMemory)
