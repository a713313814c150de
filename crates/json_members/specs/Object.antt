-- How a body is written: one object, whose members stand in the order in which they are listed.
use Rattle.std.specs.Prelude.{List, [], ◌∷◌, Option, Some, None}
use Rattle.serde_json.specs.Data.{Data, array, object, Members, no_members, member, put}
use Rattle.serde_json.specs.View.{items_of}
use Rattle.json_members.specs.Member.{name_of}
use Rattle.json_members.specs.declared.member.Member.{Member}

-- a member of an object, and its value if it is there
abbrev pub Field : Type 0
Field = Member × Option Data

-- a member before others, if it is there
abbrev pub member_if : Member → Option Data → Members → Members
member_if name None others = others
member_if name (Some value) others = member (name_of name) value others

-- the members that are there, in the order of the list
abbrev pub present : List Field → Members
present [] = no_members
present (field ∷ fields) = member_if field.0 field.1 (present fields)

-- the object with these members
abbrev pub object_with : List Field → Data
object_with fields = object (present fields)

-- a list of values
abbrev pub array_of : List Data → Data
array_of values = array (items_of values)

-- a member put in among others, if it is there; for private clauses
abbrev pub put_if : Member → Option Data → Members → Members
put_if name None others = others
put_if name (Some value) others = put (name_of name) value others
