-- A processed action: what became of a requested one.
use Rattle.std.specs.Prelude.{◌≡◌, ◌≤◌, pos, List, [], ◌∷◌, ◌++◌, IsUtf8, Some, Ok}
use Rattle.serde_json.specs.Data.{Data, null, number, unsigned, string}
use Rattle.json_members.specs.Object.{Field}
use Rattle.json_members.specs.Members.{text_at, text_or_empty_at, whole_at}
use Rattle.json_bodies.specs.Reading.{fault_in}
use Rattle.json_members.specs.declared.member.Member.TheVariants.{ActionResult, ActionStatus, ActionType, Error}
use Rattle.json_members.specs.declared.body_fault.BodyFault.{BodyFault}
use Rattle.json_bodies.specs.declared.processed.Processed.{Processed}

-- the object's members give what became of the action; ActionResult may be anything
pub record GivesProcessed (body : Data) (processed : Processed) : Type 0 where
  pub status : whole_at (pos 1) (pos 3) body ActionStatus ≡ Ok (pos processed.status)
  pub name : text_at body ActionType ≡ Ok processed.name
  pub error : text_or_empty_at body Error ≡ Ok processed.error

-- the faults of the object's members, in the order of the table
abbrev pub processed_faults : Data → List BodyFault
processed_faults body =
    fault_in (whole_at (pos 1) (pos 3) body ActionStatus)
    ++ fault_in (text_at body ActionType)
    ++ fault_in (text_or_empty_at body Error)

-- the members that are written, in byte order
unfoldable pub processed_fields : Processed → List Field
processed_fields processed =
    (ActionResult, Some null)
    ∷ (ActionStatus, Some (number (unsigned processed.status)))
    ∷ (ActionType, Some (string processed.name))
    ∷ (Error, Some (string processed.error)) ∷ []

-- the status is in the range of the table: Success, Failed or Unsupported
abbrev pub IsInRangeProcessed : Processed → Type 0
IsInRangeProcessed processed = (1 ≤ processed.status) × (processed.status ≤ 3)

-- the fields are within the ranges of their types
pub record IsTypedProcessed (processed : Processed) : Type 0 where
  pub status : processed.status ≤ 255
  pub name : IsUtf8 processed.name
  pub error : IsUtf8 processed.error
