-- The body of the reply to an opening: whether the channel is open, and the token of the next opening.
use Rattle.std.specs.Prelude.{◌≡◌, ℕ, false, List, [], ◌∷◌, ◌++◌, IsUtf8, IsTrue, Some, Ok}
use Rattle.std.specs.Result.{result_unwrap_or}
use Rattle.serde_json.specs.Data.{Data, boolean, string}
use Rattle.serde_json.specs.Written.{compact_text}
use Rattle.json_members.specs.Object.{Field, object_with}
use Rattle.json_members.specs.Members.{object_of, truth_at}
use Rattle.json_bodies.specs.Reading.{fault_in}
use Rattle.json_bodies.specs.Token.{is_resume, resume_at}
use Rattle.json_members.specs.declared.member.Member.TheVariants.{Accepted, Ended, ResumeToken}
use Rattle.json_members.specs.declared.body_fault.BodyFault.{BodyFault}
use Rattle.json_bodies.specs.declared.opened.Opened.{Opened}

-- the object's members give the reply
pub record GivesOpened (body : Data) (opened : Opened) : Type 0 where
  pub accepted : truth_at body Accepted ≡ Ok opened.accepted
  pub ended : truth_at body Ended ≡ Ok opened.ended
  pub resume : resume_at opened.accepted body ≡ Ok opened.resume

-- the faults of the object's members, in the order of the table; the token's range goes by the
-- answer, which is judged before it
abbrev pub opened_faults : Data → List BodyFault
opened_faults body =
    fault_in (truth_at body Accepted)
    ++ fault_in (truth_at body Ended)
    ++ fault_in (resume_at (result_unwrap_or (truth_at body Accepted) false) body)

-- the bytes are a body of the reply
abbrev pub IsOpenedBody : List ℕ → Opened → Type 0
IsOpenedBody bytes opened = (body : Data) × (object_of bytes ≡ Ok body) × GivesOpened body opened

-- the members that are written, in byte order
unfoldable pub opened_fields : Opened → List Field
opened_fields opened =
    (Accepted, Some (boolean opened.accepted))
    ∷ (Ended, Some (boolean opened.ended))
    ∷ (ResumeToken, Some (string opened.resume)) ∷ []

-- the text that is written
abbrev pub opened_text : Opened → List ℕ
opened_text opened = compact_text (object_with (opened_fields opened))

-- the token is one that this answer may have
abbrev pub IsInRangeOpened : Opened → Type 0
IsInRangeOpened opened = IsTrue (is_resume opened.accepted opened.resume)

-- the fields are within the ranges of their types and of the table
pub record IsWritableOpened (opened : Opened) : Type 0 where
  pub resume : IsUtf8 opened.resume
  pub range : IsInRangeOpened opened
