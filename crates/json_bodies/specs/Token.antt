-- The text of a resume token, by which the channel is opened the next time.
use Rattle.std.specs.Prelude.{ℕ, Bool, not, ◌&&◌, ◌||◌, ◌==◌, List, length, Some, None, Result, nat_le, if◌then◌else◌}
use Rattle.std.specs.List.{list_all}
use Rattle.serde_json.specs.Data.{Data}
use Rattle.json_members.specs.Members.{text_at, in_range}
use Rattle.json_members.specs.declared.member.Member.TheVariants.{ResumeToken}
use Rattle.json_members.specs.declared.body_fault.BodyFault.{BodyFault}

-- a lower-case hexadecimal digit
abbrev pub is_digit : ℕ → Bool
is_digit byte = (nat_le 48 byte && nat_le byte 57) || (nat_le 97 byte && nat_le byte 102)

-- 32 of them
abbrev pub is_token : List ℕ → Bool
is_token text = (length text == 32) && list_all is_digit text

-- a token, or nothing where the opening was not accepted
abbrev pub is_resume : Bool → List ℕ → Bool
is_resume accepted text = is_token text || (not accepted && (length text == 0))

-- the token of the next opening, after this answer
abbrev pub resume_at : Bool → Data → Result (List ℕ) BodyFault
resume_at accepted body =
    in_range (λ text. if is_resume accepted text then Some text else None) ResumeToken
    (text_at body ResumeToken)
