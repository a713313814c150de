-- The end of a handshake: no object gives two, and what is written gives it back.
use Rattle.std.proofs.Common.{◌≡◌, ℕ, ◌-◌, ◌^◌, ◌<◌, pos, Some, IsUtf8, refl, arith}
use Rattle.std.proofs.lemmas.Bool.Decides.{nat_tests}
use Rattle.serde_json.specs.Data.{Data}
use Rattle.json_bodies.specs.declared.handshake_complete.HandshakeComplete.{HandshakeComplete}
use Rattle.json_members.specs.declared.member.Member.TheVariants.{HandshakeTimeToComplete}
use Rattle.json_bodies.specs.HandshakeComplete.{GivesComplete, IsInRangeComplete, complete_faults, complete_fields}
use Rattle.json_members.specs.Object.{object_with}
use Rattle.json_members.specs.Members.{within}
use Rattle.json_bodies.proofs.KeptLemmas.{AreKept, IsKept-number, IsKept-string}
use Rattle.json_bodies.proofs.MemberLemmas.{whole_at-number}
use Rattle.json_bodies.proofs.ReadingLemmas.{IsForm, IsTable}

same : (body : Data) (a b : HandshakeComplete) → GivesComplete body a → GivesComplete body b → a ≡ b
same body a b g h =
    let message : a.message ≡ b.message = cc (g.message, h.message) in
    let nanos : a.nanos ≡ b.nanos = cc (g.nanos, h.nanos) in
    λ i. record { message = message i; nanos = nanos i }

pub complete_table : IsTable GivesComplete complete_faults
complete_table = record {
  same = same;
  faultless = λ body complete g. rw (g.message, g.nanos) refl;
}

-- the text and the number of the end of a handshake
pub record IsTypedComplete (complete : HandshakeComplete) : Type 0 where
  pub message : IsUtf8 complete.message
  pub nanos : complete.nanos < 2 ^ 64

kept : (complete : HandshakeComplete) → IsTypedComplete complete → AreKept 126 (complete_fields complete)
unfolding complete_fields
kept complete typed =
    (IsKept-string _ _ typed.message, (IsKept-number _ _ typed.nanos, tt))

within-nanos : (n : ℕ) → n < 2 ^ 63 → within (pos 0) (pos (2 ^ 63 - 1)) (pos n) ≡ Some (pos n)
within-nanos n fits = grind (arith, nat_tests)

gives : (complete : HandshakeComplete) → IsInRangeComplete complete → GivesComplete (object_with (complete_fields complete)) complete
unfolding complete_fields
gives complete range = record {
  message = refl;
  nanos = whole_at-number (object_with (complete_fields complete)) HandshakeTimeToComplete (pos 0) (pos (2 ^ 63 - 1)) complete.nanos refl
      (within-nanos complete.nanos range);
}

pub complete_form : IsForm GivesComplete complete_fields IsTypedComplete IsInRangeComplete
unfolding complete_fields
complete_form = record { order = λ complete. refl; kept = kept; gives = λ complete typed. gives complete }
