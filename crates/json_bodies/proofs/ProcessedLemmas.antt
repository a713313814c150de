-- A processed action: no object gives two, and what is written gives it back.
use Rattle.std.proofs.Common.{◌≡◌, ℕ, ◌+◌, ◌≤◌, pos, Some, refl, arith}
use Rattle.std.proofs.lemmas.Bool.Decides.{nat_tests}
use Rattle.serde_json.specs.Data.{Data}
use Rattle.json_members.specs.declared.member.Member.TheVariants.{ActionStatus}
use Rattle.json_bodies.specs.declared.processed.Processed.{Processed}
use Rattle.json_members.specs.Object.{object_with}
use Rattle.json_bodies.specs.Processed.{GivesProcessed, IsInRangeProcessed, IsTypedProcessed, processed_faults, processed_fields}
use Rattle.json_members.specs.Members.{within}
use Rattle.json_bodies.proofs.KeptLemmas.{IsKept, IsKept-null, IsKept-number, IsKept-object_with, IsKept-string}
use Rattle.json_bodies.proofs.MemberLemmas.{whole_at-number}
use Rattle.json_bodies.proofs.ReadingLemmas.{IsTable}

same : (body : Data) (a b : Processed) → GivesProcessed body a → GivesProcessed body b → a ≡ b
same body a b g h =
    let status : a.status ≡ b.status = cc (g.status, h.status) in
    let name : a.name ≡ b.name = cc (g.name, h.name) in
    let error : a.error ≡ b.error = cc (g.error, h.error) in
    λ i. record { status = status i; name = name i; error = error i }

pub processed_table : IsTable GivesProcessed processed_faults
processed_table = record {
  same = same;
  faultless = λ body processed g. rw (g.status, g.name, g.error) refl;
}

pub IsKept-processed : (n : ℕ) (processed : Processed) → IsTypedProcessed processed → IsKept (n + 1) (object_with (processed_fields processed))
unfolding processed_fields
IsKept-processed n processed typed =
    IsKept-object_with n (processed_fields processed) refl (
      IsKept-null n,
      (
        IsKept-number _ _ (omega (arith, typed.status)),
        (
          IsKept-string _ _ typed.name,
          (IsKept-string _ _ typed.error, tt),
        ),
      ),
    )

within-status : (n : ℕ) → 1 ≤ n → n ≤ 3 → within (pos 1) (pos 3) (pos n) ≡ Some (pos n)
within-status n low high = grind (arith, nat_tests)

pub processed_given : (processed : Processed) → IsInRangeProcessed processed → GivesProcessed (object_with (processed_fields processed)) processed
unfolding processed_fields
processed_given processed range = record {
  status = whole_at-number (object_with (processed_fields processed)) ActionStatus (pos 1) (pos 3) processed.status refl
      (within-status processed.status range.0 range.1);
  name = refl;
  error = refl;
}
