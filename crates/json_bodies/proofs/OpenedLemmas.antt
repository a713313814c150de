-- A reply to an opening: no object gives two, and what is written gives it back.
use Rattle.std.proofs.Common.{◌≡◌, Bool, Err, Ok, IsUtf8, inl, inr, refl, sym, ap}
use Rattle.serde_json.specs.Data.{Data}
use Rattle.json_members.specs.declared.body_fault.BodyFault.{BodyFault}
use Rattle.json_members.specs.declared.member.Member.TheVariants.{Accepted, Ended}
use Rattle.json_bodies.specs.declared.opened.Opened.{Opened}
use Rattle.json_members.specs.Object.{object_with}
use Rattle.json_bodies.specs.Opened.{GivesOpened, opened_faults, opened_fields, IsInRangeOpened}
use Rattle.json_members.specs.Members.{truth_at, UnlessNoMemory}
use Rattle.json_bodies.specs.Reading.{IsFirst}
use Rattle.json_bodies.specs.Token.{resume_at}
use Rattle.json_bodies.proofs.KeptLemmas.{AreKept, IsKept-boolean, IsKept-string}
use Rattle.json_bodies.proofs.ReadingLemmas.{IsTable, IsForm}

same : (body : Data) (a b : Opened) → GivesOpened body a → GivesOpened body b → a ≡ b
same body a b g h =
    let accepted : a.accepted ≡ b.accepted = cc (g.accepted, h.accepted) in
    let ended : a.ended ≡ b.ended = cc (g.ended, h.ended) in
    let first = ap (λ (truth : Bool). resume_at truth body) accepted in
    let resume : a.resume ≡ b.resume = cc (g.resume, h.resume, first) in
    λ i. record { accepted = accepted i; ended = ended i; resume = resume i }

pub opened_table : IsTable GivesOpened opened_faults
opened_table = record {
  same = same;
  faultless = λ body opened g. rw (g.accepted, g.ended, g.resume) refl;
}

-- a fault of the token is the first, where the members before it were read
pub first_fault-resume : (body : Data) (accepted ended : Bool) (fault : BodyFault)
    → truth_at body Accepted ≡ Ok accepted → truth_at body Ended ≡ Ok ended
    → UnlessNoMemory (Err fault) (resume_at accepted body) → IsFirst (opened_faults body) fault
first_fault-resume body accepted ended fault first second (inl is) =
    inl (rw (first, second, sym is) refl)
first_fault-resume body accepted ended fault first second (inr is) = inr (cc)

kept : (opened : Opened) → IsUtf8 opened.resume → AreKept 126 (opened_fields opened)
unfolding opened_fields
kept opened utf8 = (IsKept-boolean _ _, (IsKept-boolean _ _, (IsKept-string _ _ utf8, tt)))

gives : (opened : Opened) → IsInRangeOpened opened → GivesOpened (object_with (opened_fields opened)) opened
unfolding opened_fields
gives opened range = record { accepted = refl; ended = refl; resume = rw range refl }

pub opened_form : IsForm GivesOpened opened_fields (λ opened. IsUtf8 opened.resume) IsInRangeOpened
unfolding opened_fields
opened_form = record { order = λ opened. refl; kept = kept; gives = λ opened _ range. gives opened range }
