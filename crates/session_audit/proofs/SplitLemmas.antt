-- A journal splits into records in one way, so where a world explains them the verdict is Yes.
use Rattle.std.proofs.Common.{◌≡◌, ℕ, ◌+◌, ◌<◌, ◌≤◌, List, [], ◌∷◌, ◌++◌, ⊎_elim, refl, sym, ap, subst, ◌∙◌, append_assoc, arith, length, length-append}
use Rattle.std.specs.Int.{w32, to_be_bytes}
use Rattle.std.specs.List.{All}
use Rattle.std.proofs.lemmas.List.{append_cancel_left}
use Rattle.std.proofs.lemmas.List.Elements.{All-head, All-tail}
use Rattle.std.proofs.lemmas.Nat.{from_be_bytes-to_be_bytes_4}
use Rattle.chan_values.specs.declared.side.Side.{Side}
use Rattle.session_audit.specs.declared.verdict.Audit.{Audit}
use Rattle.session_audit.specs.declared.verdict.Why.{Why}
use Rattle.session_audit.specs.Journal.{BeginsWithFault, HasFault, IsFormFault, IsFormed, IsSize, framed, journal, records_at, size_in}
use Rattle.session_audit.specs.Verdict.{ExplainedIsYes, IsExplained, IsLeft, SaysOne, YesIsExplained}
use Rattle.session_audit.proofs.AcceptLemmas.{accepted_is_explained, explained_is_accepted}
use Rattle.session_audit.proofs.HaltLemmas.{same_front}
use Rattle.session_audit.proofs.LeftLemmas.{verdict_is_one}

-- ---- one record

-- a record is as long as it says
pub length-framed : (r more : List ℕ)
    → length (framed r ++ more) ≡ 4 + length r + length more
length-framed r more =
    omega (arith, length-append (framed r) more, length-append (to_be_bytes w32 (length r)) r)

-- the size at its front is its own
pub size_framed : (r more : List ℕ) → IsSize (length r) → size_in (framed r ++ more) ≡ length r
size_framed r more size =
    let most = size.1 in from_be_bytes-to_be_bytes_4 (length r) (omega (arith, most))

-- bytes begin with one record
pub same_record : (r q more rest : List ℕ)
    → framed r ++ more ≡ framed q ++ rest
    → IsSize (length r)
    → IsSize (length q)
    → (r ≡ q) × (more ≡ rest)
same_record r q more rest is size_r size_q =
    let long : length r ≡ length q
    = sym (size_framed r more size_r) ∙ ap size_in is ∙ size_framed q rest size_q in
    let head : to_be_bytes w32 (length r) ≡ to_be_bytes w32 (length q)
    = ap (to_be_bytes w32) long in
    let tails : r ++ more ≡ q ++ rest
    = append_cancel_left (to_be_bytes w32 (length q)) (r ++ more) (q ++ rest)
    (ap (λ (l : List ℕ). l ++ (r ++ more)) (sym head)
    ∙ sym (append_assoc (to_be_bytes w32 (length r)) r more)
    ∙ is
    ∙ append_assoc (to_be_bytes w32 (length q)) q rest) in
    let same = same_front r q more rest tails long in (
      same,
      append_cancel_left q more rest (ap (λ (l : List ℕ). l ++ more) (sym same) ∙ tails),
    )

-- ---- faults

-- no record has no bytes
pub nothing_framed : (r rest : List ℕ) → [] ≡ framed r ++ rest → ⊥
nothing_framed r rest is =
    let long = length-framed r rest in
    let none : 0 ≡ length (framed r ++ rest) = ap (λ (l : List ℕ). length l) is in
    omega (arith, long, none)

-- no fault begins at the end
nothing_faulty : (why : Why) → BeginsWithFault [] why → ⊥
nothing_faulty (Why.Size n) fault = let four = fault.0 in omega (arith, four)
nothing_faulty (Why.Cut n) fault =
    let have = fault.0 in
    let one = fault.1 in
    omega (arith, have, one)
nothing_faulty (Why.WrongEnd byte) fault = nothing_framed fault.0 fault.1 fault.2
nothing_faulty (Why.Kind kind) fault = nothing_framed fault.0 fault.1 fault.2
nothing_faulty (Why.Extra n) fault = nothing_framed fault.0 fault.1 fault.2
nothing_faulty (Why.Message e) fault = nothing_framed fault.0 fault.1 fault.2
nothing_faulty Why.NotEmitted fault = absurd fault.4
nothing_faulty Why.Unheard fault = absurd fault.4

-- a whole record at the front has its own faults alone
whole_fault : (r more : List ℕ) (why : Why)
    → IsFormed r
    → (q rest : List ℕ)
    → framed r ++ more ≡ framed q ++ rest
    → IsSize (length q)
    → HasFault q why
    → ⊥
whole_fault r more why formed q rest is size fault =
    let same = same_record r q more rest is formed.size size in
    formed.faultless why (subst (λ (l : List ℕ). HasFault l why) (sym same.0) fault)

-- no fault begins with a record that has none
pub record_sound : (r more : List ℕ) (why : Why)
    → IsFormed r
    → BeginsWithFault (framed r ++ more) why
    → ⊥
record_sound r more (Why.Size n) formed fault =
    fault.2 (subst IsSize (sym (fault.1 ∙ size_framed r more formed.size)) formed.size)
record_sound r more (Why.Cut n) formed fault =
    let long = length-framed r more in
    let have = fault.0 in
    let said = size_framed r more formed.size in
    ⊎_elim
    (λ (few : n < 4). omega (arith, few, have, long))
    (λ (cut : (4 ≤ n) × IsSize (size_in (framed r ++ more)) × (n < 4 + size_in (framed r ++ more))).
    let less = cut.2 in omega (arith, less, have, long, said))
    fault.2
record_sound r more (Why.WrongEnd byte) formed fault =
    whole_fault r more (Why.WrongEnd byte) formed fault.0 fault.1 fault.2 fault.3 fault.4
record_sound r more (Why.Kind kind) formed fault =
    whole_fault r more (Why.Kind kind) formed fault.0 fault.1 fault.2 fault.3 fault.4
record_sound r more (Why.Extra n) formed fault =
    whole_fault r more (Why.Extra n) formed fault.0 fault.1 fault.2 fault.3 fault.4
record_sound r more (Why.Message e) formed fault =
    whole_fault r more (Why.Message e) formed fault.0 fault.1 fault.2 fault.3 fault.4
record_sound r more Why.NotEmitted formed fault = absurd fault.4
record_sound r more Why.Unheard formed fault = absurd fault.4

-- ---- journals

-- a journal of formed records has no fault behind some of them
pub no_fault : (records others : List (List ℕ)) (rest : List ℕ) (why : Why)
    → All IsFormed records
    → All IsFormed others
    → journal records ≡ journal others ++ rest
    → BeginsWithFault rest why
    → ⊥
no_fault [] [] rest why formed sound is fault =
    nothing_faulty why (subst (λ (l : List ℕ). BeginsWithFault l why) (sym is) fault)
no_fault [] (q ∷ others) rest why formed sound is fault =
    nothing_framed q (journal others ++ rest) (is ∙ append_assoc (framed q) (journal others) rest)
no_fault (r ∷ records) [] rest why formed sound is fault =
    record_sound r (journal records) why (All-head IsFormed r records formed)
    (subst (λ (l : List ℕ). BeginsWithFault l why) (sym is) fault)
no_fault (r ∷ records) (q ∷ others) rest why formed sound is fault =
    let same = same_record r q (journal records) (journal others ++ rest)
    (is ∙ append_assoc (framed q) (journal others) rest)
    (All-head IsFormed r records formed).size
    (All-head IsFormed q others sound).size in
    no_fault records others rest why (All-tail IsFormed r records formed)
    (All-tail IsFormed q others sound) same.1 fault

-- two lists of formed records with one journal are one
pub same_records : (records others : List (List ℕ))
    → All IsFormed records
    → All IsFormed others
    → journal records ≡ journal others
    → records ≡ others
same_records [] [] formed sound is = refl
same_records [] (q ∷ others) formed sound is = absurd (nothing_framed q (journal others) is)
same_records (r ∷ records) [] formed sound is =
    absurd (nothing_framed r (journal records) (sym is))
same_records (r ∷ records) (q ∷ others) formed sound is =
    let same = same_record r q (journal records) (journal others) is
    (All-head IsFormed r records formed).size
    (All-head IsFormed q others sound).size in
    ap (λ (l : List ℕ). l ∷ records) same.0
    ∙ ap (λ (l : List (List ℕ)). q ∷ l)
    (same_records records others (All-tail IsFormed r records formed)
    (All-tail IsFormed q others sound) same.1)

-- ---- the verdict

pub yes_is_explained : YesIsExplained
yes_is_explained w bytes totals verdict = (
  verdict.0,
  verdict.1,
  verdict.2,
  accepted_is_explained w verdict.0 totals verdict.3,
)

pub explained_is_yes : ExplainedIsYes
explained_is_yes w bytes records (Audit.Yes totals) some verdict split formed explained =
    (totals, refl)
explained_is_yes w bytes records Audit.NoMemory some verdict split formed explained =
    absurd verdict
explained_is_yes w bytes records (Audit.Bad place why) some verdict split formed explained =
    ⊎_elim
    (λ (fault : IsFormFault bytes place why).
    absurd
    (no_fault records fault.records fault.rest why formed fault.formed
    (sym split ∙ fault.split) fault.fault))
    (λ (left : (others : List (List ℕ))
    × (bytes ≡ journal others)
    × All IsFormed others
    × ((side : Side) → All (SaysOne side) (records_at side others))
    × IsLeft w others place why).
    let same : left.0 ≡ records
    = same_records left.0 records left.2 formed (sym left.1 ∙ split) in
    let accepted = explained_is_accepted w left.0 some
    (subst (IsExplained w) (sym same) explained) in
    absurd
    (verdict_is_one.refused w left.0 place why accepted.0 some left.3 left.4 accepted.1))
    verdict
