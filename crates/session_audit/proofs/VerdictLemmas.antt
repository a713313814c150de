-- A journal has one verdict.
use Rattle.std.proofs.Common.{◌≡◌, ◌⊎◌, inl, inr, ℕ, ◌+◌, ◌≤◌, List, [], ◌∷◌, ◌++◌, length, refl, sym, ap, subst, ◌∙◌, append_assoc, arith}
use Rattle.std.specs.List.{All}
use Rattle.std.proofs.lemmas.List.Elements.{All-head, All-tail}
use Rattle.chan_values.specs.declared.side.Side.{Side}
use Rattle.session_audit.specs.declared.verdict.Audit.{Audit}
use Rattle.session_audit.specs.declared.verdict.Why.{Why}
use Rattle.session_audit.specs.Journal.{BeginsWithFault, IsFormFault, IsFormed, framed, journal, records_at}
use Rattle.session_audit.specs.Verdict.{IsLeft, JournalHasOneVerdict, SaysOne}
use Rattle.session_audit.proofs.FaultLemmas.{kinds, one_begin}
use Rattle.session_audit.proofs.LeftLemmas.{verdict_is_one}
use Rattle.session_audit.proofs.SplitLemmas.{explained_is_yes, length-framed, no_fault, record_sound, same_record, same_records, yes_is_explained}

-- ---- a journal has one fault of form

one_form : (records others : List (List ℕ)) (rest more : List ℕ) (a b : Why)
    → All IsFormed records
    → All IsFormed others
    → journal records ++ rest ≡ journal others ++ more
    → BeginsWithFault rest a
    → BeginsWithFault more b
    → (length (journal records) ≡ length (journal others)) × (a ≡ b)
one_form [] [] rest more a b formed sound is x y =
    let at : BeginsWithFault more a = subst (λ (l : List ℕ). BeginsWithFault l a) is x in
    (refl, one_begin more a b (kinds more a at) (kinds more b y))
one_form [] (q ∷ others) rest more a b formed sound is x y =
    let split : rest ≡ framed q ++ (journal others ++ more) =
    is ∙ append_assoc (framed q) (journal others) more in
    absurd
    (record_sound q (journal others ++ more) a (All-head IsFormed q others sound)
    (subst (λ (l : List ℕ). BeginsWithFault l a) split x))
one_form (r ∷ records) [] rest more a b formed sound is x y =
    let split : more ≡ framed r ++ (journal records ++ rest) =
    sym is ∙ append_assoc (framed r) (journal records) rest in
    absurd
    (record_sound r (journal records ++ rest) b (All-head IsFormed r records formed)
    (subst (λ (l : List ℕ). BeginsWithFault l b) split y))
one_form (r ∷ records) (q ∷ others) rest more a b formed sound is x y =
    let same = same_record r q (journal records ++ rest) (journal others ++ more)
    (sym (append_assoc (framed r) (journal records) rest)
    ∙ is
    ∙ append_assoc (framed q) (journal others) more)
    (All-head IsFormed r records formed).size
    (All-head IsFormed q others sound).size in
    let behind = one_form records others rest more a b (All-tail IsFormed r records formed)
    (All-tail IsFormed q others sound) same.1 x y in (
      long r q (journal records) (journal others) same.0 behind.0,
      behind.1,
    )
  where
    long : (r q xs ys : List ℕ) → r ≡ q → length xs ≡ length ys
        → length (framed r ++ xs) ≡ length (framed q ++ ys)
    long r q xs ys is same =
        let front = length-framed r xs in
        let again = length-framed q ys in
        let lengths : length r ≡ length q = ap (λ (l : List ℕ). length l) is in
        omega (arith, front, again, lengths, same)

one_form_fault : (bytes : List ℕ) (place other_place : ℕ) (a b : Why)
    → IsFormFault bytes place a → IsFormFault bytes other_place b
    → (place ≡ other_place) × (a ≡ b)
one_form_fault bytes place other_place a b x y =
    let one = one_form x.records y.records x.rest y.rest a b x.formed y.formed
    (sym x.split ∙ y.split) x.fault y.fault in
    (x.place_is ∙ one.0 ∙ sym y.place_is, one.1)

-- ---- the verdict

-- whole records without a fault of form, one of which is left
abbrev IsLeftIn : ℕ → List ℕ → ℕ → Why → Type 0
IsLeftIn w bytes place why =
    (records : List (List ℕ))
    × (bytes ≡ journal records)
    × All IsFormed records
    × ((side : Side) → All (SaysOne side) (records_at side records))
    × IsLeft w records place why

form_and_left : (w : ℕ) (bytes : List ℕ) (place other_place : ℕ) (a b : Why)
    → IsFormFault bytes place a → IsLeftIn w bytes other_place b → ⊥
form_and_left w bytes place other_place a b x y =
    no_fault y.0 x.records x.rest a y.2 x.formed (sym y.1 ∙ x.split) x.fault

two_left : (w : ℕ) (bytes : List ℕ) (place other_place : ℕ) (a b : Why)
    → IsLeftIn w bytes place a → IsLeftIn w bytes other_place b
    → (place ≡ other_place) × (a ≡ b)
two_left w bytes place other_place a b x y =
    let same : x.0 ≡ y.0 = same_records x.0 y.0 x.2 y.2 (sym x.1 ∙ y.1) in
    verdict_is_one.same w y.0 place other_place a b y.3
    (subst (λ (records : List (List ℕ)). IsLeft w records place a) same x.4) y.4

one_bad : (w : ℕ) (bytes : List ℕ) (place other_place : ℕ) (a b : Why)
    → IsFormFault bytes place a ⊎ IsLeftIn w bytes place a
    → IsFormFault bytes other_place b ⊎ IsLeftIn w bytes other_place b
    → (place ≡ other_place) × (a ≡ b)
one_bad w bytes place other_place a b (inl x) (inl y) =
    one_form_fault bytes place other_place a b x y
one_bad w bytes place other_place a b (inl x) (inr y) =
    absurd (form_and_left w bytes place other_place a b x y)
one_bad w bytes place other_place a b (inr x) (inl y) =
    absurd (form_and_left w bytes other_place place b a y x)
one_bad w bytes place other_place a b (inr x) (inr y) = two_left w bytes place other_place a b x y

pub journal_has_one_verdict : JournalHasOneVerdict
journal_has_one_verdict =
    record {
      same = λ w bytes place other_place why other_why x y.
          one_bad w bytes place other_place why other_why x y;
      refused = λ w bytes place why totals some bad yes.
          let found = yes_is_explained w bytes totals yes in
          let told = explained_is_yes w bytes found.0 (Audit.Bad place why) some bad found.1
          found.2 found.3.0 in
          let is = told.1 in
          absurd (cc is);
    }
