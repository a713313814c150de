-- Bytes begin with one fault of form.
use Rattle.std.proofs.Common.{◌≡◌, ◌⊎◌, inl, inr, ℕ, ◌+◌, ◌<◌, ◌≤◌, Err, List, ◌∷◌, ◌++◌, ⊎_elim, length, refl, sym, ap, subst, ◌∙◌, arith}
use Rattle.chan_values.specs.declared.side.Side.{Side}
use Rattle.chan_values.specs.Sides.{other}
use Rattle.channel_core.specs.Arrival.{Arrives}
use Rattle.channel_core.specs.declared.wire.InRefusal.{InRefusal}
use Rattle.session_audit.specs.declared.verdict.Why.{Why}
use Rattle.session_audit.specs.Journal.{BeginsWithFault, HasFault, IsSize, framed, letter, size_in}
use Rattle.session_audit.proofs.AnswerLemmas.{Arrives-one}
use Rattle.session_audit.proofs.RecordLemmas.{same_parts}
use Rattle.session_audit.proofs.SplitLemmas.{length-framed, same_record, size_framed}

-- ---- one record has one fault

-- a message that is refused is refused for one reason
one_refusal : (r : List ℕ) (a b : InRefusal)
    → HasFault r (Why.Message a) → HasFault r (Why.Message b) → a ≡ b
one_refusal r a b x y =
    ⊎_elim
    (λ (out : (r ≡ letter x.0 ∷ 0 ∷ x.1) × Arrives (other x.0) x.1 (Err a)).
    ⊎_elim
    (λ (again : (r ≡ letter y.0 ∷ 0 ∷ y.1) × Arrives (other y.0) y.1 (Err b)).
    let same = same_parts x.0 y.0 0 0 x.1 y.1 (sym out.0 ∙ again.0) in
    refused (other y.0) y.1
    (subst (λ (l : List ℕ). Arrives (other y.0) l (Err a)) same.2
    (subst (λ (s : Side). Arrives (other s) x.1 (Err a)) same.0 out.1))
    again.1)
    (λ (other_kind : (r ≡ letter y.0 ∷ 1 ∷ y.1) × Arrives y.0 y.1 (Err b)).
    let kinds = (same_parts x.0 y.0 0 1 x.1 y.1 (sym out.0 ∙ other_kind.0)).1 in
    absurd (omega (arith, kinds)))
    y.2)
    (λ (into : (r ≡ letter x.0 ∷ 1 ∷ x.1) × Arrives x.0 x.1 (Err a)).
    ⊎_elim
    (λ (other_kind : (r ≡ letter y.0 ∷ 0 ∷ y.1) × Arrives (other y.0) y.1 (Err b)).
    let kinds = (same_parts x.0 y.0 1 0 x.1 y.1 (sym into.0 ∙ other_kind.0)).1 in
    absurd (omega (arith, kinds)))
    (λ (again : (r ≡ letter y.0 ∷ 1 ∷ y.1) × Arrives y.0 y.1 (Err b)).
    let same = same_parts x.0 y.0 1 1 x.1 y.1 (sym into.0 ∙ again.0) in
    refused y.0 y.1
    (subst (λ (l : List ℕ). Arrives y.0 l (Err a)) same.2
    (subst (λ (s : Side). Arrives s x.1 (Err a)) same.0 into.1))
    again.1)
    y.2)
    x.2
  where
    refused : (side : Side) (bytes : List ℕ)
        → Arrives side bytes (Err a) → Arrives side bytes (Err b) → a ≡ b
    refused side bytes first second =
        let same = Arrives-one side bytes (Err a) (Err b) first second in cc same

-- the kind of a record whose message is refused
message_kind : (r : List ℕ) (e : InRefusal) → HasFault r (Why.Message e)
    → (side : Side) × (kind : ℕ) × (rest : List ℕ) × (r ≡ letter side ∷ kind ∷ rest) × (kind < 2)
message_kind r e x =
    ⊎_elim
    (λ (out : (r ≡ letter x.0 ∷ 0 ∷ x.1) × Arrives (other x.0) x.1 (Err e)).
    (x.0, 0, x.1, out.0, omega arith))
    (λ (into : (r ≡ letter x.0 ∷ 1 ∷ x.1) × Arrives x.0 x.1 (Err e)).
    (x.0, 1, x.1, into.0, omega arith))
    x.2

-- no end is named by the first byte of one record and not by that of the same
not_wrong : (r rest more : List ℕ) (byte kind : ℕ) (side : Side)
    → r ≡ byte ∷ rest
    → ((s : Side) → byte ≡ letter s → ⊥)
    → r ≡ letter side ∷ kind ∷ more
    → ⊥
not_wrong r rest more byte kind side first none second =
    let is = sym first ∙ second in
    let same : byte ≡ letter side = cc is in
    none side same

-- records of two kinds are not one
two_kinds : (r : List ℕ) (a b : Side) (i j : ℕ) (more rest : List ℕ)
    → r ≡ letter a ∷ i ∷ more → r ≡ letter b ∷ j ∷ rest → i ≡ j
two_kinds r a b i j more rest first second =
    (same_parts a b i j more rest (sym first ∙ second)).1

one_fault : (r : List ℕ) (a b : Why) → HasFault r a → HasFault r b → a ≡ b
one_fault r (Why.WrongEnd byte) (Why.WrongEnd more) x y =
    let is = sym x.1 ∙ y.1 in
    let same : byte ≡ more = cc is in
    ap Why.WrongEnd same
one_fault r (Why.WrongEnd byte) (Why.Kind kind) x y =
    absurd (not_wrong r x.0 y.1 byte kind y.0 x.1 x.2 y.2)
one_fault r (Why.WrongEnd byte) (Why.Extra n) x y =
    absurd (not_wrong r x.0 y.2 byte y.1 y.0 x.1 x.2 y.3)
one_fault r (Why.WrongEnd byte) (Why.Message e) x y =
    let it = message_kind r e y in
    absurd (not_wrong r x.0 it.2 byte it.1 it.0 x.1 x.2 it.3)
one_fault r (Why.Kind kind) (Why.WrongEnd byte) x y =
    absurd (not_wrong r y.0 x.1 byte kind x.0 y.1 y.2 x.2)
one_fault r (Why.Kind kind) (Why.Kind more) x y =
    ap Why.Kind (two_kinds r x.0 y.0 kind more x.1 y.1 x.2 y.2)
one_fault r (Why.Kind kind) (Why.Extra n) x y =
    let same = two_kinds r x.0 y.0 kind y.1 x.1 y.2 x.2 y.3 in
    let five = x.3 in
    let four = y.5 in
    absurd (omega (arith, same, five, four))
one_fault r (Why.Kind kind) (Why.Message e) x y =
    let it = message_kind r e y in
    let same = two_kinds r x.0 it.0 kind it.1 x.1 it.2 x.2 it.3 in
    let five = x.3 in
    let two = it.4 in
    absurd (omega (arith, same, five, two))
one_fault r (Why.Extra n) (Why.WrongEnd byte) x y =
    absurd (not_wrong r y.0 x.2 byte x.1 x.0 y.1 y.2 x.3)
one_fault r (Why.Extra n) (Why.Kind kind) x y =
    let same = two_kinds r y.0 x.0 kind x.1 y.1 x.2 y.2 x.3 in
    let five = y.3 in
    let four = x.5 in
    absurd (omega (arith, same, five, four))
one_fault r (Why.Extra n) (Why.Extra k) x y =
    let same = (same_parts x.0 y.0 x.1 y.1 x.2 y.2 (sym x.3 ∙ y.3)).2 in
    ap Why.Extra (x.6 ∙ ap (λ (l : List ℕ). length l) same ∙ sym y.6)
one_fault r (Why.Extra n) (Why.Message e) x y =
    let it = message_kind r e y in
    let same = two_kinds r x.0 it.0 x.1 it.1 x.2 it.2 x.3 it.3 in
    let some = x.4 in
    let two = it.4 in
    absurd (omega (arith, same, some, two))
one_fault r (Why.Message e) (Why.WrongEnd byte) x y =
    let it = message_kind r e x in
    absurd (not_wrong r y.0 it.2 byte it.1 it.0 y.1 y.2 it.3)
one_fault r (Why.Message e) (Why.Kind kind) x y =
    let it = message_kind r e x in
    let same = two_kinds r y.0 it.0 kind it.1 y.1 it.2 y.2 it.3 in
    let five = y.3 in
    let two = it.4 in
    absurd (omega (arith, same, five, two))
one_fault r (Why.Message e) (Why.Extra n) x y =
    let it = message_kind r e x in
    let same = two_kinds r y.0 it.0 y.1 it.1 y.2 it.2 y.3 it.3 in
    let some = y.4 in
    let two = it.4 in
    absurd (omega (arith, same, some, two))
one_fault r (Why.Message e) (Why.Message f) x y = ap Why.Message (one_refusal r e f x y)
one_fault r a (Why.Size n) x y = absurd y
one_fault r a (Why.Cut n) x y = absurd y
one_fault r a Why.NotEmitted x y = absurd y
one_fault r a Why.Unheard x y = absurd y
one_fault r (Why.Size n) b x y = absurd x
one_fault r (Why.Cut n) b x y = absurd x
one_fault r Why.NotEmitted b x y = absurd x
one_fault r Why.Unheard b x y = absurd x

-- ---- bytes begin with one fault

-- a fault of a whole record
abbrev IsWhole : List ℕ → Why → Type 0
IsWhole bytes why =
    (r rest : List ℕ) × (bytes ≡ framed r ++ rest) × IsSize (length r) × HasFault r why

-- what is wrong with a size, and with what is left behind whole records
abbrev IsSizeFault : List ℕ → ℕ → Type 0
IsSizeFault bytes n = BeginsWithFault bytes (Why.Size n)

abbrev IsCut : List ℕ → ℕ → Type 0
IsCut bytes n = BeginsWithFault bytes (Why.Cut n)

-- the three of them
pub kinds : (bytes : List ℕ) (why : Why) → BeginsWithFault bytes why
    → ((n : ℕ) × (why ≡ Why.Size n) × IsSizeFault bytes n)
    ⊎ ((n : ℕ) × (why ≡ Why.Cut n) × IsCut bytes n)
    ⊎ IsWhole bytes why
kinds bytes (Why.Size n) x = inl (n, refl, x)
kinds bytes (Why.Cut n) x = inr (inl (n, refl, x))
kinds bytes (Why.WrongEnd byte) x = inr (inr x)
kinds bytes (Why.Kind kind) x = inr (inr x)
kinds bytes (Why.Extra n) x = inr (inr x)
kinds bytes (Why.Message e) x = inr (inr x)
kinds bytes Why.NotEmitted x = inr (inr x)
kinds bytes Why.Unheard x = inr (inr x)

size_and_cut : (bytes : List ℕ) (n k : ℕ) → IsSizeFault bytes n → IsCut bytes k → ⊥
size_and_cut bytes n k x y =
    let four = x.0 in
    let said = x.1 in
    let have = y.0 in
    ⊎_elim
    (λ (few : k < 4). omega (arith, four, have, few))
    (λ (cut : (4 ≤ k) × IsSize (size_in bytes) × (k < 4 + size_in bytes)).
    x.2 (subst IsSize (sym said) cut.1))
    y.2

size_and_whole : (bytes : List ℕ) (n : ℕ) (why : Why) → IsSizeFault bytes n → IsWhole bytes why
    → ⊥
size_and_whole bytes n why x y =
    let said : n ≡ length y.0 = x.1 ∙ ap size_in y.2 ∙ size_framed y.0 y.1 y.3 in
    x.2 (subst IsSize (sym said) y.3)

cut_and_whole : (bytes : List ℕ) (n : ℕ) (why : Why) → IsCut bytes n → IsWhole bytes why → ⊥
cut_and_whole bytes n why x y =
    let long : length bytes ≡ 4 + length y.0 + length y.1 =
    ap (λ (l : List ℕ). length l) y.2 ∙ length-framed y.0 y.1 in
    let said : size_in bytes ≡ length y.0 = ap size_in y.2 ∙ size_framed y.0 y.1 y.3 in
    let have = x.0 in
    ⊎_elim
    (λ (few : n < 4). omega (arith, few, have, long))
    (λ (cut : (4 ≤ n) × IsSize (size_in bytes) × (n < 4 + size_in bytes)).
    let less = cut.2 in omega (arith, less, have, long, said))
    x.2

two_wholes : (bytes : List ℕ) (a b : Why) → IsWhole bytes a → IsWhole bytes b → a ≡ b
two_wholes bytes a b x y =
    let same = same_record x.0 y.0 x.1 y.1 (sym x.2 ∙ y.2) x.3 y.3 in
    one_fault y.0 a b (subst (λ (l : List ℕ). HasFault l a) same.0 x.4) y.4

pub one_begin : (bytes : List ℕ) (a b : Why)
    → ((n : ℕ) × (a ≡ Why.Size n) × IsSizeFault bytes n)
    ⊎ ((n : ℕ) × (a ≡ Why.Cut n) × IsCut bytes n)
    ⊎ IsWhole bytes a
    → ((n : ℕ) × (b ≡ Why.Size n) × IsSizeFault bytes n)
    ⊎ ((n : ℕ) × (b ≡ Why.Cut n) × IsCut bytes n)
    ⊎ IsWhole bytes b
    → a ≡ b
one_begin bytes a b (inl x) (inl y) =
    x.1 ∙ ap Why.Size (x.2.1 ∙ sym y.2.1) ∙ sym y.1
one_begin bytes a b (inl x) (inr (inl y)) = absurd (size_and_cut bytes x.0 y.0 x.2 y.2)
one_begin bytes a b (inl x) (inr (inr y)) = absurd (size_and_whole bytes x.0 b x.2 y)
one_begin bytes a b (inr (inl x)) (inl y) = absurd (size_and_cut bytes y.0 x.0 y.2 x.2)
one_begin bytes a b (inr (inl x)) (inr (inl y)) =
    x.1 ∙ ap Why.Cut (x.2.0 ∙ sym y.2.0) ∙ sym y.1
one_begin bytes a b (inr (inl x)) (inr (inr y)) = absurd (cut_and_whole bytes x.0 b x.2 y)
one_begin bytes a b (inr (inr x)) (inl y) = absurd (size_and_whole bytes y.0 a y.2 x)
one_begin bytes a b (inr (inr x)) (inr (inl y)) = absurd (cut_and_whole bytes y.0 a y.2 x)
one_begin bytes a b (inr (inr x)) (inr (inr y)) = two_wholes bytes a b x y
