-- What a record says, by the byte of its end, that of its kind, and the rest.
use Rattle.std.proofs.Common.{◌≡◌, ℕ, ◌<◌, ◌≤◌, Some, None, Ok, Err, List, [], ◌∷◌, inl, ⊎_elim, refl, sym, ap, subst, ◌∙◌, arith, length}
use Rattle.std.proofs.lemmas.Option.{none-some, same_Some}
use Rattle.chan_values.specs.declared.side.Side.{Side}
use Rattle.chan_values.specs.declared.side.Side.TheVariants.{Plugin, Agent}
use Rattle.chan_values.specs.Sides.{other}
use Rattle.channel_core.specs.declared.message.Incoming.{Incoming}
use Rattle.channel_core.specs.declared.message.Outgoing.{Outgoing}
use Rattle.channel_core.specs.declared.wire.InRefusal.{InRefusal}
use Rattle.channel_core.specs.Arrival.{Arrives}
use Rattle.channel_core.specs.Wire.{encoding}
use Rattle.channel_core.proofs.WorldLemmas.{other-other}
use Rattle.session_audit.specs.declared.act.Act.{Act}
use Rattle.session_audit.specs.declared.record.Reading.{Reading}
use Rattle.session_audit.specs.declared.verdict.Why.{Why}
use Rattle.channel_core.specs.Condition.{IsNumbered}
use Rattle.session_audit.specs.Ends.{IsActable}
use Rattle.session_audit.specs.Journal.{IsEmission, IsRecordOf, IsSendable, letter}
use Rattle.session_audit.specs.Readings.{IsFaultless, IsReading}
use Rattle.session_audit.specs.Verdict.{SaysOne}

-- ---- the two bytes

letter_same : (a b : Side) → letter a ≡ letter b → a ≡ b
letter_same Plugin Plugin is = refl
letter_same Agent Agent is = refl
letter_same Plugin Agent is = absurd (omega arith)
letter_same Agent Plugin is = absurd (omega arith)

-- records are the same in end, kind and rest
pub same_parts : (side s : Side) (kind k : ℕ) (rest r : List ℕ)
    → letter side ∷ kind ∷ rest ≡ letter s ∷ k ∷ r
    → (side ≡ s) × (kind ≡ k) × (rest ≡ r)
same_parts side s kind k rest r is =
    let first : letter side ≡ letter s = cc in
    (letter_same side s first, cc, cc)

-- the byte of an act's kind
kind_of : Act → ℕ
kind_of (Act.Emits out) = 0
kind_of (Act.Hears incoming) = 1
kind_of Act.Opens = 2
kind_of Act.Loses = 3
kind_of Act.Closes = 4

-- a record has the kind of what it says
record_kind : (side : Side) (act : Act) (kind : ℕ) (rest : List ℕ)
    → IsRecordOf side act (letter side ∷ kind ∷ rest)
    → kind ≡ kind_of act
unfolding kind_of
record_kind side (Act.Emits out) kind rest says =
    (same_parts side side kind 0 rest (encoding side out) says.1).1
record_kind side (Act.Hears incoming) kind rest says =
    (same_parts side side kind 1 rest says.0 says.1).1
record_kind side Act.Opens kind rest says = (same_parts side side kind 2 rest [] says).1
record_kind side Act.Loses kind rest says = (same_parts side side kind 3 rest [] says).1
record_kind side Act.Closes kind rest says = (same_parts side side kind 4 rest [] says).1

-- ---- faults

-- a record has no fault where its kind is one, nothing is behind a bare one, and its message is sound
pub faultless : (side : Side) (kind : ℕ) (rest : List ℕ)
    → kind < 5
    → (2 ≤ kind → rest ≡ [])
    → ((e : InRefusal) → kind ≡ 0 → Arrives (other side) rest (Err e) → ⊥)
    → ((e : InRefusal) → kind ≡ 1 → Arrives side rest (Err e) → ⊥)
    → IsFaultless (letter side ∷ kind ∷ rest)
faultless side kind rest few bare out into (Why.WrongEnd byte) fault =
    let first : byte ≡ letter side = let is = fault.1 in cc in fault.2 side first
faultless side kind rest few bare out into (Why.Kind k) fault =
    let same = same_parts side fault.0 kind k rest fault.1 fault.2 in
    let is = same.1 in
    let five = fault.3 in
    omega (arith, few, five, is)
faultless side kind rest few bare out into (Why.Extra n) fault =
    let same = same_parts side fault.0 kind fault.1 rest fault.2 fault.3 in
    let kind_is = same.1 in
    let two = fault.4 in
    let nothing = bare (omega (arith, two, kind_is)) in
    let none : length fault.2 ≡ 0 = ap (λ (l : List ℕ). length l) (sym same.2 ∙ nothing) in
    let count = fault.6 in
    let one = fault.7 in
    omega (arith, none, count, one)
faultless side kind rest few bare out into (Why.Message e) fault =
    ⊎_elim
    (λ (it : (letter side ∷ kind ∷ rest ≡ letter fault.0 ∷ 0 ∷ fault.1)
    × Arrives (other fault.0) fault.1 (Err e)).
    let same = same_parts side fault.0 kind 0 rest fault.1 it.0 in
    out e same.1
    (subst (λ (s : Side). Arrives (other s) rest (Err e)) (sym same.0)
    (subst (λ (l : List ℕ). Arrives (other fault.0) l (Err e)) (sym same.2) it.1)))
    (λ (it : (letter side ∷ kind ∷ rest ≡ letter fault.0 ∷ 1 ∷ fault.1)
    × Arrives fault.0 fault.1 (Err e)).
    let same = same_parts side fault.0 kind 1 rest fault.1 it.0 in
    into e same.1
    (subst (λ (s : Side). Arrives s rest (Err e)) (sym same.0)
    (subst (λ (l : List ℕ). Arrives fault.0 l (Err e)) (sym same.2) it.1)))
    fault.2
faultless side kind rest few bare out into (Why.Size n) fault = fault
faultless side kind rest few bare out into (Why.Cut n) fault = fault
faultless side kind rest few bare out into Why.NotEmitted fault = fault
faultless side kind rest few bare out into Why.Unheard fault = fault

-- ---- openings, losses and closes

-- an act of a bare kind
record IsBare (act : Act) : Type 0 where
  some : 2 ≤ kind_of act
  only : (a : Act) → kind_of a ≡ kind_of act → a ≡ act

bare_opens : IsBare Act.Opens
unfolding kind_of
bare_opens = record { some = omega arith; only = only }
  where
    only : (a : Act) → kind_of a ≡ 2 → a ≡ Act.Opens
    only Act.Opens is = refl
    only (Act.Emits out) is = absurd (omega arith)
    only (Act.Hears incoming) is = absurd (omega arith)
    only Act.Loses is = absurd (omega arith)
    only Act.Closes is = absurd (omega arith)

bare_loses : IsBare Act.Loses
unfolding kind_of
bare_loses = record { some = omega arith; only = only }
  where
    only : (a : Act) → kind_of a ≡ 3 → a ≡ Act.Loses
    only Act.Loses is = refl
    only (Act.Emits out) is = absurd (omega arith)
    only (Act.Hears incoming) is = absurd (omega arith)
    only Act.Opens is = absurd (omega arith)
    only Act.Closes is = absurd (omega arith)

bare_closes : IsBare Act.Closes
unfolding kind_of
bare_closes = record { some = omega arith; only = only }
  where
    only : (a : Act) → kind_of a ≡ 4 → a ≡ Act.Closes
    only Act.Closes is = refl
    only (Act.Emits out) is = absurd (omega arith)
    only (Act.Hears incoming) is = absurd (omega arith)
    only Act.Opens is = absurd (omega arith)
    only Act.Loses is = absurd (omega arith)

-- a record of a bare kind says one act
bare_one : (side : Side) (act : Act) (kind : ℕ) → IsBare act → kind ≡ kind_of act
    → SaysOne side (letter side ∷ kind ∷ [])
bare_one side act kind bare is a b x y =
    bare.only a (sym (record_kind side a kind [] x) ∙ is)
    ∙ sym (bare.only b (sym (record_kind side b kind [] y) ∙ is))

-- and has no fault
bare_faultless : (side : Side) (kind : ℕ) → 2 ≤ kind → kind < 5
    → IsFaultless (letter side ∷ kind ∷ [])
bare_faultless side kind some few =
    faultless side kind [] few (λ _. refl)
    (λ e is _. omega (arith, is, some))
    (λ e is _. omega (arith, is, some))

pub opens_reading : (side : Side) → IsReading (letter side ∷ 2 ∷ []) (Reading.Says side Act.Opens)
unfolding kind_of
opens_reading side = (
  bare_faultless side 2 (omega arith) (omega arith),
  (refl, bare_one side Act.Opens 2 bare_opens refl, tt),
)

pub loses_reading : (side : Side) → IsReading (letter side ∷ 3 ∷ []) (Reading.Says side Act.Loses)
unfolding kind_of
loses_reading side = (
  bare_faultless side 3 (omega arith) (omega arith),
  (refl, bare_one side Act.Loses 3 bare_loses refl, tt),
)

pub closes_reading : (side : Side) → IsReading (letter side ∷ 4 ∷ []) (Reading.Says side Act.Closes)
unfolding kind_of
closes_reading side = (
  bare_faultless side 4 (omega arith) (omega arith),
  (refl, bare_one side Act.Closes 4 bare_closes refl, tt),
)

-- ---- messages that were heard

pub heard_reading : (side : Side) (rest : List ℕ) (heard : Incoming)
    → Arrives side rest (Ok heard)
    → ((incoming : Incoming) → Arrives side rest (Ok incoming) → heard ≡ incoming)
    → ((e : InRefusal) → Arrives side rest (Err e) → ⊥)
    → IsNumbered heard
    → IsReading (letter side ∷ 1 ∷ rest) (Reading.Says side (Act.Hears heard))
heard_reading side rest heard arrives only sound numbered = (
  faultless side 1 rest (omega arith) (λ two. absurd (omega (arith, two)))
      (λ e is. absurd (omega (arith, is))) (λ e is. sound e),
  ((rest, refl, arrives), λ a b x y. one a x ∙ sym (one b y), numbered),
)
  where
    one : (a : Act) → IsRecordOf side a (letter side ∷ 1 ∷ rest) → a ≡ Act.Hears heard
    one (Act.Hears incoming) says =
        let same = (same_parts side side 1 1 rest says.0 says.1).2 in
        ap (λ (i : Incoming). Act.Hears i)
        (sym (only incoming
        (subst (λ (l : List ℕ). Arrives side l (Ok incoming)) (sym same) says.2)))
    one (Act.Emits out) says =
        let is = (same_parts side side 1 0 rest (encoding side out) says.1).1 in
        absurd (omega (arith, is))
    one Act.Opens says =
        let is = (same_parts side side 1 2 rest [] says).1 in absurd (omega (arith, is))
    one Act.Loses says =
        let is = (same_parts side side 1 3 rest [] says).1 in absurd (omega (arith, is))
    one Act.Closes says =
        let is = (same_parts side side 1 4 rest [] says).1 in absurd (omega (arith, is))

-- ---- messages that were given out

-- a record of an emission says nothing else
emission_of : (side : Side) (rest : List ℕ) (a : Act)
    → IsRecordOf side a (letter side ∷ 0 ∷ rest)
    → (out : Outgoing) × (a ≡ Act.Emits out) × IsEmission side rest out
emission_of side rest (Act.Emits out) says =
    (out, refl, (says.0, (same_parts side side 0 0 rest (encoding side out) says.1).2))
emission_of side rest (Act.Hears incoming) says =
    let is = (same_parts side side 0 1 rest says.0 says.1).1 in absurd (omega (arith, is))
emission_of side rest Act.Opens says =
    let is = (same_parts side side 0 2 rest [] says).1 in absurd (omega (arith, is))
emission_of side rest Act.Loses says =
    let is = (same_parts side side 0 3 rest [] says).1 in absurd (omega (arith, is))
emission_of side rest Act.Closes says =
    let is = (same_parts side side 0 4 rest [] says).1 in absurd (omega (arith, is))

-- and has no fault where the hearer refuses nothing
emitted_faultless : (side hearer : Side) (rest : List ℕ)
    → hearer ≡ other side
    → ((e : InRefusal) → Arrives hearer rest (Err e) → ⊥)
    → IsFaultless (letter side ∷ 0 ∷ rest)
emitted_faultless side hearer rest is sound =
    faultless side 0 rest (omega arith) (λ two. absurd (omega (arith, two)))
    (λ e _ arrives. sound e (subst (λ (s : Side). Arrives s rest (Err e)) (sym is) arrives))
    (λ e one. absurd (omega (arith, one)))

-- the side across the hearer
across : (side hearer : Side) → hearer ≡ other side → other hearer ≡ side
across side hearer is = ap other is ∙ other-other side

-- what has an encoding can be put in
sendable_acts : (side : Side) (out : Outgoing) → IsSendable side out → IsActable (Act.Emits out)
sendable_acts side (Outgoing.Stream m) sendable = sendable.0.2
sendable_acts side (Outgoing.Ack n id date) sendable = tt

pub emitted_reading : (side hearer : Side) (rest : List ℕ) (out : Outgoing)
    → hearer ≡ other side
    → IsEmission (other hearer) rest out
    → ((o : Outgoing) → IsEmission (other hearer) rest o → Some out ≡ Some o)
    → ((e : InRefusal) → Arrives hearer rest (Err e) → ⊥)
    → IsReading (letter side ∷ 0 ∷ rest) (Reading.Says side (Act.Emits out))
emitted_reading side hearer rest out is emission only sound =
    let back = across side hearer is in
    let mine = subst (λ (s : Side). IsEmission s rest out) back emission in
    let one : (a : Act) → IsRecordOf side a (letter side ∷ 0 ∷ rest) → a ≡ Act.Emits out
    = λ a says.
    let found = emission_of side rest a says in
    let same : out ≡ found.0
    = same_Some out found.0
    (only found.0 (subst (λ (s : Side). IsEmission s rest found.0) (sym back) found.2)) in
    found.1 ∙ ap (λ (o : Outgoing). Act.Emits o) (sym same) in (
      emitted_faultless side hearer rest is sound,
      (
        (mine.0, ap (λ (l : List ℕ). letter side ∷ 0 ∷ l) mine.1),
        λ a b x y. one a x ∙ sym (one b y),
        sendable_acts side out mine.0,
      ),
    )

pub foreign_reading : (side hearer : Side) (rest : List ℕ)
    → hearer ≡ other side
    → ((o : Outgoing) → IsEmission (other hearer) rest o → None ≡ Some o)
    → ((e : InRefusal) → Arrives hearer rest (Err e) → ⊥)
    → IsReading (letter side ∷ 0 ∷ rest) (Reading.Foreign side)
foreign_reading side hearer rest is only sound = (
  emitted_faultless side hearer rest is sound,
  record {
    kind = (rest, refl);
    none = λ a says.
        let found = emission_of side rest a says in
        let back = across side hearer is in
        none-some found.0
        (only found.0 (subst (λ (s : Side). IsEmission s rest found.0) (sym back) found.2));
  },
)

-- a message that the hearer refuses
pub refused_reading : (side hearer : Side) (rest : List ℕ) (e : InRefusal)
    → hearer ≡ other side
    → Arrives hearer rest (Err e)
    → IsReading (letter side ∷ 0 ∷ rest) (Reading.Faulty (Why.Message e))
refused_reading side hearer rest e is arrives =
    (side, rest, inl (refl, subst (λ (s : Side). Arrives s rest (Err e)) is arrives))
