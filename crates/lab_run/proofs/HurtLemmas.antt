-- What the end that a damaged message comes to answers, and what is reported of it.
use Rattle.std.proofs.Common.{◌≡◌, ◌≢◌, ⊎_elim, inl, inr, ℕ, ◌+◌, ◌-◌, ◌<◌, ◌≤◌, Bool, true, false, Some, List, [], length, get_or, Ok, Err, refl, sym, ap, ◌∙◌, arith, length-drop}
use Rattle.std.specs.Str.{bytes_eq}
use Rattle.std.proofs.lemmas.Bool.{le-ltb, lt-ltb}
use Rattle.std.proofs.lemmas.Slice.Eq.{bytes_eq-Decides}
use Rattle.chan_values.specs.declared.side.Side.{Side}
use Rattle.chan_values.specs.declared.side.Side.TheVariants.{Plugin, Agent}
use Rattle.chan_values.specs.Sides.{other}
use Rattle.agent_message.specs.Sha256.{sha256}
use Rattle.agent_message.specs.Layout.{canonical}
use Rattle.agent_message.specs.Names.{IsPublication}
use Rattle.agent_message.specs.Refusals.{HasFault, Refuses}
use Rattle.agent_message.specs.declared.message.Message.{Message}
use Rattle.agent_message.specs.declared.refusal.Refusal.{Refusal}
use Rattle.agent_message.proofs.Faults.{same_or_not}
use Rattle.agent_message.proofs.SoundSpelling.{one_answer}
use Rattle.agent_message.proofs.Spelling.{Decodes-canonical, only_message}
use Rattle.channel_core.specs.Arrival.{Answer, Arrives, Hears, IsAnswer}
use Rattle.channel_core.specs.Wire.{encoding, message_of}
use Rattle.channel_core.specs.declared.message.Outgoing.{Outgoing}
use Rattle.channel_core.specs.declared.message.Incoming.{Incoming}
use Rattle.channel_core.specs.declared.wire.InRefusal.{InRefusal}
use Rattle.channel_core.proofs.ArrivalLemmas.{IsEncodable-message_of}
use Rattle.lab_script.specs.declared.outcome.Outcome.TheVariants as Outcome
use Rattle.lab_run.specs.Damage.{damaged, outcome_of_answer, outcome_of_change, outcome_of_hurt, outcome_of_refusal}
use Rattle.lab_run.specs.Ends.{IsSendable}
use Rattle.lab_run.specs.Laws.{HurtTellsIncoming}
use Rattle.lab_run.proofs.DamageLemmas.{IsDamaged, digests_of, Refuses-damaged, sound-damaged}

-- ---- what is answered and reported

-- a message that is whole is not refused as none
whole_is_heard : (side : Side) (m : Message) (refusal : Refusal)
    → Hears side m (Err (InRefusal.Message refusal)) → ⊥
whole_is_heard side m refusal (inl stream) = stream.1
whole_is_heard side m refusal (inr (inl ack)) = ack.1
whole_is_heard side m refusal (inr (inr (inl pause))) = absurd (cc (pause.1))
whole_is_heard side m refusal (inr (inr (inr (inl start)))) = absurd (cc (start.1))
whole_is_heard side m refusal (inr (inr (inr (inr (inl closed))))) = closed.1
whole_is_heard side m refusal (inr (inr (inr (inr (inr wrong))))) = absurd (cc (wrong.1))

-- bytes with nothing wrong are not refused as no message
passes : (side : Side) (bytes : List ℕ) (answer : Answer)
    → ((fault : Refusal) → HasFault bytes fault → ⊥)
    → Arrives side bytes answer → outcome_of_answer answer ≡ Outcome.Passed
passes side bytes (Ok incoming) sound arrives = refl
passes side bytes (Err (InRefusal.Message r)) sound (inl heard) =
    absurd (whole_is_heard side heard.0 r heard.2)
passes side bytes (Err (InRefusal.Message r)) sound (inr refused) =
    absurd (sound refused.0 refused.1.0)
passes side bytes (Err (InRefusal.Body fault)) sound arrives = refl
passes side bytes (Err (InRefusal.Wrong name)) sound arrives = refl
passes side bytes (Err (InRefusal.Negative seq)) sound arrives = refl
passes side bytes (Err InRefusal.NoMemory) sound arrives = refl

-- bytes with a fault are refused for their first
is_refused : (side : Side) (bytes : List ℕ) (fault : Refusal) (answer : Answer)
    → Refuses bytes fault
    → Arrives side bytes answer → answer ≡ Err (InRefusal.Message fault)
is_refused side bytes fault answer refuses (inl heard) =
    let one = one_answer bytes (Ok heard.0) (Err fault) heard.1 refuses in absurd (cc)
is_refused side bytes fault answer refuses (inr refused) =
    let one = one_answer bytes (Err refused.0) (Err fault) refused.1 refuses in
    let same : refused.0 ≡ fault = cc in
    refused.2 ∙ ap (λ (f : Refusal). Err (InRefusal.Message f)) same

-- what is reported of a change, by whether the digests are the same
change_passes : (old new : List ℕ) → sha256 old ≡ sha256 new
    → outcome_of_change old new ≡ Outcome.Passed
change_passes old new same = rw ((bytes_eq-Decides (sha256 old) (sha256 new)).1 same) refl

change_is_refused : (old new : List ℕ) → sha256 old ≢ sha256 new
    → outcome_of_change old new ≡ Outcome.Refused 7
change_is_refused old new differ =
    rw (not_true (bytes_eq (sha256 old) (sha256 new))
    (λ is. differ ((bytes_eq-Decides (sha256 old) (sha256 new)).0 is))) refl
  where
    not_true : (b : Bool) → b ≢ true → b ≡ false
    not_true true differs = absurd (differs refl)
    not_true false differs = refl

-- the answer to damaged bytes reports what the change does
answered_change : (side : Side) (m : Message) (place : ℕ) (bytes : List ℕ) (answer : Answer)
    → IsDamaged m place bytes
    → Arrives side bytes answer
    → outcome_of_change m.payload (damaged m.payload place) ≡ outcome_of_answer answer
answered_change side m place bytes answer d arrives =
    let new = damaged m.payload place in
    elim (same_or_not (sha256 m.payload) (sha256 new)) [
      | inl same ↦
          change_passes m.payload new same
          ∙ sym (passes side bytes answer (sound-damaged m place bytes d same) arrives)
      | inr differ ↦
          let refuses = Refuses-damaged m place bytes d differ in
          let refused = is_refused side bytes (digests_of m.payload place) answer refuses arrives in
          change_is_refused m.payload new differ ∙ ap outcome_of_answer (sym refused)
    ]

-- ---- what an end emits

-- no end emits a message whose digest is not judged
pub emitted_is_judged : (side : Side) (out : Outgoing) → ¬ IsPublication (message_of side out).name
emitted_is_judged Plugin (Outgoing.Stream sent) p =
    let first : List ℕ → ℕ = λ name. get_or name 0 0 in
    ⊎_elim (λ start. omega (arith, ap first start)) (λ pause. omega (arith, ap first pause)) p
emitted_is_judged Agent (Outgoing.Stream sent) p =
    ⊎_elim (λ start. omega (arith, ap length start)) (λ pause. omega (arith, ap length pause)) p
emitted_is_judged side (Outgoing.Ack seq id date) p =
    ⊎_elim (λ start. omega (arith, ap length start)) (λ pause. omega (arith, ap length pause)) p

-- the payload stands behind the fields of fixed lengths
length-encoding : (side : Side) (out : Outgoing) → IsSendable side out
    → length (message_of side out).payload ≡ length (encoding side out) - 120
length-encoding side out s =
    let m = message_of side out in
    let is : m ≡ _ = only_message m (canonical m)
    (Decodes-canonical m (IsEncodable-message_of side out s.0 s.1)).0 in
    ap (λ x. length x.payload) is ∙ length-drop 120 (canonical m)

-- a copy of what is kept of an emission, with a byte of the payload changed
pub IsDamaged-copy : (side : Side) (out : Outgoing) (place : ℕ) (kept copy : List ℕ)
    → IsSendable side out
    → kept ≡ encoding side out
    → 120 + place < length kept
    → copy ≡ damaged kept (120 + place)
    → IsDamaged (message_of side out) place copy
IsDamaged-copy side out place kept copy s is within changed = record {
  can = IsEncodable-message_of side out s.0 s.1;
  judged = emitted_is_judged side out;
  within = omega (arith, within, ap length is, length-encoding side out s);
  changed = changed ∙ ap (λ (bytes : List ℕ). damaged bytes (120 + place)) is;
}

-- no such byte of the payload is there
pub outcome_of_hurt-past : (side : Side) (place : ℕ) (out : Outgoing) (kept : List ℕ)
    → IsSendable (other side) out
    → kept ≡ encoding (other side) out
    → length kept ≤ 120 + place
    → Outcome.Absent ≡ outcome_of_hurt side place (Some out)
outcome_of_hurt-past side place out kept s is past =
    let payload = (message_of (other side) out).payload in
    let none : length payload ≤ place =
    omega (arith, past, ap length is, length-encoding (other side) out s) in
    rw (le-ltb place (length payload) none) refl

-- it is there
outcome_of_hurt-within : (side : Side) (place : ℕ) (out : Outgoing)
    → place < length (message_of (other side) out).payload
    → outcome_of_hurt side place (Some out)
    ≡ outcome_of_change (message_of (other side) out).payload
    (damaged (message_of (other side) out).payload place)
outcome_of_hurt-within side place out within =
    rw (lt-ltb place (length (message_of (other side) out).payload) within) refl

-- what is reported of a damaged copy is what the side answers to it
outcome_of_hurt-answer : (side : Side) (place : ℕ) (out : Outgoing) (copy : List ℕ)
    (answer : Answer)
    → IsDamaged (message_of (other side) out) place copy
    → Arrives side copy answer
    → outcome_of_hurt side place (Some out) ≡ outcome_of_answer answer
outcome_of_hurt-answer side place out copy answer d arrives =
    outcome_of_hurt-within side place out d.within
    ∙ answered_change side (message_of (other side) out) place copy answer d arrives

-- a copy that is heard
pub outcome_of_hurt-heard : (side : Side) (place : ℕ) (out : Outgoing) (copy : List ℕ)
    (incoming : Incoming)
    → IsDamaged (message_of (other side) out) place copy
    → IsAnswer (Arrives side copy) (Ok incoming)
    → Outcome.Passed ≡ outcome_of_hurt side place (Some out)
outcome_of_hurt-heard side place out copy incoming d answer =
    elim (answer.given) [
      | inl arrives ↦ sym (outcome_of_hurt-answer side place out copy (Ok incoming) d arrives)
      | inr memory ↦ absurd (cc)
    ]

-- a copy that is not heard
pub outcome_of_hurt-refused : (side : Side) (place : ℕ) (out : Outgoing) (copy : List ℕ)
    (refusal : InRefusal)
    → IsDamaged (message_of (other side) out) place copy
    → IsAnswer (Arrives side copy) (Err refusal)
    → refusal ≢ InRefusal.NoMemory
    → outcome_of_refusal refusal ≡ outcome_of_hurt side place (Some out)
outcome_of_hurt-refused side place out copy refusal d answer memory =
    elim (answer.given) [
      | inl arrives ↦ sym (outcome_of_hurt-answer side place out copy (Err refusal) d arrives)
      | inr none ↦ absurd (memory (cc))
    ]

-- a hurt reports what the side answers to the damaged bytes
pub hurt_tells_incoming : HurtTellsIncoming
hurt_tells_incoming side place out answer s within arrives =
    let m = message_of (other side) out in
    let d : IsDamaged m place (damaged (canonical m) (120 + place)) = record {
      can = IsEncodable-message_of (other side) out s.0 s.1;
      judged = emitted_is_judged (other side) out;
      within = within;
      changed = refl;
    } in
    outcome_of_hurt-answer side place out _ answer d arrives
