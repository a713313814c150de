-- What is wrong with an encoded message of which a payload byte was changed.
use Rattle.std.proofs.Common.{◌≡◌, ◌≢◌, inl, inr, ℕ, ◌+◌, ◌-◌, ◌<◌, ◌≤◌, List, [], length, drop, set, slice_range, bit_xor, sym, ap, subst, ◌∙◌, arith}
use Rattle.std.specs.Int.{w32, w64, from_be_bytes}
use Rattle.std.proofs.lemmas.List.{length-set, get_or-drop, take-set-le, drop-set-add}
use Rattle.chan_values.specs.Sides.{other}
use Rattle.agent_message.specs.Sha256.{sha256}
use Rattle.agent_message.specs.Fields.{name_field, digest_field, payload_in}
use Rattle.agent_message.specs.Layout.{IsEncodable, canonical}
use Rattle.agent_message.specs.Names.{IsPublication, IsWrongAt, name_of}
use Rattle.agent_message.specs.Refusals.{HasFault, IsFaultlessBelow, Refuses, number_of}
use Rattle.agent_message.specs.declared.message.Message.{Message}
use Rattle.agent_message.specs.declared.refusal.Refusal.{Refusal}
use Rattle.agent_message.proofs.Faults.{past_digest}
use Rattle.agent_message.proofs.SoundSpelling.{sound_has_no_fault}
use Rattle.agent_message.proofs.Spelling.{Decodes-canonical, only_message}
use Rattle.lab_run.specs.Damage.{damaged}

-- ---- the fields of a list of which one element was changed

-- a part that ends before the element stays
same_part : (xs : List ℕ) (at a b v : ℕ) → a ≤ b → b ≤ at
    → slice_range (set xs at v) a b ≡ slice_range xs a b
same_part xs at a b v ordered before =
    let there : a + (at - a) ≡ at = omega arith in
    let behind : drop a (set xs at v) ≡ set (drop a xs) (at - a) v =
    subst (λ k. drop a (set xs k v) ≡ set (drop a xs) (at - a) v) there
    (drop-set-add a xs (at - a) v) in
    rw behind (take-set-le (b - a) (drop a xs) (at - a) v (omega arith))

-- the payload is changed at the same place of its own
payload_in-damaged : (bytes : List ℕ) (place : ℕ)
    → payload_in (damaged bytes (120 + place)) ≡ damaged (payload_in bytes) place
payload_in-damaged bytes place =
    drop-set-add 120 bytes place _
    ∙ ap (λ b. set (drop 120 bytes) place (bit_xor b 1)) (sym (get_or-drop 120 bytes place 0))

length-damaged : (payload : List ℕ) (place : ℕ) → length (damaged payload place) ≡ length payload
length-damaged payload place = length-set payload place _

-- where the bytes have no fault, there is none but in the digest of the changed ones
faultless : (bytes : List ℕ) (place : ℕ) → ((fault : Refusal) → HasFault bytes fault → ⊥)
    → IsFaultlessBelow 7 (damaged bytes (120 + place))
faultless bytes place sound (Refusal.Short have) has =
    absurd (sound (Refusal.Short have) (has.0 ∙ length-damaged bytes (120 + place), has.1))
faultless bytes place sound (Refusal.HeaderLength said) has =
    absurd (sound (Refusal.HeaderLength said) (
      has.0 ∙ ap (from_be_bytes w32)
          (same_part bytes (120 + place) 0 4 _ (omega arith) (omega arith)),
      has.1,
    ))
faultless bytes place sound (Refusal.Name at) has =
    let field : name_field (damaged bytes (120 + place)) ≡ name_field bytes =
    same_part bytes (120 + place) 4 36 _ (omega arith) (omega arith) in
    absurd (sound (Refusal.Name at) (has.0, has.1, subst (λ f. IsWrongAt f has.0) field has.2))
faultless bytes place sound (Refusal.Length said have) has =
    let rest : length (payload_in (damaged bytes (120 + place))) ≡ length (payload_in bytes) =
    ap length (payload_in-damaged bytes place) ∙ length-damaged (payload_in bytes) place in
    absurd (sound (Refusal.Length said have) (
      has.0 ∙ ap (from_be_bytes w32)
          (same_part bytes (120 + place) 116 120 _ (omega arith) (omega arith)),
      has.1 ∙ rest,
      has.2,
    ))
faultless bytes place sound (Refusal.TooLong said) has =
    absurd (sound (Refusal.TooLong said) (
      has.0 ∙ ap (from_be_bytes w32)
          (same_part bytes (120 + place) 116 120 _ (omega arith) (omega arith)),
      has.1,
    ))
faultless bytes place sound Refusal.Date has =
    let field : name_field (damaged bytes (120 + place)) ≡ name_field bytes =
    same_part bytes (120 + place) 4 36 _ (omega arith) (omega arith) in
    let date : slice_range (damaged bytes (120 + place)) 40 48 ≡ slice_range bytes 40 48 =
    same_part bytes (120 + place) 40 48 _ (omega arith) (omega arith) in
    absurd (sound Refusal.Date (
      ap (from_be_bytes w64) (sym date)
          ∙ has.0,
      λ p. has.1 (subst (λ f. IsPublication (name_of f)) (sym field) p),
    ))
faultless bytes place sound (Refusal.Digest said computed) has = omega arith
faultless bytes place sound Refusal.NoMemory has = absurd has

-- ---- an encoded message

-- the bytes are this message's with the byte at this place of the payload changed
pub record IsDamaged (m : Message) (place : ℕ) (bytes : List ℕ) : Type 0 where
  pub can : IsEncodable m
  -- the digest is judged
  pub judged : ¬ IsPublication m.name
  pub within : place < length m.payload
  pub changed : bytes ≡ damaged (canonical m) (120 + place)

-- a digest that is judged is that of the payload
digest_of : (m : Message) → IsEncodable m → ¬ IsPublication m.name → m.payload ≢ []
    → digest_field (canonical m) ≡ sha256 m.payload
digest_of m can judged some =
    elim ((Decodes-canonical m can).1.hashed) [
      | inl same ↦ same
      | inr other ↦ elim other [
        | inl empty ↦ absurd (some empty)
        | inr publication ↦ absurd
            (judged publication)
      ]
    ]

-- the fields that are looked at for the digest
record Fields (m : Message) (place : ℕ) (bytes : List ℕ) : Type 0 where
  name : name_of (name_field bytes) ≡ m.name
  digest : digest_field bytes ≡ sha256 m.payload
  payload : payload_in bytes ≡ damaged m.payload place
  some : payload_in bytes ≢ []
  below : IsFaultlessBelow 7 bytes

fields : (m : Message) (place : ℕ) (bytes : List ℕ) → IsDamaged m place bytes → Fields m place bytes
fields m place bytes d =
    let old = canonical m in
    let decodes = Decodes-canonical m d.can in
    let is : m ≡ _ = only_message m old decodes.0 in
    let some : m.payload ≢ [] = λ empty. absurd (omega (arith, d.within, ap length empty)) in
    let payload : payload_in (damaged old (120 + place)) ≡ damaged m.payload place =
    payload_in-damaged old place
    ∙ ap (λ (p : List ℕ). damaged p place) (sym (ap (λ x. x.payload) is)) in
    let none : damaged m.payload place ≢ [] =
    λ empty. absurd (omega (arith, d.within, length-damaged m.payload place, ap length empty)) in
    let P : List ℕ → Type 0 = Fields m place in
    subst P (sym d.changed)
    (record {
      name = ap name_of (same_part old (120 + place) 4 36 _ (omega arith) (omega arith))
          ∙ sym (ap (λ x. x.name) is);
      digest = same_part old (120 + place) 80 112 _ (omega arith) (omega arith)
          ∙ digest_of m d.can d.judged some;
      payload = payload;
      some = λ empty. none (sym payload ∙ empty);
      below = faultless old place (sound_has_no_fault m old decodes.0 decodes.1);
    })

-- the digest of a payload, and that of the changed one
abbrev pub digests_of : List ℕ → ℕ → Refusal
digests_of payload place = Refusal.Digest (sha256 payload) (sha256 (damaged payload place))

-- where the digests differ, the bytes are refused for it
pub Refuses-damaged : (m : Message) (place : ℕ) (bytes : List ℕ) → IsDamaged m place bytes
    → sha256 m.payload ≢ sha256 (damaged m.payload place)
    → Refuses bytes (digests_of m.payload place)
Refuses-damaged m place bytes d differ =
    let f = fields m place bytes d in (
      (
        sym f.digest,
        ap sha256 (sym f.payload),
        differ,
        f.some,
        λ p. d.judged
            (subst IsPublication f.name p),
      ),
      f.below,
    )

-- where they do not, nothing is wrong
pub sound-damaged : (m : Message) (place : ℕ) (bytes : List ℕ) → IsDamaged m place bytes
    → sha256 m.payload ≡ sha256 (damaged m.payload place) → (fault : Refusal) → HasFault bytes fault
    → ⊥
sound-damaged m place bytes d same fault has =
    let f = fields m place bytes d in
    let below = past_digest bytes f.below (inl (f.digest ∙ same ∙ ap sha256 (sym f.payload))) in
    no_eighth fault has (below fault has)
  where
    no_eighth : (fault : Refusal) → HasFault bytes fault → 8 ≤ number_of fault → ⊥
    no_eighth Refusal.NoMemory has eighth = has
    no_eighth fault has eighth = absurd (omega (arith, eighth))
