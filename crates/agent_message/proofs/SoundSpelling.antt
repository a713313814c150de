-- A sound spelling has no fault, and what a call answers of it.
use Rattle.std.proofs.Common.{◌≡◌, ◌≢◌, ℕ, ◌+◌, ◌<◌, ◌⊎◌, inl, inr, List, [], ◌++◌, length, IsTrue, Result, Ok, Err, IfOk, IfErr, refl, sym, ap, subst, ◌∙◌, arith, length-append}
use Rattle.std.specs.Int.{w32, from_be_bytes}
use Rattle.std.specs.List.{list_all}
use Rattle.std.proofs.lemmas.Nat.{from_be_bytes-to_be_bytes_4}
use Rattle.sha2.specs.Sha256.{sha256}
use Rattle.agent_message.specs.Decoding.{Decodes}
use Rattle.agent_message.specs.Fields.{name_field, payload_length, message_in}
use Rattle.agent_message.specs.Layout.{IsEncodable, canonical, Spells, IsSound}
use Rattle.agent_message.specs.Names.{is_filler_byte, IsName, IsPublication, IsWrongAt, name_of, filler_of}
use Rattle.agent_message.specs.Refusals.{number_of, HasFault}
use Rattle.agent_message.specs.declared.message.Message.{Message}
use Rattle.agent_message.specs.declared.refusal.Refusal.{Refusal}
use Rattle.agent_message.specs.declared.refusal.Refusal.TheVariants.{Short, HeaderLength, Name, Length, TooLong, Date, Digest, NoMemory}
use Rattle.agent_message.proofs.NameLemmas.{name_of-append, filler_of-append}
use Rattle.agent_message.proofs.Spelling.{spelled_parts, only_message, Decodes-canonical}

-- ---- a sound spelling has no fault

-- a field of a name and filler is wrong nowhere
right_spelling : (field name filler : List ℕ) → field ≡ name ++ filler → IsName name
    → IsTrue (list_all is_filler_byte filler)
    → (place : ℕ) → ¬ IsWrongAt field place
right_spelling field name filler is valid fills place wrong =
    let named : name_of field ≡ name = rw is (name_of-append name filler valid.2 fills) in
    let filled : filler_of field ≡ filler = rw is (filler_of-append name filler valid.2 fills) in
    elim wrong [
      | inl none ↦ omega (arith, valid.0, ap length (sym named ∙ none.0))
      | inr later ↦ omega (
        arith,
        later.1,
        later.2,
        ap length is,
        ap length named,
        ap length filled,
        length-append (name_of field) (filler_of field),
        length-append name filler,
      )
    ]

-- a dated message has a date
dated_spelling : (m : Message) (date : ℕ) (name : List ℕ) → m.date ≡ date → m.name ≡ name
    → (0 < m.date) ⊎ IsPublication m.name
    → (date ≡ 0) × ¬ IsPublication name → ⊥
dated_spelling m date name is named dated has =
    elim dated [
      | inl some ↦ omega (arith, has.0)
      | inr publication ↦ has.1 (subst IsPublication named publication)
    ]

-- a hashed message has the digest of its payload
hashed_spelling : (m : Message) (digest name payload said computed : List ℕ) → m.name ≡ name
    → m.payload ≡ payload
    → (digest ≡ sha256 m.payload) ⊎ (m.payload ≡ []) ⊎ IsPublication m.name
    → (said ≡ digest) × (computed ≡ sha256 payload) × (said ≢ computed) × (payload ≢ [])
    × ¬ IsPublication name → ⊥
hashed_spelling m digest name payload said computed named held hashed has =
    elim hashed [
      | inl same ↦ has.2 (has.0 ∙ same ∙ ap sha256 held ∙ sym has.1)
      | inr other ↦ elim other [
        | inl empty ↦ has.3 (sym held ∙ empty)
        | inr publication ↦ has.4 (subst IsPublication named publication)
      ]
    ]

-- the length that is said of the payload is its length
said_is : (m : Message) (bytes : List ℕ) → Spells m bytes → payload_length bytes ≡ length m.payload
said_is m bytes s = ap (from_be_bytes w32) (spelled_parts m bytes s).size
    ∙ from_be_bytes-to_be_bytes_4 (length m.payload) s.sized

-- the bytes of a sound message have no fault
pub sound_has_no_fault : (m : Message) (bytes : List ℕ) → Spells m bytes → IsSound m bytes
    → (fault : Refusal) → HasFault bytes fault → ⊥
sound_has_no_fault m bytes s sound (Short have) has =
    omega (arith, has.0, has.1, (spelled_parts m bytes s).long)
sound_has_no_fault m bytes s sound (HeaderLength said) has =
    has.1 (has.0 ∙ ap (from_be_bytes w32) (spelled_parts m bytes s).header)
sound_has_no_fault m bytes s sound (Name at) has =
    right_spelling (name_field bytes) m.name s.filler (spelled_parts m bytes s).name s.message.name
    s.fills has.0 has.2
sound_has_no_fault m bytes s sound (Length said have) has =
    has.2 (has.0 ∙ said_is m bytes s ∙ sym (ap length (spelled_parts m bytes s).payload)
    ∙ sym has.1)
sound_has_no_fault m bytes s sound (TooLong said) has =
    omega (arith, has.0, has.1, said_is m bytes s, sound.sized)
sound_has_no_fault m bytes s sound Date has =
    dated_spelling m _ _ (ap (λ n. n.date) (only_message m bytes s))
    (ap (λ n. n.name) (only_message m bytes s)) sound.dated has
sound_has_no_fault m bytes s sound (Digest said computed) has =
    hashed_spelling m _ _ _ said computed (ap (λ n. n.name) (only_message m bytes s))
    (ap (λ n. n.payload) (only_message m bytes s)) sound.hashed has
sound_has_no_fault m bytes s sound NoMemory has = has

-- ---- one answer

-- a field is wrong at one place at most
one_place : (field : List ℕ) (a b : ℕ) → IsWrongAt field a → IsWrongAt field b → a ≡ b
one_place field a b (inl none) (inl none') = none.1 ∙ sym none'.1
one_place field a b (inl none) (inr some) = absurd (some.0 none.0)
one_place field a b (inr some) (inl none) = absurd (some.0 none.0)
one_place field a b (inr some) (inr some') = some.1 ∙ sym some'.1

-- faults with one number are one fault
one_fault : (bytes : List ℕ) (a b : Refusal) → HasFault bytes a → HasFault bytes b
    → number_of a ≡ number_of b → a ≡ b
one_fault bytes (Short have) (Short have') p q same = ap Short (p.0 ∙ sym q.0)
one_fault bytes (HeaderLength said) (HeaderLength said') p q same = ap HeaderLength (p.0 ∙ sym q.0)
one_fault bytes (Name at) (Name at') p q same =
    ap Name (p.1 ∙ ap (λ place. 4 + place) (one_place (name_field bytes) p.0 q.0 p.2 q.2) ∙ sym q.1)
one_fault bytes (Length said have) (Length said' have') p q same =
    ap (λ n. Length n have) (p.0 ∙ sym q.0) ∙ ap (Length said') (p.1 ∙ sym q.1)
one_fault bytes (TooLong said) (TooLong said') p q same = ap TooLong (p.0 ∙ sym q.0)
one_fault bytes Date Date p q same = refl
one_fault bytes (Digest said computed) (Digest said' computed') p q same =
    ap (λ d. Digest d computed) (p.0 ∙ sym q.0) ∙ ap (Digest said') (p.1 ∙ sym q.1)
one_fault bytes NoMemory b p q same = absurd p
one_fault bytes a b p q same = absurd (omega (arith, same))

-- bytes have one answer at most
pub one_answer : (bytes : List ℕ) (a b : Result Message Refusal) → Decodes bytes a → Decodes bytes b
    → a ≡ b
one_answer bytes (Ok m) (Ok n) p q =
    ap Ok (only_message m bytes p.0 ∙ sym (only_message n bytes q.0))
one_answer bytes (Ok m) (Err f) p q = absurd (sound_has_no_fault m bytes p.0 p.1 f q.0)
one_answer bytes (Err e) (Ok n) p q = absurd (sound_has_no_fault n bytes q.0 q.1 e p.0)
one_answer bytes (Err e) (Err f) p q =
    ap Err (one_fault bytes e f p.0 q.0 (omega (arith, p.1 f q.0, q.1 e p.0)))

-- ---- what a call answers

-- a call that read the message of the fields has read the message
pub reads : (r : Result Message Refusal) (bytes : List ℕ) → Decodes bytes (Ok (message_in bytes))
    → IfOk r (λ m. m ≡ message_in bytes)
    → IfOk r (λ m. Decodes bytes (Ok m))
reads (Ok m) bytes decodes is = subst (λ n. Decodes bytes (Ok n)) (sym is) decodes
reads (Err e) bytes decodes is = tt

-- a call that answered has the one answer
pub answers : (r : Result Message Refusal) (bytes : List ℕ) → IfOk r (λ m. Decodes bytes (Ok m))
    → IfErr r (λ e. (e ≡ NoMemory) ⊎ Decodes bytes (Err e))
    → (answer : Result Message Refusal) → Decodes bytes answer → (r ≡ answer) ⊎ (r ≡ Err NoMemory)
answers (Ok m) bytes read refused answer decodes = inl (one_answer bytes (Ok m) answer read decodes)
answers (Err e) bytes read refused answer decodes =
    elim refused [
      | inl none ↦ inr (ap Err none)
      | inr refuses ↦ inl (one_answer bytes (Err e) answer refuses decodes)
    ]

-- a call that gave the one answer gave the message that was written
pub again : (r : Result Message Refusal) (bytes : List ℕ)
    → ((answer : Result Message Refusal) → Decodes bytes answer → (r ≡ answer) ⊎ (r ≡ Err NoMemory))
    → (m : Message) → IsEncodable m → bytes ≡ canonical m → (r ≡ Ok m) ⊎ (r ≡ Err NoMemory)
again r bytes only m can is =
    only (Ok m) (subst (λ (written : List ℕ). Decodes written (Ok m)) (sym is)
    (Decodes-canonical m can))
