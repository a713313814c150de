-- The first fault of bytes: the tests in their order, and that there is one answer.
use Rattle.std.proofs.Common.{◌≡◌, ◌≢◌, ℕ, ◌+◌, ◌-◌, ◌<◌, ◌≤◌, ◌⊎◌, inl, inr, Bool, true, false, not, eqb, List, [], ◌++◌, length, take, drop, codes, Ok, refl, sym, ap, ◌∙◌, arith, length-append, length-take, length-drop}
use Rattle.std.specs.Bool.{Decides}
use Rattle.std.specs.Str.{bytes_eq}
use Rattle.std.specs.Int.{w64}
use Rattle.std.proofs.lemmas.Bool.{cases_lt, cases_eq, eqb-true, eq-eqb}
use Rattle.std.proofs.lemmas.List.{nil_from_length, take-append-drop, take_all}
use Rattle.std.proofs.lemmas.List.Folds.{length-prefix_len}
use Rattle.std.proofs.lemmas.Slice.Eq.{bytes_eq-Decides}
use Rattle.sha2.specs.Sha256.{sha256}
use Rattle.agent_message.specs.Decoding.{Decodes}
use Rattle.agent_message.specs.Fields.{number_at, header_length, name_field, digest_field, payload_length, payload_in, message_in}
use Rattle.agent_message.specs.Names.{is_name_byte, IsName, IsPublication, IsWrongAt, name_of, filler_of}
use Rattle.agent_message.specs.Refusals.{IsFaultlessBelow}
use Rattle.agent_message.specs.declared.refusal.Refusal.TheVariants.{Short, HeaderLength, Name, Length, TooLong, Date, Digest, NoMemory}
use Rattle.agent_message.proofs.NameLemmas.{IsName-name_of}
use Rattle.agent_message.proofs.Parts.{length-part}
use Rattle.agent_message.proofs.Spelling.{IsBytes, Spells-message_in}

-- ---- one test after another

-- each fault has a number
pub first_test : (bytes : List ℕ) → IsFaultlessBelow 1 bytes
first_test bytes NoMemory has = absurd has
first_test bytes fault has = omega arith

pub past_short : (bytes : List ℕ) → 120 ≤ length bytes → IsFaultlessBelow 2 bytes
past_short bytes long (Short have) has = absurd (omega (arith, has.0, has.1))
past_short bytes long fault has = omega arith

pub past_header_length : (bytes : List ℕ) → IsFaultlessBelow 2 bytes → header_length bytes ≡ 116
    → IsFaultlessBelow 3 bytes
past_header_length bytes below is (HeaderLength said) has = absurd (has.1 (has.0 ∙ is))
past_header_length bytes below is fault has = omega (arith, below fault has)

pub past_name : (bytes : List ℕ) → IsFaultlessBelow 3 bytes
    → ((place : ℕ) → ¬ IsWrongAt (name_field bytes) place) → IsFaultlessBelow 4 bytes
past_name bytes below right (Name at) has = absurd (right has.0 has.2)
past_name bytes below right fault has = omega (arith, below fault has)

pub past_length : (bytes : List ℕ) → IsFaultlessBelow 4 bytes
    → payload_length bytes ≡ length (payload_in bytes) → IsFaultlessBelow 5 bytes
past_length bytes below is (Length said have) has = absurd (has.2 (has.0 ∙ is ∙ sym has.1))
past_length bytes below is fault has = omega (arith, below fault has)

pub past_size : (bytes : List ℕ) → IsFaultlessBelow 5 bytes → payload_length bytes ≤ 65536
    → IsFaultlessBelow 6 bytes
past_size bytes below fits (TooLong said) has = absurd (omega (arith, has.0, has.1))
past_size bytes below fits fault has = omega (arith, below fault has)

pub past_date : (bytes : List ℕ) → IsFaultlessBelow 6 bytes → (0 < number_at w64 40 bytes)
    ⊎ IsPublication (name_of (name_field bytes)) → IsFaultlessBelow 7 bytes
past_date bytes below (inl dated) Date has = absurd (omega (arith, has.0))
past_date bytes below (inr publication) Date has = absurd (has.1 publication)
past_date bytes below dated fault has = omega (arith, below fault has)

pub past_digest : (bytes : List ℕ) → IsFaultlessBelow 7 bytes
    → (digest_field bytes ≡ sha256 (payload_in bytes)) ⊎ (payload_in bytes ≡ [])
    ⊎ IsPublication (name_of (name_field bytes)) → IsFaultlessBelow 8 bytes
past_digest bytes below (inl same) (Digest said computed) has =
    absurd (has.2 (has.0 ∙ same ∙ sym has.1))
past_digest bytes below (inr (inl empty)) (Digest said computed) has = absurd (has.3 empty)
past_digest bytes below (inr (inr publication)) (Digest said computed) has =
    absurd (has.4 publication)
past_digest bytes below sound fault has = omega (arith, below fault has)

-- ---- what is left where no test failed

-- a test that computes tells which
decided : {P : Type 0} (b : Bool) → Decides b P → P ⊎ ¬ P
decided true tells = inl (tells.0 refl)
decided false tells = inr (λ p. let never : false ≡ true = tells.1 p in absurd cc)

-- the part from byte 120 to the end is the payload
pub rest_is : (bytes : List ℕ) → take (length bytes - 120) (drop 120 bytes) ≡ payload_in bytes
rest_is bytes = take_all _ (drop 120 bytes) (omega (arith, length-drop 120 bytes))

-- a test that does not fail
equal_where_not : (b : Bool) → not b ≡ false → b ≡ true
equal_where_not true e = refl
equal_where_not false e = absurd cc

-- two lists of bytes are equal or not
pub same_or_not : (xs ys : List ℕ) → (xs ≡ ys) ⊎ (xs ≢ ys)
same_or_not xs ys = decided (bytes_eq xs ys) (bytes_eq-Decides xs ys)

-- what `!=` tells of two digests
pub digests_differ : (said computed : List ℕ) (differ : Bool)
    → differ ≡ not (bytes_eq said computed) → differ ≡ true → said ≢ computed
digests_differ said computed differ told is_so same =
    let equal : bytes_eq said computed ≡ true = (bytes_eq-Decides said computed).1 same in
    let is_not : differ ≡ false = told ∙ ap not equal in
    absurd cc

pub digests_agree : (said computed : List ℕ) (differ : Bool) → differ ≡ not (bytes_eq said computed)
    → differ ≡ false → said ≡ computed
digests_agree said computed differ told is_not =
    elim (same_or_not said computed) [
      | inl same ↦ same
      | inr differs ↦ absurd
          (differs ((bytes_eq-Decides said computed).0
          (equal_where_not (bytes_eq said computed) (sym told ∙ is_not))))
    ]

-- what `is_empty` tells of the payload
pub payload_is_empty : (bytes : List ℕ) (empty : Bool)
    → empty ≡ eqb (length (take (length bytes - 120) (drop 120 bytes))) 0 → empty ≡ true
    → payload_in bytes ≡ []
payload_is_empty bytes empty told is_so =
    sym (rest_is bytes) ∙ nil_from_length _ (eqb-true _ 0 (sym told ∙ is_so))

pub payload_is_not_empty : (bytes : List ℕ) (empty : Bool)
    → empty ≡ eqb (length (take (length bytes - 120) (drop 120 bytes))) 0 → empty ≡ false
    → payload_in bytes ≢ []
payload_is_not_empty bytes empty told is_not none =
    let is_so : empty ≡ true = told ∙ eq-eqb _ 0 (ap length (rest_is bytes ∙ none)) in
    absurd cc

-- a name is one of the two publication names or not
pub publication_or_not : (name : List ℕ) → IsPublication name ⊎ ¬ IsPublication name
publication_or_not name =
    elim (same_or_not name (codes "start_publication")) [
      | inl start ↦ inl (inl start)
      | inr no_start ↦ elim (same_or_not name (codes "pause_publication")) [
        | inl pause ↦ inl (inr pause)
        | inr no_pause ↦ inr
            (λ p. elim p [ inl start ↦ no_start start | inr pause ↦ no_pause pause ])
      ]
    ]

-- a part of the front and all that is behind it are the list
all_of_it : (xs : List ℕ) (n m k : ℕ) → k ≡ n → length xs ≤ length (take n xs ++ take m (drop k xs))
    → take n xs ++ take m (drop k xs) ≡ xs
all_of_it xs n m k same enough =
    let behind : length (drop k xs) ≤ m =
    omega (
      arith,
      length-append (take n xs) (take m (drop k xs)),
      length-take n xs,
      length-take m (drop k xs),
      length-drop k xs,
    ) in
    rw (take_all m (drop k xs) behind, same) (take-append-drop n xs)

-- a field that is wrong nowhere is a name and filler
pub right_field : (field : List ℕ) → length field ≡ 32 → ((place : ℕ) → ¬ IsWrongAt field place)
    → IsName (name_of field) × (name_of field ++ filler_of field ≡ field)
right_field field long right =
    let some : 1 ≤ length (name_of field) =
    elim (cases_lt 0 (length (name_of field))) [
      | inl more ↦ omega arith
      | inr none ↦ absurd (right 0 (inl (nil_from_length (name_of field) (omega arith), refl)))
    ] in
    let named : name_of field ≢ [] = λ empty. absurd (omega (arith, some, ap length empty)) in
    let whole : 32 ≤ length (name_of field ++ filler_of field) =
    elim (cases_lt (length (name_of field ++ filler_of field)) 32) [
      | inl less ↦ absurd (right _ (inr (named, refl, omega arith)))
      | inr no_less ↦ no_less
    ] in (
      IsName-name_of field (omega arith) some,
      all_of_it field _ _ _ (length-prefix_len is_name_byte field) (omega (arith, whole)),
    )

-- bytes of which no test failed spell the message that their fields hold
pub accepted : (bytes : List ℕ) → IsBytes bytes → IsFaultlessBelow 8 bytes
    → Decodes bytes (Ok (message_in bytes))
accepted bytes fits faultless =
    let long : 120 ≤ length bytes =
    elim (cases_lt (length bytes) 120) [
      | inl less ↦ absurd (omega (arith, faultless (Short (length bytes)) (refl, less)))
      | inr no_less ↦ no_less
    ] in
    let header : header_length bytes ≡ 116 =
    elim (cases_eq (header_length bytes) 116) [
      | inl same ↦ same
      | inr other ↦ absurd
          (omega (arith, faultless (HeaderLength (header_length bytes)) (refl, other)))
    ] in
    let field = right_field (name_field bytes) (length-part bytes 4 32 (omega arith))
    (λ place wrong. absurd (omega (arith, faultless (Name (4 + place)) (place, refl, wrong)))) in
    let whole : payload_length bytes ≡ length (payload_in bytes) =
    elim (cases_eq (payload_length bytes) (length (payload_in bytes))) [
      | inl same ↦ same
      | inr other ↦ absurd
          (omega (
            arith,
            faultless (Length (payload_length bytes) (length (payload_in bytes)))
                (refl, refl, other),
          ))
    ] in
    let sized : length (payload_in bytes) ≤ 65536 =
    elim (cases_lt 65536 (payload_length bytes)) [
      | inl more ↦ absurd (omega (arith, faultless (TooLong (payload_length bytes)) (refl, more)))
      | inr no_more ↦ omega arith
    ] in
    let dated : (0 < number_at w64 40 bytes) ⊎ IsPublication (name_of (name_field bytes)) =
    elim (publication_or_not (name_of (name_field bytes))) [
      | inl publication ↦ inr publication
      | inr other ↦ elim (cases_lt 0 (number_at w64 40 bytes)) [
        | inl some ↦ inl some
        | inr none ↦ absurd (omega (arith, faultless Date (omega arith, other)))
      ]
    ] in
    let hashed : (digest_field bytes ≡ sha256 (payload_in bytes)) ⊎ (payload_in bytes ≡ [])
    ⊎ IsPublication (name_of (name_field bytes)) =
    elim (publication_or_not (name_of (name_field bytes))) [
      | inl publication ↦ inr (inr publication)
      | inr other ↦ elim (same_or_not (payload_in bytes) []) [
        | inl empty ↦ inr (inl empty)
        | inr some ↦ elim (same_or_not (digest_field bytes) (sha256 (payload_in bytes))) [
          | inl same ↦ inl same
          | inr differs ↦ absurd
              (omega (
                arith,
                faultless (Digest (digest_field bytes) (sha256 (payload_in bytes)))
                    (refl, refl, differs, some, other),
              ))
        ]
      ]
    ] in (
      Spells-message_in bytes fits long header field.0 field.1 whole,
      record { sized = sized; dated = dated; hashed = hashed },
    )
