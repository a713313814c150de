-- Each list of bytes has an answer: the tests in their order, each passed or failed.
use Rattle.std.proofs.Common.{ℕ, ◌+◌, ◌<◌, ◌⊎◌, inl, inr, List, [], ◌++◌, length, All, Result, Ok, Err, refl, arith}
use Rattle.std.specs.Int.{w64}
use Rattle.std.proofs.lemmas.Bool.{cases_lt, cases_eq}
use Rattle.std.proofs.lemmas.List.{get_or_past}
use Rattle.sha2.specs.Sha256.{sha256}
use Rattle.agent_message.specs.Decoding.{Decodes}
use Rattle.agent_message.specs.Fields.{number_at, header_length, name_field, digest_field, payload_length, payload_in, message_in}
use Rattle.agent_message.specs.Names.{IsWrongAt, name_of, filler_of}
use Rattle.agent_message.specs.Refusals.{IsFaultlessBelow}
use Rattle.agent_message.specs.declared.message.Message.{Message}
use Rattle.agent_message.specs.declared.refusal.Refusal.{Refusal}
use Rattle.agent_message.specs.declared.refusal.Refusal.TheVariants.{Short, HeaderLength, Name, Length, TooLong, Date, Digest}
use Rattle.agent_message.proofs.Faults.{first_test, past_short, past_header_length, past_name, past_length, past_size, past_date, past_digest, same_or_not, publication_or_not, accepted}
use Rattle.agent_message.proofs.Spelling.{IsBytes}

-- a byte past the end is read as 0
pub IsBytes-from_All : (bytes : List ℕ) → All (λ byte. byte < 256) bytes → IsBytes bytes
IsBytes-from_All bytes fits i =
    elim (cases_lt i (length bytes)) [
      | inl within ↦ fits i 0 within
      | inr past ↦ rw (get_or_past bytes i 0 past) (omega arith)
    ]

-- the bytes have an answer
abbrev Answered : List ℕ → Type 0
Answered bytes = (answer : Result Message Refusal) × Decodes bytes answer

-- the tests of the date and the digest
content_answer : (bytes : List ℕ) → IsBytes bytes → IsFaultlessBelow 6 bytes → Answered bytes
content_answer bytes fits below =
    let name = name_of (name_field bytes) in
    elim (publication_or_not name) [
      | inl publication ↦ (
        Ok (message_in bytes),
        accepted bytes fits (past_digest bytes (past_date bytes below (inr publication))
            (inr (inr publication))),
      )
      | inr other ↦ elim (cases_lt 0 (number_at w64 40 bytes)) [
        | inr none ↦ (Err Date, ((omega arith, other), below))
        | inl some ↦
            let dated = past_date bytes below (inl some) in
            elim (same_or_not (payload_in bytes) []) [
              | inl empty ↦ (
                Ok (message_in bytes),
                accepted bytes fits (past_digest bytes dated (inr (inl empty))),
              )
              | inr full ↦ elim (same_or_not (digest_field bytes) (sha256 (payload_in bytes))) [
                | inl same ↦ (
                  Ok (message_in bytes),
                  accepted bytes fits (past_digest bytes dated (inl same)),
                )
                | inr differ ↦ (
                  Err (Digest (digest_field bytes) (sha256 (payload_in bytes))),
                  ((refl, refl, differ, full, other), dated),
                )
              ]
            ]
      ]
    ]

-- the tests of the payload's length, and what comes after them
length_answer : (bytes : List ℕ) → IsBytes bytes → IsFaultlessBelow 4 bytes → Answered bytes
length_answer bytes fits below =
    elim (cases_eq (payload_length bytes) (length (payload_in bytes))) [
      | inr other ↦ (
        Err (Length (payload_length bytes) (length (payload_in bytes))),
        ((refl, refl, other), below),
      )
      | inl whole ↦
          let passed = past_length bytes below whole in
          elim (cases_lt 65536 (payload_length bytes)) [
            | inl more ↦ (Err (TooLong (payload_length bytes)), ((refl, more), passed))
            | inr within ↦ content_answer bytes fits (past_size bytes passed within)
          ]
    ]

-- a field is wrong somewhere or nowhere
wrong_or_right : (field : List ℕ) → ((place : ℕ) × IsWrongAt field place)
    ⊎ ((place : ℕ) → ¬ IsWrongAt field place)
wrong_or_right field =
    elim (same_or_not (name_of field) []) [
      | inl none ↦ inl (0, inl (none, refl))
      | inr some ↦ elim (cases_lt (length (name_of field ++ filler_of field)) (length field)) [
        | inl later ↦ inl (length (name_of field ++ filler_of field), inr (some, refl, later))
        | inr whole ↦ inr (λ place wrong. elim wrong [
          | inl none ↦ some none.0
          | inr later ↦ absurd (omega (arith, later.1, later.2))
        ])
      ]
    ]

-- all the tests
pub an_answer : (bytes : List ℕ) → IsBytes bytes → (answer : Result Message Refusal)
    × Decodes bytes answer
an_answer bytes fits =
    elim (cases_lt (length bytes) 120) [
      | inl less ↦ (Err (Short (length bytes)), ((refl, less), first_test bytes))
      | inr long ↦ elim (cases_eq (header_length bytes) 116) [
        | inr other ↦ (
          Err (HeaderLength (header_length bytes)),
          ((refl, other), past_short bytes long),
        )
        | inl header ↦
            let passed = past_header_length bytes (past_short bytes long) header in
            elim (wrong_or_right (name_field bytes)) [
              | inl wrong ↦ (Err (Name (4 + wrong.0)), ((wrong.0, refl, wrong.1), passed))
              | inr right ↦ length_answer bytes fits (past_name bytes passed right)
            ]
      ]
    ]
