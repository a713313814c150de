use Rattle.std.proofs.Common.{inl, inr, ◌≢◌, sym, ◌∙◌, arith}
use Rattle.std.specs.Prelude.{codes}
use Rattle.std.proofs.lemmas.Bool.{false≢true}
use Rattle.std.proofs.lemmas.Bool.Decides.{nat_tests}
use Rattle.std.proofs.lemmas.Slice.Eq.{bytes_eq-Decides}
use Rattle.lab_script.proofs.Payloads.{IsEncoding-from_text, text_from_decoded}
use Rattle.lab_script.proofs.hexadecimal.read_payload.Goals as goal
use Rattle.lab_script.proofs.hexadecimal.read_payload.Goals.{Else-eq, then-is_empty-via-then-is_empty, then-is_empty-via-else-is_empty+then-word, then-is_empty-via-else-is_empty+else-word+then-has_uppercase}

-- the word is not `-`
is_other : (c : Else-eq) → c.args.word.now ≢ codes "-"
is_other c same =
    absurd (false≢true (sym c.if-eq.false ∙ c.eq.ensures
    ∙ (bytes_eq-Decides c.args.word.now c.as_slice.result.now).1
    (same ∙ sym c.as_slice.ensures)))

pub returns-then-is_empty-clause-none : goal.returns-then-is_empty-clause-none
returns-then-is_empty-clause-none c = λ payload fits e.
    let text = IsEncoding-from_text c.args.word.now payload fits e
    (is_other (goal.at.returns-then-is_empty-clause-none c).Else-eq) in
    elim c.then-is_empty.branch [
      | then-is_empty-via-then-is_empty w ↦ grind (arith, nat_tests)
      | then-is_empty-via-else-is_empty+then-word w ↦ omega arith
      | then-is_empty-via-else-is_empty+else-word+then-has_uppercase w ↦ cc
    ]

pub returns-in-Ok-clause-found : goal.returns-in-Ok-clause-found
returns-in-Ok-clause-found c =
    rw c.new-in-Ok.ensures (text_from_decoded c.args.word.now c.in-Ok.payload.items
    (grind (arith, nat_tests)) (omega arith) (cc) c.in-Ok.ensures.ok)

pub returns-in_default : goal.returns-in_default
returns-in_default c = record {
  found = tt;
  none = λ payload fits e.
      let text = IsEncoding-from_text c.args.word.now payload fits e
      (is_other (goal.at.returns-in_default c).Else-eq) in
      elim c.in-Err.ensures.err [
        | inl memory ↦ c.in_default.not-OutOfMemory memory
        | inr failed ↦ cc (text.decoded, failed)
      ];
}
