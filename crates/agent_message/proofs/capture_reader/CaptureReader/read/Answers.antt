use Rattle.std.proofs.Common.{◌≡◌, true, length, ◌++◌, List, [], refl, sym, ap, subst, ◌∙◌, append_assoc}
use Rattle.std.specs.Prelude.{is_some, option_to_list}
use Rattle.std.proofs.lemmas.List.{append-nil, take-append-drop, nil_from_length}
use Rattle.std.proofs.lemmas.Bool.{eqb-true}
use Rattle.agent_message.specs.CaptureReading.{StandsFor}
use Rattle.agent_message.specs.declared.message.Message.{Message}
use Rattle.agent_message.proofs.ReaderLemmas.{regroup, stays_broken}
use Rattle.agent_message.proofs.capture_reader.CaptureReader.read.Goals as goal
use Rattle.agent_message.proofs.capture_reader.CaptureReader.read.Goals.{in-Some+in_ok-push, in_default, then-loop-reader-test+else-is_none, else-loop-reader-test}

pub loop-reader-init : goal.loop-reader-init
loop-reader-init c = (
  [],
  refl,
  λ before given s. rw (
    c.in_ok-reader.ensures,
    c.new-messages.ensures.items,
    append-nil before,
    append-nil given,
  ) s,
)

pub loop-reader-preserved : goal.loop-reader-preserved
loop-reader-preserved c =
    let a = c.loop-reader.invariant in
    let part = c.split_at.result.0.now in
    let behind = c.split_at.result.1.now in
    let ms = c.loop-reader.messages.items in
    let cut : part ++ behind ≡ c.loop-reader.coming.now =
    rw (c.split_at.ensures.front, c.split_at.ensures.back) (take-append-drop _ _) in
    let whole : (a.0 ++ part) ++ behind ≡ c.args.bytes.now =
    append_assoc a.0 part behind ∙ ap (λ x. a.0 ++ x) cut ∙ a.1 in (
      a.0 ++ part,
      whole,
      λ before given s.
          let after : StandsFor c.take.new.self (before ++ (a.0 ++ part))
          (given ++ (ms ++ option_to_list c.in_ok-message.field-0)) =
          regroup c.take.new.self before a.0 part given ms (option_to_list c.in_ok-message.field-0)
          (c.in_ok-message.ensures (before ++ a.0) (given ++ ms) (a.2 before given s)) in
          let P : List Message
          → Type 0 = λ messages. StandsFor c.take.new.self (before ++ (a.0 ++ part))
          (given ++ messages) in
          elim c.match-branch-3.branch [
            | in-Some+in_ok-push w ↦ subst P
                (sym (ap (λ v. v.items) w.messages-is ∙ w.in_ok-push.ensures.items
                ∙ ap (λ o. ms ++ option_to_list o) (sym w.in-Some.is))) after
            | in_default w ↦ subst P
                (sym (ap (λ v. v.items) w.messages-is ∙ sym (append-nil ms)
                ∙ ap (λ o. ms ++ option_to_list o) (sym w.in_default.is))) after
          ],
    )

pub returns-clause-read : goal.returns-clause-read
returns-clause-read c before given s =
    let a = c.loop-reader.invariant in
    let reader = c.loop-reader.reader in
    let coming = c.loop-reader.coming.now in
    let ms = c.loop-reader.messages.items in
    let now : StandsFor reader (before ++ a.0) (given ++ ms) = a.2 before given s in
    let whole : StandsFor reader (before ++ c.args.bytes.now) (given ++ ms) =
    elim c.loop-reader-test.branch [
      | then-loop-reader-test+else-is_none w ↦
          let broken : is_some reader.fault ≡ true =
          ap (λ p. is_some p.fault) (sym c.reader.view_is) ∙ w.if-is_none.ensures in
          subst (λ bytes. StandsFor reader bytes (given ++ ms))
          (append_assoc before a.0 coming ∙ ap (λ bytes. before ++ bytes) a.1)
          (stays_broken reader (before ++ a.0) coming (given ++ ms) now broken)
      | else-loop-reader-test w ↦
          let none : coming ≡ [] =
          nil_from_length coming (eqb-true (length coming) 0 (sym w.loop-reader-test.ensures)) in
          let all : a.0 ≡ c.args.bytes.now =
          sym (append-nil a.0) ∙ ap (λ bytes. a.0 ++ bytes) (sym none) ∙ a.1 in
          subst (λ bytes. StandsFor reader (before ++ bytes) (given ++ ms)) all now
    ] in
    rw (c.reader-2.view_is, c.settle.ensures, c.new.ensures) whole
