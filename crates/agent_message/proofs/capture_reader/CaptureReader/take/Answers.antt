use Rattle.std.proofs.Common.{◌≡◌, ◌+◌, ◌-◌, ◌^◌, ◌≤◌, min, ◌++◌, None, length, refl, sym, ap, subst, ◌∙◌}
use Rattle.std.proofs.lemmas.List.{append-nil}
use Rattle.agent_message.specs.CaptureFronts.{IsFront}
use Rattle.agent_message.specs.CaptureReading.{StandsFor, missing}
use Rattle.agent_message.proofs.ReaderLemmas.{breaks, goes_on, is_whole}
use Rattle.agent_message.proofs.capture_reader.CaptureReader.take.Goals as goal

pub returns-in-Ok-Unfinished : goal.returns-in-Ok-Unfinished
returns-in-Ok-Unfinished c before given s =
    let s' = subst (λ p. StandsFor p before given) (sym c.self.view_is) s in
    let sound : c.self.inside.fault ≡ None = ap (λ p. p.fault) c.self.view_is ∙ c.requires.sound in
    let joined : c.deref.result.now ≡ c.self.inside.rest.items ++ c.args.part.now =
    c.deref.ensures.value ∙ c.in_ok-extend_from_slice.ensures.items in
    let front = subst (λ bytes. IsFront bytes c.in-Ok-Unfinished.field-0) joined
    c.in-Ok-Unfinished.ensures in
    rw append-nil
    (goes_on _ _ before c.args.part.now given s' sound
    (rw c.in-Ok-Unfinished.field-0-is at front)
    c.in_ok-extend_from_slice.ensures.items refl sound)

pub returns-in-Ok-Whole : goal.returns-in-Ok-Whole
returns-in-Ok-Whole c before given s =
    let s' = subst (λ p. StandsFor p before given) (sym c.self.view_is) s in
    let sound : c.self.inside.fault ≡ None = ap (λ p. p.fault) c.self.view_is ∙ c.requires.sound in
    let within : length c.args.part.now ≤ missing c.self.inside.rest.items =
    rw (ap (λ p. p.rest) c.self.view_is) c.requires.within in
    let joined : c.deref.result.now ≡ c.self.inside.rest.items ++ c.args.part.now =
    c.deref.ensures.value ∙ c.in_ok-extend_from_slice.ensures.items in
    let front = subst (λ bytes. IsFront bytes c.in-Ok-Whole.field-0) joined c.in-Ok-Whole.ensures in
    let whole = rw c.in-Ok-Whole.field-0-is at front in
    let items = ap length c.in_ok-extend_from_slice.ensures.items in
    let kept = c.extend_from_slice.new.self.ok.0 in
    let start : c.saturating_add-self-inside.result
    ≡ min (c.self.inside.start + length (c.self.inside.rest.items ++ c.args.part.now))
    (2 ^ 64 - 1) =
    c.saturating_add-self-inside.ensures
    ∙ ap (λ n. min (c.self.inside.start + n) (2 ^ 64 - 1)) (c.len.ensures ∙ kept ∙ items) in
    is_whole _ _ before c.args.part.now given c.in-Ok-Whole.message whole.0 whole.1 s' sound within
    whole.2 whole.3 c.clear.ensures.items start sound

pub returns-in-Ok-Broken : goal.returns-in-Ok-Broken
returns-in-Ok-Broken c before given s =
    let s' = subst (λ p. StandsFor p before given) (sym c.self.view_is) s in
    let sound : c.self.inside.fault ≡ None = ap (λ p. p.fault) c.self.view_is ∙ c.requires.sound in
    let joined : c.deref.result.now ≡ c.self.inside.rest.items ++ c.args.part.now =
    c.deref.ensures.value ∙ c.in_ok-extend_from_slice.ensures.items in
    let front = subst (λ bytes. IsFront bytes c.in-Ok-Broken.field-0) joined
    c.in-Ok-Broken.ensures in
    rw append-nil
    (breaks _ _ before c.args.part.now given c.in-Ok-Broken.cause s' sound
    (rw c.in-Ok-Broken.field-0-is at front) refl refl)
