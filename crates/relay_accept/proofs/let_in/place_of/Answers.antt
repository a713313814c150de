use Rattle.std.proofs.Common.{refl, sym, ap, ◌∙◌, take}
use Rattle.std.proofs.lemmas.List.{take_all}
use Rattle.std.proofs.lemmas.List.Folds.{list_any-append}
use Rattle.std.proofs.lemmas.Grind.{take_at_read}
use Rattle.session_register.specs.Names.{same_name}
use Rattle.relay_desk.specs.Openings.{is_named}
use Rattle.relay_accept.proofs.EndLemmas.{neither, true_not_false}
use Rattle.relay_accept.proofs.let_in.place_of.Goals as goal

pub loop-place-preserved : goal.loop-place-preserved
loop-place-preserved c =
    ap (λ xs. is_named xs c.args.session)
    (take_at_read c.args.names.now c.loop-place.place c.index-names-place.result c.loop-place-test.true).1
    ∙ list_any-append _ (take c.loop-place.place c.args.names.now) _
    ∙ neither _ _ c.loop-place.invariant (neither _ _
    (ap (λ n. same_name n c.args.session) (sym c.index-names-place.is) ∙ sym c.if-eq.ensures) refl)

pub unreachable-requires : goal.unreachable-requires
unreachable-requires c =
    true_not_false (sym c.requires ∙ ap (λ xs. is_named xs c.args.session)
    (sym (take_all c.loop-place.place c.args.names.now c.loop-place-test.false)) ∙ c.loop-place.invariant)
