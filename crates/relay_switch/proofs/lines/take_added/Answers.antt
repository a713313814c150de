use Rattle.std.proofs.Common.{◌<◌, List, Some, ap, length, slice_get, subst, sym, ◌∙◌}
use Rattle.std.proofs.lemmas.Option.{slice_get-get_or}
use Rattle.relay_core.specs.declared.action.Action.{Action}
use Rattle.relay_switch.specs.Lines.{to_conn}
use Rattle.relay_switch.proofs.QueueLemmas.{without-none}
use Rattle.relay_switch.proofs.lines.take_added.Goals as goal

pub returns-in_err-index-clause-rest : goal.returns-in_err-index-clause-rest
returns-in_err-index-clause-rest c =
    sym (without-none c.args.conn c.args.added.now.items
    (ap (to_conn c.args.conn) (sym c.deref.ensures.value) ∙ c.in_err-index.ensures.none))

pub returns-clause-first : goal.returns-clause-first
returns-clause-first c =
    let items = c.args.added.now.items in
    let found = c.in_ok-index in
    let within : found.index < length items =
    subst (λ (xs : List Action). found.index < length xs) c.deref.ensures.value
    found.ensures.within in
    ap (λ (a : Action). Some a) c.remove.ensures.value
    ∙ sym (slice_get-get_or items found.index c.remove.result within)
    ∙ ap (λ (xs : List Action). slice_get xs found.index) (sym c.deref.ensures.value)
    ∙ sym found.ensures.first
    ∙ ap (λ (xs : List Action). slice_get (to_conn c.args.conn xs) 0) c.deref.ensures.value
