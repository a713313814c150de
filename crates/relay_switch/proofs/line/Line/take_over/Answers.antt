use Rattle.std.proofs.Common.{◌≡◌, List, [], ◌∷◌, ◌++◌, ap, arith, sym, ◌∙◌}
use Rattle.relay_core.specs.declared.action.Action.{Action}
use Rattle.relay_switch.specs.Lines.{bytes_in, weight}
use Rattle.relay_switch.proofs.QueueLemmas.{heads}
use Rattle.relay_switch.proofs.StepLemmas.{bytes-push}
use Rattle.relay_switch.proofs.line.Line.take_over.Goals as goal

pub invariant_of-self-2 : goal.invariant_of-self-2
invariant_of-self-2 c =
    let was = c.self.inside.waiting.items in
    let action = c.remove-action.result in
    let same : action ≡ c.index.result.now =
    heads c.args.added.now.items action c.index.result.now
    (omega (arith, c.requires, c.args.added.now.ok.0)) c.remove-action.ensures.value
    c.index.ensures in
    let more : c.weight-more.result ≡ weight action =
    c.weight-more.ensures ∙ ap weight (sym same) in
    let items : c.push_back_reserved.new.self.items ≡ was ++ action ∷ [] =
    c.push_back_reserved.ensures.items
    ∙ ap (λ (xs : List Action). xs ++ action ∷ []) c.reserve.ensures.items in
    omega (arith, ap bytes_in items, bytes-push was action, more, c.self.invariant)
