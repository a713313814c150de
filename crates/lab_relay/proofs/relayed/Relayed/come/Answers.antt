use Rattle.std.proofs.Common.{◌≡◌, ◌++◌, [], ◌∷◌, ℕ, List, map, sym, ap, subst, ◌∙◌, append_assoc, append-nil, arith}
use Rattle.std.specs.List.{cons_option, filter_map}
use Rattle.std.specs.Vec.Iter.{into_iter_items}
use Rattle.std.proofs.lemmas.List.{nil_from_length}
use Rattle.relay_core.specs.declared.action.Action.{Action}
use Rattle.relay_core.specs.Forwarding.{actions}
use Rattle.relay_core.specs.Kept.{Kept, Stands}
use Rattle.lab_run.specs.Steps.{id_of}
use Rattle.lab_relay.specs.Held.{IsHub, bytes_for}
use Rattle.lab_relay.specs.Scene.{Letter, letter_to}
use Rattle.lab_relay.proofs.LetterLemmas.{bytes-push}
use Rattle.lab_relay.proofs.relayed.Relayed.come.Goals as goal

pub loop-action-preserved : goal.loop-action-preserved
loop-action-preserved c =
    let xs : List Action = c.loop-action.yielded in
    let action = c.in-Some.action in
    let inv = c.loop-action.invariant in
    record {
      split =
          append_assoc xs (action ∷ []) (into_iter_items c.next.new.self)
          ∙ ap (λ (acts : List Action). xs ++ acts) (sym c.in-Some.ensures.steps.0)
          ∙ inv.split;
      pair = inv.pair;
      relay = inv.relay;
      hub = inv.hub;
      inboxes = λ es says side is.
          let old = bytes_for side c.args.self.now.inboxes in
          let before =
          map (λ (l : Letter). l.bytes) (filter_map (letter_to es says side) xs) in
          let more =
          map (λ (l : Letter). l.bytes) (cons_option (letter_to es says side action) []) in
          c.in_ok-deliver.ensures es says side (subst (IsHub es) (sym inv.hub) is)
          ∙ ap (λ (t : List (List ℕ)). t ++ more) (inv.inboxes es says side is)
          ∙ append_assoc old before more
          ∙ ap (λ (t : List (List ℕ)). old ++ t) (sym (bytes-push es says side xs action));
    }

pub returns : goal.returns
returns c es stands fresh hub =
    let event = c.args.event in
    let longer = es ++ event ∷ [] in
    let inv = c.loop-action.invariant in
    let told = (c.in_ok-actions.ensures es stands).0 fresh in
    let rest = c.loop-action.action-iterator.rest in
    let none : into_iter_items c.loop-action.action-iterator ≡ [] =
    nil_from_length rest.items (sym rest.ok.0 ∙ c.in-None.ensures.steps.0) in
    let all : c.loop-action.yielded
    ≡ actions es (id_of c.args.context.now.line) c.args.context.now.moment event =
    sym (append-nil c.loop-action.yielded)
    ∙ ap (λ (acts : List Action). c.loop-action.yielded ++ acts) (sym none)
    ∙ inv.split
    ∙ c.into_iter-action-iterator.ensures.into_iter_gives.0
    ∙ c.into_vec-action-items.ensures
    ∙ told.0
    ∙ ap (λ (id : List ℕ). actions es id c.args.context.now.moment event) c.id_of.ensures in
    record {
      small = omega arith;
      pair = inv.pair;
      hub = inv.hub;
      relay = subst (λ (kept : Kept). Stands kept longer) (sym inv.relay) told.1;
      inboxes = λ says side.
          inv.inboxes longer says side hub
          ∙ ap
          (λ (acts : List Action). bytes_for side c.args.self.now.inboxes
          ++ map (λ (l : Letter). l.bytes) (filter_map (letter_to longer says side) acts))
          all;
    }
