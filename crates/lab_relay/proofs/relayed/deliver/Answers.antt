use Rattle.std.proofs.Common.{◌≡◌, ◌++◌, [], ◌∷◌, ℕ, List, OnOk, map, cond, sym, ap, subst, ◌∙◌}
use Rattle.std.specs.List.{cons_option}
use Rattle.session_register.specs.Chains.{same_side}
use Rattle.relay_core.specs.declared.action.Action.{Action}
use Rattle.lab_relay.specs.Held.{bytes_for}
use Rattle.lab_relay.specs.Scene.{Letter, letter_to}
use Rattle.lab_relay.proofs.LetterLemmas.{bytes-letter_to}
use Rattle.lab_relay.proofs.relayed.deliver.Goals as goal

pub returns-in-Some : goal.returns-in-Some
returns-in-Some c es says side is =
    let letters : map (λ (l : Letter). l.bytes)
    (cons_option (letter_to es says side c.args.action) [])
    ≡ cond (same_side c.in-Some.side side) (c.in-Send.bytes ∷ []) [] =
    ap
    (λ (a : Action). map (λ (l : Letter). l.bytes) (cons_option (letter_to es says side a) []))
    c.in-Send.is
    ∙ bytes-letter_to es says side c.in-Some.side c.in-Send.conn c.in-Send.bytes
    (c.in-Some.ensures es is) in
    subst
    (λ (more : List (List ℕ)). OnOk c.add.result
    (bytes_for side c.add.new.self ≡ bytes_for side c.args.inboxes.now ++ more))
    (sym letters) (c.add.ensures side)
