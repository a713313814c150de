use Rattle.std.proofs.Common.{refl, [], ◌∷◌, ◌++◌}
use Rattle.std.proofs.lemmas.List.Elements.{All-from_recursion}
use Rattle.relay_core.proofs.InsideLemmas.{actions-inside}
use Rattle.relay_core.proofs.KnownLemmas.{each-known, known-parts}
use Rattle.relay_core.proofs.laws.actions_stay_inside.Goals as goal

pub returns : goal.returns
returns c es event session id now new own =
    let all = es ++ event ∷ [] in
    let known = known-parts all es event (each-known all new) in
    All-from_recursion _ _
    (actions-inside all session es (event ∷ []) refl known.0 id now event known.1 own)
