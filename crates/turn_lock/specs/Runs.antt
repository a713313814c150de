-- Histories of a machine: `fold step x h` is its state after the events of h.
use Rattle.std.specs.Prelude.{List, [], ◌∷◌}

-- each event fits the state that it meets
abbrev pub AllFit : {X E : Type 0} → (X → E → X) → (X → E → Type 0) → X → List E → Type 0
AllFit step fits x [] = Unit {0}
AllFit step fits x (e ∷ es) = fits x e × AllFit step fits (step x e) es
