-- One more event of a machine.
use Rattle.std.proofs.Common.{◌≡◌, List, [], ◌∷◌, ◌++◌, sym, ap, ◌∙◌, subst}
use Rattle.std.specs.List.{fold}
use Rattle.std.proofs.lemmas.List.Sums.{fold_push}
use Rattle.turn_lock.specs.Runs.{AllFit}

module _ {X E : Type 0} (step : X → E → X) (fits : X → E → Type 0) where
  AllFit_push : (x : X) (h : List E) (e : E) → AllFit step fits x h → fits (fold step x h) e
      → AllFit step fits x (h ++ e ∷ [])
  AllFit_push x [] e all last = (last, tt)
  AllFit_push x (d ∷ h) e all last = (all.0, AllFit_push (step x d) h e all.1 last)

  -- a machine whose state y is that after h makes one step more, to z
  pub goes_on : (x y z : X) (h : List E) (e : E) → AllFit step fits x h → y ≡ fold step x h → fits y e
      → z ≡ step y e
      → AllFit step fits x (h ++ e ∷ []) × (z ≡ fold step x (h ++ e ∷ []))
  goes_on x y z h e all at last to = (
    AllFit_push x h e all (subst (λ s. fits s e) at last),
    to ∙ ap (λ s. step s e) at ∙ sym (fold_push step x h e),
  )
