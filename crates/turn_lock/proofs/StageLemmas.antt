-- What the stage of a seat says.
use Rattle.std.proofs.Common.{◌≡◌, ℕ, ◌<◌, ◌≤◌, ◌≢◌, true, false, List, [], ◌∷◌, ◌++◌, length, sym, refl, ap, subst, ◌∙◌, arith, length-append, Some}
use mathlib.Core.List.{IsPrefix}
use Rattle.turn_lock.specs.declared.view.Entry.{Entry}
use Rattle.turn_lock.specs.declared.view.Stage.{Stage}
use Rattle.turn_lock.specs.declared.view.Stage.TheVariants.{Fresh, Idle, Waits, Serves, Spent}
use Rattle.turn_lock.specs.declared.view.View.{View}
use Rattle.turn_lock.specs.Histories.{entries_of}
use Rattle.turn_lock.specs.Stages.{ticket_of, is_serving, is_spent, is_idle}
use Rattle.turn_lock.specs.Rule.{InStage, IsLive}

module _ {C A : Type 0} where
  pub idle_is : (g : Stage C A) → is_idle g ≡ true → g ≡ Idle
  idle_is Idle e = refl
  idle_is _ e = cc

  -- who has a ticket is not spent
  pub ticket_lives : (g : Stage C A) (k : ℕ) → ticket_of g ≡ Some k → is_spent g ≡ false
  ticket_lives Spent k e = cc
  ticket_lives _ k e = refl

  -- who holds the value is not spent
  pub serving_lives : (g : Stage C A) → is_serving g ≡ true → is_spent g ≡ false
  serving_lives Spent e = cc
  serving_lives _ e = refl

module _ {C A T : Type 0} (made_with : T) (log : List (Entry C A)) (owner : ℕ → ℕ) (n : ℕ)
    (v : View C A T) where
  -- more tickets may be drawn
  pub stage_up : (next next' : ℕ) → next ≤ next' → (g : Stage C A)
      → InStage made_with log owner next n v g → InStage made_with log owner next' n v g
  stage_up next next' le (Waits k) x = let below = x.2 in (x.0, x.1, omega arith)
  stage_up next next' le (Serves k) x = let below = x.3 in (x.0, x.1, x.2, omega arith)
  stage_up next next' le _ x = x

  pub live_up : (next next' : ℕ) → next ≤ next'
      → IsLive made_with log owner next n v → IsLive made_with log owner next' n v
  live_up next next' le x = record {
    has_setting = x.has_setting;
    has_seen = x.has_seen;
    has_share = x.has_share;
    owns_own = x.owns_own;
    made_own = x.made_own;
    no_others = x.no_others;
    seen_own = x.seen_own;
    in_stage = stage_up next next' le v.stage x.in_stage;
  }

  -- what a seat knows stays true where its setting, its entries and its parts stay, and it has seen its own
  pub live_as : (w : View C A T) (next next' : ℕ) → IsLive made_with log owner next n v
      → w.setting ≡ v.setting → w.mine ≡ v.mine → w.share.parts ≡ v.share.parts
      → IsPrefix w.seen log → ((q : ℕ) → owner q ≡ n → entries_of q w.seen ≡ entries_of q log)
      → InStage made_with log owner next' n w w.stage
      → IsLive made_with log owner next' n w
  live_as w next next' x setting mine parts seen own_seen stage = record {
    has_setting = setting ∙ x.has_setting;
    has_seen = seen;
    has_share = subst (λ (z : ℕ). 0 < z) (sym parts) x.has_share;
    owns_own = x.owns_own;
    made_own = λ q own. ap (entries_of q) mine ∙ x.made_own q own;
    no_others = λ q other. ap (entries_of q) mine ∙ x.no_others q other;
    seen_own = own_seen;
    in_stage = stage;
  }

  -- a ticket that is out was drawn
  pub ticket_below : (next : ℕ) (g : Stage C A) (k : ℕ) → InStage made_with log owner next n v g
      → ticket_of g ≡ Some k → k < next
  ticket_below next (Waits j) k x e = let same : j ≡ k = cc in let below = x.2 in omega arith
  ticket_below next (Serves j) k x e = let same : j ≡ k = cc in let below = x.3 in omega arith
  ticket_below next _ k x e = absurd (cc)

  -- who holds the value has the ticket that is served
  pub ticket_served : (next : ℕ) (g : Stage C A) → InStage made_with log owner next n v g
      → is_serving g ≡ true → ticket_of g ≡ Some (length log)
  ticket_served next (Serves j) x e = ap Some x.1
  ticket_served next _ x e = absurd (cc)

  -- another seat made a call
  pub stage_on : (next : ℕ) (e : Entry C A) → (g : Stage C A)
      → ((k : ℕ) → ticket_of g ≡ Some k → k ≢ length log)
      → InStage made_with log owner next n v g → InStage made_with (log ++ e ∷ []) owner next n v g
  stage_on next e (Waits k) alone x =
      let ne : k ≢ length log = alone k refl in
      let le = x.1 in (x.0, omega (arith, length-append log (e ∷ [])), x.2)
  stage_on next e (Serves k) alone x = absurd (alone k refl x.1)
  stage_on next e _ alone x = x

  -- another owner has the numbers
  pub stage_owner : (owner' : ℕ → ℕ) (next : ℕ) (g : Stage C A) → InStage made_with log owner next n v g
      → InStage made_with log owner' next n v g
  stage_owner owner' next Fresh x = x
  stage_owner owner' next _ x = x
