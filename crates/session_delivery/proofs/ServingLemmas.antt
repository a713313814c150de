-- The steps of the deliverer, one after another.
use Rattle.std.proofs.Common.{◌≡◌, ℕ, ◌+◌, Bool, true, false, Option, None, List, [], ◌∷◌, ◌++◌, refl, sym, ap, ◌∙◌, subst, append_assoc, arith}
use Rattle.std.specs.List.{flat_map}
use Rattle.std.proofs.lemmas.List.{append-nil}
use Rattle.std.proofs.lemmas.List.Elements.{All-nil}
use Rattle.chan_values.specs.declared.item.Item.{Item}
use Rattle.turn_lock.proofs.RunLemmas.{goes_on}
use Rattle.turn_lock.specs.Seats.{IsSeatOf}
use Rattle.session_run.specs.declared.parcel.Parcel.{Parcel}
use Rattle.session_feeds.specs.Marks.{IsNew, Told, times}
use Rattle.session_feeds.specs.Sessions.{Account, Gives}
use Rattle.session_feeds.specs.declared.session.SessionFault.{SessionFault}
use Rattle.session_feeds.proofs.ListLemmas.{flat_map-push}
use Rattle.session_crews.specs.Seats.{EndLock, EndSeat, ShelfLock, ShelfSeat}
use Rattle.session_crews.proofs.CrewLemmas.{IsCrew-first}
use Rattle.session_crews.proofs.MarkLemmas.{times-append}
use Rattle.session_delivery.specs.Answers.{HasCrew, ended_by}
use Rattle.session_delivery.specs.DeliverSteps.{Delivers, Serving, state_of}
use Rattle.session_delivery.specs.Delivering.{DeliverState, DeliverStep, MayDeliver, asks, asks_in_vain, at_first_delivery, begins, begun_in, deliver_after, delivered_by, finds_none, items_in, left_in, parcels_in, refuses, step_calls, step_shelf_calls, takes, treats}
use Rattle.session_delivery.specs.declared.delivered.Delivered.{Delivered}
use Rattle.session_delivery.specs.declared.deliverer.Deliverer.{Deliverer}

-- only On lets another step follow
pub On-from_none : {W F : Type 0} (answer : Delivered W F) → ended_by answer ≡ None
    → answer ≡ Delivered.On
On-from_none Delivered.On is = refl
On-from_none (Delivered.Ends end) is = absurd (cc)
On-from_none (Delivered.NoRoom left) is = absurd (cc)
On-from_none (Delivered.Refused back starved left) is = absurd (cc)

-- a refusal ends the deliverer
unrefused : (s : DeliverState) (step : DeliverStep) → (deliver_after s step).ended ≡ None
    → (deliver_after s step).refused ≡ None
unrefused s (begins (treats t)) is = refl
unrefused s (begins (refuses fault)) is = absurd (cc)
unrefused s (asks_in_vain fault) is = absurd (cc)
unrefused s (asks ready look starts) is = refl
unrefused s (takes parcel (treats t)) is = refl
unrefused s (takes parcel (refuses fault)) is = absurd (cc)
unrefused s finds_none is = refl

-- after a step that may come the session was begun
begun_after : (s : DeliverState) (step : DeliverStep) → MayDeliver s step
    → (deliver_after s step).begun ≡ true
begun_after s (begins led) may = refl
begun_after s (asks_in_vain fault) may = may.1.0
begun_after s (asks ready look starts) may = may.1.0
begun_after s (takes parcel led) may = may.1.0
begun_after s finds_none may = may.1.0

-- what is taken and given in two runs of steps
pub Gives-then : {C : Type 0} (before mid after : Account C → Type 0) (xs ys : List Parcel)
    (is js : List Item)
    → Gives before xs is mid
    → Gives mid ys js after
    → Gives before (xs ++ ys) (is ++ js) after
Gives-then before mid after xs ys is js first second a so =
    subst after
    (λ i. record a {
      taken = append_assoc a.taken xs ys i;
      given = append_assoc a.given is js i;
    })
    (second (record a { taken = a.taken ++ xs; given = a.given ++ is }) (first a so))

module _ {F : Type 0} (told : F → Told) {W : Type 0} (faults : W → ℕ) (ends : EndLock)
    (shelves : ShelfLock) {S C : Type 0} (stands : S → Account C → Type 0)
    (out : S → List ℕ) (begun : S → Bool) (refused : S → Option SessionFault) where
  -- before the first step
  pub Serving-first : (d : Deliverer W S F)
      → d.crew.running.items ≡ []
      → d.begun ≡ false
      → d.may_take ≡ false
      → d.closed ≡ false
      → d.stopped ≡ false
      → begun d.session ≡ false
      → out d.session ≡ []
      → IsSeatOf ends d.crew.end
      → IsSeatOf shelves d.crew.shelf
      → Serving told faults ends shelves stands out begun refused d.session d.crew.end
      d.crew.shelf [] d Delivered.On
  Serving-first d none new waits on unstopped unbegun none_out lock shelf_lock = record {
    may = tt;
    state =
        λ i. record {
          begun = new i;
          may_take = waits i;
          closed = on i;
          stopped = unstopped i;
          refused = None;
          ended = None;
        };
    on = λ is. refl;
    was_begun = unbegun ∙ sym new;
    was_refused = λ is. absurd (let e : true ≡ false = sym is ∙ new in cc);
    account =
        λ a so. subst (stands d.session)
        (λ i. record a {
          taken = sym (append-nil a.taken) i;
          given = sym (append-nil a.given) i;
        })
        so;
    is_out = λ q. ap (λ l. times l q) none_out;
    left = refl;
    fresh = All-nil (λ f. IsNew (told f));
    crew =
        IsCrew-first told faults ends shelves d.crew.end d.crew.shelf d.crew.running.items none
        lock shelf_lock;
    cause = λ is. absurd (cc);
  }

  module _ (session0 : S) (end0 : EndSeat) (shelf0 : ShelfSeat) (steps : List DeliverStep)
      (d new : Deliverer W S F) (step : DeliverStep) (answer : Delivered W F)
      (so : Serving told faults ends shelves stands out begun refused session0 end0 shelf0 steps d
      Delivered.On)
      (go : Delivers told faults ends shelves stands out begun refused d step new answer) where
    at_now : state_of d None None ≡ delivered_by steps
    at_now = ap (λ r. state_of d r None) (sym (so.on refl)) ∙ so.state

    went :
        (z : DeliverState)
        → z ≡ deliver_after (state_of d None None) step
        → z ≡ delivered_by (steps ++ step ∷ [])
    went z is =
        (goes_on deliver_after MayDeliver at_first_delivery (state_of d None None) z steps step
        so.may at_now go.may is).1

    now :
        state_of new (refused new.session) (ended_by answer)
        ≡ delivered_by (steps ++ step ∷ [])
    now = went (state_of new (refused new.session) (ended_by answer)) go.state

    unrefused_now : ended_by answer ≡ None → (delivered_by (steps ++ step ∷ [])).refused ≡ None
    unrefused_now is =
        sym (ap (λ s. s.refused) now)
        ∙ ap (λ s. s.refused) go.state
        ∙ unrefused (state_of d None None) step (sym (ap (λ s. s.ended) go.state) ∙ is)

    out_now :
        (q : ℕ)
        → times (out new.session) q
        ≡ times (flat_map begun_in (steps ++ step ∷ [])) q
        + times (flat_map left_in (steps ++ step ∷ [])) q
    out_now q =
        let a = ap (λ l. times l q) go.is_out
        ∙ times-append (out d.session) (begun_in step ++ left_in step) q in
        let b = times-append (begun_in step) (left_in step) q in
        let e = so.is_out q in
        let f = ap (λ l. times l q) (flat_map-push begun_in steps step)
        ∙ times-append (flat_map begun_in steps) (begun_in step) q in
        let g = ap (λ l. times l q) (flat_map-push left_in steps step)
        ∙ times-append (flat_map left_in steps) (left_in step) q in
        omega (arith, a, b, e, f, g)

    crew_now :
        HasCrew told faults ends shelves end0 shelf0 (flat_map step_calls (steps ++ step ∷ []))
        (flat_map step_shelf_calls (steps ++ step ∷ []))
        (flat_map begun_in (steps ++ step ∷ [])) new.crew answer
    crew_now =
        subst
        (λ l. HasCrew told faults ends shelves end0 shelf0 l
        (flat_map step_shelf_calls (steps ++ step ∷ []))
        (flat_map begun_in (steps ++ step ∷ [])) new.crew answer)
        (sym (flat_map-push step_calls steps step))
        (subst
        (λ l. HasCrew told faults ends shelves end0 shelf0
        (flat_map step_calls steps ++ step_calls step) l
        (flat_map begun_in (steps ++ step ∷ [])) new.crew answer)
        (sym (flat_map-push step_shelf_calls steps step))
        (subst
        (λ l. HasCrew told faults ends shelves end0 shelf0
        (flat_map step_calls steps ++ step_calls step)
        (flat_map step_shelf_calls steps ++ step_shelf_calls step) l new.crew answer)
        (sym (flat_map-push begun_in steps step))
        (go.crew end0 shelf0 (flat_map step_calls steps) (flat_map step_shelf_calls steps)
        (flat_map begun_in steps) so.crew)))

    account_now :
        Gives (stands session0) (flat_map parcels_in (steps ++ step ∷ []))
        (flat_map items_in (steps ++ step ∷ [])) (stands new.session)
    account_now =
        subst
        (λ l. Gives (stands session0) l (flat_map items_in (steps ++ step ∷ []))
        (stands new.session))
        (sym (flat_map-push parcels_in steps step))
        (subst
        (λ l. Gives (stands session0) (flat_map parcels_in steps ++ parcels_in step) l
        (stands new.session))
        (sym (flat_map-push items_in steps step))
        (Gives-then (stands session0) (stands d.session) (stands new.session)
        (flat_map parcels_in steps) (parcels_in step) (flat_map items_in steps) (items_in step)
        so.account go.account))

    -- one step more
    pub Serving-more :
        Serving told faults ends shelves stands out begun refused session0 end0 shelf0
        (steps ++ step ∷ []) new answer
    Serving-more = record {
      may =
          (goes_on deliver_after MayDeliver at_first_delivery (state_of d None None)
          (deliver_after (state_of d None None) step) steps step so.may at_now go.may refl).0;
      state =
          ap (λ r. state_of new r (ended_by answer)) (sym (ap (λ s. s.refused) now)) ∙ now;
      on = unrefused_now;
      was_begun =
          go.was_begun
          ∙ sym
          (ap (λ s. s.begun) go.state
          ∙ begun_after (state_of d None None) step go.may);
      was_refused = λ is. ap (λ s. s.refused) now;
      account = account_now;
      is_out = out_now;
      left =
          go.left
          ∙ ap (λ l. l ++ left_in step) so.left
          ∙ sym (flat_map-push left_in steps step);
      fresh = go.fresh;
      crew = crew_now;
      cause = go.cause;
    }
