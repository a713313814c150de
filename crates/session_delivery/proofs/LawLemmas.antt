-- What the steps of a deliverer take, put in and end with.
use Rattle.std.proofs.Common.{◌≡◌, Bool, true, false, Option, Some, None, List, [], ◌∷◌, ◌++◌, refl, sym, ap, ◌∙◌, append_assoc}
use Rattle.std.specs.Prelude.{◌||◌}
use Rattle.std.specs.List.{filter_map, flat_map, fold}
use Rattle.std.proofs.lemmas.List.{append-nil}
use Rattle.std.proofs.lemmas.List.Elements.{filter_map-append}
use Rattle.channel_core.specs.declared.call.EndAnswer.{EndAnswer}
use Rattle.channel_core.specs.declared.call.EndCall.{EndCall}
use Rattle.turn_lock.specs.Runs.{AllFit}
use Rattle.session_run.specs.Shelf.{parcel_taken, parcels_taken}
use Rattle.session_run.specs.declared.parcel.Parcel.{Parcel}
use Rattle.session_run.specs.declared.shelf_call.ShelfAnswer.{ShelfAnswer}
use Rattle.session_run.specs.declared.shelf_call.ShelfCall.{ShelfCall}
use Rattle.session_feeds.specs.Puts.{ToPut, items_put, stopped_by, to_put, trial_calls}
use Rattle.session_feeds.specs.declared.session.SessionFault.{SessionFault}
use Rattle.session_feeds.proofs.LawLemmas.{items_put-append, puts_are_given}
use Rattle.session_delivery.specs.DeliverLaws.{ClosedIsSeen, ParcelsAreServed, VerdictsArePut}
use Rattle.session_delivery.specs.Delivering.{DeliverState, DeliverStep, IsLed, IsPut, Led, MayDeliver, Treated, asks, asks_in_vain, at_first_delivery, begins, deliver_after, end_of_fault, end_of_led, finds_none, finishing, led_calls, led_shelf_calls, led_to_put, noting_deliverer, parcels_in, refuses, step_calls, step_shelf_calls, stopped_after, takes, to_put_in, treats}
use Rattle.session_delivery.specs.Starts.{Starts, all, end_of_starts, fails, lacks}
use Rattle.session_delivery.specs.declared.deliver_end.DeliverEnd.{DeliverEnd}

-- the parcels that were taken in these calls
abbrev taken_in : List (ShelfCall × ShelfAnswer) → List Parcel
taken_in calls = filter_map (λ (e : ShelfCall × ShelfAnswer). parcel_taken e.1) calls

taken_in-append : (xs ys : List (ShelfCall × ShelfAnswer))
    → taken_in (xs ++ ys) ≡ taken_in xs ++ taken_in ys
taken_in-append xs ys =
    filter_map-append (λ (e : ShelfCall × ShelfAnswer). parcel_taken e.1) xs ys

-- a finish takes none
none_finishing : (finish : Bool) → taken_in (finishing finish) ≡ []
none_finishing true = refl
none_finishing false = refl

none_led : (led : Led) → taken_in (led_shelf_calls led) ≡ []
none_led (treats t) = none_finishing t.finish
none_led (refuses fault) = refl

none_noting : (ended : Option DeliverEnd) → taken_in (noting_deliverer ended) ≡ []
none_noting None = refl
none_noting (Some DeliverEnd.Closed) = refl
none_noting (Some (DeliverEnd.Fault fault)) = refl
none_noting (Some DeliverEnd.NoMemory) = refl
none_noting (Some DeliverEnd.NoThread) = refl

taken_in-step : (step : DeliverStep) → taken_in (step_shelf_calls step) ≡ parcels_in step
taken_in-step (begins led) = none_led led
taken_in-step (asks_in_vain fault) = refl
taken_in-step (asks ready look starts) = refl
taken_in-step (takes parcel led) = ap (λ l. parcel ∷ l) (none_led led)
taken_in-step finds_none = refl

taken_in-steps : (steps : List DeliverStep)
    → taken_in (flat_map step_shelf_calls steps) ≡ flat_map parcels_in steps
taken_in-steps [] = refl
taken_in-steps (step ∷ steps) =
    taken_in-append (step_shelf_calls step) (flat_map step_shelf_calls steps)
    ∙ ap (λ l. l ++ taken_in (flat_map step_shelf_calls steps)) (taken_in-step step)
    ∙ ap (λ l. parcels_in step ++ l) (taken_in-steps steps)

pub parcels_are_served : ParcelsAreServed
unfolding parcels_taken
parcels_are_served steps ended =
    taken_in-append (flat_map step_shelf_calls steps) (noting_deliverer ended)
    ∙ ap (λ l. taken_in (flat_map step_shelf_calls steps) ++ l) (none_noting ended)
    ∙ append-nil (taken_in (flat_map step_shelf_calls steps))
    ∙ taken_in-steps steps

-- of these items what the calls put in is the first, and all unless a put was stopped by the end of
-- them; none is put in once one was stopped
record Puts (before : Bool) (given : List ToPut) (calls : List (EndCall × EndAnswer))
    (after : Bool) : Type 0 where
  stopped : before ≡ true → (items_put calls ≡ []) × (after ≡ true)
  on :
      before ≡ false
      → (left : List ToPut)
      × (given ≡ items_put calls ++ left)
      × (after ≡ false → left ≡ [])

Puts-none : (stopped : Bool) → Puts stopped [] [] stopped
Puts-none stopped = record {
  stopped = λ is. (refl, is);
  on = λ is. ([], refl, λ still. refl);
}

Puts-look : (stopped : Bool) (calls : List (EndCall × EndAnswer)) → items_put calls ≡ []
    → Puts stopped [] calls stopped
Puts-look stopped calls none = record {
  stopped = λ is. (none, is);
  on = λ is. ([], ap (λ l. l ++ []) (sym none), λ still. refl);
}

Puts-treated : (before : Bool) (t : Treated) → IsPut before t
    → Puts before (to_put t.last t.puts) (flat_map trial_calls t.trials)
    (before || fold stopped_by false t.trials)
Puts-treated true t so = record {
  stopped =
      λ is. (ap (λ ts. items_put (flat_map trial_calls ts)) (so.skipped refl), refl);
  on = λ is. absurd (cc);
}
Puts-treated false t so = record {
  stopped = λ is. absurd (cc);
  on =
      λ is. puts_are_given (to_put t.last t.puts) t.trials (fold stopped_by false t.trials)
      (so.tried refl);
}

Puts-led : (before : Bool) (led : Led) → IsLed before led
    → Puts before (led_to_put led) (led_calls led) (stopped_after before led)
Puts-led before (treats t) so = Puts-treated before t so
Puts-led before (refuses fault) so = Puts-none before

Puts-step : (s : DeliverState) (step : DeliverStep) → MayDeliver s step
    → Puts s.stopped (to_put_in step) (step_calls step) (deliver_after s step).stopped
Puts-step s (begins led) may = Puts-led s.stopped led may.1.1
Puts-step s (asks_in_vain fault) may = Puts-none s.stopped
Puts-step s (asks ready look starts) may = Puts-look s.stopped _ refl
Puts-step s (takes parcel led) may = Puts-led s.stopped led may.1.2
Puts-step s finds_none may = Puts-none s.stopped

module _ (before after : Bool) (xs ys : List ToPut) (calls more : List (EndCall × EndAnswer))
  where
    Puts-then : (mid : Bool)
        → Puts before xs calls mid
        → Puts mid ys more after
        → Puts before (xs ++ ys) (calls ++ more) after
    Puts-then mid first second = record {
      stopped =
          λ is. let a = first.stopped is in let b = second.stopped a.1 in (
            items_put-append calls more
                ∙ ap (λ l. l ++ items_put more) a.0
                ∙ b.0,
            b.1,
          );
      on = λ is. by_mid mid refl (first.on is);
    }
      where
        by_mid : (b : Bool) → mid ≡ b
            → (left : List ToPut) × (xs ≡ items_put calls ++ left) × (mid ≡ false → left ≡ [])
            → (left : List ToPut)
            × (xs ++ ys ≡ items_put (calls ++ more) ++ left)
            × (after ≡ false → left ≡ [])
        by_mid false is one =
            let two = second.on is in (
              two.0,
              ap (λ l. l ++ ys)
                  (one.1
                  ∙ ap (λ l. items_put calls ++ l) (one.2 is)
                  ∙ append-nil (items_put calls))
                  ∙ ap (λ l. items_put calls ++ l) two.1
                  ∙ sym (append_assoc (items_put calls) (items_put more) two.0)
                  ∙ ap (λ l. l ++ two.0) (sym (items_put-append calls more)),
              two.2,
            )
        by_mid true is one =
            let two = second.stopped is in (
              one.0 ++ ys,
              ap (λ l. l ++ ys) one.1
                  ∙ append_assoc (items_put calls) one.0 ys
                  ∙ ap (λ l. l ++ (one.0 ++ ys))
                  (sym
                  (items_put-append calls more
                  ∙ ap (λ l. items_put calls ++ l) two.0
                  ∙ append-nil (items_put calls))),
              (λ on. absurd (let e : true ≡ false = sym two.1 ∙ on in cc)),
            )

Puts-steps : (s : DeliverState) (steps : List DeliverStep)
    → AllFit deliver_after MayDeliver s steps
    → Puts s.stopped (flat_map to_put_in steps) (flat_map step_calls steps)
    (fold deliver_after s steps).stopped
Puts-steps s [] may = Puts-none s.stopped
Puts-steps s (step ∷ steps) may =
    Puts-then s.stopped (fold deliver_after (deliver_after s step) steps).stopped
    (to_put_in step) (flat_map to_put_in steps) (step_calls step) (flat_map step_calls steps)
    (deliver_after s step).stopped (Puts-step s step may.0)
    (Puts-steps (deliver_after s step) steps may.1)

pub verdicts_are_put : VerdictsArePut
verdicts_are_put steps may = (Puts-steps at_first_delivery steps may).on refl

-- no starts and no refusal of the session end a deliverer at a closed end
starts_open : (starts : Starts) → end_of_starts starts ≡ Some DeliverEnd.Closed → ⊥
starts_open (all marks) is = absurd (cc)
starts_open (lacks marks left) is = absurd (cc)
starts_open (fails marks mark true left) is = absurd (cc)
starts_open (fails marks mark false left) is = absurd (cc)

fault_open : (fault : SessionFault) → Some (end_of_fault fault) ≡ Some DeliverEnd.Closed → ⊥
fault_open (SessionFault.Handshake why) is = absurd (cc)
fault_open SessionFault.Start is = absurd (cc)
fault_open SessionFault.Child is = absurd (cc)
fault_open SessionFault.Port is = absurd (cc)
fault_open SessionFault.Write is = absurd (cc)
fault_open (SessionFault.Frames place) is = absurd (cc)
fault_open SessionFault.NoMemory is = absurd (cc)

led_open : (led : Led) → end_of_led led ≡ Some DeliverEnd.Closed → ⊥
led_open (treats t) is = starts_open t.starts is
led_open (refuses fault) is = fault_open fault is

-- the last step, from the state before it
abbrev Seen : DeliverState → List DeliverStep → Type 0
Seen s steps =
    (earlier : List DeliverStep)
    × (steps ≡ earlier ++ finds_none ∷ [])
    × ((fold deliver_after s earlier).closed ≡ true)

seen_none : (s : DeliverState) (closed : Bool) → s.closed ≡ closed
    → (deliver_after s finds_none).ended ≡ Some DeliverEnd.Closed
    → Seen s (finds_none ∷ [])
seen_none s true is ends = ([], refl, is)
seen_none s false is ends =
    absurd (let e : None ≡ Some DeliverEnd.Closed =
    sym (ap (λ c. (deliver_after (record s { closed = c }) finds_none).ended) is) ∙ ends in cc)

seen_step : (s : DeliverState) (step : DeliverStep)
    → (deliver_after s step).ended ≡ Some DeliverEnd.Closed
    → Seen s (step ∷ [])
seen_step s (begins led) ends = absurd (led_open led ends)
seen_step s (asks_in_vain fault) ends = absurd (fault_open fault ends)
seen_step s (asks ready look starts) ends = absurd (starts_open starts ends)
seen_step s (takes parcel led) ends = absurd (led_open led ends)
seen_step s finds_none ends = seen_none s s.closed refl ends

seen_steps : (s : DeliverState) (steps : List DeliverStep)
    → s.ended ≡ None
    → AllFit deliver_after MayDeliver s steps
    → (fold deliver_after s steps).ended ≡ Some DeliverEnd.Closed
    → Seen s steps
seen_steps s [] on may ends =
    absurd (let e : None ≡ Some DeliverEnd.Closed = sym on ∙ ends in cc)
seen_steps s (step ∷ []) on may ends = seen_step s step ends
seen_steps s (step ∷ next ∷ steps) on may ends =
    let more = seen_steps (deliver_after s step) (next ∷ steps) may.1.0.0 may.1 ends in (
      step ∷ more.0,
      ap (λ l. step ∷ l) more.1,
      more.2,
    )

pub closed_is_seen : ClosedIsSeen
closed_is_seen steps may ends = seen_steps at_first_delivery steps refl may ends
