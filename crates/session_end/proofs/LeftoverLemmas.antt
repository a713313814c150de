-- What is served of the parcels that are left, step by step.
use Rattle.std.proofs.Common.{◌≡◌, ℕ, Bool, true, false, Option, Some, None, List, [], ◌∷◌, ◌++◌, map, refl, sym, ap, ◌∙◌, subst, append_assoc}
use Rattle.std.specs.List.{All, flat_map}
use Rattle.std.proofs.lemmas.List.{append-nil, map-append}
use Rattle.std.proofs.lemmas.List.Concat.{flat_map-append}
use Rattle.std.proofs.lemmas.List.Elements.{All-head, All-tail}
use Rattle.channel_core.specs.Numbers.{or_else}
use Rattle.turn_lock.proofs.RunLemmas.{goes_on}
use Rattle.session_run.specs.Adds.{AddsCalls}
use Rattle.session_run.proofs.AddsLemmas.{AddsCalls-none, AddsCalls-then}
use Rattle.session_run.specs.declared.parcel.Parcel.{Parcel}
use Rattle.session_feeds.specs.declared.feeder.Came.{Came}
use Rattle.session_feeds.specs.declared.session.SessionFault.{SessionFault}
use Rattle.session_feeds.specs.declared.session.Verdict.{Verdict}
use Rattle.session_feeds.specs.Marks.{IsNew, Told}
use Rattle.session_feeds.specs.Sessions.{Account, AllCameBack, Gives}
use Rattle.session_delivery.specs.Answers.{marks_of}
use Rattle.session_delivery.specs.Delivering.{taking}
use Rattle.session_delivery.specs.declared.deliver_end.DeliverEnd.{DeliverEnd}
use Rattle.session_end.specs.declared.delivering.Service.{Service}
use Rattle.session_end.specs.declared.leftover.Progress.{Progress}
use Rattle.session_end.specs.Leftovers.{Answered, IsServed, LeftState, LeftStep, MayServe, account_left, at_first_left, ends, left_after, left_by, left_calls, left_items, left_marks, left_parcels, left_shelf_calls, refuses, serves}
use Rattle.session_end.specs.Services.{Answers, Leaves, Serves, Serving, state_of}

-- ---- feeders that gave nothing

abbrev came_of : ℕ → ℕ × Option Came
came_of mark = (mark, None)

module _ {F : Type 0} (told : F → Told) where
  new_pieces : (fs : List F) → All (λ f. IsNew (told f)) fs
      → flat_map (λ (t : Told). t.pieces) (map told fs) ≡ []
  new_pieces [] fresh = refl
  new_pieces (f ∷ fs) fresh =
      ap (λ l. l ++ flat_map (λ (t : Told). t.pieces) (map told fs))
      (All-head (λ g. IsNew (told g)) f fs fresh).no_pieces
      ∙ new_pieces fs (All-tail (λ g. IsNew (told g)) f fs fresh)

  new_marks : (fs : List F) → All (λ f. IsNew (told f)) fs
      → map (λ (t : Told). (t.mark, t.came)) (map told fs) ≡ map came_of (marks_of told fs)
  new_marks [] fresh = refl
  new_marks (f ∷ fs) fresh =
      λ i. ((told f).mark, (All-head (λ g. IsNew (told g)) f fs fresh).on i)
      ∷ new_marks fs (All-tail (λ g. IsNew (told g)) f fs fresh) i

  -- feeders that gave nothing came back
  pub AllCameBack-new : {C : Type 0} (before after : Account C → Type 0) (fs : List F)
      → All (λ f. IsNew (told f)) fs
      → AllCameBack before (map told fs) after
      → (a : Account C)
      → before a
      → after (record a { back = a.back ++ map came_of (marks_of told fs) })
  AllCameBack-new before after fs fresh came a is =
      let given : a.given ++ flat_map (λ (t : Told). t.pieces) (map told fs) ≡ a.given =
      ap (λ l. a.given ++ l) (new_pieces fs fresh) ∙ append-nil a.given in
      let back : a.back ++ map (λ (t : Told). (t.mark, t.came)) (map told fs)
      ≡ a.back ++ map came_of (marks_of told fs) =
      ap (λ l. a.back ++ l) (new_marks fs fresh) in
      subst after (λ i. record a { given = given i; back = back i }) (came a is)

-- ---- one step

module _ {S C : Type 0} (stands : S → Account C → Type 0) (out : S → List ℕ)
    (begun : S → Bool) (refused : S → Option SessionFault) where
  pub Serves-served : {F : Type 0} (told : F → Told) (old mid : Service S) (at : Progress)
      (parcel : Parcel) (verdict : Verdict F) (a : Answered) (new : Service S) (now : Progress)
      → at.over ≡ false
      → at.refused ≡ None
      → mid.end ≡ old.end
      → AddsCalls old.shelf (taking (Some parcel) ∷ []) mid.shelf
      → begun mid.session ≡ true
      → refused mid.session ≡ None
      → Gives (stands old.session) (parcel ∷ []) verdict.puts (stands mid.session)
      → Answers stands out begun refused told mid at verdict a new now
      → Serves stands out begun refused old at (serves parcel a) new now
  Serves-served told old mid at parcel verdict a new now on none same shelf was_begun
      was_refused gives is = record {
        may = (on, is.is_answered);
        state =
            λ i. record {
              stopped = is.stopped i;
              refused = (is.unrefused ∙ none) i;
              over = (is.over ∙ on) i;
            };
        end =
            subst (λ e. AddsCalls e (left_calls (serves parcel a)) new.end) same is.end;
        shelf =
            subst (λ s. AddsCalls old.shelf (taking (Some parcel) ∷ []) s) (sym is.shelf) shelf;
        account =
            λ (c : Account C) (so : stands old.session c).
            let given : verdict.puts ≡ a.puts ++ [] = sym is.puts ∙ sym (append-nil a.puts) in
            let marks : a.marks ≡ a.marks ++ [] = sym (append-nil a.marks) in
            subst (stands new.session)
            (λ i. record c {
              taken = c.taken ++ parcel ∷ [];
              given = c.given ++ given i;
              back = c.back ++ map came_of (marks i);
            })
            (is.account
            (record c { taken = c.taken ++ parcel ∷ []; given = c.given ++ verdict.puts })
            (gives c so));
        none_out = is.none_out;
        was_begun = is.was_begun ∙ was_begun;
        was_refused = is.was_refused ∙ was_refused ∙ sym (is.unrefused ∙ none);
      }

  pub Serves-refused : (old : Service S) (at : Progress) (parcel : Parcel)
      (fault : SessionFault) (new : Service S) (now : Progress)
      → at.over ≡ false
      → state_of now ≡ left_after (state_of at) (refuses parcel fault)
      → new.end ≡ old.end
      → AddsCalls old.shelf (taking (Some parcel) ∷ []) new.shelf
      → Gives (stands old.session) (parcel ∷ []) [] (stands new.session)
      → out new.session ≡ []
      → begun new.session ≡ true
      → refused new.session ≡ now.refused
      → Serves stands out begun refused old at (refuses parcel fault) new now
  Serves-refused old at parcel fault new now on state same shelf gives none was_begun
      was_refused = record {
        may = (on, tt);
        state = state;
        end = subst (λ e. AddsCalls old.end [] e) (sym same) (AddsCalls-none old.end);
        shelf = shelf;
        account =
            λ (c : Account C) (so : stands old.session c).
            let back : c.back ≡ c.back ++ [] = sym (append-nil c.back) in
            subst (stands new.session)
            (λ i. record c {
              taken = c.taken ++ parcel ∷ [];
              given = c.given ++ [];
              back = back i;
            })
            (gives c so);
        none_out = none;
        was_begun = was_begun;
        was_refused = was_refused;
      }

  -- ---- all steps

  pub Serving-first : (old : Service S) (at : Progress)
      → state_of at ≡ at_first_left
      → out old.session ≡ []
      → begun old.session ≡ true
      → refused old.session ≡ at.refused
      → Serving stands out begun refused old [] old at
  Serving-first old at first none was_begun was_refused = record {
    may = tt;
    state = first;
    end = AddsCalls-none old.end;
    shelf = AddsCalls-none old.shelf;
    account =
        λ (c : Account C) (so : stands old.session c).
        let taken : c.taken ≡ c.taken ++ [] = sym (append-nil c.taken) in
        let given : c.given ≡ c.given ++ [] = sym (append-nil c.given) in
        let back : c.back ≡ c.back ++ [] = sym (append-nil c.back) in
        subst (stands old.session)
        (λ i. record c { taken = taken i; given = given i; back = back i }) so;
    none_out = none;
    was_begun = was_begun;
    was_refused = was_refused;
  }

  account_left-more : (steps : List LeftStep) (step : LeftStep) (a : Account C)
      → account_left (step ∷ []) (account_left steps a)
      ≡ account_left (steps ++ step ∷ []) a
  account_left-more steps step a =
      let more : List LeftStep = step ∷ [] in
      let taken : (a.taken ++ flat_map left_parcels steps) ++ flat_map left_parcels more
      ≡ a.taken ++ flat_map left_parcels (steps ++ more) =
      append_assoc a.taken (flat_map left_parcels steps) (flat_map left_parcels more)
      ∙ ap (λ l. a.taken ++ l) (sym (flat_map-append left_parcels steps more)) in
      let given : (a.given ++ flat_map left_items steps) ++ flat_map left_items more
      ≡ a.given ++ flat_map left_items (steps ++ more) =
      append_assoc a.given (flat_map left_items steps) (flat_map left_items more)
      ∙ ap (λ l. a.given ++ l) (sym (flat_map-append left_items steps more)) in
      let back : (a.back ++ map came_of (flat_map left_marks steps))
      ++ map came_of (flat_map left_marks more)
      ≡ a.back ++ map came_of (flat_map left_marks (steps ++ more)) =
      append_assoc a.back (map came_of (flat_map left_marks steps))
      (map came_of (flat_map left_marks more))
      ∙ ap (λ l. a.back ++ l)
      (sym
      (map-append came_of (flat_map left_marks steps) (flat_map left_marks more))
      ∙ ap (map came_of) (sym (flat_map-append left_marks steps more))) in
      λ i. record { contents = a.contents; taken = taken i; given = given i; back = back i }

  pub Serving-more : (old mid new : Service S) (at now : Progress) (steps : List LeftStep)
      (step : LeftStep)
      → Serving stands out begun refused old steps mid at
      → Serves stands out begun refused mid at step new now
      → Serving stands out begun refused old (steps ++ step ∷ []) new now
  Serving-more old mid new at now steps step so is =
      let both =
      goes_on left_after MayServe at_first_left (state_of at) (state_of now) steps step
      so.may so.state is.may is.state in
      record {
        may = both.0;
        state = both.1;
        end =
            subst (λ l. AddsCalls old.end l new.end)
            (ap (λ l. flat_map left_calls steps ++ l) (sym (append-nil (left_calls step)))
            ∙ sym (flat_map-append left_calls steps (step ∷ [])))
            (AddsCalls-then old.end mid.end new.end (flat_map left_calls steps)
            (left_calls step) so.end is.end);
        shelf =
            subst (λ l. AddsCalls old.shelf l new.shelf)
            (ap (λ l. flat_map left_shelf_calls steps ++ l)
            (sym (append-nil (left_shelf_calls step)))
            ∙ sym (flat_map-append left_shelf_calls steps (step ∷ [])))
            (AddsCalls-then old.shelf mid.shelf new.shelf (flat_map left_shelf_calls steps)
            (left_shelf_calls step) so.shelf is.shelf);
        account =
            λ (a : Account C) (was : stands old.session a).
            subst (stands new.session) (account_left-more steps step a)
            (is.account (account_left steps a) (so.account a was));
        none_out = is.none_out;
        was_begun = is.was_begun;
        was_refused = is.was_refused;
      }

-- after a step that was not the last nothing is refused
pub on_unrefused : (s : LeftState) (step : LeftStep) → (left_after s step).over ≡ false
    → (left_after s step).refused ≡ None
on_unrefused s (serves parcel a) on = refl
on_unrefused s (refuses parcel fault) on = absurd (cc)
on_unrefused s ends on = absurd (cc)

served_none : (ended : Option DeliverEnd) → (ended ≡ Some DeliverEnd.Closed → ⊥)
    → IsServed ended []
served_none None other = refl
served_none (Some DeliverEnd.Closed) other = absurd (other refl)
served_none (Some (DeliverEnd.Fault fault)) other = refl
served_none (Some DeliverEnd.NoMemory) other = refl
served_none (Some DeliverEnd.NoThread) other = refl

or_else-none : {X : Type 0} (o : Option X) → or_else o None ≡ o
or_else-none None = refl
or_else-none (Some x) = refl

module _ {S C : Type 0} (stands : S → Account C → Type 0) (out : S → List ℕ)
    (begun : S → Bool) (refused : S → Option SessionFault) where
  -- the last step was made
  pub Leaves-all : (old new : Service S) (now : Progress) (steps : List LeftStep)
      → refused old.session ≡ None
      → now.over ≡ true
      → Serving stands out begun refused old steps new now
      → Leaves stands out refused old (Some DeliverEnd.Closed) new now.refused
  Leaves-all old new now steps none over so = record {
    steps = steps;
    left =
        record { may = so.may; served = sym (ap (λ (s : LeftState). s.over) so.state) ∙ over };
    refusal = ap (λ (s : LeftState). s.refused) so.state;
    end = so.end;
    shelf = so.shelf;
    account = so.account;
    none_out = so.none_out;
    was_refused =
        so.was_refused
        ∙ ap (λ (s : LeftState). s.refused) so.state
        ∙ sym (or_else-none (left_by steps).refused)
        ∙ ap (or_else (left_by steps).refused) (sym none);
  }

  -- nothing was served
  pub Leaves-none : (old : Service S) (ended : Option DeliverEnd)
      → (ended ≡ Some DeliverEnd.Closed → ⊥)
      → out old.session ≡ []
      → Leaves stands out refused old ended old None
  Leaves-none old ended other none = record {
    steps = [];
    left = record { may = tt; served = served_none ended other };
    refusal = refl;
    end = AddsCalls-none old.end;
    shelf = AddsCalls-none old.shelf;
    account =
        λ (c : Account C) (so : stands old.session c).
        let taken : c.taken ≡ c.taken ++ [] = sym (append-nil c.taken) in
        let given : c.given ≡ c.given ++ [] = sym (append-nil c.given) in
        let back : c.back ≡ c.back ++ [] = sym (append-nil c.back) in
        subst (stands old.session)
        (λ i. record c { taken = taken i; given = given i; back = back i }) so;
    none_out = none;
    was_refused = refl;
  }
