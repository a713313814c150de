-- Steps of the deliverer, from what the calls in them ensure.
use Rattle.std.proofs.Common.{◌≡◌, ℕ, ◌<◌, Bool, true, false, Option, Some, None, List, [], ◌∷◌, ◌++◌, refl, sym, ap, ◌∙◌, subst, append_assoc}
use Rattle.std.specs.Prelude.{◌||◌}
use Rattle.std.specs.List.{All, fold}
use Rattle.std.proofs.lemmas.List.{append-nil}
use Rattle.std.proofs.lemmas.List.Elements.{All-nil}
use Rattle.channel_core.specs.declared.answer.Look.{Look}
use Rattle.channel_core.specs.declared.call.EndAnswer.{EndAnswer}
use Rattle.channel_core.specs.declared.call.EndCall.{EndCall}
use Rattle.session_run.specs.Adds.{AddsCalls}
use Rattle.session_run.specs.declared.shelf_call.ShelfAnswer.{ShelfAnswer}
use Rattle.session_run.specs.declared.shelf_call.ShelfCall.{ShelfCall}
use Rattle.session_feeds.specs.Marks.{IsNew, Told}
use Rattle.session_feeds.specs.Puts.{stopped_by}
use Rattle.session_feeds.specs.Sessions.{Account, Gives, Stays}
use Rattle.session_feeds.specs.declared.session.SessionFault.{SessionFault}
use Rattle.session_feeds.specs.declared.session.Verdict.{Verdict}
use Rattle.session_crews.specs.Crews.{IsCrew}
use Rattle.session_crews.specs.FeedTurns.{looking}
use Rattle.session_crews.specs.Seats.{EndLock, EndSeat, ShelfLock, ShelfSeat}
use Rattle.session_crews.specs.declared.crew.Crew.{Crew}
use Rattle.session_crews.proofs.CrewLemmas.{IsCrew-calls, IsCrew-same}
use Rattle.session_delivery.specs.Answers.{CrewGoes, CrewStarts, HasCrew, HasStartCause, StartsAll, ended_by, feeders_left, marks_of}
use Rattle.session_delivery.specs.DeliverSteps.{Delivers, Treats, state_of}
use Rattle.session_delivery.specs.Delivering.{DeliverStep, MayDeliver, Treated, asks, deliver_after, end_of_fault, finds_none, items_in, no_starts, parcels_in, starts_in, step_calls, step_shelf_calls, taking}
use Rattle.session_delivery.specs.Starts.{Starts, end_of_starts, marks_begun, marks_left}
use Rattle.session_delivery.specs.declared.deliver_end.DeliverEnd.{DeliverEnd}
use Rattle.session_delivery.specs.declared.delivered.Delivered.{Delivered}
use Rattle.session_delivery.specs.declared.deliverer.Deliverer.{Deliverer}

-- where the account stays, nothing was taken and nothing given
pub Gives-stays : {C : Type 0} (before after : Account C → Type 0) → Stays before after
    → Gives before [] [] after
Gives-stays before after stays a is =
    subst after
    (λ i. record a { taken = sym (append-nil a.taken) i; given = sym (append-nil a.given) i })
    (stays a is)

module _ {F : Type 0} (told : F → Told) {W : Type 0} (faults : W → ℕ) (ends : EndLock)
    (shelves : ShelfLock) where
  module _ (old mid : Crew W F) (xs : List (EndCall × EndAnswer))
      (ys : List (ShelfCall × ShelfAnswer)) (end : AddsCalls old.end xs mid.end)
      (shelf : AddsCalls old.shelf ys mid.shelf)
      (running : mid.running.items ≡ old.running.items) where
    crew_after : (end0 : EndSeat) (shelf0 : ShelfSeat) (calls : List (EndCall × EndAnswer))
        (shelf_calls : List (ShelfCall × ShelfAnswer)) (marks : List ℕ)
        → IsCrew told faults ends shelves end0 shelf0 calls shelf_calls marks old.end old.shelf
        old.running.items
        → IsCrew told faults ends shelves end0 shelf0 (calls ++ xs) (shelf_calls ++ ys) marks
        mid.end mid.shelf mid.running.items
    crew_after end0 shelf0 calls shelf_calls marks so =
        IsCrew-same told faults ends shelves end0 shelf0 (calls ++ xs) (shelf_calls ++ ys) marks
        mid.end mid.shelf old.running.items
        (IsCrew-calls told faults ends shelves end0 shelf0 calls shelf_calls marks old.end
        old.shelf old.running.items so mid.end mid.shelf xs ys end shelf)
        mid.end mid.shelf mid.running.items refl refl running

    -- calls, and no starts
    pub CrewGoes-calls : (end0 : EndSeat) (shelf0 : ShelfSeat)
        (calls : List (EndCall × EndAnswer)) (shelf_calls : List (ShelfCall × ShelfAnswer))
        (marks : List ℕ)
        → IsCrew told faults ends shelves end0 shelf0 calls shelf_calls marks old.end old.shelf
        old.running.items
        → IsCrew told faults ends shelves end0 shelf0 (calls ++ xs) (shelf_calls ++ ys)
        (marks ++ []) mid.end mid.shelf mid.running.items
    CrewGoes-calls end0 shelf0 calls shelf_calls marks so =
        subst
        (λ l. IsCrew told faults ends shelves end0 shelf0 (calls ++ xs) (shelf_calls ++ ys) l
        mid.end mid.shelf mid.running.items)
        (sym (append-nil marks)) (crew_after end0 shelf0 calls shelf_calls marks so)

    -- calls, and then starts
    pub CrewGoes-starts : (begun : List ℕ) (new : Crew W F) (answer : Delivered W F)
        → CrewStarts told faults ends shelves mid begun new answer
        → CrewGoes told faults ends shelves old xs ys begun new answer
    CrewGoes-starts begun new answer starts end0 shelf0 calls shelf_calls marks so =
        starts end0 shelf0 (calls ++ xs) (shelf_calls ++ ys) marks
        (crew_after end0 shelf0 calls shelf_calls marks so)

    -- calls, and then all else
    pub CrewGoes-before : (more : List (EndCall × EndAnswer))
        (more_shelf : List (ShelfCall × ShelfAnswer)) (begun : List ℕ) (new : Crew W F)
        (answer : Delivered W F)
        → CrewGoes told faults ends shelves mid more more_shelf begun new answer
        → CrewGoes told faults ends shelves old (xs ++ more) (ys ++ more_shelf) begun new answer
    CrewGoes-before more more_shelf begun new answer goes end0 shelf0 calls shelf_calls marks
        so =
        subst
        (λ l. HasCrew told faults ends shelves end0 shelf0 l (shelf_calls ++ (ys ++ more_shelf))
        (marks ++ begun) new answer)
        (append_assoc calls xs more)
        (subst
        (λ l. HasCrew told faults ends shelves end0 shelf0 ((calls ++ xs) ++ more) l
        (marks ++ begun) new answer)
        (append_assoc shelf_calls ys more_shelf)
        (goes end0 shelf0 (calls ++ xs) (shelf_calls ++ ys) marks
        (crew_after end0 shelf0 calls shelf_calls marks so)))

  module _ {S C : Type 0} (stands : S → Account C → Type 0) (out : S → List ℕ)
      (begun : S → Bool) (refused : S → Option SessionFault) where
    -- a verdict was carried out
    pub Delivers-treats : (old mid new : Deliverer W S F) (step : DeliverStep)
        (verdict : Verdict F) (t : Treated) (answer : Delivered W F)
        → Treats told faults ends shelves mid verdict t new answer
        → MayDeliver (state_of old None None) step
        → deliver_after (state_of old None None) step ≡ record {
          begun = mid.begun;
          may_take = mid.may_take;
          closed = mid.closed;
          stopped = mid.stopped || fold stopped_by false t.trials;
          refused = None;
          ended = end_of_starts t.starts;
        }
        → begun mid.session ≡ true
        → refused mid.session ≡ None
        → Gives (stands old.session) (parcels_in step) verdict.puts (stands mid.session)
        → items_in step ≡ t.puts
        → out mid.session ≡ out old.session ++ marks_of told verdict.feeders.items
        → starts_in step ≡ t.starts
        → CrewGoes told faults ends shelves old.crew (step_calls step) (step_shelf_calls step)
        (marks_begun t.starts) new.crew answer
        → Delivers told faults ends shelves stands out begun refused old step new answer
    Delivers-treats old mid new step verdict t answer so may state began unrefused gives items
        marks starts crew = record {
          may = may;
          state =
              (λ i. record {
                begun = so.begun i;
                may_take = so.may_take i;
                closed = so.closed i;
                stopped = so.stopped i;
                refused = (ap refused so.session ∙ unrefused) i;
                ended = so.ended i;
              })
              ∙ sym state;
          was_begun = ap begun so.session ∙ began;
          account =
              subst (λ l. Gives (stands old.session) (parcels_in step) l (stands new.session))
              (sym (items ∙ so.puts))
              (subst
              (λ s. Gives (stands old.session) (parcels_in step) verdict.puts (stands s))
              (sym so.session) gives);
          is_out =
              ap out so.session
              ∙ marks
              ∙ ap (λ l. out old.session ++ l)
              (so.marks ∙ ap (λ (s : Starts). marks_begun s ++ marks_left s) (sym starts));
          left = so.left ∙ ap marks_left (sym starts);
          fresh = so.fresh;
          crew =
              subst
              (λ l. CrewGoes told faults ends shelves old.crew (step_calls step)
              (step_shelf_calls step) l new.crew answer)
              (ap marks_begun (sym starts)) crew;
          cause = so.cause;
        }

    -- the session answered a refusal
    pub Delivers-refused : (old new : Deliverer W S F) (step : DeliverStep)
        (fault : SessionFault) (end : DeliverEnd)
        → end ≡ end_of_fault fault
        → MayDeliver (state_of old None None) step
        → deliver_after (state_of old None None) step
        ≡ state_of new (Some fault) (Some (end_of_fault fault))
        → begun new.session ≡ true
        → refused new.session ≡ Some fault
        → Gives (stands old.session) (parcels_in step) (items_in step) (stands new.session)
        → out new.session ≡ out old.session ++ []
        → starts_in step ≡ no_starts
        → CrewGoes told faults ends shelves old.crew (step_calls step) (step_shelf_calls step) []
        new.crew (Delivered.Ends end)
        → ((count : ℕ) → Some (end_of_fault fault) ≡ Some DeliverEnd.NoThread → 0 < count)
        → Delivers told faults ends shelves stands out begun refused old step new
        (Delivered.Ends end)
    Delivers-refused old new step fault end ended may state began is gives marks starts crew
        cause = record {
          may = may;
          state =
              (λ i. state_of new (is i) (Some (ended i)))
              ∙ sym state;
          was_begun = began;
          account = gives;
          is_out =
              marks
              ∙ ap (λ (s : Starts). out old.session ++ (marks_begun s ++ marks_left s))
              (sym starts);
          left = ap marks_left (sym starts);
          fresh = All-nil (λ f. IsNew (told f));
          crew =
              subst
              (λ l. CrewGoes told faults ends shelves old.crew (step_calls step)
              (step_shelf_calls step) l new.crew (Delivered.Ends end))
              (ap marks_begun (sym starts)) crew;
          cause = λ thread. cause (faults new.crew.spawner) (ap Some (sym ended) ∙ thread);
        }

    -- it was asked whether it is ready, and the end was looked at
    pub Delivers-asks : (old new : Deliverer W S F) (mid : Crew W F) (ready : Bool) (look : Look)
        (starts : Starts) (feeders : List F) (answer : Delivered W F)
        → StartsAll told faults ends shelves feeders mid starts new.crew answer
        → MayDeliver (state_of old None None) (asks ready look starts)
        → state_of new None None ≡ record {
          begun = old.begun;
          may_take = ready || look.closed;
          closed = look.closed;
          stopped = old.stopped;
          refused = None;
          ended = None;
        }
        → begun new.session ≡ true
        → refused new.session ≡ None
        → Stays (stands old.session) (stands new.session)
        → out new.session ≡ out old.session ++ marks_of told feeders
        → AddsCalls old.crew.end (looking look ∷ []) mid.end
        → AddsCalls old.crew.shelf [] mid.shelf
        → mid.running.items ≡ old.crew.running.items
        → Delivers told faults ends shelves stands out begun refused old (asks ready look starts)
        new answer
    Delivers-asks old new mid ready look starts feeders answer so may state began unrefused stays
        marks end shelf running = record {
          may = may;
          state =
              λ i. record {
                begun = (ap (λ s. s.begun) state) i;
                may_take = (ap (λ s. s.may_take) state) i;
                closed = (ap (λ s. s.closed) state) i;
                stopped = (ap (λ s. s.stopped) state) i;
                refused = unrefused i;
                ended = so.ended i;
              };
          was_begun = began;
          account = Gives-stays (stands old.session) (stands new.session) stays;
          is_out = marks ∙ ap (λ l. out old.session ++ l) so.marks;
          left = so.left;
          fresh = so.fresh;
          crew =
              CrewGoes-starts old.crew mid (looking look ∷ []) [] end shelf running
              (marks_begun starts) new.crew answer so.crew;
          cause = so.cause;
        }

    -- there was no parcel
    pub Delivers-finds_none : (old new : Deliverer W S F) (answer : Delivered W F)
        → MayDeliver (state_of old None None) finds_none
        → state_of new None (ended_by answer)
        ≡ deliver_after (state_of old None None) finds_none
        → new.session ≡ old.session
        → begun old.session ≡ true
        → refused old.session ≡ None
        → feeders_left answer ≡ []
        → CrewGoes told faults ends shelves old.crew [] (taking None ∷ []) [] new.crew answer
        → HasStartCause (faults new.crew.spawner) answer
        → Delivers told faults ends shelves stands out begun refused old finds_none new answer
    Delivers-finds_none old new answer may state same began unrefused none crew cause = record {
      may = may;
      state = ap (λ r. state_of new r (ended_by answer)) (ap refused same ∙ unrefused) ∙ state;
      was_begun = ap begun same ∙ began;
      account =
          Gives-stays (stands old.session) (stands new.session)
          (λ a so. subst (λ s. stands s a) (sym same) so);
      is_out = ap out same ∙ sym (append-nil (out old.session));
      left = ap (marks_of told) none;
      fresh = subst (All (λ f. IsNew (told f))) (sym none) (All-nil (λ f. IsNew (told f)));
      crew = crew;
      cause = cause;
    }
