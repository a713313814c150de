-- Workers that start others.
use Rattle.std.proofs.Common.{◌≡◌, ℕ, List, [], ◌∷◌, ◌++◌, map, refl, sym, ap, ◌∙◌, subst}
use Rattle.std.specs.List.{All}
use Rattle.std.proofs.lemmas.List.{map-append}
use Rattle.std.proofs.lemmas.List.Elements.{All-nil, All-push}
use Rattle.chan_io.specs.declared.running_call.RunningCall.{RunningCall}
use Rattle.channel_core.specs.declared.call.EndAnswer.{EndAnswer}
use Rattle.channel_core.specs.declared.call.EndCall.{EndCall}
use Rattle.turn_lock.specs.Seats.{GetsHalf, IsSeatOf, KeepsHalf, mine_of, number_of, share_of}
use Rattle.session_run.specs.Adds.{AddsCalls, entries_by}
use Rattle.session_run.specs.declared.shelf_call.ShelfAnswer.{ShelfAnswer}
use Rattle.session_run.specs.declared.shelf_call.ShelfCall.{ShelfCall}
use Rattle.session_crews.specs.declared.feed_done.FeedDone.{FeedDone}
use Rattle.session_crews.specs.declared.feed_done.FromFeeder.{FromFeeder}
use Rattle.session_crews.specs.Crews.{Call, Fed, HasBack, IsCrew, IsNewPromise, IsOut, IsStarted, end_shares, marks_out, promises, shelf_shares}
use Rattle.session_crews.specs.Gathers.{Gathers}
use Rattle.session_feeds.specs.Marks.{Told}
use Rattle.session_crews.specs.Seats.{EndLock, EndSeat, ShelfLock, ShelfSeat}
use Rattle.session_crews.proofs.GathersLemmas.{Gathers-calls, Gathers-none, Gathers-split}

module _ {F : Type 0} (told : F → Told) {W : Type 0} (faults : W → ℕ) where
  -- what a started call gave
  pub IsStarted-done : (end0 : EndSeat) (shelf0 : ShelfSeat) (feeder0 : F)
      (call : RunningCall (FeedDone W F) (FromFeeder F)) (done : FeedDone W F)
      → (start : IsStarted told faults end0 shelf0 feeder0 call)
      → Fed told faults start.promise.end.value start.promise.shelf.value
      start.promise.feeder.value [] done
      → Fed told faults end0 shelf0 feeder0 [] done
  IsStarted-done end0 shelf0 feeder0 call done start fed =
      subst (λ f. Fed told faults end0 shelf0 f [] done) start.feeder
      (subst (λ s. Fed told faults end0 s start.promise.feeder.value [] done) start.shelf
      (subst
      (λ e. Fed told faults e start.promise.shelf.value start.promise.feeder.value [] done)
      start.end fed))

  -- the same facts, read through the values that the code names
  pub Fed-from : (end end' : EndSeat) (shelf shelf' : ShelfSeat) (feeder feeder' : F)
      (done : FeedDone W F)
      → end' ≡ end
      → shelf' ≡ shelf
      → feeder' ≡ feeder
      → Fed told faults end shelf feeder [] done
      → Fed told faults end' shelf' feeder' [] done
  Fed-from end end' shelf shelf' feeder feeder' done e s f fed =
      subst (λ x. Fed told faults end' shelf' x [] done) (sym f)
      (subst (λ x. Fed told faults end' x feeder [] done) (sym s)
      (subst (λ x. Fed told faults x shelf feeder [] done) (sym e) fed))

  module _ (ends : EndLock) (shelves : ShelfLock) (end0 : EndSeat) (shelf0 : ShelfSeat) where
    -- nothing was done yet
    pub IsCrew-first : (calls : List (Call W F))
        → calls ≡ []
        → IsSeatOf ends end0
        → IsSeatOf shelves shelf0
        → IsCrew told faults ends shelves end0 shelf0 [] [] [] end0 shelf0 calls
    IsCrew-first calls none end_lock shelf_lock =
        subst (λ l. IsCrew told faults ends shelves end0 shelf0 [] [] [] end0 shelf0 l) (sym none)
        record {
          end_lock = end_lock;
          shelf_lock = shelf_lock;
          out = All-nil (IsOut told faults ends shelves);
          end_made = Gathers-none end0;
          shelf_made = Gathers-none shelf0;
          started = refl;
        }

    module _ (xs : List (EndCall × EndAnswer)) (ys : List (ShelfCall × ShelfAnswer))
        (marks : List ℕ) (end : EndSeat) (shelf : ShelfSeat) (calls : List (Call W F))
        (so : IsCrew told faults ends shelves end0 shelf0 xs ys marks end shelf calls) where
      -- the same seats and calls
      pub IsCrew-same : (end' : EndSeat) (shelf' : ShelfSeat) (calls' : List (Call W F))
          → end' ≡ end
          → shelf' ≡ shelf
          → calls' ≡ calls
          → IsCrew told faults ends shelves end0 shelf0 xs ys marks end' shelf' calls'
      IsCrew-same end' shelf' calls' e s c =
          subst (λ l. IsCrew told faults ends shelves end0 shelf0 xs ys marks end' shelf' l) (sym c)
          (subst (λ x. IsCrew told faults ends shelves end0 shelf0 xs ys marks end' x calls)
          (sym s)
          (subst (λ x. IsCrew told faults ends shelves end0 shelf0 xs ys marks x shelf calls)
          (sym e) so))

      -- it made calls of its own
      pub IsCrew-calls : (end' : EndSeat) (shelf' : ShelfSeat) (more : List (EndCall × EndAnswer))
          (more_shelf : List (ShelfCall × ShelfAnswer))
          → AddsCalls end more end'
          → AddsCalls shelf more_shelf shelf'
          → IsCrew told faults ends shelves end0 shelf0 (xs ++ more) (ys ++ more_shelf) marks end'
          shelf' calls
      IsCrew-calls end' shelf' more more_shelf e s = record {
        end_lock = e.same_seat.same_lock ∙ so.end_lock;
        shelf_lock = s.same_seat.same_lock ∙ so.shelf_lock;
        out = so.out;
        end_made = Gathers-calls end0 end end' xs more (end_shares (promises calls)) so.end_made e;
        shelf_made =
            Gathers-calls shelf0 shelf shelf' ys more_shelf (shelf_shares (promises calls))
            so.shelf_made s;
        started = so.started;
      }

      module _ (end1 their : EndSeat) (shelf1 their_shelf : ShelfSeat) (other : F)
          (p : FromFeeder F) (kept : KeepsHalf end end1) (given : GetsHalf end their)
          (shelf_kept : KeepsHalf shelf shelf1) (shelf_given : GetsHalf shelf their_shelf)
          (is_end : p.end.value ≡ their) (is_shelf : p.shelf.value ≡ their_shelf)
          (is_other : p.feeder.value ≡ other) where
        new_promise : IsNewPromise p
        new_promise = record {
          end = ap mine_of is_end ∙ given.none_made;
          shelf = ap mine_of is_shelf ∙ shelf_given.none_made;
        }

        their_lock : IsSeatOf ends p.end.value
        their_lock = subst (IsSeatOf ends) (sym is_end) (given.same_lock ∙ so.end_lock)

        their_shelf_lock : IsSeatOf shelves p.shelf.value
        their_shelf_lock =
            subst (IsSeatOf shelves) (sym is_shelf) (shelf_given.same_lock ∙ so.shelf_lock)

        split_end :
            Gathers end0 (entries_by (number_of end0) xs) (end_shares (promises calls ++ p ∷ []))
            end1
        split_end =
            subst (λ l. Gathers end0 (entries_by (number_of end0) xs) l end1)
            (ap (λ (s : EndSeat). end_shares (promises calls) ++ share_of s ∷ []) (sym is_end)
            ∙ sym
            (map-append (λ (q : FromFeeder F). share_of q.end.value) (promises calls) (p ∷ [])))
            (Gathers-split end0 end end1 their (entries_by (number_of end0) xs)
            (end_shares (promises calls)) so.end_made kept given)

        split_shelf :
            Gathers shelf0 (entries_by (number_of shelf0) ys)
            (shelf_shares (promises calls ++ p ∷ [])) shelf1
        split_shelf =
            subst (λ l. Gathers shelf0 (entries_by (number_of shelf0) ys) l shelf1)
            (ap (λ (s : ShelfSeat). shelf_shares (promises calls) ++ share_of s ∷ [])
            (sym is_shelf)
            ∙ sym
            (map-append (λ (q : FromFeeder F). share_of q.shelf.value) (promises calls)
            (p ∷ [])))
            (Gathers-split shelf0 shelf shelf1 their_shelf (entries_by (number_of shelf0) ys)
            (shelf_shares (promises calls)) so.shelf_made shelf_kept shelf_given)

        marks_now : marks_out told (promises calls ++ p ∷ []) ≡ marks ++ (told other).mark ∷ []
        marks_now =
            map-append (λ (q : FromFeeder F). (told q.feeder.value).mark) (promises calls) (p ∷ [])
            ∙ ap (λ l. l ++ (told p.feeder.value).mark ∷ []) so.started
            ∙ ap (λ (f : F). marks ++ (told f).mark ∷ []) is_other

        -- a worker was started
        pub IsCrew-start : (c : RunningCall (FeedDone W F) (FromFeeder F))
            (calls' : List (Call W F))
            → IsStarted told faults their their_shelf other c
            → calls' ≡ calls ++ (c, p) ∷ []
            → IsCrew told faults ends shelves end0 shelf0 xs ys
            (marks ++ (told other).mark ∷ []) end1 shelf1 calls'
        IsCrew-start c calls' start is =
            let now : promises calls ++ p ∷ [] ≡ promises calls' =
            sym (map-append (λ (d : Call W F). d.1) calls ((c, p) ∷ []))
            ∙ ap promises (sym is) in
            record {
              end_lock = kept.same_lock ∙ so.end_lock;
              shelf_lock = shelf_kept.same_lock ∙ so.shelf_lock;
              out =
                  subst (All (IsOut told faults ends shelves)) (sym is)
                  (All-push (IsOut told faults ends shelves) calls (c, p) so.out record {
                    started = record {
                      promise = start.promise;
                      is_call = start.is_call;
                      end = start.end ∙ sym is_end;
                      shelf = start.shelf ∙ sym is_shelf;
                      feeder = start.feeder ∙ sym is_other;
                    };
                    end_lock = their_lock;
                    shelf_lock = their_shelf_lock;
                    is_new = new_promise;
                  });
              end_made =
                  subst
                  (λ l. Gathers end0 (entries_by (number_of end0) xs) (end_shares l) end1) now
                  split_end;
              shelf_made =
                  subst
                  (λ l. Gathers shelf0 (entries_by (number_of shelf0) ys) (shelf_shares l) shelf1)
                  now split_shelf;
              started = ap (marks_out told) (sym now) ∙ marks_now;
            }

        -- a worker could not be started
        pub IsCrew-refused : (calls' : List (Call W F)) (back : FeedDone W F)
            → calls' ≡ calls
            → Fed told faults their their_shelf other [] back
            → HasBack told faults ends shelves end0 shelf0 xs ys
            (marks ++ (told other).mark ∷ []) end1 shelf1 calls' back
        IsCrew-refused calls' back is fed =
            subst
            (λ l. HasBack told faults ends shelves end0 shelf0 xs ys
            (marks ++ (told other).mark ∷ []) end1 shelf1 l back) (sym is)
            record {
              promise = p;
              is_new = new_promise;
              back_end_lock = their_lock;
              back_shelf_lock = their_shelf_lock;
              fed =
                  Fed-from their p.end.value their_shelf p.shelf.value other p.feeder.value back
                  is_end is_shelf is_other fed;
              end_lock = kept.same_lock ∙ so.end_lock;
              shelf_lock = shelf_kept.same_lock ∙ so.shelf_lock;
              out = so.out;
              end_made = split_end;
              shelf_made = split_shelf;
              started = marks_now;
            }
