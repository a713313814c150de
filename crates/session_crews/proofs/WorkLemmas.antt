-- A feeder's worker in its turns, and at its end.
use Rattle.std.proofs.Common.{◌≡◌, ◌≢◌, ℕ, ◌+◌, ◌<◌, Bool, true, false, Option, Some, None, List, [], ◌∷◌, ◌++◌, map, refl, sym, ap, ◌∙◌, subst, arith}
use Rattle.std.specs.Prelude.{is_some}
use Rattle.std.specs.List.{All, flat_map}
use Rattle.std.proofs.lemmas.List.{append-nil}
use Rattle.std.proofs.lemmas.List.Elements.{All-cons, All-nil}
use Rattle.channel_core.specs.declared.answer.Look.{Look}
use Rattle.channel_core.specs.declared.call.EndAnswer.{EndAnswer}
use Rattle.channel_core.specs.declared.call.EndCall.{EndCall}
use Rattle.turn_lock.specs.Seats.{IsSeatOf, number_of}
use Rattle.session_run.specs.Adds.{AddsCalls, entries_by}
use Rattle.session_run.proofs.AddsLemmas.{AddsCalls-none}
use Rattle.session_crews.specs.declared.feed_done.FeedDone.{FeedDone}
use Rattle.session_crews.specs.declared.feed_done.FromFeeder.{FromFeeder}
use Rattle.session_crews.specs.declared.feed_end.FeedEnd.{FeedEnd}
use Rattle.session_crews.specs.Crews.{Call, Fed, HasBack, IsCrew, Joins, Own, end_shares, marks_out, own_of, promises, shelf_shares}
use Rattle.session_crews.specs.FeedRuns.{Counts, GivesAnother, Makes, Refusing, Turned, Working, after_turn}
use Rattle.session_crews.specs.FeedTurns.{FeedPart, FeedTurn, IsFeedPart, WasStarted, closing, end_of_look, looking, refusal_of, refused, refused_end, starts, starves, turn_calls, turn_marks, turn_shelf_calls}
use Rattle.session_crews.specs.Gathers.{Gathers}
use Rattle.session_feeds.specs.Marks.{IsNew, Told, same_mark, times}
use Rattle.session_crews.specs.Places.{feeders_in}
use Rattle.session_crews.specs.Seats.{EndLock, EndSeat, ShelfLock, ShelfSeat}
use Rattle.session_crews.proofs.CrewLemmas.{IsCrew-calls, IsCrew-first, IsCrew-same}
use Rattle.session_crews.proofs.FeedLemmas.{Refusing-more, Turned-first, Working-more, either-none, no_thread_end, refused_stopped, told_same}
use Rattle.session_crews.proofs.GathersLemmas.{Gathers-calls}

pub true_not_false : true ≢ false
true_not_false is = cc

module _ {F : Type 0} (told : F → Told) {W : Type 0} (faults : W → ℕ) where
  module _ (ends : EndLock) (shelves : ShelfLock) (end0 : EndSeat) (shelf0 : ShelfSeat)
      (feeder0 : F) where
    pub Working-first : (calls : List (Call W F))
        → calls ≡ []
        → IsSeatOf ends end0
        → IsSeatOf shelves shelf0
        → IsNew (told feeder0)
        → Working told faults ends shelves end0 shelf0 feeder0 [] None end0 shelf0 calls feeder0
    Working-first calls none end_lock shelf_lock is_new = record {
      crew = IsCrew-first told faults ends shelves end0 shelf0 calls none end_lock shelf_lock;
      turned = Turned-first told feeder0 is_new;
    }

    module _ (turns : List FeedTurn) (end : EndSeat) (shelf : ShelfSeat) (calls : List (Call W F))
        (feeder : F)
        (so : Working told faults ends shelves end0 shelf0 feeder0 turns None end shelf calls
        feeder) where
      -- its feeder did not come to its end
      pub Working-on : (told feeder).came ≡ None
      Working-on = ap (λ t. t.came) so.turned.is_told ∙ so.turned.on refl

      -- a turn in which no other feeder came; room was made before
      pub Working-turn : (end' : EndSeat) (shelf' : ShelfSeat) (calls' : List (Call W F))
          (feeder' : F) (ended : Option FeedEnd)
          → calls' ≡ calls
          → (m : Makes told end end' shelf shelf' feeder feeder' ended)
          → Working told faults ends shelves end0 shelf0 feeder0 (turns ++ m.turn ∷ []) ended end'
          shelf' calls' feeder'
      Working-turn end' shelf' calls' feeder' ended is m =
          subst
          (λ o. Working told faults ends shelves end0 shelf0 feeder0 (turns ++ m.turn ∷ []) o end'
          shelf' calls' feeder') m.ends
          (Working-more told faults ends shelves end0 shelf0 feeder0 feeder feeder' turns so.turned
          m.turn m.fits m.is_told m.counts end' shelf' calls'
          (IsCrew-same told faults ends shelves end0 shelf0
          (flat_map turn_calls turns ++ turn_calls m.turn)
          (flat_map turn_shelf_calls turns ++ turn_shelf_calls m.turn)
          (flat_map turn_marks turns ++ turn_marks m.turn) end' shelf' calls
          (subst
          (λ l. IsCrew told faults ends shelves end0 shelf0
          (flat_map turn_calls turns ++ turn_calls m.turn)
          (flat_map turn_shelf_calls turns ++ turn_shelf_calls m.turn) l end' shelf' calls)
          (sym (append-nil (flat_map turn_marks turns))
          ∙ ap (λ l. flat_map turn_marks turns ++ l) (sym m.alone))
          (IsCrew-calls told faults ends shelves end0 shelf0 (flat_map turn_calls turns)
          (flat_map turn_shelf_calls turns) (flat_map turn_marks turns) end shelf calls so.crew end'
          shelf' (turn_calls m.turn) (turn_shelf_calls m.turn) m.end m.shelf))
          end' shelf' calls' refl refl is))

      -- memory was wanted before the feeder was asked
      pub Working-starved : (calls' : List (Call W F))
          → calls' ≡ calls
          → Working told faults ends shelves end0 shelf0 feeder0 (turns ++ starves ∷ [])
          (Some FeedEnd.NoMemory) end shelf calls' feeder
      Working-starved calls' is =
          Working-turn end shelf calls' feeder (Some FeedEnd.NoMemory) is record {
            turn = starves;
            fits = tt;
            alone = refl;
            end = AddsCalls-none end;
            shelf = AddsCalls-none shelf;
            is_told =
                told_same (told feeder) (after_turn (told feeder) starves (told feeder).faults) refl
                (sym (append-nil (told feeder).children)) (sym (append-nil (told feeder).pieces))
                Working-on refl;
            counts = record { counted = omega arith; failed = λ is. absurd (cc) };
            ends = refl;
          }

      module _ (end1 : EndSeat) (shelf1 : ShelfSeat) (feeder' other : F)
          (gave : GivesAnother told end end1 shelf shelf1 feeder feeder' other) where
        counts_on : Counts None (told feeder).faults (told feeder').faults
        counts_on = record { counted = gave.counted; failed = λ is. absurd (cc) }

        told_more : (marks : List ℕ)
            → marks ≡ (told other).mark ∷ []
            → told feeder' ≡ record {
              mark = (told feeder).mark;
              children = (told feeder).children ++ marks;
              pieces = (told feeder).pieces ++ [];
              came = None;
              faults = (told feeder').faults;
            }
        told_more marks is =
            gave.is_told
            ∙ told_same _ _ refl (ap (λ l. (told feeder).children ++ l) (sym is))
            (sym (append-nil (told feeder).pieces)) refl refl

        -- what the worker has before the other one is started
        pub crew_before : (calls' : List (Call W F))
            → calls' ≡ calls
            → IsCrew told faults ends shelves end0 shelf0 (flat_map turn_calls turns)
            (flat_map turn_shelf_calls turns) (flat_map turn_marks turns) end1 shelf1 calls'
        crew_before calls' is =
            IsCrew-same told faults ends shelves end0 shelf0 (flat_map turn_calls turns)
            (flat_map turn_shelf_calls turns) (flat_map turn_marks turns) end shelf calls so.crew
            end1 shelf1 calls' gave.end gave.shelf is

        -- the other one was started, and then the end was looked at
        pub Working-start : (end2 end3 : EndSeat) (shelf2 : ShelfSeat) (calls' : List (Call W F))
            (look : Look) (ended : Option FeedEnd)
            → IsCrew told faults ends shelves end0 shelf0 (flat_map turn_calls turns)
            (flat_map turn_shelf_calls turns) (flat_map turn_marks turns ++ (told other).mark ∷ [])
            end2 shelf2 calls'
            → AddsCalls end2 (looking look ∷ []) end3
            → end_of_look look.closed ≡ ended
            → Working told faults ends shelves end0 shelf0 feeder0
            (turns ++ starts (told other).mark look ∷ []) ended end3 shelf2 calls' feeder'
        Working-start end2 end3 shelf2 calls' look ended crew looks is =
            subst
            (λ o. Working told faults ends shelves end0 shelf0 feeder0
            (turns ++ starts (told other).mark look ∷ []) o end3 shelf2 calls' feeder') is
            (Working-more told faults ends shelves end0 shelf0 feeder0 feeder feeder' turns
            so.turned (starts (told other).mark look) tt (told_more _ refl) counts_on end3 shelf2
            calls'
            (IsCrew-calls told faults ends shelves end0 shelf0 (flat_map turn_calls turns)
            (flat_map turn_shelf_calls turns) (flat_map turn_marks turns ++ (told other).mark ∷ [])
            end2 shelf2 calls' crew end3 shelf2 (looking look ∷ []) [] looks
            (AddsCalls-none shelf2)))

        -- the other one could not be started
        pub Refusing-start : (end2 : EndSeat) (shelf2 : ShelfSeat) (calls' : List (Call W F))
            (back : FeedDone W F) (starved : Bool) (ended : FeedEnd)
            → HasBack told faults ends shelves end0 shelf0 (flat_map turn_calls turns)
            (flat_map turn_shelf_calls turns) (flat_map turn_marks turns ++ (told other).mark ∷ [])
            end2 shelf2 calls' back
            → ended ≡ refused_end starved
            → Refusing told faults ends shelves end0 shelf0 feeder0
            (turns ++ refused (told other).mark starved ∷ []) (Some ended) end2 shelf2 calls'
            feeder' back
        Refusing-start end2 shelf2 calls' back starved ended crew is =
            subst
            (λ e. Refusing told faults ends shelves end0 shelf0 feeder0
            (turns ++ refused (told other).mark starved ∷ []) (Some e) end2 shelf2 calls' feeder'
            back) (sym is)
            (Refusing-more told faults ends shelves end0 shelf0 feeder0 feeder feeder' turns
            so.turned (refused (told other).mark starved) tt (told_more _ refl) counts_on end2
            shelf2 calls' back
            (subst
            (λ l. HasBack told faults ends shelves end0 shelf0 l
            (flat_map turn_shelf_calls turns ++ [])
            (flat_map turn_marks turns ++ (told other).mark ∷ []) end2 shelf2 calls' back)
            (sym (append-nil (flat_map turn_calls turns)))
            (subst
            (λ l. HasBack told faults ends shelves end0 shelf0 (flat_map turn_calls turns) l
            (flat_map turn_marks turns ++ (told other).mark ∷ []) end2 shelf2 calls' back)
            (sym (append-nil (flat_map turn_shelf_calls turns))) crew))
            (refused_stopped starved))

  -- the same calls are out
  pub Joins-out : (own : Own) (calls calls' : List (Call W F)) (parts : List FeedPart)
      (done : FeedDone W F)
      → calls' ≡ calls
      → Joins told faults own (promises calls) parts done
      → Joins told faults own (promises calls') parts done
  Joins-out own calls calls' parts done is so =
      subst (λ l. Joins told faults own (promises l) parts done) (sym is) so

  -- the part of a worker itself
  abbrev pub own_part : EndSeat → ShelfSeat → F → F → List FeedTurn → Option FeedEnd → FeedPart
  own_part end0 shelf0 feeder0 feeder turns ended = record {
    number = number_of end0;
    shelf_number = number_of shelf0;
    mark = (told feeder0).mark;
    faults_before = (told feeder0).faults;
    faults = (told feeder).faults;
    turns = turns;
    ended = ended;
  }

  module _ (end0 : EndSeat) (shelf0 : ShelfSeat) (feeder0 : F) where
    -- its turns are made, and those that it started are still out
    pub Joins-part : (out : List (FromFeeder F)) (turns : List FeedTurn) (ended : Option FeedEnd)
        (end : EndSeat) (shelf : ShelfSeat) (feeder : F) (done : FeedDone W F)
        → Turned told feeder0 turns ended feeder
        → Gathers end0 (entries_by (number_of end0) (flat_map turn_calls turns)) (end_shares out)
        end
        → Gathers shelf0 (entries_by (number_of shelf0) (flat_map turn_shelf_calls turns))
        (shelf_shares out) shelf
        → marks_out told out ≡ flat_map turn_marks turns
        → AddsCalls end (closing ended) done.end
        → done.shelf ≡ shelf
        → done.feeders.list ≡ Some feeder ∷ []
        → done.refusals ≡ refusal_of ended
        → (done.started ≡ true → is_some ended ≡ true)
        → (ended ≡ Some FeedEnd.NoThread → 0 < faults done.spawner)
        → Joins told faults (own_of end0 shelf0 (told feeder0).mark) out
        (own_part end0 shelf0 feeder0 feeder turns ended ∷ []) done
    Joins-part out turns ended end shelf feeder done so end_made shelf_made started calls
        same_shelf feeders refusals was_started cause =
        let calls_made : List (EndCall × EndAnswer) = flat_map turn_calls turns ++ closing ended in
        let marks : List ℕ = flat_map turn_marks turns in
        let m : ℕ = (told feeder0).mark in
        record {
          fits =
              All-cons IsFeedPart _ []
              (record { may = so.may; ends = sym so.ends; cause = so.counts.failed })
              (All-nil IsFeedPart);
          end_made =
              subst (λ l. Gathers end0 l (end_shares out) done.end)
              (sym (append-nil (entries_by (number_of end0) calls_made)))
              (Gathers-calls end0 end done.end (flat_map turn_calls turns) (closing ended)
              (end_shares out) end_made calls);
          shelf_made =
              subst (λ l. Gathers shelf0 l (shelf_shares out) done.shelf)
              (sym (append-nil (entries_by (number_of shelf0) (flat_map turn_shelf_calls turns))))
              (subst
              (Gathers shelf0 (entries_by (number_of shelf0) (flat_map turn_shelf_calls turns))
              (shelf_shares out)) (sym same_shelf) shelf_made);
          feeders = ap (λ l. map told (feeders_in l)) feeders ∙ ap (λ t. t ∷ []) so.is_told;
          back = (
            (λ q. 0),
            (λ q. let e : same_mark m q ≡ same_mark m q + 0 = omega arith in e),
            (λ q. (let e : 0 + times marks q ≡ times marks q = omega arith in e)
                ∙ ap (λ l. times l q) (sym started)),
          );
          refusals = refusals ∙ either-none (refusal_of ended);
          ran = λ on clean. All-cons WasStarted _ [] (was_started on) (All-nil WasStarted);
          cause = λ is. cause
              (no_thread_end ended (sym (ap (λ r. r.no_thread) refusals) ∙ is));
        }

    -- what a worker ends with whose part is the first of these
    pub Fed-of : (feeder : F) (turns : List FeedTurn) (ended : Option FeedEnd)
        (others : List FeedPart) (done : FeedDone W F)
        → Joins told faults (own_of end0 shelf0 (told feeder0).mark) []
        (own_part end0 shelf0 feeder0 feeder turns ended ∷ others) done
        → (done.started ≡ false → (others ≡ []) × (turns ≡ []) × (ended ≡ None))
        → Fed told faults end0 shelf0 feeder0 [] done
    Fed-of feeder turns ended others done joins alone = record {
      own = own_part end0 shelf0 feeder0 feeder turns ended;
      others = others;
      number = refl;
      shelf_number = refl;
      mark = refl;
      faults_before = refl;
      joins = joins;
      alone = alone;
    }
