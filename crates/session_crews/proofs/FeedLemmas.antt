-- The turns of a feeder's worker, put together.
use Rattle.std.proofs.Common.{◌≡◌, ◌≢◌, ℕ, ◌+◌, ◌<◌, ◌≤◌, Bool, true, false, Option, Some, None, List, [], ◌∷◌, ◌++◌, refl, sym, ap, ◌∙◌, subst, arith}
use Rattle.std.specs.Prelude.{◌||◌}
use Rattle.std.specs.List.{flat_map}
use Rattle.std.proofs.lemmas.List.Sums.{fold_push}
use Rattle.channel_core.specs.declared.answer.Put.{Put}
use Rattle.turn_lock.proofs.RunLemmas.{goes_on}
use Rattle.session_run.specs.Adds.{AddsCalls}
use Rattle.session_crews.specs.declared.feed_done.FeedDone.{FeedDone}
use Rattle.session_crews.specs.declared.feed_end.FeedEnd.{FeedEnd}
use Rattle.session_crews.specs.declared.feed_end.Refusals.{Refusals}
use Rattle.session_feeds.specs.declared.feeder.Came.{Came}
use Rattle.session_crews.specs.Crews.{Call, HasBack, IsCrew, IsRefused, has_stopped}
use Rattle.session_crews.specs.FeedRuns.{Counts, Makes, Refusing, Turned, Working, after_turn}
use Rattle.session_crews.specs.FeedTurns.{FeedTurn, IsFeedTurn, MayFeed, at_first_feed, comes, either, end_of, end_of_look, end_of_put, fails, feed_progress, gives, no_refusals, progress_of, refusal_of, refused, refused_end, starts, starves, told_in, turn_calls, turn_came, turn_marks, turn_pieces, turn_shelf_calls, waits}
use Rattle.session_feeds.specs.Marks.{IsNew, Told}
use Rattle.session_crews.specs.Seats.{EndLock, EndSeat, ShelfLock, ShelfSeat}
use Rattle.session_feeds.proofs.ListLemmas.{flat_map-push}

-- all that is told is the same
pub told_same : (a b : Told)
    → a.mark ≡ b.mark
    → a.children ≡ b.children
    → a.pieces ≡ b.pieces
    → a.came ≡ b.came
    → a.faults ≡ b.faults
    → a ≡ b
told_same a b m ch p c f =
    λ i. record { mark = m i; children = ch i; pieces = p i; came = c i; faults = f i }

-- what a feeder gave in one turn more
told_in-push : (mark : ℕ) (turns : List FeedTurn) (turn : FeedTurn) (before faults : ℕ)
    → after_turn (told_in mark turns before) turn faults ≡ told_in mark (turns ++ turn ∷ []) faults
told_in-push mark turns turn before faults =
    told_same (after_turn (told_in mark turns before) turn faults)
    (told_in mark (turns ++ turn ∷ []) faults) refl
    (sym (flat_map-push turn_marks turns turn)) (sym (flat_map-push turn_pieces turns turn))
    (sym (ap (λ p. p.came) (fold_push feed_progress at_first_feed turns turn))) refl

pub either-none : (r : Refusals) → r ≡ either r no_refusals
either-none r = λ i. record {
  no_memory = or_false r.no_memory i;
  failed = or_false r.failed i;
  no_thread = or_false r.no_thread i;
}
  where
    or_false : (b : Bool) → b ≡ (b || false)
    or_false true = refl
    or_false false = refl

-- only a worker that could not start another makes this refusal
pub no_thread_end : (ended : Option FeedEnd) → (refusal_of ended).no_thread ≡ true
    → ended ≡ Some FeedEnd.NoThread
no_thread_end None is = absurd (cc)
no_thread_end (Some FeedEnd.Over) is = absurd (cc)
no_thread_end (Some FeedEnd.Failed) is = absurd (cc)
no_thread_end (Some FeedEnd.Stopped) is = absurd (cc)
no_thread_end (Some FeedEnd.NoMemory) is = absurd (cc)
no_thread_end (Some FeedEnd.NoThread) is = refl

-- a turn after which a worker goes on is not one in which its feeder came to its end
pub none_came : (turn : FeedTurn) → end_of turn ≡ None → turn_came turn ≡ None
none_came (gives t) is = refl
none_came (starts mark look) is = refl
none_came (refused mark starved) is = refl
none_came (waits look) is = refl
none_came (comes true) is = absurd (cc)
none_came (comes false) is = absurd (cc)
none_came fails is = absurd (cc)
none_came starves is = refl

-- only a start that was refused ends so
not_refused : (put : Put) → end_of_put put ≢ Some FeedEnd.NoThread
not_refused (Put.Seq n) is = cc
not_refused (Put.Closed item) is = cc
not_refused (Put.Past item) is = cc
not_refused (Put.Spent item) is = cc
not_refused (Put.Full item) is = cc

not_closed : (closed : Bool) → end_of_look closed ≢ Some FeedEnd.NoThread
not_closed true is = cc
not_closed false is = cc

pub alone_has_thread : (turn : FeedTurn) → turn_marks turn ≡ []
    → end_of turn ≢ Some FeedEnd.NoThread
alone_has_thread (gives t) alone is = not_refused t.answer is
alone_has_thread (starts mark look) alone is = cc
alone_has_thread (refused mark starved) alone is = cc
alone_has_thread (waits look) alone is = not_closed look.closed is
alone_has_thread (comes true) alone is = cc
alone_has_thread (comes false) alone is = cc
alone_has_thread fails alone is = cc
alone_has_thread starves alone is = cc

-- the spawner's count rose where a worker could not be started for want of a thread
pub refused_cause : (starved : Bool) (before after : ℕ) → IsRefused starved before after
    → Some (refused_end starved) ≡ Some FeedEnd.NoThread → 0 < after
refused_cause true before after rose is = absurd (cc)
refused_cause false before after rose is = omega (arith, rose)

-- memory or a thread was wanted
pub refused_stopped : (starved : Bool)
    → has_stopped (refusal_of (Some (refused_end starved))) ≡ true
refused_stopped true = refl
refused_stopped false = refl

-- counts of two turns
Counts-then : (came : Option Came) (a b c : ℕ) → a ≤ b → Counts came b c → Counts came a c
Counts-then came a b c up so = record {
  counted = let n = so.counted in omega (arith, up, n);
  failed = λ is. let n = so.failed is in omega (arith, up, n);
}

-- a turn, from what the feeder's call ensures
pub Makes-from : {F : Type 0} (told : F → Told) (old_end new_end : EndSeat)
    (old_shelf new_shelf : ShelfSeat) (old new : F) (ended : Option FeedEnd) (turn : FeedTurn)
    → (told new).mark ≡ (told old).mark
    → (told new).children ≡ (told old).children ++ turn_marks turn
    → (told new).pieces ≡ (told old).pieces ++ turn_pieces turn
    → (told new).came ≡ turn_came turn
    → Counts (turn_came turn) (told old).faults (told new).faults
    → IsFeedTurn turn
    → turn_marks turn ≡ []
    → AddsCalls old_end (turn_calls turn) new_end
    → AddsCalls old_shelf (turn_shelf_calls turn) new_shelf
    → end_of turn ≡ ended
    → Makes told old_end new_end old_shelf new_shelf old new ended
Makes-from told old_end new_end old_shelf new_shelf old new ended turn m ch p c counts fits alone
    end shelf ends = record {
      turn = turn;
      fits = fits;
      alone = alone;
      end = end;
      shelf = shelf;
      is_told =
          told_same (told new) (after_turn (told old) turn (told new).faults) m ch p c refl;
      counts = counts;
      ends = ends;
    }

module _ {F : Type 0} (told : F → Told) where
  -- before its first turn
  pub Turned-first : (feeder0 : F) → IsNew (told feeder0) → Turned told feeder0 [] None feeder0
  Turned-first feeder0 is_new = record {
    may = tt;
    ends = refl;
    on = λ is. refl;
    is_told =
        told_same (told feeder0) (told_in (told feeder0).mark [] (told feeder0).faults) refl
        is_new.no_children is_new.no_pieces is_new.on refl;
    counts = record { counted = omega arith; failed = λ is. absurd (cc) };
  }

  -- one turn more
  pub Turned-turn : (feeder0 feeder feeder' : F) (turns : List FeedTurn) (turn : FeedTurn)
      → Turned told feeder0 turns None feeder
      → IsFeedTurn turn
      → told feeder' ≡ after_turn (told feeder) turn (told feeder').faults
      → Counts (turn_came turn) (told feeder).faults (told feeder').faults
      → Turned told feeder0 (turns ++ turn ∷ []) (end_of turn) feeder'
  Turned-turn feeder0 feeder feeder' turns turn so fits is_told counts =
      let progress = fold_push feed_progress at_first_feed turns turn in
      let f = (told feeder').faults in
      record {
        may =
            (goes_on feed_progress MayFeed at_first_feed (progress_of turns)
            (feed_progress (progress_of turns) turn) turns turn so.may refl (so.ends, fits) refl).0;
        ends = ap (λ p. p.ended) progress;
        on = λ is. ap (λ p. p.came) progress ∙ none_came turn is;
        is_told =
            is_told
            ∙ ap (λ t. after_turn t turn f) so.is_told
            ∙ told_in-push (told feeder0).mark turns turn (told feeder).faults f;
        counts =
            subst (λ c. Counts c (told feeder0).faults f) (sym (ap (λ p. p.came) progress))
            (Counts-then (turn_came turn) (told feeder0).faults (told feeder).faults f
            so.counts.counted counts);
      }

  module _ {W : Type 0} (faults : W → ℕ) (ends : EndLock) (shelves : ShelfLock) (end0 : EndSeat)
      (shelf0 : ShelfSeat) (feeder0 feeder feeder' : F) (turns : List FeedTurn)
      (so : Turned told feeder0 turns None feeder) (turn : FeedTurn) (fits : IsFeedTurn turn)
      (is_told : told feeder' ≡ after_turn (told feeder) turn (told feeder').faults)
      (counts : Counts (turn_came turn) (told feeder).faults (told feeder').faults) where
    -- one turn more of a worker
    pub Working-more : (end : EndSeat) (shelf : ShelfSeat) (calls : List (Call W F))
        → IsCrew told faults ends shelves end0 shelf0 (flat_map turn_calls turns ++ turn_calls turn)
        (flat_map turn_shelf_calls turns ++ turn_shelf_calls turn)
        (flat_map turn_marks turns ++ turn_marks turn) end shelf calls
        → Working told faults ends shelves end0 shelf0 feeder0 (turns ++ turn ∷ []) (end_of turn)
        end shelf calls feeder'
    Working-more end shelf calls crew = record {
      crew =
          subst
          (λ l. IsCrew told faults ends shelves end0 shelf0 l
          (flat_map turn_shelf_calls (turns ++ turn ∷ []))
          (flat_map turn_marks (turns ++ turn ∷ [])) end shelf calls)
          (sym (flat_map-push turn_calls turns turn))
          (subst
          (λ l. IsCrew told faults ends shelves end0 shelf0
          (flat_map turn_calls turns ++ turn_calls turn) l
          (flat_map turn_marks (turns ++ turn ∷ [])) end shelf calls)
          (sym (flat_map-push turn_shelf_calls turns turn))
          (subst
          (λ l. IsCrew told faults ends shelves end0 shelf0
          (flat_map turn_calls turns ++ turn_calls turn)
          (flat_map turn_shelf_calls turns ++ turn_shelf_calls turn) l end shelf calls)
          (sym (flat_map-push turn_marks turns turn)) crew));
      turned = Turned-turn feeder0 feeder feeder' turns turn so fits is_told counts;
    }

    -- the same where a start was refused in it
    pub Refusing-more : (end : EndSeat) (shelf : ShelfSeat) (calls : List (Call W F))
        (back : FeedDone W F)
        → HasBack told faults ends shelves end0 shelf0
        (flat_map turn_calls turns ++ turn_calls turn)
        (flat_map turn_shelf_calls turns ++ turn_shelf_calls turn)
        (flat_map turn_marks turns ++ turn_marks turn) end shelf calls back
        → has_stopped (refusal_of (end_of turn)) ≡ true
        → Refusing told faults ends shelves end0 shelf0 feeder0 (turns ++ turn ∷ []) (end_of turn)
        end shelf calls feeder' back
    Refusing-more end shelf calls back crew stopped = record {
      crew =
          subst
          (λ l. HasBack told faults ends shelves end0 shelf0 l
          (flat_map turn_shelf_calls (turns ++ turn ∷ []))
          (flat_map turn_marks (turns ++ turn ∷ [])) end shelf calls back)
          (sym (flat_map-push turn_calls turns turn))
          (subst
          (λ l. HasBack told faults ends shelves end0 shelf0
          (flat_map turn_calls turns ++ turn_calls turn) l
          (flat_map turn_marks (turns ++ turn ∷ [])) end shelf calls back)
          (sym (flat_map-push turn_shelf_calls turns turn))
          (subst
          (λ l. HasBack told faults ends shelves end0 shelf0
          (flat_map turn_calls turns ++ turn_calls turn)
          (flat_map turn_shelf_calls turns ++ turn_shelf_calls turn) l end shelf calls back)
          (sym (flat_map-push turn_marks turns turn)) crew));
      turned = Turned-turn feeder0 feeder feeder' turns turn so fits is_told counts;
      stopped = stopped;
    }
