-- Why the worker of a feeder ended, and what it told the session.
use Rattle.std.proofs.Common.{◌≡◌, ◌≢◌, Bool, true, false, Option, Some, None, List, [], ◌∷◌, ◌++◌, map, refl, sym, ap, ◌∙◌, subst}
use Rattle.std.specs.Prelude.{◌||◌}
use Rattle.std.specs.List.{flat_map, fold, list_any}
use Rattle.std.proofs.lemmas.List.{append-nil}
use Rattle.std.proofs.lemmas.List.Folds.{list_any-append}
use Rattle.channel_core.specs.declared.answer.Put.{Put}
use Rattle.channel_core.specs.declared.call.EndAnswer.{EndAnswer}
use Rattle.channel_core.specs.declared.call.EndCall.{EndCall}
use Rattle.turn_lock.specs.Runs.{AllFit}
use Rattle.session_feeds.specs.declared.feeder.Came.{Came}
use Rattle.session_feeds.specs.Puts.{IsLast, Trial, full_call, put_call, trial_calls}
use Rattle.session_crews.specs.declared.feed_end.FeedEnd.{FeedEnd}
use Rattle.session_crews.specs.FeedLaws.{EndsHaveCauses, is_stopping, shelf_calls_by}
use Rattle.session_crews.specs.FeedTurns.{FeedProgress, FeedTurn, IsFeedTurn, MayFeed, at_first_feed, closing, comes, end_of, end_of_look, end_of_put, fails, feed_progress, gives, progress_of, refused, starts, starves, turn_calls, turn_came, turn_shelf_calls, waits}
use Rattle.session_crews.proofs.FeedLemmas.{none_came}
use Rattle.session_crews.proofs.PieceLemmas.{failed_came, none_after}

abbrev stops : EndCall × EndAnswer → Bool
stops e = is_stopping e.1

or_true : (b : Bool) → (b || true) ≡ true
or_true true = refl
or_true false = refl

-- what holds of turns that come to this
record Ends (turns : List FeedTurn) (e : FeedProgress) : Type 0 where
  shelf : flat_map turn_shelf_calls turns ≡ shelf_calls_by e.ended e.came
  over : e.ended ≡ Some FeedEnd.Over → e.came ≡ Some Came.Over
  failed : e.came ≡ Some Came.Failed → e.ended ≡ Some FeedEnd.Failed
  stopped : e.ended ≡ Some FeedEnd.Stopped → list_any stops (flat_map turn_calls turns) ≡ true

-- a turn after which a worker goes on tells the session nothing
none_told : (turn : FeedTurn) → end_of turn ≡ None → turn_shelf_calls turn ≡ []
none_told (gives t) is = refl
none_told (starts mark look) is = refl
none_told (refused mark starved) is = refl
none_told (waits look) is = refl
none_told (comes true) is = absurd (cc)
none_told (comes false) is = absurd (cc)
none_told fails is = absurd (cc)
none_told starves is = refl

-- the last put of a trial was stopped
trial_stops : (t : Trial) (put : Put) → t.answer ≡ put → is_stopping (EndAnswer.Put put) ≡ true
    → list_any stops (trial_calls t ++ []) ≡ true
trial_stops t put is stop =
    let full : List (EndCall × EndAnswer) = map (full_call t.as_last t.item) t.full in
    let last : EndCall × EndAnswer =
    (put_call t.as_last t.item t.id t.now, EndAnswer.Put t.answer) in
    ap (list_any stops) (append-nil (trial_calls t))
    ∙ list_any-append stops full (last ∷ [])
    ∙ ap (λ (p : Put). list_any stops full || (is_stopping (EndAnswer.Put p) || false)) is
    ∙ ap (λ (b : Bool). list_any stops full || (b || false)) stop
    ∙ or_true (list_any stops full)

-- a turn that gives a piece, as the last
last_gives : (t : Trial) (put : Put) → t.answer ≡ put → IsLast t.item put
    → Ends (gives t ∷ []) (record { ended = end_of_put put; came = None })
last_gives t (Put.Seq n) is last = record {
  shelf = refl;
  over = λ so. absurd (cc);
  failed = λ so. absurd (cc);
  stopped = λ so. absurd (cc);
}
last_gives t (Put.Closed back) is last = record {
  shelf = refl;
  over = λ so. absurd (cc);
  failed = λ so. absurd (cc);
  stopped = λ so. trial_stops t (Put.Closed back) is refl;
}
last_gives t (Put.Past back) is last = record {
  shelf = refl;
  over = λ so. absurd (cc);
  failed = λ so. absurd (cc);
  stopped = λ so. trial_stops t (Put.Past back) is refl;
}
last_gives t (Put.Spent back) is last = record {
  shelf = refl;
  over = λ so. absurd (cc);
  failed = λ so. absurd (cc);
  stopped = λ so. trial_stops t (Put.Spent back) is refl;
}
last_gives t (Put.Full back) is last = absurd last

-- a turn that ends by a look
look_tells : (closed : Bool) → [] ≡ shelf_calls_by (end_of_look closed) None
look_tells true = refl
look_tells false = refl

look_not_over : (closed : Bool) → end_of_look closed ≢ Some FeedEnd.Over
look_not_over true so = cc
look_not_over false so = cc

look_closed : (closed : Bool) → end_of_look closed ≡ Some FeedEnd.Stopped → (closed || false) ≡ true
look_closed true so = refl
look_closed false so = absurd (cc)

last_turn : (t : FeedTurn) → IsFeedTurn t
    → Ends (t ∷ []) (record { ended = end_of t; came = turn_came t })
last_turn (gives t) fits = last_gives t t.answer refl fits.0
last_turn (starts mark look) fits = record {
  shelf = look_tells look.closed;
  over = λ so. absurd (look_not_over look.closed so);
  failed = λ so. absurd (cc);
  stopped = λ so. look_closed look.closed so;
}
last_turn (refused mark true) fits = record {
  shelf = refl;
  over = λ so. absurd (cc);
  failed = λ so. absurd (cc);
  stopped = λ so. absurd (cc);
}
last_turn (refused mark false) fits = record {
  shelf = refl;
  over = λ so. absurd (cc);
  failed = λ so. absurd (cc);
  stopped = λ so. absurd (cc);
}
last_turn (waits look) fits = record {
  shelf = look_tells look.closed;
  over = λ so. absurd (look_not_over look.closed so);
  failed = λ so. absurd (cc);
  stopped = λ so. look_closed look.closed so;
}
last_turn (comes true) fits = record {
  shelf = refl;
  over = λ so. refl;
  failed = λ so. absurd (cc);
  stopped = λ so. absurd (cc);
}
last_turn (comes false) fits = record {
  shelf = refl;
  over = λ so. absurd (cc);
  failed = λ so. absurd (cc);
  stopped = λ so. absurd (cc);
}
last_turn fails fits = record {
  shelf = refl;
  over = λ so. absurd (cc);
  failed = λ so. refl;
  stopped = λ so. absurd (cc);
}
last_turn starves fits = record {
  shelf = refl;
  over = λ so. absurd (cc);
  failed = λ so. absurd (cc);
  stopped = λ so. absurd (cc);
}

-- one turn more, before others
ends_more : (t : FeedTurn) (ts : List FeedTurn) (p : FeedProgress)
    → IsFeedTurn t
    → AllFit feed_progress MayFeed (feed_progress p t) ts
    → (end_of t ≡ None → Ends ts (fold feed_progress (feed_progress p t) ts))
    → Ends (t ∷ ts) (fold feed_progress (feed_progress p t) ts)
ends_more t ts p fits may rest = by_end (end_of t) refl
  where
    by_end : (o : Option FeedEnd) → end_of t ≡ o
        → Ends (t ∷ ts) (fold feed_progress (feed_progress p t) ts)
    by_end None is =
        let r = rest is in
        let mine : Bool = list_any stops (turn_calls t) in
        record {
          shelf = ap (λ l. l ++ flat_map turn_shelf_calls ts) (none_told t is) ∙ r.shelf;
          over = r.over;
          failed = r.failed;
          stopped = λ so. list_any-append stops (turn_calls t) (flat_map turn_calls ts)
              ∙ ap (λ b. mine || b) (r.stopped so)
              ∙ or_true mine;
        }
    by_end (Some end) is =
        subst (λ us. Ends (t ∷ us) (fold feed_progress (feed_progress p t) us))
        (sym (none_after (feed_progress p t) end ts is may)) (last_turn t fits)

ends_so : (turns : List FeedTurn) (p : FeedProgress)
    → p.ended ≡ None
    → p.came ≡ None
    → AllFit feed_progress MayFeed p turns
    → Ends turns (fold feed_progress p turns)
ends_so [] p on none may = record {
  shelf = sym (ap (λ o. shelf_calls_by o p.came) on);
  over = λ so. absurd (let e : None ≡ Some FeedEnd.Over = sym on ∙ so in cc);
  failed = λ so. absurd (let e : None ≡ Some Came.Failed = sym none ∙ so in cc);
  stopped = λ so. absurd (let e : None ≡ Some FeedEnd.Stopped = sym on ∙ so in cc);
}
ends_so (t ∷ ts) p on none may =
    ends_more t ts p may.0.1 may.1
    (λ is. ends_so ts (feed_progress p t) is (none_came t is) may.1)

pub ends_have_causes : EndsHaveCauses
ends_have_causes p fit =
    let e = ends_so p.turns at_first_feed refl refl fit.may in
    let last : List (EndCall × EndAnswer) = closing p.ended in
    record {
      shelf =
          e.shelf ∙ ap (λ o. shelf_calls_by o (progress_of p.turns).came) (sym fit.ends);
      over = λ is. e.over (sym fit.ends ∙ is);
      failed = λ is. failed_came p.turns at_first_feed (λ none. absurd (cc)) (sym fit.ends ∙ is);
      came = λ is. fit.ends ∙ e.failed is;
      stopped = λ is. list_any-append stops (flat_map turn_calls p.turns) last
          ∙ ap (λ b. b || list_any stops last) (e.stopped (sym fit.ends ∙ is));
    }
