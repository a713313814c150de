-- What the worker of a feeder put in, and why it ended.
use Rattle.std.proofs.Common.{◌≡◌, ◌≢◌, Bool, true, false, Option, Some, None, List, [], ◌∷◌, ◌++◌, map, refl, sym, ap, ◌∙◌, append_assoc}
use Rattle.std.specs.List.{flat_map, fold}
use Rattle.std.proofs.lemmas.List.{append-nil}
use Rattle.channel_core.specs.declared.answer.Put.{Put}
use Rattle.channel_core.specs.declared.call.EndAnswer.{EndAnswer}
use Rattle.channel_core.specs.declared.call.EndCall.{EndCall}
use Rattle.turn_lock.specs.Runs.{AllFit}
use Rattle.session_crews.specs.declared.feed_end.FeedEnd.{FeedEnd}
use Rattle.session_feeds.specs.declared.feeder.Came.{Came}
use Rattle.session_crews.specs.FeedLaws.{FailuresAreCounted, PiecesArePut, as_piece}
use Rattle.session_crews.specs.FeedTurns.{FeedProgress, FeedTurn, MayFeed, at_first_feed, closing, comes, end_of, end_of_look, end_of_put, fails, feed_progress, gives, refused, starts, starves, turn_calls, turn_came, turn_pieces, waits}
use Rattle.session_feeds.specs.Puts.{ToPut, Trial, is_stop, items_put, trial_calls, tried}
use Rattle.session_feeds.proofs.LawLemmas.{items_put-append, items_put-trial, put_by, put_by-on, put_by-stop}

-- a worker whose put is stopped ends stopped
end_stop : (put : Put) → is_stop put ≡ true → end_of_put put ≡ Some FeedEnd.Stopped
end_stop (Put.Seq n) stop = absurd (cc)
end_stop (Put.Closed back) stop = refl
end_stop (Put.Past back) stop = refl
end_stop (Put.Spent back) stop = refl
end_stop (Put.Full back) stop = refl

-- the pieces of these turns were put in, but for one that was stopped
abbrev Given : List FeedTurn → Option FeedEnd → Type 0
Given turns ended =
    (rest : List ToPut)
    × (map as_piece (flat_map turn_pieces turns) ≡ items_put (flat_map turn_calls turns) ++ rest)
    × (ended ≢ Some FeedEnd.Stopped → rest ≡ [])

-- no turn follows one that is the last
pub none_after : (p : FeedProgress) (end : FeedEnd) (turns : List FeedTurn) → p.ended ≡ Some end
    → AllFit feed_progress MayFeed p turns → turns ≡ []
none_after p end [] is may = refl
none_after p end (t ∷ ts) is may =
    let e : Some end ≡ None = sym is ∙ may.0.0 in absurd (cc)

-- a turn that gives a piece, and those after it
gives_one : (t : Trial) (ts : List FeedTurn) (p : FeedProgress)
    → t.as_last ≡ false
    → AllFit feed_progress MayFeed (feed_progress p (gives t)) ts
    → Given ts (fold feed_progress (feed_progress p (gives t)) ts).ended
    → Given (gives t ∷ ts) (fold feed_progress (feed_progress p (gives t)) ts).ended
gives_one t ts p plain may so = by_answer (is_stop t.answer) refl
  where
    calls : List (EndCall × EndAnswer)
    calls = flat_map turn_calls ts

    head : items_put (trial_calls t ++ calls) ≡ put_by (tried t) t.answer ++ items_put calls
    head =
        items_put-append (trial_calls t) calls
        ∙ ap (λ l. l ++ items_put calls) (items_put-trial t)

    is_piece : as_piece t.item ≡ tried t
    is_piece = λ i. (t.item, sym plain i)

    by_answer : (b : Bool) → is_stop t.answer ≡ b
        → Given (gives t ∷ ts) (fold feed_progress (feed_progress p (gives t)) ts).ended
    by_answer false is = (
      so.0,
      ap (λ l. as_piece t.item ∷ l) so.1
          ∙ ap (λ (x : ToPut). x ∷ (items_put calls ++ so.0)) is_piece
          ∙ ap (λ l. l ++ (items_put calls ++ so.0)) (sym (put_by-on (tried t) t.answer is))
          ∙ sym (append_assoc (put_by (tried t) t.answer) (items_put calls) so.0)
          ∙ ap (λ l. l ++ so.0) (sym head),
      so.2,
    )
    by_answer true is =
        let none = none_after (feed_progress p (gives t)) FeedEnd.Stopped ts
        (end_stop t.answer is) may in (
          tried t ∷ [],
          ap (λ (us : List FeedTurn). as_piece t.item ∷ map as_piece (flat_map turn_pieces us)) none
              ∙ ap (λ (x : ToPut). x ∷ []) is_piece
              ∙ ap (λ l. l ++ tried t ∷ []) (sym (put_by-stop (tried t) t.answer is))
              ∙ ap (λ l. l ++ tried t ∷ []) (sym (append-nil (put_by (tried t) t.answer)))
              ∙ ap (λ (us : List FeedTurn).
              (put_by (tried t) t.answer ++ items_put (flat_map turn_calls us)) ++ tried t ∷ [])
              (sym none)
              ∙ ap (λ l. l ++ tried t ∷ []) (sym head),
          (λ on. absurd
              (on (ap (λ (us : List FeedTurn).
              (fold feed_progress (feed_progress p (gives t)) us).ended) none
              ∙ end_stop t.answer is))),
        )

turns_put : (turns : List FeedTurn) (p : FeedProgress)
    → AllFit feed_progress MayFeed p turns
    → Given turns (fold feed_progress p turns).ended
turns_put [] p may = ([], refl, λ on. refl)
turns_put (gives t ∷ ts) p may =
    gives_one t ts p may.0.1.1 may.1 (turns_put ts (feed_progress p (gives t)) may.1)
turns_put (starts mark look ∷ ts) p may = turns_put ts (feed_progress p (starts mark look)) may.1
turns_put (refused mark starved ∷ ts) p may =
    turns_put ts (feed_progress p (refused mark starved)) may.1
turns_put (waits look ∷ ts) p may = turns_put ts (feed_progress p (waits look)) may.1
turns_put (comes added ∷ ts) p may = turns_put ts (feed_progress p (comes added)) may.1
turns_put (fails ∷ ts) p may = turns_put ts (feed_progress p fails) may.1
turns_put (starves ∷ ts) p may = turns_put ts (feed_progress p starves) may.1

-- a close puts nothing in
closing_none : (ended : Option FeedEnd) → items_put (closing ended) ≡ []
closing_none None = refl
closing_none (Some FeedEnd.Over) = refl
closing_none (Some FeedEnd.Failed) = refl
closing_none (Some FeedEnd.Stopped) = refl
closing_none (Some FeedEnd.NoMemory) = refl
closing_none (Some FeedEnd.NoThread) = refl

pub pieces_are_put : PiecesArePut
pieces_are_put p fit =
    let g = turns_put p.turns at_first_feed fit.may in
    let calls : List (EndCall × EndAnswer) = flat_map turn_calls p.turns in (
      g.0,
      g.1
          ∙ ap (λ l. l ++ g.0)
          (sym
          (items_put-append calls (closing p.ended)
          ∙ ap (λ l. items_put calls ++ l) (closing_none p.ended)
          ∙ append-nil (items_put calls))),
      (λ on. g.2 (λ is. on (fit.ends ∙ is))),
    )

put_not_failed : (put : Put) → end_of_put put ≢ Some FeedEnd.Failed
put_not_failed (Put.Seq n) is = cc
put_not_failed (Put.Closed back) is = cc
put_not_failed (Put.Past back) is = cc
put_not_failed (Put.Spent back) is = cc
put_not_failed (Put.Full back) is = cc

look_not_failed : (closed : Bool) → end_of_look closed ≢ Some FeedEnd.Failed
look_not_failed true is = cc
look_not_failed false is = cc

-- a worker ends so only where its feeder failed
turn_failed : (t : FeedTurn) → end_of t ≡ Some FeedEnd.Failed → turn_came t ≡ Some Came.Failed
turn_failed (gives t) is = absurd (put_not_failed t.answer is)
turn_failed (starts mark look) is = absurd (look_not_failed look.closed is)
turn_failed (refused mark true) is = absurd (cc)
turn_failed (refused mark false) is = absurd (cc)
turn_failed (waits look) is = absurd (look_not_failed look.closed is)
turn_failed (comes true) is = absurd (cc)
turn_failed (comes false) is = absurd (cc)
turn_failed fails is = refl
turn_failed starves is = absurd (cc)

pub failed_came : (turns : List FeedTurn) (p : FeedProgress)
    → (p.ended ≡ Some FeedEnd.Failed → p.came ≡ Some Came.Failed)
    → (fold feed_progress p turns).ended ≡ Some FeedEnd.Failed
    → (fold feed_progress p turns).came ≡ Some Came.Failed
failed_came [] p before is = before is
failed_came (t ∷ ts) p before is = failed_came ts (feed_progress p t) (turn_failed t) is

pub failures_are_counted : FailuresAreCounted
failures_are_counted p fit is =
    fit.cause (failed_came p.turns at_first_feed (λ none. absurd (cc)) (sym fit.ends ∙ is))
