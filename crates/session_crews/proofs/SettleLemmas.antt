-- A worker that was not started counts as one that wanted memory.
use Rattle.std.proofs.Common.{◌≡◌, ℕ, true, false, Some, None, List, [], ◌∷◌, ◌++◌, map, refl, sym, ap, ◌∙◌, subst}
use Rattle.std.specs.List.{flat_map}
use Rattle.std.proofs.lemmas.List.{append-nil}
use Rattle.std.proofs.lemmas.List.Elements.{All-cons, All-nil}
use Rattle.channel_core.specs.declared.call.EndAnswer.{EndAnswer}
use Rattle.channel_core.specs.declared.call.EndCall.{EndCall}
use Rattle.turn_lock.specs.Seats.{number_of}
use Rattle.session_run.specs.Adds.{AddsCalls, entries_by}
use Rattle.session_crews.specs.declared.feed_done.FeedDone.{FeedDone}
use Rattle.session_crews.specs.declared.feed_end.FeedEnd.{FeedEnd}
use Rattle.session_crews.specs.Crews.{Fed}
use Rattle.session_crews.specs.FeedTurns.{FeedPart, IsFeedPart, WasStarted, closing, part_calls, part_shelf_calls, part_told, refusal_of, starves, told_in, turn_calls, turn_shelf_calls}
use Rattle.session_crews.specs.Gathers.{Gathers}
use Rattle.session_feeds.specs.Marks.{ComesBack, Told, same_mark, times}
use Rattle.session_crews.specs.Parts.{entries_in}
use Rattle.session_crews.specs.Places.{feeders_in}
use Rattle.session_crews.specs.Seats.{EndSeat, ShelfSeat}
use Rattle.session_crews.proofs.FeedLemmas.{no_thread_end}
use Rattle.session_crews.proofs.GathersLemmas.{Gathers-calls}

-- the part of a worker that only wanted memory
abbrev starved_part : FeedPart → FeedPart
starved_part p = record p { turns = starves ∷ []; ended = Some FeedEnd.NoMemory }

-- the call that closes the end
abbrev close_call : List (EndCall × EndAnswer)
close_call = (EndCall.Close, EndAnswer.Done) ∷ []

module _ (own : FeedPart) (others : List FeedPart) (alone : others ≡ []) (idle : own.turns ≡ [])
    (unended : own.ended ≡ None) where
  -- it made no calls
  no_calls : entries_in (map part_calls (own ∷ others)) ≡ []
  no_calls =
      ap (λ (os : List FeedPart). entries_in (map part_calls (own ∷ os))) alone
      ∙ ap (λ ts. entries_by own.number (flat_map turn_calls ts ++ closing own.ended) ++ []) idle
      ∙ ap (λ e. entries_by own.number (closing e) ++ []) unended

  no_shelf_calls : entries_in (map part_shelf_calls (own ∷ others)) ≡ []
  no_shelf_calls =
      ap (λ (os : List FeedPart). entries_in (map part_shelf_calls (own ∷ os))) alone
      ∙ ap (λ ts. entries_by own.shelf_number (flat_map turn_shelf_calls ts) ++ []) idle

  -- its feeder tells the same
  told_alike : map part_told (own ∷ others) ≡ part_told (starved_part own) ∷ []
  told_alike =
      ap (λ (os : List FeedPart). map part_told (own ∷ os)) alone
      ∙ ap (λ ts. told_in own.mark ts own.faults ∷ []) idle

module _ {F : Type 0} (told : F → Told) {W : Type 0} (faults : W → ℕ) where
  pub Fed-settled : (end0 : EndSeat) (shelf0 : ShelfSeat) (feeder0 : F) (old new : FeedDone W F)
      → Fed told faults end0 shelf0 feeder0 [] old
      → old.started ≡ false
      → AddsCalls old.end close_call new.end
      → new.shelf ≡ old.shelf
      → new.feeders.list ≡ old.feeders.list
      → new.refusals ≡ refusal_of (Some FeedEnd.NoMemory)
      → new.started ≡ true
      → Fed told faults end0 shelf0 feeder0 [] new
  Fed-settled end0 shelf0 feeder0 old new its unstarted closes same_shelf same_feeders refusals
      started =
      let a = its.alone unstarted in
      let own : FeedPart = its.own in
      let part : FeedPart = starved_part own in
      let n : ℕ = number_of end0 in
      let alike = told_alike own its.others a.0 a.1 a.2 in
      record {
        own = part;
        others = [];
        number = its.number;
        shelf_number = its.shelf_number;
        mark = its.mark;
        faults_before = its.faults_before;
        joins = record {
          fits =
              All-cons IsFeedPart part []
              (record { may = ((refl, tt), tt); ends = refl; cause = λ is. absurd (cc) })
              (All-nil IsFeedPart);
          end_made =
              subst (λ l. Gathers end0 l [] new.end)
              (ap (λ m. entries_by m close_call) (sym its.number)
              ∙ sym (append-nil (entries_by own.number close_call)))
              (Gathers-calls end0 old.end new.end [] close_call []
              (subst (λ l. Gathers end0 l [] old.end)
              (no_calls own its.others a.0 a.1 a.2) its.joins.end_made) closes);
          shelf_made =
              subst (Gathers shelf0 [] []) (sym same_shelf)
              (subst (λ l. Gathers shelf0 l [] old.shelf)
              (no_shelf_calls own its.others a.0 a.1 a.2) its.joins.shelf_made);
          feeders = ap (λ l. map told (feeders_in l)) same_feeders ∙ its.joins.feeders ∙ alike;
          back =
              subst (λ l. ComesBack (same_mark (told feeder0).mark) l (times [])) alike
              its.joins.back;
          refusals = refusals;
          ran = λ on clean. All-cons WasStarted part [] refl (All-nil WasStarted);
          cause = λ is. let e =
              no_thread_end (Some FeedEnd.NoMemory) (sym (ap (λ r. r.no_thread) refusals) ∙ is) in
              absurd (cc);
        };
        alone = λ is. absurd (cc);
      }
