-- A worker that joins another.
use Rattle.std.proofs.Common.{◌≡◌, ℕ, zero, suc, ◌+◌, ◌<◌, ◌≤◌, Bool, true, false, List, [], ◌∷◌, ◌++◌, map, refl, sym, ap, ◌∙◌, subst, arith, ◌⊎◌, inl, inr, ⊎_elim, append_assoc}
use Rattle.std.specs.Prelude.{◌||◌}
use Rattle.std.specs.List.{All}
use Rattle.std.proofs.lemmas.Grind.{flat_map-append}
use Rattle.std.proofs.lemmas.List.{map-append}
use Rattle.std.proofs.lemmas.List.Elements.{All-append, filter_map-append}
use Rattle.chan_io.specs.Faults.{Merges}
use Rattle.channel_core.specs.declared.call.EndAnswer.{EndAnswer}
use Rattle.channel_core.specs.declared.call.EndCall.{EndCall}
use Rattle.turn_lock.specs.Seats.{TakesIn, number_of, share_of}
use Rattle.session_run.specs.Adds.{entries_by}
use Rattle.session_run.specs.declared.shelf_call.ShelfAnswer.{ShelfAnswer}
use Rattle.session_run.specs.declared.shelf_call.ShelfCall.{ShelfCall}
use Rattle.session_crews.specs.declared.feed_done.FeedDone.{FeedDone}
use Rattle.session_crews.specs.declared.feed_done.FromFeeder.{FromFeeder}
use Rattle.session_crews.specs.declared.feed_end.Refusals.{Refusals}
use Rattle.session_crews.specs.Crews.{Fed, IsNewPromise, Joins, MayAbsorb, Own, end_shares, has_stopped, marks_out, shelf_shares}
use Rattle.session_crews.specs.FeedTurns.{FeedPart, IsFeedPart, WasStarted, either, part_calls, part_shelf_calls, part_told, refusal_of, refusals_in}
use Rattle.session_crews.specs.Gathers.{Gathers}
use Rattle.session_feeds.specs.Marks.{ComesBack, Told, same_mark, times}
use Rattle.session_crews.specs.Parts.{entries_in}
use Rattle.session_crews.specs.Places.{feeders_in}
use Rattle.session_crews.proofs.GathersLemmas.{Gathers-join}
use Rattle.session_crews.proofs.MarkLemmas.{ComesBack-beside, ComesBack-left, ComesBack-same, ComesBack-then, times-append}

or-assoc : (a b c : Bool) → ((a || b) || c) ≡ (a || (b || c))
or-assoc true b c = refl
or-assoc false b c = refl

either-assoc : (a b c : Refusals) → either (either a b) c ≡ either a (either b c)
either-assoc a b c = λ i. record {
  no_memory = or-assoc a.no_memory b.no_memory c.no_memory i;
  failed = or-assoc a.failed b.failed c.failed i;
  no_thread = or-assoc a.no_thread b.no_thread c.no_thread i;
}

pub refusals_in-append : (xs ys : List FeedPart)
    → either (refusals_in xs) (refusals_in ys) ≡ refusals_in (xs ++ ys)
refusals_in-append [] ys = refl
refusals_in-append (x ∷ xs) ys =
    either-assoc (refusal_of x.ended) (refusals_in xs) (refusals_in ys)
    ∙ ap (λ r. either (refusal_of x.ended) r) (refusals_in-append xs ys)

or_cases : (a b : Bool) → (a || b) ≡ true → (a ≡ true) ⊎ (b ≡ true)
or_cases true b is = inl refl
or_cases false b is = inr is

none_of_four : (a b c d : Bool) → ((a || c) || (b || d)) ≡ false
    → ((a || b) ≡ false) × ((c || d) ≡ false)
none_of_four true b c d is = absurd (cc)
none_of_four false b true d is = absurd (cc)
none_of_four false true false d is = absurd (cc)
none_of_four false false false true is = absurd (cc)
none_of_four false false false false is = (refl, refl)

-- neither has refusals that explain why a feeder was not started
stopped-either : (a b : Refusals) → has_stopped (either a b) ≡ false
    → (has_stopped a ≡ false) × (has_stopped b ≡ false)
stopped-either a b is = none_of_four a.no_memory a.no_thread b.no_memory b.no_thread is

-- one that may be absorbed where nothing explains that was started
was_started : (r : Refusals) (started : Bool) → MayAbsorb r started → has_stopped r ≡ false
    → started ≡ true
was_started r started may clean = ⊎_elim (λ stopped. absurd (cc)) (λ is. is) may

-- a count that another is merged into is not 0 where that one is not
merged_up : (before twin after : ℕ) → Merges before twin after → 0 < twin → 0 < after
merged_up before zero after merges pos = absurd (omega (arith, pos))
merged_up before (suc n) after rises pos = omega (arith, rises)

module _ {F : Type 0} (told : F → Told) {W : Type 0} (faults : W → ℕ) where
  -- one more worker was joined, the latest of those that are out
  pub Joins-absorb : (own : Own) (out : List (FromFeeder F)) (parts : List FeedPart)
      (p : FromFeeder F) (old other new : FeedDone W F)
      → IsNewPromise p
      → (its : Fed told faults p.end.value p.shelf.value p.feeder.value [] other)
      → MayAbsorb old.refusals other.started
      → Joins told faults own (out ++ p ∷ []) parts old
      → TakesIn old.end other.end new.end
      → TakesIn old.shelf other.shelf new.shelf
      → new.feeders.list ≡ old.feeders.list ++ other.feeders.list
      → new.refusals ≡ either old.refusals other.refusals
      → new.started ≡ old.started
      → Merges (faults old.spawner) (faults other.spawner) (faults new.spawner)
      → faults old.spawner ≤ faults new.spawner
      → Joins told faults own out (parts ++ its.own ∷ its.others) new
  Joins-absorb own out parts p old other new is_new its may so joined shelf_joined feeders
      refusals same_started merges counted =
      let theirs : List FeedPart = its.own ∷ its.others in
      let j = its.joins in
      let M : List ℕ = marks_out told out in
      let m : ℕ = (told p.feeder.value).mark in
      let e0 = entries_by (number_of own.end) own.end_calls in
      let s0 = entries_by (number_of own.shelf) own.shelf_calls in
      record {
        fits = All-append IsFeedPart parts theirs so.fits j.fits;
        end_made =
            subst (λ l. Gathers own.end l (end_shares out) new.end)
            (append_assoc e0 (entries_in (map part_calls parts))
            (entries_in (map part_calls theirs))
            ∙ ap (λ l. e0 ++ l)
            (sym
            (flat_map-append (λ (c : ℕ × List (EndCall × EndAnswer)). entries_by c.0 c.1)
            (map part_calls parts) (map part_calls theirs))
            ∙ ap entries_in (sym (map-append part_calls parts theirs))))
            (Gathers-join own.end old.end new.end p.end.value other.end _ _ (end_shares out)
            (subst
            (λ l. Gathers own.end (e0 ++ entries_in (map part_calls parts)) l old.end)
            (map-append (λ (q : FromFeeder F). share_of q.end.value) out (p ∷ [])) so.end_made)
            is_new.end j.end_made joined);
        shelf_made =
            subst (λ l. Gathers own.shelf l (shelf_shares out) new.shelf)
            (append_assoc s0 (entries_in (map part_shelf_calls parts))
            (entries_in (map part_shelf_calls theirs))
            ∙ ap (λ l. s0 ++ l)
            (sym
            (flat_map-append (λ (c : ℕ × List (ShelfCall × ShelfAnswer)). entries_by c.0 c.1)
            (map part_shelf_calls parts) (map part_shelf_calls theirs))
            ∙ ap entries_in (sym (map-append part_shelf_calls parts theirs))))
            (Gathers-join own.shelf old.shelf new.shelf p.shelf.value other.shelf _ _
            (shelf_shares out)
            (subst
            (λ l. Gathers own.shelf (s0 ++ entries_in (map part_shelf_calls parts)) l old.shelf)
            (map-append (λ (q : FromFeeder F). share_of q.shelf.value) out (p ∷ []))
            so.shelf_made)
            is_new.shelf j.shelf_made shelf_joined);
        feeders =
            ap (λ l. map told (feeders_in l)) feeders
            ∙ ap (map told)
            (filter_map-append (λ place. place) old.feeders.list other.feeders.list)
            ∙ map-append told (feeders_in old.feeders.list) (feeders_in other.feeders.list)
            ∙ ap (λ l. l ++ map told (feeders_in other.feeders.list)) so.feeders
            ∙ ap (λ l. map part_told parts ++ l) j.feeders
            ∙ sym (map-append part_told parts theirs);
        back =
            subst (λ l. ComesBack own.marks l (times M)) (sym (map-append part_told parts theirs))
            (ComesBack-then own.marks (map part_told parts) (map part_told theirs)
            (times (marks_out told (out ++ p ∷ []))) (times M) so.back
            (ComesBack-left (times (marks_out told (out ++ p ∷ []))) (map part_told theirs)
            (λ q. 0 + times M q) (times M)
            (λ q. let e : 0 + times M q ≡ times M q = omega arith in e)
            (ComesBack-same (λ q. same_mark m q + times M q)
            (times (marks_out told (out ++ p ∷ []))) (map part_told theirs) (λ q. 0 + times M q)
            (λ q. ap (λ l. times l q)
            (map-append (λ (r : FromFeeder F). (told r.feeder.value).mark) out (p ∷ []))
            ∙ times-append M (m ∷ []) q
            ∙ (let e : times M q + (same_mark m q + 0) ≡ same_mark m q + times M q = omega arith in
            e))
            (ComesBack-beside (same_mark m) (map part_told theirs) (times []) (times M) j.back))));
        refusals =
            refusals
            ∙ ap (λ r. either r other.refusals) so.refusals
            ∙ ap (λ r. either (either own.refusals (refusals_in parts)) r) j.refusals
            ∙ either-assoc own.refusals (refusals_in parts) (refusals_in theirs)
            ∙ ap (λ r. either own.refusals r) (refusals_in-append parts theirs);
        ran = λ on clean.
            let both =
            stopped-either old.refusals other.refusals
            (ap has_stopped (sym refusals) ∙ clean) in
            All-append WasStarted parts theirs (so.ran (sym same_started ∙ on) both.0)
            (j.ran (was_started old.refusals other.started may both.0) both.1);
        cause = λ is. ⊎_elim
            (λ of_old. let up = so.cause of_old in omega (arith, up, counted))
            (λ of_other.
            merged_up (faults old.spawner) (faults other.spawner) (faults new.spawner) merges
            (j.cause of_other))
            (or_cases old.refusals.no_thread other.refusals.no_thread
            (sym (ap (λ r. r.no_thread) refusals) ∙ is));
      }
