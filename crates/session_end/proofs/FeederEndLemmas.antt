-- How the workers of feeders ended is told by the refusals of a run.
use Rattle.std.proofs.Common.{◌≡◌, ◌⊎◌, inl, inr, Bool, true, false, Option, Some, None, List, [], ◌∷◌, map, refl, ap, ◌∙◌}
use Rattle.std.specs.List.{All, list_any}
use Rattle.std.proofs.lemmas.List.Elements.{All-head, All-tail}
use Rattle.turn_lock.specs.declared.view.Entry.{Entry}
use Rattle.session_run.specs.declared.shelf_call.ShelfAnswer.{ShelfAnswer}
use Rattle.session_run.specs.declared.shelf_call.ShelfCall.{ShelfCall}
use Rattle.session_feeds.specs.declared.feeder.Came.{Came}
use Rattle.session_crews.specs.FeedLaws.{shelf_calls_by}
use Rattle.session_crews.specs.FeedTurns.{FeedPart, IsFeedPart, closing, part_shelf_calls, part_told, refusal_of, refusals_in}
use Rattle.session_crews.specs.declared.feed_end.FeedEnd.{FeedEnd}
use Rattle.session_crews.proofs.EndLemmas.{ends_have_causes}
use Rattle.session_crews.proofs.PieceLemmas.{failures_are_counted}
use Rattle.session_end.specs.Causes.{HasFailed, is_shelf_wanting}
use Rattle.session_end.specs.Parts.{entries_in}
use Rattle.session_end.proofs.HistoryLemmas.{none_in, none_or, or_cases}
use Rattle.session_end.proofs.MemoryLemmas.{shelf_wanting}

-- none of these workers ended with a refusal
abbrev pub AreUnrefused : List FeedPart → Type 0
AreUnrefused [] = Unit {0}
AreUnrefused (f ∷ fs) =
    ((refusal_of f.ended).no_memory ≡ false)
    × ((refusal_of f.ended).failed ≡ false)
    × ((refusal_of f.ended).no_thread ≡ false)
    × AreUnrefused fs

pub AreUnrefused-of : (fs : List FeedPart)
    → (refusals_in fs).no_memory ≡ false
    → (refusals_in fs).failed ≡ false
    → (refusals_in fs).no_thread ≡ false
    → AreUnrefused fs
AreUnrefused-of [] a b c = tt
AreUnrefused-of (f ∷ fs) a b c =
    let x = none_or (refusal_of f.ended).no_memory (refusals_in fs).no_memory a in
    let y = none_or (refusal_of f.ended).failed (refusals_in fs).failed b in
    let z = none_or (refusal_of f.ended).no_thread (refusals_in fs).no_thread c in
    (x.0, y.0, z.0, AreUnrefused-of fs x.1 y.1 z.1)

-- a worker that ended with no refusal made no close
pub unrefused_closing : (ended : Option FeedEnd)
    → (refusal_of ended).no_memory ≡ false
    → (refusal_of ended).failed ≡ false
    → (refusal_of ended).no_thread ≡ false
    → closing ended ≡ []
unrefused_closing None a b c = refl
unrefused_closing (Some FeedEnd.Over) a b c = refl
unrefused_closing (Some FeedEnd.Stopped) a b c = refl
unrefused_closing (Some FeedEnd.Failed) a b c = absurd (cc)
unrefused_closing (Some FeedEnd.NoMemory) a b c = absurd (cc)
unrefused_closing (Some FeedEnd.NoThread) a b c = absurd (cc)

-- a worker that did not end for want of memory wanted none on the shelf
shelf_by : (ended : Option FeedEnd) (came : Option Came) → (refusal_of ended).no_memory ≡ false
    → list_any shelf_wanting (shelf_calls_by ended came) ≡ false
shelf_by None came none = refl
shelf_by (Some FeedEnd.Over) came none = refl
shelf_by (Some FeedEnd.Stopped) came none = refl
shelf_by (Some FeedEnd.Failed) came none = refl
shelf_by (Some FeedEnd.NoMemory) came none = absurd (cc)
shelf_by (Some FeedEnd.NoThread) came none = refl

unrefused_shelf : (f : FeedPart) → IsFeedPart f → (refusal_of f.ended).no_memory ≡ false
    → list_any shelf_wanting (part_shelf_calls f).1 ≡ false
unrefused_shelf f fits none =
    ap (list_any shelf_wanting) (ends_have_causes f fits).shelf
    ∙ shelf_by f.ended (part_told f).came none

abbrev shelf_entry : Entry ShelfCall ShelfAnswer → Bool
shelf_entry e = is_shelf_wanting e.answer

-- so do all of them
pub unrefused_shelves : (fs : List FeedPart) → All IsFeedPart fs → AreUnrefused fs
    → list_any shelf_entry (entries_in (map part_shelf_calls fs)) ≡ false
unrefused_shelves [] fits none = refl
unrefused_shelves (f ∷ fs) fits none =
    none_in shelf_entry f.shelf_number (part_shelf_calls f).1 (map part_shelf_calls fs)
    (unrefused_shelf f (All-head IsFeedPart f fs fits) none.0)
    (unrefused_shelves fs (All-tail IsFeedPart f fs fits) none.3)

-- ---- failures

failed_end : (ended : Option FeedEnd) → (refusal_of ended).failed ≡ true
    → ended ≡ Some FeedEnd.Failed
failed_end None is = absurd (cc)
failed_end (Some FeedEnd.Over) is = absurd (cc)
failed_end (Some FeedEnd.Stopped) is = absurd (cc)
failed_end (Some FeedEnd.Failed) is = refl
failed_end (Some FeedEnd.NoMemory) is = absurd (cc)
failed_end (Some FeedEnd.NoThread) is = absurd (cc)

failed_by : (f : FeedPart) (fs : List FeedPart) → IsFeedPart f
    → ((refusals_in fs).failed ≡ true → HasFailed fs)
    → (((refusal_of f.ended).failed ≡ true) ⊎ ((refusals_in fs).failed ≡ true))
    → HasFailed (f ∷ fs)
failed_by f fs fits more (inl here) =
    let ended = failed_end f.ended here in
    record {
      earlier = [];
      part = f;
      later = fs;
      parts = refl;
      ended = ended;
      rose = failures_are_counted f fits ended;
    }
failed_by f fs fits more (inr there) =
    let so = more there in
    record {
      earlier = f ∷ so.earlier;
      part = so.part;
      later = so.later;
      parts = ap (λ (l : List FeedPart). f ∷ l) so.parts;
      ended = so.ended;
      rose = so.rose;
    }

-- where one is told that failed, one of the feeders failed
pub HasFailed-of : (fs : List FeedPart) → All IsFeedPart fs → (refusals_in fs).failed ≡ true
    → HasFailed fs
HasFailed-of [] fits is = absurd (cc)
HasFailed-of (f ∷ fs) fits is =
    failed_by f fs (All-head IsFeedPart f fs fits)
    (HasFailed-of fs (All-tail IsFeedPart f fs fits))
    (or_cases (refusal_of f.ended).failed (refusals_in fs).failed is)
