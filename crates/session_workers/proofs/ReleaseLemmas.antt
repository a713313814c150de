-- What a link reader added to the shelf is what was released to it.
use Rattle.std.proofs.Common.{◌≡◌, ◌≢◌, ◌⊎◌, inl, inr, ℕ, zero, suc, Bool, true, false, Option, Some, None, List, [], ◌∷◌, ◌++◌, drop, take, map, length, nat_lt, refl, sym, ap, ◌∙◌, subst, append_assoc, arith}
use Rattle.std.specs.Prelude.{if◌then◌else◌}
use Rattle.std.specs.List.{flat_map, fold}
use Rattle.std.proofs.lemmas.Bool.{ltb-false}
use Rattle.std.proofs.lemmas.List.{append-nil, drop_all, take-append-drop}
use Rattle.std.proofs.lemmas.List.Elements.{filter_map-append}
use Rattle.chan_values.specs.declared.item.Item.{Item}
use Rattle.channel_core.specs.declared.answer.Heard.{Heard}
use Rattle.turn_lock.specs.Runs.{AllFit}
use Rattle.session_run.specs.Shelf.{parcel_added, parcels_added}
use Rattle.session_run.specs.declared.parcel.Parcel.{Parcel}
use Rattle.session_run.specs.declared.shelf_call.Count.{Count}
use Rattle.session_run.specs.declared.shelf_call.ShelfAnswer.{ShelfAnswer}
use Rattle.session_run.specs.declared.shelf_call.ShelfCall.{ShelfCall}
use Rattle.session_workers.specs.declared.link_setting.LinkSetting.{LinkSetting}
use Rattle.session_workers.specs.declared.read_state.ReadEnd.{ReadEnd}
use Rattle.session_workers.specs.declared.read_state.ReadState.{ReadState}
use Rattle.session_workers.specs.ReaderLaws.{AddedIsReleased, parcels_in}
use Rattle.session_workers.specs.ReaderSteps.{MayRead, added_end, first_state, reader_after, released_end}
use Rattle.session_workers.specs.Reading.{Met, ReaderStep, Taken, added_call, adding, arrived, counted, dials, drops, finishes, full, gets, hears, looks, loses, misses, opens, parcels_of, passes, reader_shelf_calls, refuses, starves, unread, wanting_call, wants}

abbrev Calls : Type 0
Calls = List (ShelfCall × ShelfAnswer)

-- ---- what calls of the shelf added

parcels_added-nil : parcels_added [] ≡ []
unfolding parcels_added
parcels_added-nil = refl

parcels_added-append : (h k : Calls) → parcels_added (h ++ k) ≡ parcels_added h ++ parcels_added k
unfolding parcels_added
parcels_added-append h k =
    filter_map-append (λ (e : ShelfCall × ShelfAnswer). parcel_added e.1 e.0) h k

added-all : (parcels : List Parcel) → parcels_added (map added_call parcels) ≡ parcels
unfolding parcels_added
added-all [] = refl
added-all (parcel ∷ parcels) = ap (λ l. parcel ∷ l) (added-all parcels)

wanting-none : (parcels : List Parcel) → parcels_added (map wanting_call parcels) ≡ []
unfolding parcels_added
wanting-none [] = refl
wanting-none (parcel ∷ parcels) = wanting-none parcels

counted-none : (count : Option Count) → parcels_added (counted count) ≡ []
unfolding parcels_added
counted-none None = refl
counted-none (Some count) = refl

adding-is : (parcels : List Parcel) (added : ℕ)
    → parcels_added (adding parcels added) ≡ take added parcels
adding-is parcels added =
    let first : List Parcel = take added parcels in
    let next : List Parcel = take 1 (drop added parcels) in
    parcels_added-append (map added_call first) (map wanting_call next)
    ∙ ap (λ l. l ++ parcels_added (map wanting_call next)) (added-all first)
    ∙ ap (λ l. first ++ l) (wanting-none next)
    ∙ append-nil first

-- the parcels of a step and what its calls added, with what is lacking
record Lacks (parcels : List Parcel) (calls : Calls) (over : Option ReadEnd) : Type 0 where
  lacking : List Parcel
  all : parcels ≡ parcels_added calls ++ lacking
  only : (lacking ≡ []) ⊎ (over ≡ Some ReadEnd.NoMemory)

nothing : (over : Option ReadEnd) → Lacks [] [] over
nothing over = record {
  lacking = [];
  all = sym (append-nil (parcels_added []) ∙ parcels_added-nil);
  only = inl refl;
}

-- calls that add nothing, where nothing was released
no_parcels : (calls : Calls) (over : Option ReadEnd)
    → parcels_added calls ≡ []
    → Lacks [] calls over
no_parcels calls over none = record {
  lacking = [];
  all = sym (append-nil (parcels_added calls) ∙ none);
  only = inl refl;
}

-- how the reader ends by whether fewer than all parcels were added
cut : (parcels : List Parcel) (added : ℕ) (less : Bool)
    → nat_lt added (length parcels) ≡ less
    → (drop added parcels ≡ []) ⊎ (added_end parcels added ≡ Some ReadEnd.NoMemory)
cut parcels added true is =
    inr (ap (λ (b : Bool). if b then Some ReadEnd.NoMemory else None) is)
cut parcels added false is = inl (drop_all added parcels (ltb-false added (length parcels) is))

released : (parcels : List Parcel) (added : ℕ) (count : Option Count)
    → Lacks parcels (counted count ++ adding parcels added) (added_end parcels added)
released parcels added count = record {
  lacking = drop added parcels;
  all =
      sym (ap (λ l. l ++ drop added parcels)
      (parcels_added-append (counted count) (adding parcels added)
      ∙ ap (λ l. l ++ parcels_added (adding parcels added)) (counted-none count)
      ∙ adding-is parcels added)
      ∙ take-append-drop added parcels);
  only = cut parcels added (nat_lt added (length parcels)) refl;
}

-- an answer that released nothing adds nothing
idle : (added : ℕ) (count : Option Count) (over : Option ReadEnd)
    → Lacks [] (counted count ++ adding [] added) over
idle added count over =
    let none : take added [] ≡ [] = none_of added in
    no_parcels (counted count ++ adding [] added) over
    (parcels_added-append (counted count) (adding [] added)
    ∙ ap (λ l. l ++ parcels_added (adding [] added)) (counted-none count)
    ∙ adding-is [] added
    ∙ none)
  where
    none_of : (n : ℕ) → Path (List Parcel) (take n []) []
    none_of zero = refl
    none_of (suc n) = refl

heard_lacks : (heard : Heard) (added : ℕ) (count : Option Count)
    → Lacks (parcels_of heard) (counted count ++ adding (parcels_of heard) added)
    (released_end heard added)
heard_lacks (Heard.Released items) added count = released (arrived items false) added count
heard_lacks (Heard.Finished items) added count = released (arrived items true) added count
heard_lacks Heard.Late added count = idle added count _
heard_lacks Heard.Beyond added count = idle added count _
heard_lacks (Heard.PastEnd seq) added count = idle added count _
heard_lacks (Heard.Acked seq) added count = idle added count _
heard_lacks (Heard.UnknownAck seq) added count = idle added count _
heard_lacks Heard.Paused added count = idle added count _
heard_lacks Heard.Started added count = idle added count _
heard_lacks Heard.Ended added count = idle added count _
heard_lacks Heard.AfterClose added count = idle added count _
heard_lacks (Heard.NoMemory incoming) added count = idle added count _

opening-none : parcels_added ((ShelfCall.Opening, ShelfAnswer.Done) ∷ []) ≡ []
unfolding parcels_added
opening-none = refl

one : (s : ReadState) (step : ReaderStep)
    → Lacks (parcels_in step) (reader_shelf_calls step) (reader_after s step).over
one s (misses opening) = nothing _
one s (dials opening reply (opens now token)) = no_parcels _ _ opening-none
one s (dials opening reply (finishes now heard)) = nothing _
one s (dials opening reply refuses) = nothing _
one s (dials opening reply unread) = nothing _
one s (gets bytes (hears now count incoming heard added)) = heard_lacks heard added count
one s (gets bytes (drops refusal)) = nothing _
one s (gets bytes (full incoming count)) = no_parcels _ _ (counted-none count)
one s (gets bytes starves) = nothing _
one s (passes text) = nothing _
one s (loses got) = nothing _
one s (looks look) = nothing _
one s wants = nothing _

-- ---- all steps

-- a step is made only before the end
goes_on : (setting : LinkSetting) (s : ReadState) (step : ReaderStep)
    → MayRead setting s step
    → s.over ≡ None
goes_on setting s (misses opening) may = may.0
goes_on setting s (dials opening reply taken) may = may.0
goes_on setting s (gets bytes met) may = may.0
goes_on setting s (passes text) may = may.0
goes_on setting s (loses got) may = may.0
goes_on setting s (looks look) may = may
goes_on setting s wants may = may

no_more : (setting : LinkSetting) (s : ReadState) (steps : List ReaderStep)
    → s.over ≡ Some ReadEnd.NoMemory
    → AllFit reader_after (MayRead setting) s steps
    → steps ≡ []
no_more setting s [] over fits = refl
no_more setting s (step ∷ steps) over fits =
    let on = goes_on setting s step fits.0 in absurd (cc)

abbrev LacksAll : ReadState → List ReaderStep → Type 0
LacksAll s steps =
    Lacks (flat_map parcels_in steps) (flat_map reader_shelf_calls steps)
    (fold reader_after s steps).over

-- one step and then others, where the step lacks nothing
after_all : (s : ReadState) (step : ReaderStep) (steps : List ReaderStep)
    (first : Lacks (parcels_in step) (reader_shelf_calls step) (reader_after s step).over)
    → first.lacking ≡ []
    → LacksAll (reader_after s step) steps
    → LacksAll s (step ∷ steps)
after_all s step steps first none rest =
    let here : List Parcel = parcels_added (reader_shelf_calls step) in
    let later : List Parcel = parcels_added (flat_map reader_shelf_calls steps) in
    let given : parcels_in step ≡ here =
    first.all ∙ ap (λ l. here ++ l) none ∙ append-nil here in
    record {
      lacking = rest.lacking;
      all =
          ap (λ l. l ++ flat_map parcels_in steps) given
          ∙ ap (λ l. here ++ l) rest.all
          ∙ sym (append_assoc here later rest.lacking)
          ∙ ap (λ l. l ++ rest.lacking)
          (sym (parcels_added-append (reader_shelf_calls step)
          (flat_map reader_shelf_calls steps)));
      only = rest.only;
    }

-- a step that is the last
alone : (s : ReadState) (step : ReaderStep) (steps : List ReaderStep)
    → steps ≡ []
    → Lacks (parcels_in step) (reader_shelf_calls step) (reader_after s step).over
    → LacksAll s (step ∷ steps)
alone s step [] none first = record {
  lacking = first.lacking;
  all =
      append-nil (parcels_in step)
      ∙ first.all
      ∙ ap (λ l. parcels_added l ++ first.lacking) (sym (append-nil (reader_shelf_calls step)));
  only = first.only;
}
alone s step (other ∷ steps) none first = absurd (cc)

-- one step and then others
after_one : (setting : LinkSetting) (s : ReadState) (step : ReaderStep) (steps : List ReaderStep)
    (first : Lacks (parcels_in step) (reader_shelf_calls step) (reader_after s step).over)
    → (first.lacking ≡ []) ⊎ ((reader_after s step).over ≡ Some ReadEnd.NoMemory)
    → AllFit reader_after (MayRead setting) (reader_after s step) steps
    → LacksAll (reader_after s step) steps
    → LacksAll s (step ∷ steps)
after_one setting s step steps first (inl none) fits rest =
    after_all s step steps first none rest
after_one setting s step steps first (inr over) fits rest =
    alone s step steps (no_more setting (reader_after s step) steps over fits) first

from : (setting : LinkSetting) (s : ReadState) (steps : List ReaderStep)
    → AllFit reader_after (MayRead setting) s steps
    → LacksAll s steps
from setting s [] fits = nothing _
from setting s (step ∷ steps) fits =
    let first = one s step in
    after_one setting s step steps first first.only fits.1
    (from setting (reader_after s step) steps fits.1)

unless_wanted : (lacking : List Parcel) (over : Option ReadEnd)
    → (lacking ≡ []) ⊎ (over ≡ Some ReadEnd.NoMemory)
    → over ≢ Some ReadEnd.NoMemory
    → lacking ≡ []
unless_wanted lacking over (inl none) other = none
unless_wanted lacking over (inr is) other = absurd (other is)

pub added_is_released : AddedIsReleased
added_is_released setting token steps fits =
    let all = from setting (first_state token) steps fits in
    (all.lacking, all.all, unless_wanted all.lacking _ all.only)
