-- Where a link was lost, the last six dials failed.
use Rattle.std.proofs.Common.{◌≡◌, ℕ, zero, suc, ◌+◌, ◌-◌, ◌≤◌, Bool, true, false, ◌==◌, Option, Some, None, List, [], ◌∷◌, ◌++◌, length, nat_lt, refl, sym, ap, ◌∙◌, subst, arith, append_assoc}
use Rattle.std.specs.Prelude.{if◌then◌else◌}
use Rattle.std.specs.List.{flat_map, fold}
use Rattle.std.proofs.lemmas.Bool.Decides.{nat_tests}
use Rattle.std.proofs.lemmas.List.{append-nil, length-append}
use Rattle.std.proofs.lemmas.List.Elements.{All-append, All-cons, All-nil}
use Rattle.chan_io.specs.Dials.{dial_with}
use Rattle.chan_io.specs.declared.dial.Dial.{Dial}
use Rattle.turn_lock.specs.Runs.{AllFit}
use Rattle.channel_core.specs.declared.answer.Heard.{Heard}
use Rattle.session_workers.specs.declared.link_setting.LinkSetting.{LinkSetting}
use Rattle.session_workers.specs.declared.read_state.ReadEnd.{ReadEnd}
use Rattle.session_workers.specs.declared.read_state.ReadState.{ReadState}
use Rattle.session_workers.specs.ReaderLaws.{EndsMissed, IsMissed, LostBySix}
use Rattle.session_run.specs.declared.parcel.Parcel.{Parcel}
use Rattle.session_workers.specs.ReaderSteps.{MayRead, added_end, after_miss, first_state, heard_end, meeting_end, reader_after, released_end}
use Rattle.session_workers.specs.Reading.{Met, ReaderStep, arrived, dials_in, hears, drops, full, starves, opens, finishes, refuses, unread, misses, dials, gets, passes, loses, looks, wants}

EndsMissed-none : (ds : List Dial) → EndsMissed 0 ds
EndsMissed-none ds =
    record {
      earlier = ds;
      missed = [];
      parts = sym (append-nil ds);
      count = refl;
      failed = All-nil IsMissed;
    }

EndsMissed-more : (n : ℕ) (ds : List Dial) (opening : List ℕ) → EndsMissed n ds
    → EndsMissed (n + 1) (ds ++ dial_with opening None ∷ [])
EndsMissed-more n ds opening e =
    let d : Dial = dial_with opening None in
    let more = length-append e.missed (d ∷ []) in
    record {
      earlier = e.earlier;
      missed = e.missed ++ d ∷ [];
      parts = ap (λ l. l ++ d ∷ []) e.parts ∙ append_assoc e.earlier e.missed (d ∷ []);
      count = omega (arith, more, e.count);
      failed =
          All-append IsMissed e.missed (d ∷ []) e.failed
          (All-cons IsMissed d [] refl (All-nil IsMissed));
    }

-- so many of the last dials failed, by how many may still fail; six where the link was lost
record Inv (s : ReadState) (ds : List Dial) : Type 0 where
  few : s.tries ≤ 5
  goes_on : s.over ≡ None → EndsMissed (5 - s.tries) ds
  lost : s.over ≡ Some ReadEnd.LinkLost → EndsMissed 6 ds

EndsMissed-count : (m n : ℕ) (ds : List Dial) → m ≡ n → EndsMissed m ds → EndsMissed n ds
EndsMissed-count m n ds is e = subst (λ (k : ℕ). EndsMissed k ds) is e

-- ---- ends other than by a lost link

heard_not_lost : (heard : Heard) → heard_end heard ≡ Some ReadEnd.LinkLost → ⊥
heard_not_lost (Heard.Released items) is = cc
heard_not_lost (Heard.Finished items) is = cc
heard_not_lost Heard.Late is = cc
heard_not_lost Heard.Beyond is = cc
heard_not_lost (Heard.PastEnd seq) is = cc
heard_not_lost (Heard.Acked seq) is = cc
heard_not_lost (Heard.UnknownAck seq) is = cc
heard_not_lost Heard.Paused is = cc
heard_not_lost Heard.Started is = cc
heard_not_lost Heard.Ended is = cc
heard_not_lost Heard.AfterClose is = cc
heard_not_lost (Heard.NoMemory incoming) is = cc

wanted_not_lost : (b : Bool)
    → Path (Option ReadEnd) (if b then Some ReadEnd.NoMemory else None) (Some ReadEnd.LinkLost)
    → ⊥
wanted_not_lost true is = cc
wanted_not_lost false is = cc

closed_not_lost : (b : Bool) (over : Option ReadEnd)
    → over ≡ None
    → Path (Option ReadEnd) (if b then Some ReadEnd.Closed else over) (Some ReadEnd.LinkLost)
    → ⊥
closed_not_lost true over on is = cc
closed_not_lost false over on is = cc

cut_not_lost : (parcels : List Parcel) (added : ℕ)
    → added_end parcels added ≡ Some ReadEnd.LinkLost
    → ⊥
cut_not_lost parcels added is = wanted_not_lost (nat_lt added (length parcels)) is

added_not_lost : (heard : Heard) (added : ℕ)
    → released_end heard added ≡ Some ReadEnd.LinkLost
    → ⊥
added_not_lost (Heard.Released items) added is = cut_not_lost (arrived items false) added is
added_not_lost (Heard.Finished items) added is = cut_not_lost (arrived items true) added is
added_not_lost Heard.Late added is = cc
added_not_lost Heard.Beyond added is = cc
added_not_lost (Heard.PastEnd seq) added is = cc
added_not_lost (Heard.Acked seq) added is = cc
added_not_lost (Heard.UnknownAck seq) added is = cc
added_not_lost Heard.Paused added is = cc
added_not_lost Heard.Started added is = cc
added_not_lost Heard.Ended added is = cc
added_not_lost Heard.AfterClose added is = cc
added_not_lost (Heard.NoMemory incoming) added is = cc

met_not_lost : (met : Met) → meeting_end met ≡ Some ReadEnd.LinkLost → ⊥
met_not_lost (hears now count incoming heard added) is = added_not_lost heard added is
met_not_lost (drops refusal) is = cc
met_not_lost (full incoming count) is = cc
met_not_lost starves is = cc

-- ---- one step

-- no dial was made
kept : (s : ReadState) (ds : List Dial) → s.over ≡ None → Inv s ds
    → EndsMissed (5 - s.tries) (ds ++ [])
kept s ds on inv = subst (EndsMissed (5 - s.tries)) (sym (append-nil ds)) (inv.goes_on on)

not_zero : (n : ℕ) → (suc n == 0) ≡ false
not_zero n = grind (arith, nat_tests)

miss : (t : ℕ) (s : ReadState) (ds : List Dial) (opening : List ℕ) → s.tries ≡ t → s.over ≡ None
    → Inv s ds
    → Inv (after_miss s) (ds ++ dial_with opening None ∷ [])
miss zero s ds opening is on inv =
    let over : (after_miss s).over ≡ Some ReadEnd.LinkLost =
    ap (λ (t : ℕ). if t == 0 then Some ReadEnd.LinkLost else s.over) is in
    record {
      few = omega (arith, is);
      goes_on = λ none. absurd (cc);
      lost =
          λ lost. EndsMissed-more 5 ds opening
          (EndsMissed-count (5 - s.tries) 5 ds (omega (arith, is)) (inv.goes_on on));
    }
miss (suc n) s ds opening is on inv =
    let over : (after_miss s).over ≡ s.over =
    ap (λ (t : ℕ). if t == 0 then Some ReadEnd.LinkLost else s.over) is
    ∙ ap (λ (b : Bool). if b then Some ReadEnd.LinkLost else s.over) (not_zero n) in
    let few = inv.few in
    record {
      few = omega (arith, few);
      goes_on = λ none.
          EndsMissed-count ((5 - s.tries) + 1) (5 - (s.tries - 1)) _ (omega (arith, is, few))
          (EndsMissed-more (5 - s.tries) ds opening (inv.goes_on on));
      lost = λ lost. absurd (cc);
    }

one : (setting : LinkSetting) (s : ReadState) (ds : List Dial) (step : ReaderStep)
    → MayRead setting s step → Inv s ds
    → Inv (reader_after s step) (ds ++ dials_in step)
one setting s ds (misses opening) may inv = miss s.tries s ds opening refl may.0 inv
one setting s ds (dials opening reply (opens now token)) may inv = record {
  few = omega arith;
  goes_on = λ none. EndsMissed-none _;
  lost = λ lost. let on = may.0 in absurd (cc);
}
one setting s ds (dials opening reply (finishes now heard)) may inv = record {
  few = omega arith;
  goes_on = λ none. EndsMissed-none _;
  lost = λ lost. absurd (heard_not_lost heard lost);
}
one setting s ds (dials opening reply refuses) may inv = record {
  few = inv.few;
  goes_on = λ none. absurd (cc);
  lost = λ lost. absurd (cc);
}
one setting s ds (dials opening reply unread) may inv = record {
  few = inv.few;
  goes_on = λ none. absurd (cc);
  lost = λ lost. absurd (cc);
}
one setting s ds (gets bytes met) may inv = record {
  few = inv.few;
  goes_on = λ none. kept s ds may.0 inv;
  lost = λ lost. absurd (met_not_lost met lost);
}
one setting s ds (passes text) may inv = record {
  few = inv.few;
  goes_on = λ none. kept s ds may.0 inv;
  lost = λ lost. let on = may.0 in absurd (cc);
}
one setting s ds (loses got) may inv = record {
  few = inv.few;
  goes_on = λ none. kept s ds may.0 inv;
  lost = λ lost. let on = may.0 in absurd (cc);
}
one setting s ds (looks look) may inv = record {
  few = inv.few;
  goes_on = λ none. kept s ds may inv;
  lost = λ lost. absurd (closed_not_lost look.closed s.over may lost);
}
one setting s ds wants may inv = record {
  few = inv.few;
  goes_on = λ none. absurd (cc);
  lost = λ lost. absurd (cc);
}

-- ---- all steps

from : (setting : LinkSetting) (s : ReadState) (ds : List Dial) (steps : List ReaderStep) → Inv s ds
    → AllFit reader_after (MayRead setting) s steps
    → Inv (fold reader_after s steps) (ds ++ flat_map dials_in steps)
from setting s ds [] inv all = subst (Inv s) (sym (append-nil ds)) inv
from setting s ds (step ∷ steps) inv all =
    subst (Inv (fold reader_after (reader_after s step) steps))
    (append_assoc ds (dials_in step) (flat_map dials_in steps))
    (from setting (reader_after s step) (ds ++ dials_in step) steps
    (one setting s ds step all.0 inv) all.1)

pub lost_by_six : LostBySix
lost_by_six setting token steps all lost =
    (from setting (first_state token) [] steps (record {
      few = omega arith;
      goes_on = λ none. EndsMissed-none [];
      lost = λ lost. absurd (cc);
    }) all).lost lost
