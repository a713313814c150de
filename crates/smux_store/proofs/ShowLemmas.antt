-- A stream as it stands after what happened.
use Rattle.std.proofs.Common.{zero, suc, ◌≡◌, ◌≢◌, ℕ, ◌+◌, ◌≤◌, Bool, true, false, eqb, ltb, cond, not, ◌&&◌, ◌||◌, Option, Some, None, List, [], ◌∷◌, ◌++◌, ⊎_elim, refl, sym, ap, subst, ◌∙◌, arith, length, drop}
use Rattle.std.specs.List.{filter_map, list_all, cons_option, sum_by, count_by, IsDistinct}
use Rattle.std.proofs.lemmas.List.{append-nil, length-append}
use Rattle.std.proofs.lemmas.List.Elements.{filter_map-append}
use Rattle.std.proofs.lemmas.List.Folds.{list_all-append}
use Rattle.std.proofs.lemmas.List.Sums.{sum_by_push}
use Rattle.std.proofs.lemmas.Bool.{both_ways, or_cases, eqb-true, eq-eqb, cases_eq}
use Rattle.smux_acts.specs.Acts.{Act, came, came_in, called, syn_in, streams, opened_in, opened, ended, shuts, finished, finishes, over, ends, got, got_in, delivered, delivered_in, live, living}
use Rattle.smux_acts.proofs.Pushes.{holds, came_push, streams_push, opened_push, ended_push, finished_push, over_push, got_push, delivered_push}
use Rattle.smux_store.specs.declared.stream.Stream.{Stream}
use Rattle.smux_store.specs.Kept.{holding, untaken, IsIdle, IsOrderly, WasPassed, stream_at}
use Rattle.smux_store.proofs.SumLemmas.{or_parts, sum_same, sum_away, sum_point, distinct_push}

-- a stream as it stands after these acts
pub record Shows (t : Stream) (sid : ℕ) (a : List Act) : Type 0 where
  pub opened : opened sid a ≡ true
  pub queue : t.queue ≡ untaken sid a
  pub over : t.over ≡ over sid a
  pub shut : t.shut ≡ ended sid a
  pub done : t.finished ≡ finished sid a

pub record Found (sid : ℕ) (a : List Act) (t : Stream) : Type 0 where
  pub live : live sid a ≡ true
  pub shows : Shows t sid a

and_first : (a b : Bool) → (a && b) ≡ true → a ≡ true
and_first true b h = refl
and_first false b h = absurd (both_ways false refl h)

pub some_found : (sid : ℕ) (a : List Act) (t : Stream) → stream_at sid a ≡ Some t → Found sid a t
some_found sid a t h = at (live sid a) refl
  where
    at : (b : Bool) → live sid a ≡ b → Found sid a t
    at false e = absurd (let q : None ≡ Some t = rw e at h in cc)
    at true e = let q : Some
        (record {
          queue = untaken sid a;
          over = over sid a;
          shut = ended sid a;
          finished =
              finished sid a;
        }) ≡ Some t = rw e at h in
        record {
          live = e;
          shows =
              record {
                opened =
                    and_first (opened sid a) (not (ended sid a && finished sid a)) e;
                queue =
                    cc;
                over = cc;
                shut = cc;
                done = cc;
              };
        }

pub none_dead : (sid : ℕ) (a : List Act) → stream_at sid a ≡ None → live sid a ≡ false
none_dead sid a h = at (live sid a) refl
  where
    at : (b : Bool) → live sid a ≡ b → live sid a ≡ false
    at false e = e
    at true e = absurd
        (let q : Some
        (record {
          queue = untaken sid a;
          over = over sid a;
          shut = ended sid a;
          finished =
              finished sid a;
        }) ≡ None = rw e at h in cc)

-- what is kept of such a stream
pub shows_live : (t : Stream) (sid : ℕ) (a : List Act)
    → Shows t sid a
    → live sid a ≡ not (t.shut && t.finished)
shows_live t sid a s = let o = s.opened in let e = s.shut in let f = s.done in rw (o, e, f) refl

pub shows_kept : (t : Stream) (sid : ℕ) (a : List Act)
    → Shows t sid a
    → stream_at sid a ≡ cond (t.shut && t.finished) None (Some t)
shows_kept t sid a s = at (t.shut && t.finished) refl
  where
    at : (b : Bool) → (t.shut && t.finished) ≡ b → stream_at sid a ≡ cond b None (Some t)
    at true e = let l : live sid a ≡ false = shows_live t sid a s ∙ ap not e in rw l refl
    at false e =
        let l : live sid a ≡ true = shows_live t sid a s ∙ ap not e in
        let x = s.queue in let y = s.over in let z = s.shut in let w = s.done in
        rw (l, ← x, ← y, ← z, ← w) refl
