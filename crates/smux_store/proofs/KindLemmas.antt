-- What is orderly stays so over each kind of act.
use Rattle.std.proofs.Common.{zero, suc, ◌≡◌, ◌≢◌, ℕ, ◌+◌, ◌≤◌, Bool, true, false, eqb, ltb, cond, not, ◌&&◌, ◌||◌, Option, Some, None, List, [], ◌∷◌, ◌++◌, ⊎_elim, refl, sym, ap, subst, ◌∙◌, arith, length, drop}
use Rattle.std.specs.List.{filter_map, list_all, cons_option, sum_by, count_by, IsDistinct}
use Rattle.std.proofs.lemmas.List.{append-nil, length-append}
use Rattle.std.proofs.lemmas.List.Elements.{filter_map-append}
use Rattle.std.proofs.lemmas.List.Folds.{list_all-append}
use Rattle.std.proofs.lemmas.List.Sums.{sum_by_push}
use Rattle.std.proofs.lemmas.Bool.{both_ways, or_cases, eqb-true, eq-eqb, cases_eq}
use Rattle.smux_acts.specs.Acts.{Act, came, came_in, called, syn_in, streams, opened_in, opened, ended, shuts, finished, finishes, over, ends, got, got_in, delivered, delivered_in, live, living}
use Rattle.smux_acts.proofs.Pushes.{holds, came_push, streams_push, opened_push, ended_push, finished_push, over_push, got_push, delivered_push}
use Rattle.smux_store.specs.declared.stream.Stream.{Stream}
use Rattle.smux_store.specs.Kept.{holding, untaken, IsIdle, IsOrderly, WasPassed, stream_at}
use Rattle.smux_store.proofs.SumLemmas.{or_parts, sum_same, sum_away, sum_point, distinct_push}
use Rattle.smux_store.proofs.ViewLemmas.{Begins, IsQuiet, Touches, View, begin_streams, or_false, quiet_streams, view}

-- the ids of SYN frames
abbrev pub called_in : Act → List ℕ
called_in x = filter_map syn_in (cons_option (came_in x) [])

pub called_push : (a : List Act) (x : Act) → called (a ++ x ∷ []) ≡ called a ++ called_in x
called_push a x =
    ap (filter_map syn_in) (came_push a x)
    ∙ filter_map-append syn_in (came a) (cons_option (came_in x) [])

pub called_test : (a : List Act) (x : Act) (q : ℕ)
    → list_all (λ t. ltb t q) (called (a ++ x ∷ []))
    ≡ (list_all (λ t. ltb t q) (called a) && list_all (λ t. ltb t q) (called_in x))
called_test a x q =
    ap (list_all (λ t. ltb t q)) (called_push a x)
    ∙ list_all-append (λ t. ltb t q) (called a) (called_in x)

-- an id that was passed stays so
pub passed_on : (role : Bool) (a : List Act) (x : Act) (q : ℕ)
    → WasPassed role a q
    → WasPassed role (a ++ x ∷ []) q
passed_on true a x q h =
    let e : length (streams (a ++ x ∷ []))
    ≡ length (streams a) + length (cons_option (opened_in x) []) =
    ap length (streams_push a x)
    ∙ length-append (streams a) (cons_option (opened_in x) []) in
    omega (arith, h, e)
passed_on false a x q h = called_test a x q ∙ (rw h refl)

idle_by : (s : ℕ) (a b : List Act) → view s b ≡ view s a → IsIdle s a → IsIdle s b
idle_by s a b e i = record {
  ended = ap (λ (v : View). v.ended) e ∙ i.ended;
  finished = ap (λ (v : View). v.finished) e ∙ i.finished;
  over = ap (λ (v : View). v.over) e ∙ i.over;
  got = ap (λ (v : View). v.got) e ∙ i.got;
  delivered = ap (λ (v : View). v.delivered) e ∙ i.delivered;
}

-- an end is told after it came, and what is taken came before
abbrev pub IsTold : View → Type 0
IsTold v = v.finished ≡ true → v.over ≡ true

abbrev pub IsTaken : View → Type 0
IsTaken v = length v.delivered ≤ length v.got

-- what is orderly stays so
pub quiet_orderly : (role : Bool) (x : Act)
    → IsQuiet x
    → (a : List Act)
    → IsOrderly role a
    → IsOrderly role (a ++ x ∷ [])
quiet_orderly role x q a o = record {
  distinct = subst (IsDistinct eqb) (sym (quiet_streams x q.opens a)) o.distinct;
  passed = λ s h.
      passed_on role a x s (o.passed s (ap (λ (v : View). v.opened) (sym (q.all s a)) ∙ h));
  idle = λ s h.
      idle_by s a (a ++ x ∷ []) (q.all s a)
      (o.idle s (ap (λ (v : View). v.opened) (sym (q.all s a)) ∙ h));
  told = λ s. subst IsTold (sym (q.all s a)) (o.told s);
  taken = λ s. subst IsTaken (sym (q.all s a)) (o.taken s);
}

pub touch_opened : (sid : ℕ) (x : Act)
    → Touches sid x
    → (a : List Act) (s : ℕ)
    → opened s (a ++ x ∷ []) ≡ opened s a
touch_opened sid x q a s = opened_push s a x ∙ (let e = q.opens in rw (e, or_false) refl)

pub touch_orderly : (role : Bool) (sid : ℕ) (x : Act)
    → Touches sid x
    → (a : List Act)
    → opened sid a ≡ true
    → IsTold (view sid (a ++ x ∷ []))
    → IsTaken (view sid (a ++ x ∷ []))
    → IsOrderly role a
    → IsOrderly role (a ++ x ∷ [])
touch_orderly role sid x q a t e' g o = record {
  distinct = subst (IsDistinct eqb) (sym (quiet_streams x q.opens a)) o.distinct;
  passed = λ s h. passed_on role a x s (o.passed s (sym (touch_opened sid x q a s) ∙ h));
  idle = λ s h.
      let e : opened s a ≡ false = sym (touch_opened sid x q a s) ∙ h in
      idle_by s a (a ++ x ∷ [])
      (q.others s (λ z. both_ways (opened s a) e (ap (λ (w : ℕ). opened w a) z ∙ t)) a)
      (o.idle s e);
  told = λ s. ⊎_elim (λ (i : s ≡ sid). subst (λ (w : ℕ). IsTold (view w (a ++ x ∷ []))) (sym i) e')
      (λ (ne : s ≢ sid). subst IsTold (sym (q.others s ne a)) (o.told s)) (cases_eq s sid);
  taken = λ s.
      ⊎_elim (λ (i : s ≡ sid). subst (λ (w : ℕ). IsTaken (view w (a ++ x ∷ []))) (sym i) g)
      (λ (ne : s ≢ sid). subst IsTaken (sym (q.others s ne a)) (o.taken s)) (cases_eq s sid);
}

pub begin_orderly : (role : Bool) (sid : ℕ) (x : Act)
    → Begins sid x
    → (a : List Act)
    → opened sid a ≡ false
    → WasPassed role (a ++ x ∷ []) sid
    → IsOrderly role a
    → IsOrderly role (a ++ x ∷ [])
begin_orderly role sid x q a n w o = record {
  distinct = subst (IsDistinct eqb) (sym (begin_streams sid x q a))
      (distinct_push (streams a) sid o.distinct n);
  passed = λ s h. ⊎_elim
      (λ (e : opened s a ≡ true). passed_on role a x s (o.passed s e))
      (λ (e : eqb s sid ≡ true). subst (WasPassed role (a ++ x ∷ [])) (sym (eqb-true s sid e)) w)
      (or_cases (opened s a) (eqb s sid) (sym (now s) ∙ h));
  idle = λ s h.
      let p = or_parts (opened s a) (eqb s sid) (sym (now s) ∙ h) in
      idle_by s a (a ++ x ∷ []) (q.others s (λ z. both_ways (eqb s sid) p.1 (eq-eqb s sid z)) a)
      (o.idle s p.0);
  told = λ s. ⊎_elim
      (λ (i : s ≡ sid).
      subst (λ (w : ℕ). IsTold (view w (a ++ x ∷ []))) (sym i)
      (subst IsTold (sym (q.same a)) (o.told sid)))
      (λ (ne : s ≢ sid). subst IsTold (sym (q.others s ne a)) (o.told s))
      (cases_eq s sid);
  taken = λ s.
      ⊎_elim (λ (i : s ≡ sid).
      subst (λ (w : ℕ). IsTaken (view w (a ++ x ∷ []))) (sym i)
      (subst IsTaken (sym (q.same a)) (o.taken sid)))
      (λ (ne : s ≢ sid). subst IsTaken (sym (q.others s ne a)) (o.taken s))
      (cases_eq s sid);
}
  where
    now : (s : ℕ) → opened s (a ++ x ∷ []) ≡ (opened s a || eqb s sid)
    now s = opened_push s a x ∙ (let e = q.opens in rw e refl)
