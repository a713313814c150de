-- How the order of the streams and the counts go on over any act that may happen.
use Rattle.std.proofs.Common.{◌≡◌, ◌≢◌, ℕ, ◌+◌, ◌*◌, ◌<◌, ◌≤◌, Bool, true, false, eqb, ltb, cond, not, ◌&&◌, Option, Some, None, List, [], ◌∷◌, ◌++◌, ⊎_elim, refl, sym, ap, subst, ◌∙◌, arith, length, drop}
use Rattle.std.specs.List.{list_all, IsDistinct}
use Rattle.std.proofs.lemmas.List.{length-append, length-drop}
use Rattle.std.proofs.lemmas.Bool.{and_parts, both_ways, cases_Bool, le-ltb}
use Rattle.smux_acts.specs.declared.event.Event.{Event}
use Rattle.smux_acts.specs.declared.event.Event.TheVariants as events
use Rattle.smux_acts.specs.Signals.{Signal, Syn, Fin, Psh, Nop, Upd}
use Rattle.smux_acts.specs.Acts.{Act, Began, Wrote, Shut, Took, Finished, Told, Came, came, called, delivered, ended, finished, got, live, living, May, opened, opened_in, over, streams}
use Rattle.smux_acts.proofs.Rows as rows
use Rattle.smux_acts.proofs.Rows.{Row, row}
use Rattle.smux_store.specs.Kept.{holding, untaken, IsOrderly, WasPassed}
use Rattle.smux_store.proofs.ActLemmas.{began, end_touches, end_view, ended_touches, ended_view, opens_here, quiet_came, ready_touches, ready_view, refused_quiet, shut_touches, shut_view, took_touches, took_view, wrote_quiet}
use Rattle.smux_store.proofs.ViewLemmas.{Begins, IsQuiet, Touches, View, alike, begin_holding, begin_living, begin_streams, drop_front, is_live, one, quiet_holding, quiet_living, touch_holding, touch_living, view, waiting}
use Rattle.smux_store.proofs.KindLemmas.{IsTaken, IsTold, begin_orderly, called_test, quiet_orderly, touch_orderly}

-- how many streams an act opens
abbrev pub count_in : Option ℕ → ℕ
count_in None = 0
count_in (Some s) = 1

-- the data that an act brings
abbrev pub gained : Act → List ℕ
gained (Came (Psh s bytes) (Some (events.Ready t))) = bytes
gained act = []

-- what one act more does to the order and to the counts
pub record Goes (role : Bool) (a : List Act) (x : Act) : Type 0 where
  pub orderly : IsOrderly role (a ++ x ∷ [])
  pub living : living (a ++ x ∷ []) ≤ living a + count_in (opened_in x)
  pub holding : holding (a ++ x ∷ []) ≤ holding a + length (gained x)

-- an act that touches no stream
quiet_act : (role : Bool) (a : List Act) (x : Act) → IsQuiet x → IsOrderly role a → Goes role a x
quiet_act role a x q o =
    let l = quiet_living x q a in
    let h = quiet_holding x q a in
    record {
      orderly = quiet_orderly role x q a o;
      living = omega (arith, l);
      holding = omega (arith, h);
    }

-- an act that touches one stream, which was opened: it lives on or not, and what waits is no more
touch_act : (role : Bool) (a : List Act) (x : Act) (s : ℕ) (v : View)
    → Touches s x
    → IsOrderly role a
    → opened s a ≡ true
    → view s (a ++ x ∷ []) ≡ v
    → IsTold v
    → IsTaken v
    → one (is_live v) ≤ one (live s a)
    → length (waiting v) ≤ length (untaken s a) + length (gained x)
    → Goes role a x
touch_act role a x s v t o h e told taken l w =
    let count = touch_living s x t a o.distinct h in
    let sum = touch_holding s x t a o.distinct h in
    let alive : one (live s (a ++ x ∷ [])) ≡ one (is_live v) =
    ap (λ (z : View). one (is_live z)) e in
    let waits : length (untaken s (a ++ x ∷ [])) ≡ length (waiting v) =
    ap (λ (z : View). length (waiting z)) e in
    record {
      orderly = touch_orderly role s x t a h (subst IsTold (sym e) told)
          (subst IsTaken (sym e) taken) o;
      living = omega (arith, count, alive, l);
      holding = omega (arith, sum, waits, w);
    }

-- an act that opens a stream
begin_act : (role : Bool) (a : List Act) (x : Act) (s : ℕ)
    → Begins s x
    → IsOrderly role a
    → opened s a ≡ false
    → WasPassed role (a ++ x ∷ []) s
    → Goes role a x
begin_act role a x s b o new passed =
    let count = begin_living s x b a new in
    let sum = begin_holding s x b a new in
    let i = o.idle s new in
    let none : length (untaken s (a ++ x ∷ [])) ≡ 0 =
    ap (λ (z : View). length (waiting z)) (b.same a)
    ∙ (let g = i.got in let d = i.delivered in rw (g, d) refl) in
    let few : one (live s (a ++ x ∷ [])) ≤ 1 = at_most (live s (a ++ x ∷ [])) in
    let opens : count_in (opened_in x) ≡ 1 = ap count_in b.opens in
    record {
      orderly = begin_orderly role s x b a new passed o;
      living = omega (arith, count, few, opens);
      holding = omega (arith, sum, none);
    }
  where
    at_most : (b : Bool) → one b ≤ 1
    at_most true = omega arith
    at_most false = omega arith

-- a window that is told touches no stream
told_quiet : (s consumed window : ℕ) → IsQuiet (Told s consumed window)
told_quiet s consumed window = record {
  opens = refl;
  all = λ t. alike t (Told s consumed window) refl refl refl refl refl refl;
}

-- which tests let a SYN open a stream
pub opened_inv : (new room : Bool) (s : ℕ)
    → Some (events.Opened s)
    ≡ cond (not new) None (cond room (Some (events.Opened s)) (Some (events.Refused s)))
    → (new ≡ true) × (room ≡ true)
opened_inv true true s e = (refl, refl)
opened_inv true false s e = cc
opened_inv false room s e = cc

-- a stream that was closed, or whose end was told, lives no more than before
fewer : (o e f : Bool) → (o && not (e && f)) ≡ true → (v : Bool) → one v ≤ one (o && not (e && f))
fewer o e f l true = rw l (omega arith)
fewer o e f l false = rw l (omega arith)

-- any act that may happen
pub act_goes : (role : Bool) (a : List Act) (x : Act)
    → Row role a x
    → May role a x
    → IsOrderly role a
    → Goes role a x
act_goes role a x (rows.began _ s e) m o =
    let len : length (streams (a ++ x ∷ [])) ≡ length (streams a) + 1 =
    ap length (begin_streams s x (began s) a) ∙ length-append (streams a) (s ∷ []) in
    let new : opened s a ≡ false = ⊎_elim
    (λ (h : opened s a ≡ true). absurd (let p : WasPassed true a s = o.passed s h in
    omega (arith, p, e)))
    (λ (h : opened s a ≡ false). h)
    (cases_Bool (opened s a)) in
    begin_act true a x s (began s) o new (omega (arith, len, e))
act_goes role a x (rows.wrote _ _ s bytes h e) m o = quiet_act role a x (wrote_quiet s bytes) o
act_goes role a x (rows.shut _ _ s h e) m o =
    touch_act role a x s (record (view s a) { ended = true }) (shut_touches s) o h (shut_view s a)
    (o.told s)
    (o.taken s) (fewer (opened s a) (ended s a) (finished s a) m.0 _) (omega arith)
act_goes role a x (rows.took _ _ s bytes rest n e) m o =
    let new : View = record (view s a) { delivered = delivered s a ++ bytes } in
    let l : length (got s a) ≡ length (delivered s a ++ bytes) + length rest =
    ap length (sym e) ∙ length-append (delivered s a ++ bytes) rest in
    let now = length-drop (length (delivered s a ++ bytes)) (got s a) in
    let old = length-drop (length (delivered s a)) (got s a) in
    let more = length-append (delivered s a) bytes in
    touch_act role a x s new (took_touches s bytes) o (and_parts _ _ m.0).0 (took_view s bytes a)
    (o.told s)
    (omega (arith, l)) (omega arith) (omega (arith, now, old, more))
act_goes role a x (rows.finishes _ _ s h e) m o =
    touch_act role a x s (record (view s a) { finished = true }) (end_touches s) o
    (and_parts _ _ m.0).0
    (end_view s a) (λ i. h) (o.taken s) (fewer (opened s a) (ended s a) (finished s a) m.0 _)
    (omega arith)
act_goes role a x (rows.told _ _ s consumed window) m o =
    quiet_act role a x (told_quiet s consumed window) o
act_goes role a x (rows.opens _ s e) m o =
    let i = opened_inv (list_all (λ t. ltb t s) (called a)) (ltb (living a) 1024) s m in
    let all = i.0 in
    let self : ltb s s ≡ false = le-ltb s s (omega arith) in
    let new : opened s a ≡ false = ⊎_elim
    (λ (h : opened s a ≡ true).
    absurd (both_ways (list_all (λ t. ltb t s) (called a)) (o.passed s h) all))
    (λ (h : opened s a ≡ false). h)
    (cases_Bool (opened s a)) in
    begin_act false a x s (opens_here s) o new (called_test a x s ∙ (rw (all, self) refl))
act_goes role a x (rows.refuses _ s e) m o = quiet_act role a x (refused_quiet s) o
act_goes role a x (rows.syn _ _ s) m o = quiet_act role a x (quiet_came (Syn s)) o
act_goes role a x (rows.ready _ _ s bytes h e) m o =
    let new : View = record (view s a) { got = got s a ++ bytes } in
    let t = o.taken s in
    let front = drop_front (length (delivered s a)) (got s a) bytes t in
    let more = length-append (got s a) bytes in
    let sum = length-append (untaken s a) bytes in
    let w = ap length front in
    touch_act role a x s new (ready_touches s bytes) o h (ready_view s bytes a) (o.told s)
    (omega (arith, t, more)) (omega arith) (omega (arith, w, sum))
act_goes role a x (rows.empty _ _ s) m o = quiet_act role a x (quiet_came (Psh s [])) o
act_goes role a x (rows.passed _ _ s bytes h) m o = quiet_act role a x (quiet_came (Psh s bytes)) o
act_goes role a x (rows.ends _ _ s h e) m o =
    touch_act role a x s (record (view s a) { over = true }) (ended_touches s) o h (ended_view s a)
    (λ i. refl)
    (o.taken s) (omega arith) (omega arith)
act_goes role a x (rows.fin _ _ s h) m o = quiet_act role a x (quiet_came (Fin s)) o
act_goes role a x (rows.nop _ _ s) m o = quiet_act role a x (quiet_came (Nop s)) o
act_goes role a x (rows.upd _ _ s consumed window) m o =
    quiet_act role a x (quiet_came (Upd s consumed window)) o

-- where nothing happened
pub orderly_start : (role : Bool) → IsOrderly role []
unfolding IsDistinct came streams ended finished over got delivered
orderly_start role = record {
  distinct = tt;
  passed = λ s h. absurd (both_ways false refl h);
  idle = λ s h. record { ended = refl; finished = refl; over = refl; got = refl; delivered = refl };
  told = λ s h. absurd (both_ways false refl h);
  taken = λ s. omega arith;
}

pub living_start : living [] ≡ 0
unfolding streams
living_start = refl

pub holding_start : holding [] ≡ 0
unfolding streams
holding_start = refl
