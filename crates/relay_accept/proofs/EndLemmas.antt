-- Which ends the calls of a worker explain.
use Rattle.std.specs.Prelude.{IfOk, Option, Result, Ok, Err}
use Rattle.std.proofs.Common.{◌≡◌, ℕ, Bool, true, false, ◌||◌, List, [], ◌∷◌, ◌++◌, refl, sym, ap, ◌∙◌, subst, nat_le, if◌then◌else◌}
use Rattle.std.proofs.lemmas.List.Folds.{list_any-append}
use Rattle.turn_lock.specs.declared.seat.Seat.{Seat}
use Rattle.turn_lock.specs.declared.value.Turn.{Ghosts}
use Rattle.session_run.specs.Adds.{AddsCalls}
use Rattle.session_run.proofs.AddsLemmas.{AddsCalls-then}
use Rattle.relay_desk.specs.declared.desk_call.DeskAnswer.{DeskAnswer}
use Rattle.relay_desk.specs.declared.desk_call.DeskCall.{DeskCall}
use Rattle.relay_desk.specs.declared.heard.Heard.{Heard}
use Rattle.relay_desk.specs.Desks.{DeskStep}
use Rattle.relay_desk.specs.Hearing.{Stepping, steps, stepping_desk, stepping_end, undrawn}
use Rattle.relay_run.specs.declared.send_end.SendEnd.{SendEnd}
use Rattle.relay_accept.specs.declared.run_end.RunEnd.{RunEnd}
use Rattle.std.specs.declared.snapshot.Snapshot.{Snapshot}
use Rattle.chan_io.specs.declared.failed.IoFault.{IoFault}
use Rattle.chan_io.specs.Faults.{IfFailed}
use Rattle.chan_io.specs.Calls.{IsCallOf}
use Rattle.chan_io.specs.declared.running_call.RunningCall.{RunningCall}
use Rattle.relay_accept.specs.declared.conn_done.ConnDone.{ConnDone}
use Rattle.relay_accept.specs.declared.conn_done.FromConn.{FromConn}
use Rattle.relay_accept.specs.declared.relay_seats.RelaySeats.{RelaySeats}
use Rattle.relay_accept.specs.Conns.{ConnEnds, EndsBy, IsStarted}
use Rattle.relay_accept.specs.Ends.{IsEasyEnd, MayEnd, end_of_reading, end_of_sending, has_draw_fault, has_store_fault, least, rank}

-- ---- more calls

or_left : (a b : Bool) → a ≡ true → (a || b) ≡ true
or_left true b is = refl
or_left false b is = ap (λ x. x || b) is

or_right : (a b : Bool) → b ≡ true → (a || b) ≡ true
or_right true b is = refl
or_right false b is = is

pub neither : (a b : Bool) → a ≡ false → b ≡ false → (a || b) ≡ false
neither a b one other = ap (λ x. x || b) one ∙ other

pub true_not_false : true ≡ false → ⊥
true_not_false is = cc

pub store_fault_before : (xs ys : List DeskStep) → has_store_fault xs ≡ true → has_store_fault (xs ++ ys) ≡ true
store_fault_before xs ys is = list_any-append _ xs ys ∙ or_left (has_store_fault xs) (has_store_fault ys) is

pub store_fault_behind : (xs ys : List DeskStep) → has_store_fault ys ≡ true → has_store_fault (xs ++ ys) ≡ true
store_fault_behind xs ys is = list_any-append _ xs ys ∙ or_right (has_store_fault xs) (has_store_fault ys) is

pub draw_fault_before : (xs ys : List DeskStep) → has_draw_fault xs ≡ true → has_draw_fault (xs ++ ys) ≡ true
draw_fault_before xs ys is = list_any-append _ xs ys ∙ or_left (has_draw_fault xs) (has_draw_fault ys) is

pub draw_fault_behind : (xs ys : List DeskStep) → has_draw_fault ys ≡ true → has_draw_fault (xs ++ ys) ≡ true
draw_fault_behind xs ys is = list_any-append _ xs ys ∙ or_right (has_draw_fault xs) (has_draw_fault ys) is

pub MayEnd-more : (e : RunEnd) (xs ys : List DeskStep) (S T P Q : Type 0)
    → (has_store_fault xs ≡ true → has_store_fault ys ≡ true)
    → (has_draw_fault xs ≡ true → has_draw_fault ys ≡ true)
    → (S → T)
    → (P → Q)
    → MayEnd e xs S P
    → MayEnd e ys T Q
MayEnd-more RunEnd.NoMemory xs ys S T P Q store draw start port may = tt
MayEnd-more RunEnd.NoThread xs ys S T P Q store draw start port may = start may
MayEnd-more RunEnd.Port xs ys S T P Q store draw start port may = port may
MayEnd-more RunEnd.Store xs ys S T P Q store draw start port may = store may
MayEnd-more RunEnd.Entropy xs ys S T P Q store draw start port may = draw may
MayEnd-more RunEnd.Stopped xs ys S T P Q store draw start port may = tt
MayEnd-more RunEnd.Over xs ys S T P Q store draw start port may = tt

-- calls before and behind
pub MayEnd-behind : (e : RunEnd) (xs ys : List DeskStep) (S T P : Type 0)
    → (S → T)
    → MayEnd e ys S P
    → MayEnd e (xs ++ ys) T P
MayEnd-behind e xs ys S T P start may =
    MayEnd-more e ys (xs ++ ys) S T P P (store_fault_behind xs ys) (draw_fault_behind xs ys) start
    (λ p. p) may

pub MayEnd-before : (e : RunEnd) (xs ys : List DeskStep) (S T P : Type 0)
    → (S → T)
    → MayEnd e xs S P
    → MayEnd e (xs ++ ys) T P
MayEnd-before e xs ys S T P start may =
    MayEnd-more e xs (xs ++ ys) S T P P (store_fault_before xs ys) (draw_fault_before xs ys) start
    (λ p. p) may

-- ---- two ends

one_of : (b : Bool) (Q : RunEnd → Type 0) (e f : RunEnd) → Q e → Q f → Q (if b then e else f)
one_of true Q e f p q = p
one_of false Q e f p q = q

pub MayEnd-least : (e f : RunEnd) (xs : List DeskStep) (S P : Type 0)
    → MayEnd e xs S P
    → MayEnd f xs S P
    → MayEnd (least e f) xs S P
MayEnd-least e f xs S P p q = one_of (nat_le (rank e) (rank f)) (λ x. MayEnd x xs S P) e f p q

-- ---- ends without a cause

pub MayEnd-easy : (e : RunEnd) (xs : List DeskStep) (S P : Type 0) → IsEasyEnd e → MayEnd e xs S P
MayEnd-easy RunEnd.NoMemory xs S P easy = tt
MayEnd-easy RunEnd.Over xs S P easy = tt
MayEnd-easy RunEnd.NoThread xs S P easy = absurd easy
MayEnd-easy RunEnd.Port xs S P easy = absurd easy
MayEnd-easy RunEnd.Store xs S P easy = absurd easy
MayEnd-easy RunEnd.Entropy xs S P easy = absurd easy
MayEnd-easy RunEnd.Stopped xs S P easy = absurd easy

pub MayEnd-sent : (end : SendEnd) (xs : List DeskStep) (S P : Type 0) → MayEnd (end_of_sending end) xs S P
MayEnd-sent SendEnd.Over xs S P = tt
MayEnd-sent SendEnd.Failed xs S P = tt
MayEnd-sent SendEnd.NoMemory xs S P = tt
MayEnd-sent SendEnd.Stopped xs S P = tt

-- ---- one step

pub MayEnd-step : (made : Heard) (s : Stepping) (S P : Type 0)
    → end_of_reading made ≡ RunEnd.Over
    → MayEnd (end_of_reading (stepping_end made s)) (stepping_desk s) S P
MayEnd-step made (undrawn fault) S P over = refl
MayEnd-step made (steps id now true) S P over =
    subst (λ e. MayEnd e (stepping_desk (steps id now true)) S P) (sym over) tt
MayEnd-step made (steps id now false) S P over = tt

-- the register failed when it was asked for an end
pub failed_asked : (name : List ℕ) (result : Result (Option Bool) IoFault) (fault : IoFault)
    → result ≡ Err fault
    → fault ≡ IoFault.Failed
    → has_store_fault ((DeskCall.Ended name, DeskAnswer.Ended result) ∷ []) ≡ true
failed_asked name result fault is failed =
    ap (λ r. has_store_fault ((DeskCall.Ended name, DeskAnswer.Ended r) ∷ [])) (is ∙ ap Err failed)

-- a call that failed
pub when_failed : {X : Type 0} (result : Result X IoFault) (fault : IoFault) (P : Type 0)
    → result ≡ Err fault
    → fault ≡ IoFault.Failed
    → IfFailed result P
    → P
when_failed {X} result fault P is failed told =
    subst (λ (r : Result X IoFault). IfFailed r P) (is ∙ ap Err failed) told

-- ---- a seat

module _ {D T : Type 0} {g : Ghosts D DeskCall DeskAnswer T} where
  -- calls before those that explain the end
  pub EndsBy-behind : (a b c : Seat D DeskCall DeskAnswer T g) (xs : List DeskStep) (e : RunEnd)
      (S S' : Type 0)
      → AddsCalls a xs b
      → (S → S')
      → EndsBy b c e S
      → EndsBy a c e S'
  EndsBy-behind a b c xs e S S' adds start by = record {
    calls = xs ++ by.calls;
    desk = AddsCalls-then a b c xs by.calls adds by.desk;
    ends = MayEnd-behind e xs by.calls S S' ⊥ start by.ends;
  }

  -- the end of the writing worker, beside that of the reading one
  pub EndsBy-sent : (a b : Seat D DeskCall DeskAnswer T g) (e x told : RunEnd) (end : SendEnd)
      (S : Type 0)
      → told ≡ least e x
      → x ≡ end_of_sending end
      → EndsBy a b e S
      → EndsBy a b told S
  EndsBy-sent a b e x told end S is sent by = record {
    calls = by.calls;
    desk = by.desk;
    ends =
        subst (λ y. MayEnd y by.calls S ⊥) (sym (is ∙ ap (least e) sent))
        (MayEnd-least e (end_of_sending end) by.calls S ⊥ by.ends
        (MayEnd-sent end by.calls S ⊥));
  }

  -- a start that failed, and the loss of the connection
  pub EndsBy-unstarted : (a b c : Seat D DeskCall DeskAnswer T g) (xs : List DeskStep) (s : Stepping)
      (heard : Heard) (x told : RunEnd) (S : Type 0)
      → told ≡ least RunEnd.NoThread x
      → x ≡ end_of_reading heard
      → heard ≡ stepping_end Heard.Gone s
      → AddsCalls a xs b
      → AddsCalls b (stepping_desk s) c
      → S
      → EndsBy a c told S
  EndsBy-unstarted a b c xs s heard x told S is read comes before behind start = record {
    calls = xs ++ stepping_desk s;
    desk = AddsCalls-then a b c xs (stepping_desk s) before behind;
    ends =
        subst (λ y. MayEnd y (xs ++ stepping_desk s) S ⊥)
        (sym (is ∙ ap (least RunEnd.NoThread) (read ∙ ap end_of_reading comes)))
        (MayEnd-least RunEnd.NoThread (end_of_reading (stepping_end Heard.Gone s))
        (xs ++ stepping_desk s) S ⊥ start
        (MayEnd-behind (end_of_reading (stepping_end Heard.Gone s)) xs (stepping_desk s) S S ⊥
        (λ y. y) (MayEnd-step Heard.Gone s S ⊥ refl)));
  }

  -- a call that was started with the promise of these seats
  pub started_with : {W : Type 0} (faults : W → ℕ) (seats : RelaySeats D DeskCall DeskAnswer T g)
      (r : Result (RunningCall (ConnDone D W DeskCall DeskAnswer T g) (FromConn D DeskCall DeskAnswer T g)) (ConnDone D W DeskCall DeskAnswer T g))
      (kept : Snapshot (RelaySeats D DeskCall DeskAnswer T g))
      → kept.value ≡ seats
      → IfOk r (IsCallOf (λ (p : FromConn D DeskCall DeskAnswer T g) (done : ConnDone D W DeskCall DeskAnswer T g). ConnEnds faults p.seats.value done) (record { seats = kept }))
      → IfOk r (IsStarted faults seats)
  started_with faults seats (Ok call) kept has is = record { promise = record { seats = kept }; is_call = is; has = has }
  started_with faults seats (Err done) kept has is = tt

  -- what a call that was started ended with
  pub conn_ended : {W : Type 0} (faults : W → ℕ) (seats : RelaySeats D DeskCall DeskAnswer T g)
      (call : RunningCall (ConnDone D W DeskCall DeskAnswer T g) (FromConn D DeskCall DeskAnswer T g))
      (done : ConnDone D W DeskCall DeskAnswer T g)
      → IsStarted faults seats call
      → ((p : FromConn D DeskCall DeskAnswer T g)
      → IsCallOf (λ (q : FromConn D DeskCall DeskAnswer T g) (d : ConnDone D W DeskCall DeskAnswer T g). ConnEnds faults q.seats.value d) p call
      → ConnEnds faults p.seats.value done)
      → ConnEnds faults seats done
  conn_ended faults seats call done started kept =
      subst (λ s. ConnEnds faults s done) started.has (kept started.promise started.is_call)
