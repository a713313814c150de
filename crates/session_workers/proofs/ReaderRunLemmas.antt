-- Steps of a link reader one after another.
use Rattle.std.proofs.Common.{◌≡◌, ℕ, ◌+◌, Option, Some, None, List, [], ◌∷◌, ◌++◌, refl, sym, ap, ◌∙◌, subst, arith, append_assoc}
use Rattle.std.specs.List.{flat_map, fold, sum_by}
use Rattle.std.proofs.lemmas.Grind.{flat_map-append}
use Rattle.std.proofs.lemmas.List.{append-nil}
use Rattle.std.proofs.lemmas.List.Sums.{sum_by-append}
use Rattle.chan_io.specs.declared.dial.Dial.{Dial}
use Rattle.chan_io.specs.LinksIn.{Arrivals}
use Rattle.chan_io.specs.declared.got.Got.{Got}
use Rattle.channel_core.specs.declared.call.EndAnswer.{EndAnswer}
use Rattle.channel_core.specs.declared.call.EndCall.{EndCall}
use Rattle.turn_lock.specs.Runs.{AllFit}
use Rattle.turn_lock.specs.declared.seat.Seat.{Seat}
use Rattle.session_run.specs.contracts.held.HeldTurn.TheImpl.{ghosts}
use Rattle.session_run.specs.declared.held.Held.{Held}
use Rattle.session_workers.specs.declared.link_reader.LinkReader.{LinkReader}
use Rattle.session_run.specs.Adds.{AddsCalls}
use Rattle.session_workers.specs.ReaderRuns.{Reads}
use Rattle.session_workers.specs.Readers.{DialsAll, ReceivesAll, Steps}
use Rattle.session_workers.specs.ReaderSteps.{MayRead, reader_after}
use Rattle.session_workers.specs.Reading.{ReaderStep, arrivals_in, dials_in, failed_in, missed_in, reader_calls, reader_shelf_calls}
use Rattle.session_workers.specs.Writing.{CountsFailures}
use Rattle.session_run.proofs.AddsLemmas.{AddsCalls-none, AddsCalls-then}
use Rattle.session_workers.proofs.ReaderLemmas.{DialsAll-none, ReceivesAll-none}
use Rattle.session_workers.proofs.WritingLemmas.{CountsFailures-none, CountsFailures-then}

module _ {X E : Type 0} (step : X → E → X) where
  -- the state after more events
  fold_then : (x : X) (xs ys : List E) → fold step x (xs ++ ys) ≡ fold step (fold step x xs) ys
  fold_then x [] ys = refl
  fold_then x (e ∷ xs) ys = fold_then (step x e) xs ys

  -- events that fit, and others that fit after them
  AllFit-then : (fits : X → E → Type 0) (x : X) (xs ys : List E) → AllFit step fits x xs
      → AllFit step fits (fold step x xs) ys → AllFit step fits x (xs ++ ys)
  AllFit-then fits x [] ys first second = second
  AllFit-then fits x (e ∷ xs) ys first second =
      (first.0, AllFit-then fits (step x e) xs ys first.1 second)

-- what one element gives
flat_map-one : {X A : Type 0} (f : X → List A) (x : X) → flat_map f (x ∷ []) ≡ f x
flat_map-one f x = append-nil (f x)

CountsFailures-same : (m n a b : ℕ) → m ≡ n → CountsFailures m a b → CountsFailures n a b
CountsFailures-same m n a b is rose = subst (λ (k : ℕ). CountsFailures k a b) is rose

sum_by-one : {X : Type 0} (f : X → ℕ) (x : X) → f x ≡ sum_by f (x ∷ [])
sum_by-one f x = omega arith

DialsAll-then : (xs ys : List Dial) (o m n : Option (List Dial))
    → DialsAll xs o m → DialsAll ys m n → DialsAll (xs ++ ys) o n
DialsAll-then xs ys None m n first second = subst (λ z. DialsAll ys z n) first second
DialsAll-then xs ys (Some before) m n first second =
    subst (λ z. DialsAll ys z n) first second ∙ ap Some (append_assoc before xs ys)

ReceivesAll-then : (xs ys : List (Option Got)) (o m n : Option Arrivals)
    → ReceivesAll xs o m → ReceivesAll ys m n → ReceivesAll (xs ++ ys) o n
ReceivesAll-then xs ys None m n first second = subst (λ z. ReceivesAll ys z n) first second
ReceivesAll-then xs ys (Some before) m n first second =
    let after = subst (λ z. ReceivesAll ys z n) first.1 second in (
      after.0,
      after.1
          ∙ ap (λ l. Some (record { answered = l; coming = after.0 }))
          (append_assoc before.answered xs ys),
    )

module _ {D N : Type 0} (dials_of : D → Option (List Dial)) (dial_faults : D → ℕ)
    (arrivals_of : N → Option Arrivals) (faults : N → ℕ) where
  -- no step
  pub Reads-none : (r : LinkReader D N) → Reads dials_of dial_faults arrivals_of faults r [] [] r
  Reads-none r = record {
    may = tt;
    state = refl;
    setting = refl;
    end = AddsCalls-none r.end;
    shelf = AddsCalls-none r.shelf;
    dials = DialsAll-none (dials_of r.dialer);
    arrivals = ReceivesAll-none (arrivals_of r.input);
    missed = CountsFailures-none (dial_faults r.dialer);
    failed = CountsFailures-none (faults r.input);
  }

  -- one step
  pub Reads-one : (old new : LinkReader D N) (step : ReaderStep)
      → Steps dials_of dial_faults arrivals_of faults old step new
      → Reads dials_of dial_faults arrivals_of faults old (step ∷ []) [] new
  Reads-one old new step s = record {
    may = (s.may, tt);
    state = s.state;
    setting = s.setting;
    end =
        subst (λ l. AddsCalls old.end l new.end)
        (sym (append-nil (flat_map reader_calls (step ∷ [])) ∙ flat_map-one reader_calls step))
        s.end;
    shelf =
        subst (λ l. AddsCalls old.shelf l new.shelf) (sym (flat_map-one reader_shelf_calls step))
        s.shelf;
    dials =
        subst (λ l. DialsAll l (dials_of old.dialer) (dials_of new.dialer))
        (sym (flat_map-one dials_in step)) s.dials;
    arrivals =
        subst (λ l. ReceivesAll l (arrivals_of old.input) (arrivals_of new.input))
        (sym (flat_map-one arrivals_in step)) s.arrivals;
    missed =
        CountsFailures-same (missed_in step) (sum_by missed_in (step ∷ [])) _ _
        (sum_by-one missed_in step) s.missed;
    failed =
        CountsFailures-same (failed_in step) (sum_by failed_in (step ∷ [])) _ _
        (sum_by-one failed_in step) s.failed;
  }

  -- steps and then others
  pub Reads-then : (old mid new : LinkReader D N) (xs ys : List ReaderStep)
      → Reads dials_of dial_faults arrivals_of faults old xs [] mid
      → Reads dials_of dial_faults arrivals_of faults mid ys [] new
      → Reads dials_of dial_faults arrivals_of faults old (xs ++ ys) [] new
  Reads-then old mid new xs ys a b =
      let may = subst (λ s. AllFit reader_after (MayRead s) mid.state ys) a.setting b.may in
      record {
        may = AllFit-then reader_after (MayRead old.setting) old.state xs ys a.may
            (subst (λ s. AllFit reader_after (MayRead old.setting) s ys) a.state may);
        state =
            b.state ∙ ap (λ s. fold reader_after s ys) a.state
            ∙ sym (fold_then reader_after old.state xs ys);
        setting = b.setting ∙ a.setting;
        end = subst (λ l. AddsCalls old.end l new.end)
            (ap (λ l. l ++ (flat_map reader_calls ys ++ [])) (append-nil (flat_map reader_calls xs))
            ∙ ap (λ l. flat_map reader_calls xs ++ l) (append-nil (flat_map reader_calls ys))
            ∙ sym (flat_map-append reader_calls xs ys)
            ∙ sym (append-nil (flat_map reader_calls (xs ++ ys))))
            (AddsCalls-then old.end mid.end new.end _ _ a.end b.end);
        shelf =
            subst (λ l. AddsCalls old.shelf l new.shelf)
            (sym (flat_map-append reader_shelf_calls xs ys))
            (AddsCalls-then old.shelf mid.shelf new.shelf _ _ a.shelf b.shelf);
        dials =
            subst (λ l. DialsAll l (dials_of old.dialer) (dials_of new.dialer))
            (sym (flat_map-append dials_in xs ys))
            (DialsAll-then _ _ _ _ _ a.dials b.dials);
        arrivals =
            subst (λ l. ReceivesAll l (arrivals_of old.input) (arrivals_of new.input))
            (sym (flat_map-append arrivals_in xs ys))
            (ReceivesAll-then _ _ _ _ _ a.arrivals b.arrivals);
        missed =
            CountsFailures-same (sum_by missed_in xs + sum_by missed_in ys)
            (sum_by missed_in (xs ++ ys)) _ _ (sym (sum_by-append missed_in xs ys))
            (CountsFailures-then _ _ _ _ _ a.missed b.missed);
        failed =
            CountsFailures-same (sum_by failed_in xs + sum_by failed_in ys)
            (sum_by failed_in (xs ++ ys)) _ _ (sym (sum_by-append failed_in xs ys))
            (CountsFailures-then _ _ _ _ _ a.failed b.failed);
      }

  -- calls of the end after the last step
  pub Reads-closing : (old mid : LinkReader D N) (steps : List ReaderStep)
      (closing : List (EndCall × EndAnswer))
      (end : Seat Held EndCall EndAnswer ℕ ghosts)
      → Reads dials_of dial_faults arrivals_of faults old steps [] mid
      → AddsCalls mid.end closing end
      → Reads dials_of dial_faults arrivals_of faults old steps closing (record mid { end = end })
  Reads-closing old mid steps closing end r adds = record {
    may = r.may;
    state = r.state;
    setting = r.setting;
    end =
        subst (λ l. AddsCalls old.end (l ++ closing) end)
        (append-nil (flat_map reader_calls steps))
        (AddsCalls-then old.end mid.end end _ closing r.end adds);
    shelf = r.shelf;
    dials = r.dials;
    arrivals = r.arrivals;
    missed = r.missed;
    failed = r.failed;
  }
