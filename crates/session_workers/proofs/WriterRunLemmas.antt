-- One turn more of a link writer.
use Rattle.std.proofs.Common.{◌≡◌, ℕ, ◌+◌, Bool, true, false, Option, List, [], ◌∷◌, ◌++◌, refl, sym, ap, ◌∙◌, subst, arith}
use Rattle.std.specs.List.{flat_map, sum_by}
use Rattle.std.specs.Prelude.{Result, is_err, is_some, ◌||◌}
use Rattle.std.proofs.lemmas.Grind.{flat_map-append}
use Rattle.std.proofs.lemmas.List.{append-nil}
use Rattle.std.proofs.lemmas.List.Sums.{sum_by-append}
use Rattle.chan_io.specs.LinksOut.{Departures}
use Rattle.chan_io.specs.declared.got.Got.{Got}
use Rattle.chan_values.specs.declared.no_memory.NoMemory.{NoMemory}
use Rattle.chan_values.specs.declared.side.Side.{Side}
use Rattle.channel_core.specs.declared.call.EndAnswer.{EndAnswer}
use Rattle.channel_core.specs.declared.call.EndCall.{EndCall}
use Rattle.turn_lock.specs.declared.seat.Seat.{Seat}
use Rattle.turn_lock.proofs.RunLemmas.{goes_on}
use Rattle.session_run.specs.declared.held.Held.{Held}
use Rattle.session_run.specs.contracts.held.HeldTurn.TheImpl.{ghosts}
use Rattle.session_run.specs.Adds.{AddsCalls}
use Rattle.session_run.proofs.AddsLemmas.{AddsCalls-none, AddsCalls-then}
use Rattle.session_workers.specs.declared.link_writer.LinkWriter.{LinkWriter}
use Rattle.session_workers.specs.Writers.{Writes}
use Rattle.session_workers.specs.WriterRuns.{MayTurn, Progress, Wrote, at_first, progress}
use Rattle.session_workers.specs.Writing.{CountsFailures, Departs, IsWriterTurn, WriterTurn, emits, idles, starves, end_calls, failures, is_last, messages_in, send_in, shelf_calls, starved, told_after}
use Rattle.session_workers.proofs.WritingLemmas.{CountsFailures-none, CountsFailures-then, Departs-none, Departs-then}

-- what all elements give, with one element more
pub flat_map-push : {X A : Type 0} (f : X → List A) (xs : List X) (x : X)
    → flat_map f (xs ++ x ∷ []) ≡ flat_map f xs ++ f x
flat_map-push f xs x =
    flat_map-append f xs (x ∷ []) ∙ ap (λ l. flat_map f xs ++ l) (append-nil (f x))

sum_by-push : {X : Type 0} (f : X → ℕ) (xs : List X) (x : X)
    → sum_by f (xs ++ x ∷ []) ≡ sum_by f xs + f x
sum_by-push f xs x = omega (arith, sum_by-append f xs (x ∷ []))

-- how many sends of a turn failed
abbrev failed_in : WriterTurn → ℕ
failed_in turn = failures (send_in turn)

module _ {U : Type 0} (departures : U → Option Departures) (faults : U → ℕ) where
  pub Wrote-none : (w : LinkWriter U) → w.over ≡ false → Wrote departures faults w [] [] false w
  Wrote-none w new = record {
    may = tt;
    progress = ap (λ (over : Bool). record { told = w.told; over = over; starved = false }) new;
    side = refl;
    end = AddsCalls-none w.end;
    shelf = AddsCalls-none w.shelf;
    sends =
        subst (λ over. Departs [] over (departures w.output) (departures w.output)) (sym new)
        (Departs-none (departures w.output));
    counted = CountsFailures-none (faults w.output);
  }

  -- what was sent, with one turn more
  sends_more : (side mid_side : Side) (turns : List WriterTurn) (turn : WriterTurn)
      (mid_over over : Bool) (o m n : Option Departures)
      → mid_side ≡ side
      → mid_over ≡ false
      → over ≡ is_last turn
      → Departs (flat_map (messages_in side) turns) mid_over o m
      → Departs (messages_in mid_side turn) (is_last turn) m n
      → Departs (flat_map (messages_in side) (turns ++ turn ∷ [])) over o n
  sends_more side mid_side turns turn mid_over over o m n same on last so more =
      let sent : List Got = flat_map (messages_in side) turns in
      let first = subst (λ b. Departs sent b o m) on so in
      let second = subst (λ s. Departs (messages_in s turn) (is_last turn) m n) same more in
      let all = Departs-then sent (messages_in side turn) (is_last turn) o m n first second in
      subst (λ b. Departs (flat_map (messages_in side) (turns ++ turn ∷ [])) b o n) (sym last)
      (subst (λ l. Departs l (is_last turn) o n) (sym (flat_map-push (messages_in side) turns turn))
      all)

  Wrote-step : (old mid new : LinkWriter U) (turns : List WriterTurn) (turn : WriterTurn)
      (answer : Result Unit NoMemory)
      → mid.over ≡ false
      → Wrote departures faults old turns [] false mid
      → Writes departures faults mid turn new answer
      → Wrote departures faults old (turns ++ turn ∷ []) [] (starved turn) new
  Wrote-step old mid new turns turn answer on so w =
      let side = so.side in
      let may : IsWriterTurn old.side mid.told turn =
      subst (λ s. IsWriterTurn s mid.told turn) side w.may in
      let now : Progress = record { told = mid.told; over = mid.over; starved = false } in
      let next : Progress =
      record { told = new.told; over = new.over; starved = starved turn } in
      let told = w.told ∙ ap (λ s. told_after s mid.told turn) side in
      let is : next ≡ progress old.side now turn =
      ap (λ (p : ℕ × Bool). record { told = p.0; over = p.1; starved = starved turn })
      (ap (λ (t : ℕ). (t, new.over)) told
      ∙ ap (λ (o : Bool). (told_after old.side mid.told turn, o)) w.over) in
      let run =
      goes_on (progress old.side) (MayTurn old.side) (at_first old.told) now next turns turn
      so.may so.progress (on, may) is in
      record {
        may = run.0;
        progress = run.1;
        side = w.side ∙ side;
        end =
            subst (λ l. AddsCalls old.end l new.end)
            (ap (λ l. l ++ end_calls turn) (append-nil (flat_map end_calls turns))
            ∙ sym (flat_map-push end_calls turns turn)
            ∙ sym (append-nil _))
            (AddsCalls-then old.end mid.end new.end _ (end_calls turn) so.end w.end);
        shelf =
            subst (λ l. AddsCalls old.shelf l new.shelf)
            (sym (flat_map-push shelf_calls turns turn))
            (AddsCalls-then old.shelf mid.shelf new.shelf _ (shelf_calls turn) so.shelf w.shelf);
        sends =
            sends_more old.side mid.side turns turn mid.over new.over _ _ _ side on w.over
            so.sends w.sends;
        counted =
            subst (λ n. CountsFailures n (faults old.output) (faults new.output))
            (sym (sum_by-push failed_in turns turn))
            (CountsFailures-then _ _ _ _ _ so.counted w.counted);
      }

  -- a turn of which it is known whether memory was wanted
  pub Wrote-more : (old mid new : LinkWriter U) (turns : List WriterTurn) (turn : WriterTurn)
      (answer : Result Unit NoMemory) (b : Bool)
      → is_err answer ≡ b
      → mid.over ≡ false
      → Wrote departures faults old turns [] false mid
      → Writes departures faults mid turn new answer
      → Wrote departures faults old (turns ++ turn ∷ []) [] b new
  Wrote-more old mid new turns turn answer b is on so w =
      subst (λ s. Wrote departures faults old (turns ++ turn ∷ []) [] s new)
      (sym w.starved ∙ is)
      (Wrote-step old mid new turns turn answer on so w)

  -- calls of the end after the last turn
  pub Wrote-closing : (old mid : LinkWriter U) (turns : List WriterTurn)
      (closing : List (EndCall × EndAnswer)) (b : Bool)
      (end : Seat Held EndCall EndAnswer ℕ ghosts)
      → Wrote departures faults old turns [] b mid
      → AddsCalls mid.end closing end
      → Wrote departures faults old turns closing b (record mid { end = end })
  Wrote-closing old mid turns closing b end w adds = record {
    may = w.may;
    progress = w.progress;
    side = w.side;
    end =
        subst (λ l. AddsCalls old.end (l ++ closing) end) (append-nil (flat_map end_calls turns))
        (AddsCalls-then old.end mid.end end _ closing w.end adds);
    shelf = w.shelf;
    sends = w.sends;
    counted = w.counted;
  }

-- a turn in which memory was wanted is the last
pub starved-last : (turn : WriterTurn) → starved turn ≡ true → is_last turn ≡ true
starved-last (emits now out sent) is = is
starved-last (idles now i) is = ap (λ b. is_some i.again || b) is ∙ or_true (is_some i.again)
  where
    or_true : (b : Bool) → (b || true) ≡ true
    or_true true = refl
    or_true false = refl
starved-last (starves now) is = refl
