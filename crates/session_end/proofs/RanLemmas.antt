-- What is known of a worker once its start and its join are known.
use Rattle.std.proofs.Common.{◌≡◌, ℕ, ◌≤◌, Bool, true, false, Option, Some, None, List, [], ◌∷◌, refl, sym, ap, ◌∙◌, subst, arith}
use Rattle.std.specs.Prelude.{is_some}
use Rattle.std.specs.List.{flat_map}
use Rattle.chan_io.specs.Faults.{Rises}
use Rattle.chan_io.specs.LinksIn.{Arrivals}
use Rattle.chan_io.specs.LinksOut.{Departures}
use Rattle.chan_io.specs.declared.dial.Dial.{Dial}
use Rattle.channel_core.specs.declared.call.EndAnswer.{EndAnswer}
use Rattle.channel_core.specs.declared.call.EndCall.{EndCall}
use Rattle.turn_lock.specs.declared.seat.Seat.{Seat}
use Rattle.turn_lock.specs.declared.value.Turn.{Ghosts}
use Rattle.session_run.specs.Adds.{AddsCalls}
use Rattle.session_run.proofs.AddsLemmas.{AddsCalls-none}
use Rattle.session_workers.specs.declared.link_reader.LinkReader.{LinkReader}
use Rattle.session_workers.specs.declared.link_writer.LinkWriter.{LinkWriter}
use Rattle.session_workers.specs.declared.resender.Resender.{Resender}
use Rattle.session_workers.specs.declared.worker_end.WorkerEnd.{WorkerEnd}
use Rattle.session_workers.specs.ReaderRuns.{Reads, ReadsAll, reader_closing}
use Rattle.session_workers.specs.ResendRuns.{ResendsAll}
use Rattle.session_workers.specs.WriterRuns.{Progress, WroteAll}
use Rattle.session_workers.specs.Writing.{CountsFailures, Departs, messages_in}
use Rattle.session_workers.proofs.ReaderRunLemmas.{Reads-none}
use Rattle.session_workers.proofs.WritingLemmas.{CountsFailures-none}
use Rattle.session_end.specs.Ran.{ReaderRan, ResenderRan, WriterRan}
use Rattle.session_end.specs.Starts.{UnlessStarted, closing, closing_unless}

-- a count that rose has risen later too, and from earlier on
pub Rises-wide : (a b c d : ℕ) → a ≤ b → Rises b c → c ≤ d → Rises a d
Rises-wide a b c d first rose last = omega (arith, first, rose, last)

UnlessStarted-wide : {X : Type 0} (b : Bool) (done : List X) (x y z w : ℕ) → x ≤ y → z ≤ w
    → UnlessStarted b done y z
    → UnlessStarted b done x w
UnlessStarted-wide true done x y z w first last s = tt
UnlessStarted-wide false done x y z w first last s = (s.0, Rises-wide x y z w first s.1 last)

UnlessStarted-true : {X : Type 0} (b : Bool) (done : List X) (x y : ℕ) → b ≡ true
    → UnlessStarted b done x y
UnlessStarted-true {X} b done x y is =
    subst (λ (z : Bool). UnlessStarted z done x y) (sym is) tt

UnlessStarted-not : {X : Type 0} (b : Bool) (done : List X) (x y : ℕ) → b ≡ false
    → done ≡ [] → Rises x y
    → UnlessStarted b done x y
UnlessStarted-not {X} b done x y is none rose =
    subst (λ (z : Bool). UnlessStarted z done x y) (sym is) (none, rose)

-- the close of a worker that was started, and of one that was not
pub closing_started : {V T : Type 0} {g : Ghosts V EndCall EndAnswer T}
    (old new : Seat V EndCall EndAnswer T g) (b : Bool)
    → b ≡ true
    → AddsCalls old [] new
    → AddsCalls old (closing_unless b) new
closing_started old new b is adds =
    subst (λ (x : Bool). AddsCalls old (closing_unless x) new) (sym is) adds

pub closing_not : {V T : Type 0} {g : Ghosts V EndCall EndAnswer T}
    (old new : Seat V EndCall EndAnswer T g) (b : Bool)
    → b ≡ false
    → AddsCalls old (closing ∷ []) new
    → AddsCalls old (closing_unless b) new
closing_not old new b is adds =
    subst (λ (x : Bool). AddsCalls old (closing_unless x) new) (sym is) adds

module _ {D N : Type 0} (dials_of : D → Option (List Dial)) (dial_faults : D → ℕ)
    (arrivals_of : N → Option Arrivals) (faults : N → ℕ) (old new : LinkReader D N) where
  pub ReaderRan-wide : (x y z w : ℕ) → x ≤ y → z ≤ w
      → ReaderRan dials_of dial_faults arrivals_of faults old new y z
      → ReaderRan dials_of dial_faults arrivals_of faults old new x w
  ReaderRan-wide x y z w first last ran = record {
    steps = ran.steps;
    reads = ran.reads;
    started =
        UnlessStarted-wide (is_some new.state.over) ran.steps x y z w first last ran.started;
  }

  pub ReaderRan-all : (x y : ℕ) → ReadsAll dials_of dial_faults arrivals_of faults old new
      → ReaderRan dials_of dial_faults arrivals_of faults old new x y
  ReaderRan-all x y all = record {
    steps = all.steps;
    reads = all.reads;
    started = UnlessStarted-true (is_some new.state.over) all.steps x y all.over;
  }

  pub ReaderRan-not : (x y : ℕ) → old.state.over ≡ None → new ≡ old → Rises x y
      → ReaderRan dials_of dial_faults arrivals_of faults old new x y
  ReaderRan-not x y on same rose =
      let over : new.state.over ≡ None = ap (λ (r : LinkReader D N). r.state.over) same ∙ on in
      record {
        steps = [];
        reads =
            subst (λ l. Reads dials_of dial_faults arrivals_of faults old [] l new)
            (sym (ap reader_closing over))
            (subst (λ r. Reads dials_of dial_faults arrivals_of faults old [] [] r) (sym same)
            (Reads-none dials_of dial_faults arrivals_of faults old));
        started =
            UnlessStarted-not (is_some new.state.over) [] x y (ap is_some over) refl rose;
      }

module _ (old new : Resender) (gave_up : Option ℕ) where
  pub ResenderRan-wide : (x y z w : ℕ) → x ≤ y → z ≤ w
      → ResenderRan old new gave_up y z
      → ResenderRan old new gave_up x w
  ResenderRan-wide x y z w first last ran = record {
    turns = ran.turns;
    may = ran.may;
    progress = ran.progress;
    end = ran.end;
    started = UnlessStarted-wide new.over ran.turns x y z w first last ran.started;
  }

  pub ResenderRan-all : (x y : ℕ) → ResendsAll old new gave_up → ResenderRan old new gave_up x y
  ResenderRan-all x y all = record {
    turns = all.turns;
    may = all.resends.may;
    progress = all.resends.progress;
    end = all.resends.end;
    started = UnlessStarted-true new.over all.turns x y all.over;
  }

  pub ResenderRan-not : (x y : ℕ) → old.over ≡ false → new ≡ old → gave_up ≡ None → Rises x y
      → ResenderRan old new gave_up x y
  ResenderRan-not x y on same none rose =
      let over : new.over ≡ false = ap (λ (r : Resender). r.over) same ∙ on in
      record {
        turns = [];
        may = tt;
        progress = λ i. record { over = over i; gave_up = none i };
        end =
            subst (λ (r : Resender). AddsCalls old.end [] r.end) (sym same)
            (AddsCalls-none old.end);
        started = UnlessStarted-not new.over [] x y over refl rose;
      }

module _ {U : Type 0} (departures : U → Option Departures) (faults : U → ℕ)
    (old new : LinkWriter U) where
  pub WriterRan-all : (end : WorkerEnd) (x y : ℕ) → WroteAll departures faults old new end
      → WriterRan departures faults old new (Some end) x y
  WriterRan-all end x y all = record {
    turns = all.turns;
    may = all.wrote.may;
    ended = (
      sym (ap (λ (p : Progress). p.over) all.wrote.progress) ∙ all.over,
      sym (ap (λ (p : Progress). p.starved) all.wrote.progress),
    );
    calls = all.wrote.end;
    shelf = all.wrote.shelf;
    sends =
        subst
        (λ (b : Bool). Departs (flat_map (messages_in old.side) all.turns) b (departures old.output)
        (departures new.output))
        all.over all.wrote.sends;
    counted = all.wrote.counted;
    started = tt;
  }

  -- the writer came back, and its link was shut
  pub WriterRan-not : (x y : ℕ) → new ≡ record old { output = new.output }
      → Departs [] true (departures old.output) (departures new.output)
      → faults new.output ≡ faults old.output
      → Rises x y
      → WriterRan departures faults old new None x y
  WriterRan-not x y same shut steady rose = record {
    turns = [];
    may = tt;
    ended = tt;
    calls =
        subst (λ (w : LinkWriter U). AddsCalls old.end [] w.end) (sym same)
        (AddsCalls-none old.end);
    shelf =
        subst (λ (w : LinkWriter U). AddsCalls old.shelf [] w.shelf) (sym same)
        (AddsCalls-none old.shelf);
    sends = shut;
    counted =
        subst (λ (n : ℕ). CountsFailures 0 (faults old.output) n) (sym steady)
        (CountsFailures-none (faults old.output));
    started = (refl, rose);
  }
