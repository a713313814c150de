-- What the accepting worker keeps, step by step.
use Rattle.std.proofs.Common.{◌≡◌, ℕ, ◌≤◌, ◌<◌, zero, suc, List, [], ◌∷◌, ◌++◌, refl, sym, ap, ◌∙◌, subst, arith}
use Rattle.std.proofs.lemmas.List.{map-append}
use Rattle.std.proofs.Math.Nat.{le_trans}
use Rattle.chan_io.specs.Faults.{Merges, Rises}
use Rattle.turn_lock.specs.declared.value.Turn.{Ghosts}
use Rattle.turn_lock.specs.Histories.{calls_of}
use Rattle.turn_lock.specs.Seats.{GetsHalf, KeepsHalf, TakesIn, mine_of, number_of}
use Rattle.session_run.specs.Adds.{AddsCalls, entries_by}
use Rattle.relay_desk.specs.Desks.{DeskStep}
use Rattle.relay_desk.specs.declared.desk_call.DeskAnswer.{DeskAnswer}
use Rattle.relay_desk.specs.declared.desk_call.DeskCall.{DeskCall}
use Rattle.relay_accept.specs.declared.accepting.Acceptor.{Acceptor}
use Rattle.relay_accept.specs.declared.conn_done.ConnDone.{ConnDone}
use Rattle.relay_accept.specs.declared.conn_done.FromConn.{FromConn}
use Rattle.relay_accept.specs.declared.relay_seats.RelaySeats.{RelaySeats}
use Rattle.relay_accept.specs.declared.run_end.RunEnd.{RunEnd}
use Rattle.relay_accept.specs.Accepting.{DeskEntry, Holds, shares_out}
use Rattle.relay_accept.specs.Conns.{ConnEnds}
use Rattle.relay_accept.specs.Ends.{MayEnd, least}
use Rattle.relay_accept.specs.Gathers.{Gathers}
use Rattle.relay_accept.specs.Seats.{locks_of}
use Rattle.relay_accept.proofs.EndLemmas.{MayEnd-before, MayEnd-least, MayEnd-more, draw_fault_behind, store_fault_behind}
use Rattle.relay_accept.proofs.GatherLemmas.{Gathers-calls, Gathers-join, Gathers-split}

-- ---- counts

pub Rises-later : (a b c : ℕ) → Rises a b → b ≤ c → Rises a c
Rises-later a b c rises le = le_trans rises le

pub Rises-before : (a b c : ℕ) → a ≤ b → Rises b c → Rises a c
Rises-before a b c le rises = omega (arith, le, rises)

-- a twin's count that is not 0 shows where it is merged
pub Merges-rises : (a n b : ℕ) → Merges a n b → 0 < n → Rises a b
Merges-rises a zero b merges some = absurd (omega arith)
Merges-rises a (suc n) b merges some = merges

-- ---- calls of entries

pub calls_of-by : (n : ℕ) (calls : List DeskStep) → calls_of (entries_by n calls) ≡ calls
calls_of-by n [] = refl
calls_of-by n (c ∷ cs) = ap (λ l. c ∷ l) (calls_of-by n cs)

pub calls_of-more : (entries : List DeskEntry) (n : ℕ) (calls : List DeskStep)
    → calls_of (entries ++ entries_by n calls) ≡ calls_of entries ++ calls
calls_of-more entries n calls =
    map-append _ entries (entries_by n calls) ∙ ap (λ l. calls_of entries ++ l) (calls_of-by n calls)

module _ {D T : Type 0} {g : Ghosts D DeskCall DeskAnswer T} {W : Type 0} (faults : W → ℕ) where
  -- what became of a worker was taken in
  pub Holds-join : (seats : RelaySeats D DeskCall DeskAnswer T g) (count was now : ℕ)
      (before behind : List (FromConn D DeskCall DeskAnswer T g))
      (p : FromConn D DeskCall DeskAnswer T g)
      (old new : Acceptor D W DeskCall DeskAnswer T g) (done : ConnDone D W DeskCall DeskAnswer T g)
      → mine_of p.seats.value.desk ≡ []
      → ConnEnds faults p.seats.value done
      → TakesIn old.seats.desk done.seats.desk new.seats.desk
      → locks_of new.seats.switches.items ≡ locks_of old.seats.switches.items
      → new.end ≡ least old.end done.end
      → Merges (faults old.spawner) (faults done.spawner) (faults new.spawner)
      → faults old.spawner ≤ faults new.spawner
      → Holds faults seats count was now (before ++ p ∷ behind) old
      → Holds faults seats count was now (before ++ behind) new
  Holds-join seats count was now before behind p old new done none ended joined same end merges
      counted so =
      let calls = ended.ends.calls in
      let more = so.entries ++ entries_by (number_of p.seats.value.desk) calls in
      let S = Rises count (faults new.spawner) in
      let P = Rises was now in
      record {
        entries = more;
        desk =
            subst (λ out. Gathers seats.desk more out new.seats.desk)
            (sym (map-append _ before behind))
            (Gathers-join seats.desk old.seats.desk new.seats.desk p.seats.value.desk
            done.seats.desk so.entries calls (shares_out before) (shares_out behind)
            (subst (λ out. Gathers seats.desk so.entries out old.seats.desk)
            (map-append _ before (p ∷ behind)) so.desk)
            none ended.ends.desk joined);
        switches = same ∙ so.switches;
        counted = le_trans so.counted counted;
        port_counted = so.port_counted;
        ends =
            subst (λ e. MayEnd e (calls_of more) S P) (sym end)
            (subst (λ cs. MayEnd (least old.end done.end) cs S P)
            (sym (calls_of-more so.entries (number_of p.seats.value.desk) calls))
            (MayEnd-least old.end done.end (calls_of so.entries ++ calls) S P
            (MayEnd-before old.end (calls_of so.entries) calls
            (Rises count (faults old.spawner)) S P
            (λ r. Rises-later count (faults old.spawner) (faults new.spawner) r counted) so.ends)
            (MayEnd-more done.end calls (calls_of so.entries ++ calls) (0 < faults done.spawner) S
            ⊥ P
            (store_fault_behind (calls_of so.entries) calls)
            (draw_fault_behind (calls_of so.entries) calls)
            (λ some. Rises-before count (faults old.spawner) (faults new.spawner) so.counted
            (Merges-rises (faults old.spawner) (faults done.spawner) (faults new.spawner) merges some))
            absurd ended.ends.ends)));
      }

  -- a worker more is out, whose seats were split off
  pub Holds-out : (seats : RelaySeats D DeskCall DeskAnswer T g) (count was now : ℕ)
      (out : List (FromConn D DeskCall DeskAnswer T g)) (p : FromConn D DeskCall DeskAnswer T g)
      (old new : Acceptor D W DeskCall DeskAnswer T g)
      → KeepsHalf old.seats.desk new.seats.desk
      → GetsHalf old.seats.desk p.seats.value.desk
      → locks_of new.seats.switches.items ≡ locks_of old.seats.switches.items
      → new.end ≡ old.end
      → faults old.spawner ≤ faults new.spawner
      → Holds faults seats count was now out old
      → Holds faults seats count was now (out ++ p ∷ []) new
  Holds-out seats count was now out p old new kept given same end counted so = record {
    entries = so.entries;
    desk =
        subst (λ l. Gathers seats.desk so.entries l new.seats.desk) (sym (map-append _ out (p ∷ [])))
        (Gathers-split seats.desk old.seats.desk new.seats.desk p.seats.value.desk so.entries
        (shares_out out) so.desk kept given);
    switches = same ∙ so.switches;
    counted = le_trans so.counted counted;
    port_counted = so.port_counted;
    ends =
        subst (λ e. MayEnd e (calls_of so.entries) (Rises count (faults new.spawner)) (Rises was now))
        (sym end)
        (MayEnd-more old.end (calls_of so.entries) (calls_of so.entries)
        (Rises count (faults old.spawner)) (Rises count (faults new.spawner)) (Rises was now)
        (Rises was now) (λ x. x) (λ x. x)
        (λ r. Rises-later count (faults old.spawner) (faults new.spawner) r counted) (λ x. x)
        so.ends);
  }

  -- it ends by itself
  pub Holds-end : (seats : RelaySeats D DeskCall DeskAnswer T g) (count was now : ℕ)
      (out : List (FromConn D DeskCall DeskAnswer T g)) (e : RunEnd)
      (old new : Acceptor D W DeskCall DeskAnswer T g)
      → new ≡ record old { end = least old.end e }
      → (so : Holds faults seats count was now out old)
      → MayEnd e (calls_of so.entries) (Rises count (faults old.spawner)) (Rises was now)
      → Holds faults seats count was now out new
  Holds-end seats count was now out e old new is so may =
      subst (Holds faults seats count was now out) (sym is) record {
        entries = so.entries;
        desk = so.desk;
        switches = so.switches;
        counted = so.counted;
        port_counted = so.port_counted;
        ends =
            MayEnd-least old.end e (calls_of so.entries) (Rises count (faults old.spawner))
            (Rises was now) so.ends may;
      }

  -- the ports' count rose, or stayed
  pub Holds-port : (seats : RelaySeats D DeskCall DeskAnswer T g) (count was now later : ℕ)
      (out : List (FromConn D DeskCall DeskAnswer T g)) (a : Acceptor D W DeskCall DeskAnswer T g)
      → now ≤ later
      → Holds faults seats count was now out a
      → Holds faults seats count was later out a
  Holds-port seats count was now later out a le so = record {
    entries = so.entries;
    desk = so.desk;
    switches = so.switches;
    counted = so.counted;
    port_counted = le_trans so.port_counted le;
    ends =
        MayEnd-more a.end (calls_of so.entries) (calls_of so.entries)
        (Rises count (faults a.spawner)) (Rises count (faults a.spawner)) (Rises was now)
        (Rises was later) (λ x. x) (λ x. x) (λ x. x) (λ r. Rises-later was now later r le) so.ends;
  }

  -- it made calls of its own
  pub Holds-calls : (seats : RelaySeats D DeskCall DeskAnswer T g) (count was now : ℕ)
      (out : List (FromConn D DeskCall DeskAnswer T g)) (calls : List DeskStep)
      (old new : Acceptor D W DeskCall DeskAnswer T g)
      → AddsCalls old.seats.desk calls new.seats.desk
      → locks_of new.seats.switches.items ≡ locks_of old.seats.switches.items
      → new.end ≡ old.end
      → new.spawner ≡ old.spawner
      → (so : Holds faults seats count was now out old)
      → (more : Holds faults seats count was now out new)
      × (calls_of more.entries ≡ calls_of so.entries ++ calls)
  Holds-calls seats count was now out calls old new adds same end spawner so = (
    record {
      entries = so.entries ++ entries_by (number_of seats.desk) calls;
      desk =
          Gathers-calls seats.desk old.seats.desk new.seats.desk so.entries calls (shares_out out)
          so.desk adds;
      switches = same ∙ so.switches;
      counted = subst (λ w. count ≤ faults w) (sym spawner) so.counted;
      port_counted = so.port_counted;
      ends =
          subst
          (λ w. MayEnd new.end (calls_of (so.entries ++ entries_by (number_of seats.desk) calls))
          (Rises count (faults w)) (Rises was now)) (sym spawner)
          (subst
          (λ e. MayEnd e (calls_of (so.entries ++ entries_by (number_of seats.desk) calls))
          (Rises count (faults old.spawner)) (Rises was now)) (sym end)
          (subst (λ cs. MayEnd old.end cs (Rises count (faults old.spawner)) (Rises was now))
          (sym (calls_of-more so.entries (number_of seats.desk) calls))
          (MayEnd-before old.end (calls_of so.entries) calls (Rises count (faults old.spawner))
          (Rises count (faults old.spawner)) (Rises was now) (λ x. x) so.ends)));
    },
    calls_of-more so.entries (number_of seats.desk) calls,
  )
