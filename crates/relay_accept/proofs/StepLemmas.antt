-- The accepting worker with those that are out, from step to step.
use Rattle.std.proofs.Common.{◌≡◌, ℕ, ◌≤◌, ◌<◌, suc, length, take, drop, List, [], ◌∷◌, ◌++◌, refl, sym, ap, ◌∙◌, subst, arith}
use Rattle.std.specs.List.{All}
use Rattle.std.specs.declared.snapshot.Snapshot.{Snapshot}
use Rattle.std.proofs.Math.ListN.{get_or}
use Rattle.std.proofs.Math.Seq.{drop-cons}
use Rattle.std.proofs.lemmas.List.{append-nil, map-append, take-append-drop}
use Rattle.std.proofs.lemmas.List.Elements.{All-append, All-cons, All-head, All-nil, All-tail}
use Rattle.chan_io.specs.Faults.{Merges, Rises}
use Rattle.chan_io.specs.declared.running_call.RunningCall.{RunningCall}
use Rattle.atomic_table.specs.Seated.{TableId}
use Rattle.turn_lock.specs.declared.seat.TurnLock.{TurnLock}
use Rattle.turn_lock.specs.declared.value.Turn.{Ghosts}
use Rattle.turn_lock.specs.Seats.{GetsHalf, IsSeatOf, KeepsHalf, SameLock, TakesIn, mine_of}
use Rattle.relay_desk.specs.declared.desk_call.DeskAnswer.{DeskAnswer}
use Rattle.relay_desk.specs.declared.desk_call.DeskCall.{DeskCall}
use Rattle.relay_accept.specs.declared.accepting.Acceptor.{Acceptor}
use Rattle.relay_accept.specs.declared.conn_done.ConnDone.{ConnDone}
use Rattle.relay_accept.specs.declared.conn_done.FromConn.{FromConn}
use Rattle.relay_accept.specs.declared.relay_seats.RelaySeats.{RelaySeats}
use Rattle.relay_accept.specs.declared.run_end.RunEnd.{RunEnd}
use Rattle.relay_accept.specs.Accepting.{AcceptsAll, Holds, IsOut, Loses, Steps, promises}
use Rattle.relay_accept.specs.Conns.{ConnEnds, IsStarted}
use Rattle.relay_accept.specs.Ends.{MayEnd, least}
use Rattle.relay_accept.specs.Seats.{locks_of}
use Rattle.relay_accept.proofs.GatherLemmas.{Gathers-none}
use Rattle.relay_accept.proofs.HoldLemmas.{Holds-end, Holds-join, Holds-out, Holds-port, Rises-before, Rises-later}

-- a worker that is out
abbrev pub OutOf : (D T : Type 0) (g : Ghosts D DeskCall DeskAnswer T) (W L : Type 0) → Type 0
OutOf D T g W L =
    RunningCall (ConnDone D W DeskCall DeskAnswer T g) (FromConn D DeskCall DeskAnswer T g)
    × FromConn D DeskCall DeskAnswer T g
    × L

module _ {D T : Type 0} {g : Ghosts D DeskCall DeskAnswer T} {W : Type 0} (faults : W → ℕ)
    {L : Type 0} (desk : TurnLock D DeskCall DeskAnswer T) (locks : List TableId) where
  -- nothing yet
  pub Steps-none : (port : ℕ) (conns : List (OutOf D T g W L)) (a : (Acceptor D W DeskCall DeskAnswer T g))
      → All (IsOut faults desk locks) conns
      → Steps faults desk locks port port conns conns a a
  Steps-none port conns a out = record {
    same_desk = refl;
    same_switches = refl;
    out = out;
    goes = λ seats count was so. so;
  }

  -- one while after another
  pub Steps-then : (p q r : ℕ) (xs ys zs : List (OutOf D T g W L)) (a b c : (Acceptor D W DeskCall DeskAnswer T g))
      → Steps faults desk locks p q xs ys a b
      → Steps faults desk locks q r ys zs b c
      → Steps faults desk locks p r xs zs a c
  Steps-then p q r xs ys zs a b c x y = record {
    same_desk = y.same_desk ∙ x.same_desk;
    same_switches = y.same_switches ∙ x.same_switches;
    out = y.out;
    goes = λ seats count was so. y.goes seats count was (x.goes seats count was so);
  }

  -- the list of those that are out is another that is equal
  pub Steps-same : (p q : ℕ) (xs ys zs : List (OutOf D T g W L))
      (a b : Acceptor D W DeskCall DeskAnswer T g)
      → zs ≡ ys
      → Steps faults desk locks p q xs ys a b
      → Steps faults desk locks p q xs zs a b
  Steps-same p q xs ys zs a b is x =
      subst (λ l. Steps faults desk locks p q xs l a b) (sym is) x

  -- one of those that are out, and the others
  pub out_at : (before behind : List (OutOf D T g W L)) (c : OutOf D T g W L)
      → All (IsOut faults desk locks) (before ++ c ∷ behind)
      → All (IsOut faults desk locks) (before ++ behind) × IsOut faults desk locks c
  out_at [] behind c all =
      let P = IsOut faults desk locks in (All-tail P c behind all, All-head P c behind all)
  out_at (x ∷ xs) behind c all =
      let P = IsOut faults desk locks in
      let rest = out_at xs behind c (All-tail P x (xs ++ c ∷ behind) all) in
      (All-cons P x (xs ++ behind) (All-head P x (xs ++ c ∷ behind) all) rest.0, rest.1)

  -- the one in a place was taken out
  pub out_in_place : (conns : List (OutOf D T g W L)) (i : ℕ) (c : OutOf D T g W L)
      → i < length conns
      → c ≡ get_or conns i c
      → conns ≡ take i conns ++ c ∷ drop (suc i) conns
  out_in_place conns i c within is =
      sym (take-append-drop i conns)
      ∙ ap (λ l. take i conns ++ l) (drop-cons conns i c within)
      ∙ ap (λ x. take i conns ++ x ∷ drop (suc i) conns) (sym is)

  -- one of those that are out was joined
  pub Steps-lose : (port : ℕ) (before behind all left : List (OutOf D T g W L)) (c : OutOf D T g W L) (a b : (Acceptor D W DeskCall DeskAnswer T g))
      → all ≡ before ++ c ∷ behind
      → left ≡ before ++ behind
      → All (IsOut faults desk locks) all
      → SameLock a.seats.desk b.seats.desk
      → locks_of b.seats.switches.items ≡ locks_of a.seats.switches.items
      → Loses faults c.1 a b
      → Steps faults desk locks port port all left a b
  Steps-lose port before behind all left c a b is are out same switches loses = record {
    same_desk = same;
    same_switches = switches;
    out =
        subst (All (IsOut faults desk locks)) (sym are)
        (out_at before behind c (subst (All (IsOut faults desk locks)) is out)).0;
    goes = λ seats count was so.
        subst (λ l. Holds faults seats count was port l b)
        (sym (ap promises are ∙ map-append _ before behind))
        (loses (promises before) (promises behind) port seats count was
        (subst (λ l. Holds faults seats count was port l a)
        (ap promises is ∙ map-append _ before (c ∷ behind)) so));
  }

  -- it ends by itself, for a cause that needs no call of the desk
  pub Steps-end : (port : ℕ) (conns : List (OutOf D T g W L)) (e : RunEnd) (a b : (Acceptor D W DeskCall DeskAnswer T g))
      → All (IsOut faults desk locks) conns
      → b ≡ record a { end = least a.end e }
      → ((P Q : Type 0) (cs : List _) → MayEnd e cs P Q)
      → Steps faults desk locks port port conns conns a b
  Steps-end port conns e a b out is may = record {
    same_desk = ap (λ x. x.seats.desk.inner.table_id) is;
    same_switches = ap (λ x. locks_of x.seats.switches.items) is;
    out = out;
    goes = λ seats count was so.
        Holds-end faults seats count was port (promises conns) e a b is so (may _ _ _);
  }

  -- a worker was started, with seats that were split off
  pub Steps-start : (port : ℕ) (conns new_conns : List (OutOf D T g W L)) (call : (RunningCall (ConnDone D W DeskCall DeskAnswer T g) (FromConn D DeskCall DeskAnswer T g)))
      (kept : Snapshot (RelaySeats D DeskCall DeskAnswer T g)) (flag : L)
      (seats : RelaySeats D DeskCall DeskAnswer T g) (a b : (Acceptor D W DeskCall DeskAnswer T g))
      → kept.value ≡ seats
      → new_conns ≡ conns ++ (call, record { seats = kept }, flag) ∷ []
      → All (IsOut faults desk locks) conns
      → IsStarted faults seats call
      → IsSeatOf desk a.seats.desk
      → locks_of a.seats.switches.items ≡ locks
      → KeepsHalf a.seats.desk b.seats.desk
      → GetsHalf a.seats.desk seats.desk
      → locks_of b.seats.switches.items ≡ locks_of a.seats.switches.items
      → locks_of seats.switches.items ≡ locks_of a.seats.switches.items
      → b.end ≡ a.end
      → faults a.spawner ≤ faults b.spawner
      → Steps faults desk locks port port conns new_conns a b
  Steps-start port conns new_conns call kept flag seats a b has are out started of_desk of_locks half
      given same others end counted = record {
        same_desk = half.same_lock;
        same_switches = same;
        out =
            subst (All (IsOut faults desk locks)) (sym are)
            (All-append (IsOut faults desk locks) conns _ out
            (All-cons (IsOut faults desk locks) _ [] (record {
              started = subst (λ s. IsStarted faults s call) (sym has) started;
              of_desk = ap (λ s. s.desk.inner.table_id) has ∙ given.same_lock ∙ of_desk;
              none_made = ap (λ s. mine_of s.desk) has ∙ given.none_made;
              of_switches = ap (λ s. locks_of s.switches.items) has ∙ others ∙ of_locks;
            }) (All-nil (IsOut faults desk locks))));
        goes = λ whole count was so.
            subst (λ l. Holds faults whole count was port l b)
            (sym (ap promises are ∙ map-append _ conns _))
            (Holds-out faults whole count was port (promises conns) (record { seats = kept }) a b half
            (subst (λ s. GetsHalf a.seats.desk s.desk) (sym has) given) same end counted so);
      }

  -- a worker could not be started: what it was to have came back
  pub Steps-refused : (port : ℕ) (conns : List (OutOf D T g W L))
      (kept : Snapshot (RelaySeats D DeskCall DeskAnswer T g))
      (seats : RelaySeats D DeskCall DeskAnswer T g) (a b c d : (Acceptor D W DeskCall DeskAnswer T g))
      (done : ConnDone D W DeskCall DeskAnswer T g)
      → kept.value ≡ seats
      → All (IsOut faults desk locks) conns
      → KeepsHalf a.seats.desk b.seats.desk
      → GetsHalf a.seats.desk seats.desk
      → locks_of b.seats.switches.items ≡ locks_of a.seats.switches.items
      → b.end ≡ a.end
      → Rises (faults a.spawner) (faults b.spawner)
      → faults a.spawner ≤ faults b.spawner
      → ConnEnds faults seats done
      → TakesIn b.seats.desk done.seats.desk c.seats.desk
      → locks_of c.seats.switches.items ≡ locks_of b.seats.switches.items
      → c.end ≡ least b.end done.end
      → Merges (faults b.spawner) (faults done.spawner) (faults c.spawner)
      → faults b.spawner ≤ faults c.spawner
      → d ≡ record c { end = least c.end RunEnd.NoThread }
      → Steps faults desk locks port port conns conns a d
  Steps-refused port conns kept seats a b c d done has out half given same end failed counted ended
      joined switches told merges more is = record {
        same_desk =
            ap (λ x. x.seats.desk.inner.table_id) is ∙ joined.same_lock ∙ half.same_lock;
        same_switches = ap (λ x. locks_of x.seats.switches.items) is ∙ switches ∙ same;
        out = out;
        goes = λ whole count was so.
            let p : (FromConn D DeskCall DeskAnswer T g) = record { seats = kept } in
            let given' = subst (λ s. GetsHalf a.seats.desk s.desk) (sym has) given in
            let one =
            Holds-out faults whole count was port (promises conns) p a b half given' same end counted so in
            let two =
            subst (λ l. Holds faults whole count was port l c) (append-nil (promises conns))
            (Holds-join faults whole count was port (promises conns) [] p b c done given'.none_made
            (subst (λ s. ConnEnds faults s done) (sym has) ended) joined switches told merges more one) in
            Holds-end faults whole count was port (promises conns) RunEnd.NoThread c d is two
            (Rises-later count (faults b.spawner) (faults c.spawner)
            (Rises-before count (faults a.spawner) (faults b.spawner) so.counted failed) more);
      }

  -- the ports' count rose, or stayed
  pub Steps-port : (p q : ℕ) (conns : List (OutOf D T g W L))
      (a : Acceptor D W DeskCall DeskAnswer T g)
      → All (IsOut faults desk locks) conns
      → p ≤ q
      → Steps faults desk locks p q conns conns a a
  Steps-port p q conns a out le = record {
    same_desk = refl;
    same_switches = refl;
    out = out;
    goes = λ seats count was so. Holds-port faults seats count was p q (promises conns) a le so;
  }

  -- it ends since the ports failed
  pub Steps-port-end : (p q : ℕ) (conns : List (OutOf D T g W L))
      (a b : Acceptor D W DeskCall DeskAnswer T g)
      → All (IsOut faults desk locks) conns
      → p ≤ q
      → Rises p q
      → b ≡ record a { end = least a.end RunEnd.Port }
      → Steps faults desk locks p q conns conns a b
  Steps-port-end p q conns a b out le failed is = record {
    same_desk = ap (λ x. x.seats.desk.inner.table_id) is;
    same_switches = ap (λ x. locks_of x.seats.switches.items) is;
    out = out;
    goes = λ seats count was so.
        let one = Holds-port faults seats count was p q (promises conns) a le so in
        Holds-end faults seats count was q (promises conns) RunEnd.Port a b is one
        (Rises-before was p q so.port_counted failed);
  }

  -- all were joined
  pub Steps-all : (p r : ℕ) (ys xs : List (OutOf D T g W L))
      (seats : RelaySeats D DeskCall DeskAnswer T g) (spawner : W) (next : ℕ)
      (b c : Acceptor D W DeskCall DeskAnswer T g)
      → ys ≡ []
      → Steps faults desk locks p r ys xs
      (record { seats = seats; spawner = spawner; end = RunEnd.Over; next = next }) b
      → Steps faults desk locks r r xs [] b c
      → AcceptsAll seats (faults spawner) p r c.seats (faults c.spawner) c.end
  Steps-all p r ys xs seats spawner next b c is x y =
      let a : Acceptor D W DeskCall DeskAnswer T g =
      record { seats = seats; spawner = spawner; end = RunEnd.Over; next = next } in
      let first : Holds faults seats (faults spawner) p p [] a = record {
        entries = [];
        desk = Gathers-none seats.desk;
        switches = refl;
        counted = omega arith;
        port_counted = omega arith;
        ends = tt;
      } in
      let last =
      y.goes seats (faults spawner) p
      (x.goes seats (faults spawner) p
      (subst (λ l. Holds faults seats (faults spawner) p p l a) (sym (ap promises is)) first)) in
      record {
        entries = last.entries;
        desk = last.desk;
        switches = last.switches;
        counted = last.counted;
        port_counted = last.port_counted;
        ends = last.ends;
      }
