-- The accepting worker at the question whether all sessions have ended.
use Rattle.std.proofs.Common.{◌≡◌, ℕ, List, ◌++◌, sym, ap, ◌∙◌, subst}
use Rattle.std.specs.List.{All}
use Rattle.chan_io.specs.Faults.{Rises}
use Rattle.atomic_table.specs.Seated.{TableId}
use Rattle.turn_lock.specs.declared.seat.TurnLock.{TurnLock}
use Rattle.turn_lock.specs.declared.value.Turn.{Ghosts}
use Rattle.relay_desk.specs.declared.desk_call.DeskAnswer.{DeskAnswer}
use Rattle.relay_desk.specs.declared.desk_call.DeskCall.{DeskCall}
use Rattle.relay_accept.specs.declared.accepting.Acceptor.{Acceptor}
use Rattle.relay_accept.specs.declared.run_end.RunEnd.{RunEnd}
use Rattle.relay_accept.specs.Accepting.{IsOut, Steps, promises}
use Rattle.relay_accept.specs.Ends.{MayEnd, least}
use Rattle.relay_accept.specs.Seats.{locks_of}
use Rattle.turn_lock.specs.Histories.{calls_of}
use Rattle.session_run.specs.Adds.{AddsCalls}
use Rattle.relay_desk.specs.Desks.{DeskStep}
use Rattle.relay_accept.proofs.EndLemmas.{MayEnd-more, draw_fault_behind, store_fault_behind}
use Rattle.relay_accept.proofs.HoldLemmas.{Holds-calls, Holds-end}
use Rattle.relay_accept.proofs.StepLemmas.{OutOf}

module _ {D T : Type 0} {g : Ghosts D DeskCall DeskAnswer T} {W : Type 0} (faults : W → ℕ)
    {L : Type 0} (desk : TurnLock D DeskCall DeskAnswer T) (locks : List TableId) where
  -- it asked the desk
  pub Steps-asked : (port : ℕ) (conns : List (OutOf D T g W L)) (calls : List DeskStep)
      (a b : Acceptor D W DeskCall DeskAnswer T g)
      → All (IsOut faults desk locks) conns
      → AddsCalls a.seats.desk calls b.seats.desk
      → locks_of b.seats.switches.items ≡ locks_of a.seats.switches.items
      → b.end ≡ a.end
      → b.spawner ≡ a.spawner
      → Steps faults desk locks port port conns conns a b
  Steps-asked port conns calls a b out adds same end spawner = record {
    same_desk = adds.same_seat.same_lock;
    same_switches = same;
    out = out;
    goes = λ seats count was so.
        (Holds-calls faults seats count was port (promises conns) calls a b adds same end spawner
        so).0;
  }

  -- it asked the desk, and ends for that
  pub Steps-asked-end : (port : ℕ) (conns : List (OutOf D T g W L)) (calls : List DeskStep)
      (e : RunEnd) (a b c : Acceptor D W DeskCall DeskAnswer T g)
      → All (IsOut faults desk locks) conns
      → AddsCalls a.seats.desk calls b.seats.desk
      → locks_of b.seats.switches.items ≡ locks_of a.seats.switches.items
      → b.end ≡ a.end
      → b.spawner ≡ a.spawner
      → MayEnd e calls ⊥ ⊥
      → c ≡ record b { end = least b.end e }
      → Steps faults desk locks port port conns conns a c
  Steps-asked-end port conns calls e a b c out adds same end spawner may is = record {
    same_desk = ap (λ x. x.seats.desk.inner.table_id) is ∙ adds.same_seat.same_lock;
    same_switches = ap (λ x. locks_of x.seats.switches.items) is ∙ same;
    out = out;
    goes = λ seats count was so.
        let more =
        Holds-calls faults seats count was port (promises conns) calls a b adds same end spawner so in
        Holds-end faults seats count was port (promises conns) e b c is more.0
        (subst (λ cs. MayEnd e cs (Rises count (faults b.spawner)) (Rises was port)) (sym more.1)
        (MayEnd-more e calls (calls_of so.entries ++ calls) ⊥ (Rises count (faults b.spawner)) ⊥
        (Rises was port) (store_fault_behind (calls_of so.entries) calls)
        (draw_fault_behind (calls_of so.entries) calls) absurd absurd may));
  }
