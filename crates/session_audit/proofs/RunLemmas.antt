-- The world that is replayed for a run shows the run.
use Rattle.std.proofs.Common.{ℕ, ◌≡◌, Bool, true, false, cond, List, [], ◌∷◌, ◌++◌, inl, refl, sym, ap, subst, ◌∙◌, append_assoc, map}
use Rattle.std.specs.List.{All}
use Rattle.std.proofs.lemmas.List.{append-nil}
use Rattle.std.proofs.lemmas.List.Elements.{All-cons, All-head, All-nil, All-push, All-tail}
use Rattle.chan_values.specs.declared.side.Side.{Side}
use Rattle.chan_values.specs.Sides.{other}
use Rattle.channel_core.specs.declared.call.EndCall.{EndCall}
use Rattle.channel_core.specs.declared.message.Outgoing.{Outgoing}
use Rattle.channel_core.specs.Call.{Entry}
use Rattle.channel_core.specs.History.{emissions}
use Rattle.channel_core.specs.Legal.{IsNoMemory}
use Rattle.channel_core.specs.World.{Event, WasEmitted, history_of}
use Rattle.channel_core.proofs.HistoryLemmas.{by_pushes}
use Rattle.channel_core.proofs.WorldLemmas.{IsHonest-push, IsLegalWorld-push, history_of-away, history_of-here}
use Rattle.session_audit.specs.declared.act.Act.{Act}
use Rattle.session_audit.specs.Acts.{acts_of, outs_of}
use Rattle.session_audit.specs.Laws.{RunIsWorld}
use Rattle.session_audit.specs.Moves.{CanMove, IsHeardOf, IsRun, IsWhole, Move, acts_at, event_at, move_of, moves_of, replay_world}
use Rattle.session_audit.specs.Replay.{calls_for, entries_of, entry_of, last_of_all, replay_of, put_call}
use Rattle.session_audit.proofs.ReplayLemmas.{emissions-seen, never_wants}
use Rattle.session_audit.proofs.PutCallLemmas.{puts_in}
use Rattle.session_audit.proofs.MoveLemmas.{history_of-replay, replay_world-push, IsRun-pushed, nothing_run}
use Rattle.session_audit.proofs.SeenLemmas.{acts_at-moves_of, moves_of-more}

-- ---- the world of a run

-- each of these calls hears what was given out
abbrev AllHear : List Outgoing → List EndCall → Type 0
AllHear outs calls = All (WasEmitted outs) calls

-- the calls that are made for an act hear no more than the act
calls_hear : (h : List Entry) (outs : List Outgoing) (act : Act)
    → IsHeardOf outs act
    → AllHear outs (calls_for h act)
calls_hear h outs (Act.Emits (Outgoing.Stream m)) heard = before _ _
  where
    lone : (call : EndCall) → WasEmitted outs call → AllHear outs (call ∷ [])
    lone call is = All-cons (WasEmitted outs) call [] is (All-nil (WasEmitted outs))

    last : AllHear outs (EndCall.Pull 0 ∷ [])
    last = lone (EndCall.Pull 0) tt

    before : (new sent : Bool)
        → AllHear outs
        (cond new (put_call m ∷ [])
        (cond sent (EndCall.Tick last_of_all ∷ []) [])
        ++ EndCall.Pull 0 ∷ [])
    before true sent =
        All-cons (WasEmitted outs) (put_call m) (EndCall.Pull 0 ∷ [])
        ((puts_in m).hears outs) last
    before false true =
        All-cons (WasEmitted outs) (EndCall.Tick last_of_all) (EndCall.Pull 0 ∷ []) tt last
    before false false = last
calls_hear h outs (Act.Emits (Outgoing.Ack n id date)) heard =
    All-cons (WasEmitted outs) (EndCall.Pull date) [] tt (All-nil (WasEmitted outs))
calls_hear h outs (Act.Hears incoming) heard =
    All-cons (WasEmitted outs) (EndCall.Heard 0 incoming) [] heard (All-nil (WasEmitted outs))
calls_hear h outs Act.Opens heard =
    All-cons (WasEmitted outs) (EndCall.Opened 0) [] tt (All-nil (WasEmitted outs))
calls_hear h outs Act.Loses heard =
    All-cons (WasEmitted outs) EndCall.Lost [] tt (All-nil (WasEmitted outs))
calls_hear h outs Act.Closes heard =
    All-cons (WasEmitted outs) EndCall.Close [] tt (All-nil (WasEmitted outs))

-- calls with their answers, of which each hears what was given out, keep a world whole
IsWhole-more : (w : ℕ) (side : Side) (world : List Event) (calls : List EndCall)
    → IsWhole w world
    → AllHear (emissions (history_of (other side) world)) calls
    → IsWhole w (world ++ map (event_at side) (entries_of w (history_of side world) calls))
IsWhole-more w side world [] whole hear = rw append-nil whole
IsWhole-more w side world (call ∷ calls) whole hear =
    let Hear : EndCall → Type 0 = WasEmitted (emissions (history_of (other side) world)) in
    let h = history_of side world in
    let e = entry_of w h call in
    let x = event_at side e in
    let next : IsWhole w (world ++ x ∷ [])
    = record {
      legal = IsLegalWorld-push w world x whole.legal (inl refl);
      honest = IsHonest-push world x whole.honest (λ _. All-head Hear call calls hear);
      remembered = All-push
          (λ (y : Event). ¬ IsNoMemory y.entry.call y.entry.answer)
          world x whole.remembered (never_wants w h call);
    } in
    subst (IsWhole w)
    (append_assoc world (x ∷ []) (map (event_at side) (entries_of w (h ++ e ∷ []) calls)))
    (subst
    (λ (g : List Entry).
    IsWhole w ((world ++ x ∷ []) ++ map (event_at side) (entries_of w g calls)))
    (history_of-here side world x refl)
    (IsWhole-more w side (world ++ x ∷ []) calls next
    (subst
    (λ (g : List Entry). AllHear (emissions g) calls)
    (sym (history_of-away side world x refl))
    (All-tail Hear call calls hear))))

-- the world that is replayed for a run is whole and shows the run
pub run_is_world : RunIsWorld
run_is_world w moves =
    by_pushes
    (λ (moves : List Move). IsRun w moves
    → IsWhole w (replay_world w moves) × (moves_of (replay_world w moves) ≡ moves))
    (λ run. nothing_run w)
    (λ moves m before run. after moves m (IsRun-pushed w moves m run).1
    (before (IsRun-pushed w moves m run).0))
    moves
  where
    after : (moves : List Move) (m : Move)
        → CanMove w moves m
        → IsWhole w (replay_world w moves) × (moves_of (replay_world w moves) ≡ moves)
        → IsWhole w (replay_world w (moves ++ m ∷ []))
        × (moves_of (replay_world w (moves ++ m ∷ [])) ≡ moves ++ m ∷ [])
    after moves m can before =
        let world = replay_world w moves in
        let here = history_of-replay w moves m.side in
        let shown : acts_of (replay_of w (history_of m.side world) m.act) ≡ m.act ∷ []
        = ap (λ (h : List Entry). acts_of (replay_of w h m.act)) here ∙ can.replays in
        let given : emissions (history_of (other m.side) world)
        ≡ outs_of (acts_at (other m.side) moves)
        = emissions-seen (history_of (other m.side) world)
        ∙ ap outs_of (sym (acts_at-moves_of world (other m.side)))
        ∙ ap (λ (ms : List Move). outs_of (acts_at (other m.side) ms)) before.1 in
        let h = history_of m.side world in
        let hear : AllHear (emissions (history_of (other m.side) world)) (calls_for h m.act)
        = rw given (calls_hear h (outs_of (acts_at (other m.side) moves)) m.act can.heard) in (
          rw replay_world-push (IsWhole-more w m.side world (calls_for h m.act) before.0 hear),
          ap moves_of (replay_world-push w moves m)
              ∙ moves_of-more m.side world (replay_of w h m.act)
              ∙ ap (λ (acts : List Act). moves_of world ++ map (move_of m.side) acts) shown
              ∙ ap (λ (ms : List Move). ms ++ m ∷ []) before.1,
        )
