-- Moves of two ends, and what happened at each end of the world that is replayed for them.
use Rattle.std.proofs.Common.{ℕ, ◌≡◌, Option, Some, None, List, [], ◌∷◌, ◌++◌, ⊎_elim, refl, sym, ap, subst, ◌∙◌, append_assoc, map}
use Rattle.std.specs.List.{cons_option}
use Rattle.std.proofs.lemmas.Grind.{fold-append}
use Rattle.std.proofs.lemmas.List.{append-nil}
use Rattle.std.proofs.lemmas.List.Elements.{All-nil, All-push, filter_map-append}
use Rattle.chan_values.specs.declared.side.Side.{Side}
use Rattle.chan_values.specs.declared.side.Side.TheVariants.{Plugin, Agent}
use Rattle.chan_values.specs.Sides.{other}
use Rattle.channel_core.specs.Call.{Entry, with_earlier}
use Rattle.channel_core.specs.Legal.{IsNoMemory}
use Rattle.channel_core.specs.World.{Event, history_of}
use Rattle.channel_core.proofs.HistoryLemmas.{by_pushes, with_earlier-push}
use Rattle.channel_core.proofs.LegalLemmas.{All-pushed}
use Rattle.channel_core.proofs.WorldLemmas.{IsHonest-nil, IsLegalWorld-nil, cases_side, history_of-away, history_of-here, other-other}
use Rattle.session_audit.specs.declared.act.Act.{Act}
use Rattle.session_audit.specs.Acts.{IsRemembered, acts_of}
use Rattle.session_audit.specs.Moves.{CanMove, IsRun, IsWhole, Move, act_at, acts_at, event_at, moves_of, replay_world, world_after}
use Rattle.session_audit.specs.Replay.{replay, replay_of}
use Rattle.session_audit.proofs.ReplayLemmas.{replay-push}

-- ---- one more

pub acts_at-push : (side : Side) (moves : List Move) (m : Move)
    → acts_at side (moves ++ m ∷ []) ≡ acts_at side moves ++ cons_option (act_at side m.side m.act) []
unfolding acts_at
acts_at-push side moves m =
    filter_map-append (λ (x : Move). act_at side x.side x.act) moves (m ∷ [])

act_at-same : (side : Side) (act : Act) → act_at side side act ≡ Some act
act_at-same Plugin act = refl
act_at-same Agent act = refl

act_at-other : (side : Side) (act : Act) → act_at side (other side) act ≡ None
act_at-other Plugin act = refl
act_at-other Agent act = refl

-- a move at this end is the last act there
pub acts_at-here : (side : Side) (moves : List Move) (m : Move)
    → m.side ≡ side
    → acts_at side (moves ++ m ∷ []) ≡ acts_at side moves ++ m.act ∷ []
acts_at-here side moves m here =
    acts_at-push side moves m
    ∙ ap
    (λ (o : Option Act). acts_at side moves ++ cons_option o [])
    (ap (λ (z : Side). act_at side z m.act) here ∙ act_at-same side m.act)

-- a move at the other end changes nothing here
pub acts_at-there : (side : Side) (moves : List Move) (m : Move)
    → m.side ≡ other side
    → acts_at side (moves ++ m ∷ []) ≡ acts_at side moves
acts_at-there side moves m there =
    acts_at-push side moves m
    ∙ ap
    (λ (o : Option Act). acts_at side moves ++ cons_option o [])
    (ap (λ (z : Side). act_at side z m.act) there ∙ act_at-other side m.act)
    ∙ append-nil (acts_at side moves)

-- a run is a run and a move that can be done after it
pub IsRun-pushed : (w : ℕ) (moves : List Move) (m : Move)
    → IsRun w (moves ++ m ∷ [])
    → IsRun w moves × CanMove w moves m
unfolding IsRun
IsRun-pushed w moves m run =
    All-pushed
    (λ (p : List Move × Move). CanMove w p.0 p.1)
    (with_earlier moves) (moves, m) (rw with_earlier-push at run)

pub IsRun-push : (w : ℕ) (moves : List Move) (m : Move)
    → IsRun w moves
    → CanMove w moves m
    → IsRun w (moves ++ m ∷ [])
unfolding IsRun
IsRun-push w moves m run can =
    rw with_earlier-push
    (All-push
    (λ (p : List Move × Move). CanMove w p.0 p.1) (with_earlier moves) (moves, m) run can)

pub IsRun-nil : (w : ℕ) → IsRun w []
unfolding IsRun with_earlier
IsRun-nil w = All-nil (λ (p : List Move × Move). CanMove w p.0 p.1)

pub replay_world-push : (w : ℕ) (moves : List Move) (m : Move)
    → replay_world w (moves ++ m ∷ []) ≡ world_after w (replay_world w moves) m
unfolding replay_world
replay_world-push w moves m = fold-append (world_after w) [] moves (m ∷ [])

-- ---- nothing

started : (w : ℕ) (side : Side)
    → history_of side (replay_world w []) ≡ replay w (acts_at side [])
unfolding history_of replay_world replay acts_at
started w side = refl

pub seen_nothing : (side : Side) → acts_at side (moves_of []) ≡ acts_of (history_of side [])
unfolding acts_at moves_of acts_of history_of
seen_nothing side = refl

pub remembers_nothing : (side : Side) → IsRemembered (history_of side [])
unfolding history_of
remembers_nothing side = All-nil (λ (e : Entry). ¬ IsNoMemory e.call e.answer)

pub nothing_seen : (w : ℕ) → IsRun w (moves_of [])
unfolding moves_of
nothing_seen w = IsRun-nil w

pub nothing_run : (w : ℕ) → IsWhole w (replay_world w []) × (moves_of (replay_world w []) ≡ [])
unfolding replay_world moves_of
nothing_run w = (
  record {
    legal = IsLegalWorld-nil w;
    honest = IsHonest-nil;
    remembered = All-nil (λ (x : Event). ¬ IsNoMemory x.entry.call x.entry.answer);
  },
  refl,
)

-- ---- entries of one end, in a world

-- they follow what happened there
history_of-more : (side : Side) (world : List Event) (l : List Entry)
    → history_of side (world ++ map (event_at side) l) ≡ history_of side world ++ l
history_of-more side world [] =
    ap (history_of side) (append-nil world) ∙ sym (append-nil (history_of side world))
history_of-more side world (e ∷ l) =
    let x = event_at side e in
    ap (history_of side) (sym (append_assoc world (x ∷ []) (map (event_at side) l)))
    ∙ history_of-more side (world ++ x ∷ []) l
    ∙ ap (λ (h : List Entry). h ++ l) (history_of-here side world x refl)
    ∙ append_assoc (history_of side world) (e ∷ []) l

-- and change nothing at the other end
history_of-aside : (side : Side) (world : List Event) (l : List Entry)
    → history_of (other side) (world ++ map (event_at side) l) ≡ history_of (other side) world
history_of-aside side world [] = ap (history_of (other side)) (append-nil world)
history_of-aside side world (e ∷ l) =
    let x = event_at side e in
    ap (history_of (other side)) (sym (append_assoc world (x ∷ []) (map (event_at side) l)))
    ∙ history_of-aside side (world ++ x ∷ []) l
    ∙ history_of-away side world x refl

-- what happened at each end of a replayed world is the replay of what is seen there
pub history_of-replay : (w : ℕ) (moves : List Move) (side : Side)
    → history_of side (replay_world w moves) ≡ replay w (acts_at side moves)
history_of-replay w moves =
    by_pushes
    (λ (moves : List Move). (side : Side)
    → history_of side (replay_world w moves) ≡ replay w (acts_at side moves))
    start
    (λ moves m before side. ap (history_of side) (replay_world-push w moves m)
    ∙ ⊎_elim
    (λ (here : m.side ≡ side). at moves m before side here)
    (λ (there : m.side ≡ other side). away moves m before side there)
    (cases_side side m.side))
    moves
  where
    start : (side : Side) → history_of side (replay_world w []) ≡ replay w (acts_at side [])
    start side = started w side

    at : (moves : List Move) (m : Move)
        → ((side : Side) → history_of side (replay_world w moves) ≡ replay w (acts_at side moves))
        → (side : Side)
        → m.side ≡ side
        → history_of side (world_after w (replay_world w moves) m)
        ≡ replay w (acts_at side (moves ++ m ∷ []))
    at moves m before side here =
        subst
        (λ (s : Side).
        history_of s (world_after w (replay_world w moves) m)
        ≡ replay w (acts_at s (moves ++ m ∷ [])))
        here
        (history_of-more m.side (replay_world w moves)
        (replay_of w (history_of m.side (replay_world w moves)) m.act)
        ∙ ap (λ (h : List Entry). h ++ replay_of w h m.act) (before m.side)
        ∙ sym (replay-push w (acts_at m.side moves) m.act)
        ∙ ap (replay w) (sym (acts_at-here m.side moves m refl)))

    away : (moves : List Move) (m : Move)
        → ((side : Side) → history_of side (replay_world w moves) ≡ replay w (acts_at side moves))
        → (side : Side)
        → m.side ≡ other side
        → history_of side (world_after w (replay_world w moves) m)
        ≡ replay w (acts_at side (moves ++ m ∷ []))
    away moves m before side there =
        let back : other m.side ≡ side = ap other there ∙ other-other side in
        subst
        (λ (s : Side).
        history_of s (world_after w (replay_world w moves) m) ≡ history_of s (replay_world w moves))
        back
        (history_of-aside m.side (replay_world w moves)
        (replay_of w (history_of m.side (replay_world w moves)) m.act))
        ∙ before side
        ∙ ap (replay w) (sym (acts_at-there side moves m there))
