-- What is seen of a whole world is a run.
use Rattle.std.proofs.Common.{ℕ, ◌≡◌, Option, Some, None, List, [], ◌∷◌, ◌++◌, ⊎_elim, refl, sym, ap, subst, ◌∙◌}
use Rattle.std.specs.List.{All}
use Rattle.std.proofs.lemmas.List.{append-nil}
use Rattle.std.proofs.lemmas.Option.{none-some, same_Some}
use Rattle.std.proofs.lemmas.List.Elements.{All-push}
use Rattle.chan_values.specs.declared.side.Side.{Side}
use Rattle.chan_values.specs.Sides.{other}
use Rattle.channel_core.specs.declared.call.EndAnswer.{EndAnswer}
use Rattle.channel_core.specs.declared.call.EndCall.{EndCall}
use Rattle.channel_core.specs.declared.message.Incoming.{Incoming}
use Rattle.channel_core.specs.declared.message.Outgoing.{Outgoing}
use Rattle.channel_core.specs.declared.answer.Pull.TheVariants as Pull
use Rattle.channel_core.specs.declared.answer.Tick.TheVariants as Tick
use Rattle.channel_core.specs.Call.{Entry}
use Rattle.channel_core.specs.History.{emissions}
use Rattle.channel_core.specs.Legal.{IsLegal, IsNoMemory}
use Rattle.channel_core.specs.World.{Event, WasEmitted, history_of}
use Rattle.channel_core.proofs.HistoryLemmas.{by_pushes}
use Rattle.channel_core.proofs.LegalLemmas.{All-pushed}
use Rattle.channel_core.proofs.WorldLemmas.{IsHonest-pushed, IsLegalWorld-pushed, cases_side, history_of-here, history_of-there}
use Rattle.session_audit.specs.declared.act.Act.{Act}
use Rattle.session_audit.specs.Acts.{IsRemembered, act_of, outs_of}
use Rattle.session_audit.specs.Laws.{WorldIsRun}
use Rattle.session_audit.specs.Moves.{IsHeardOf, IsRun, IsWhole, acts_at, move_of, moves_of}
use Rattle.session_audit.proofs.ReplayLemmas.{emissions-seen, replay_follows}
use Rattle.session_audit.proofs.MoveLemmas.{IsRun-push, nothing_seen, remembers_nothing}
use Rattle.session_audit.proofs.SeenLemmas.{acts_at-moves_of, moves_of-push}

-- ---- what is seen of a world is a run

-- what is seen to be heard was given out, where the call heard what was given out
heard_seen : (outs : List Outgoing) (answer : EndAnswer) (call : EndCall) (act : Act)
    → act_of answer call ≡ Some act
    → WasEmitted outs call
    → IsHeardOf outs act
heard_seen outs answer call act is emitted = at answer call is emitted
  where
    same : (now : ℕ) (incoming : Incoming)
        → WasEmitted outs (EndCall.Heard now incoming)
        → WasEmitted outs (EndCall.Heard 0 incoming)
    same now (Incoming.Stream n id item last) emitted = emitted
    same now (Incoming.Ack n) emitted = emitted
    same now incoming emitted = tt

    give : (o : Act) → Some o ≡ Some act → IsHeardOf outs o → IsHeardOf outs act
    give o is heard = subst (IsHeardOf outs) (same_Some o act is) heard

    at : (answer : EndAnswer) (call : EndCall)
        → act_of answer call ≡ Some act
        → WasEmitted outs call
        → IsHeardOf outs act
    at (EndAnswer.Pull (Pull.Emit out)) call is emitted = give (Act.Emits out) is tt
    at (EndAnswer.Tick (Tick.GaveUp n)) call is emitted = give Act.Closes is tt
    at answer (EndCall.Heard now incoming) is emitted =
        give (Act.Hears incoming) is (same now incoming emitted)
    at answer (EndCall.Opened now) is emitted = give Act.Opens is tt
    at answer EndCall.Lost is emitted = give Act.Loses is tt
    at answer EndCall.Close is emitted = give Act.Closes is tt
    at answer call is emitted = absurd (none-some act is)

-- what is remembered of a world is remembered of each end
remembered_at : (side : Side) (world : List Event)
    → All (λ x. ¬ IsNoMemory x.entry.call x.entry.answer) world
    → IsRemembered (history_of side world)
remembered_at side world =
    by_pushes
    (λ (world : List Event).
    All (λ x. ¬ IsNoMemory x.entry.call x.entry.answer) world
    → IsRemembered (history_of side world))
    (λ memory. remembers_nothing side)
    (λ world x before memory.
    let parts = All-pushed (λ (y : Event). ¬ IsNoMemory y.entry.call y.entry.answer) world x memory in
    ⊎_elim
    (λ (here : x.side ≡ side). rw (history_of-here side world x here)
    (All-push
    (λ (e : Entry). ¬ IsNoMemory e.call e.answer)
    (history_of side world) x.entry (before parts.0) parts.1))
    (λ (there : x.side ≡ other side). rw (history_of-there side world x there) (before parts.0))
    (cases_side side x.side))
    world

-- the front of a whole world is whole
IsWhole-front : (w : ℕ) (world : List Event) (x : Event)
    → IsWhole w (world ++ x ∷ [])
    → IsWhole w world
IsWhole-front w world x whole =
    record {
      legal = (IsLegalWorld-pushed w world x whole.legal).0;
      honest = (IsHonest-pushed world x whole.honest).0;
      remembered =
          (All-pushed
          (λ (y : Event). ¬ IsNoMemory y.entry.call y.entry.answer) world x whole.remembered).0;
    }

pub world_is_run : WorldIsRun
world_is_run w world some =
    by_pushes
    (λ (world : List Event). IsWhole w world → IsRun w (moves_of world))
    (λ whole. nothing_seen w)
    (λ world x before whole.
    one world x (act_of x.entry.answer x.entry.call) refl whole (before (IsWhole-front w world x whole)))
    world
  where
    one : (world : List Event) (x : Event) (o : Option Act)
        → act_of x.entry.answer x.entry.call ≡ o
        → IsWhole w (world ++ x ∷ [])
        → IsRun w (moves_of world)
        → IsRun w (moves_of (world ++ x ∷ []))
    one world x None is whole run =
        rw (moves_of-push world x, is, append-nil (moves_of world)) run
    one world x (Some act) is whole run =
        let h = history_of x.side world in
        let longer = history_of-here x.side world x refl in
        let legal : IsLegal w (h ++ x.entry ∷ []) = subst (IsLegal w) longer (whole.legal x.side) in
        let memory : IsRemembered (h ++ x.entry ∷ [])
        = subst IsRemembered longer (remembered_at x.side (world ++ x ∷ []) whole.remembered) in
        let replays = replay_follows w h x.entry act some legal memory is in
        let found = (All-pushed
        (λ (y : Event). ¬ IsNoMemory y.entry.call y.entry.answer) world x whole.remembered).1 in
        let emitted = (IsHonest-pushed world x whole.honest).1 found in
        let heard = heard_seen (emissions (history_of (other x.side) world))
        x.entry.answer x.entry.call act is emitted in
        let given : emissions (history_of (other x.side) world)
        ≡ outs_of (acts_at (other x.side) (moves_of world))
        = emissions-seen (history_of (other x.side) world)
        ∙ ap outs_of (sym (acts_at-moves_of world (other x.side))) in
        rw (moves_of-push world x, is)
        (IsRun-push w (moves_of world) (move_of x.side act) run
        (record {
          replays = rw acts_at-moves_of replays;
          heard = subst (λ (outs : List Outgoing). IsHeardOf outs act) given heard;
        }))
