-- What has happened at the ends, and what their inboxes have, grows with the lines.
use Rattle.std.proofs.Common.{ℕ, Option, Some, None, List, [], ◌∷◌, ◌++◌, refl, sym, ap, subst, ◌∙◌, append_assoc, append-nil}
use Rattle.std.specs.List.{fold}
use Rattle.std.proofs.lemmas.List.Sums.{fold-append}
use Rattle.chan_values.specs.declared.side.Side.{Side}
use Rattle.channel_core.specs.declared.call.EndCall.{EndCall}
use Rattle.channel_core.specs.declared.message.Incoming.{Incoming}
use Rattle.channel_core.specs.declared.message.Outgoing.{Outgoing}
use Rattle.channel_core.specs.Exchange.{incoming_of}
use Rattle.channel_core.specs.History.{emissions}
use Rattle.channel_core.specs.Laws.{IsPrefixOf}
use Rattle.channel_core.specs.Wire.{encoding}
use Rattle.channel_core.specs.World.{history_of}
use Rattle.relay_core.specs.declared.event.Event.{Event}
use Rattle.lab_script.specs.declared.command.Action.{Action}
use Rattle.lab_script.specs.declared.verb.Verb.{Verb}
use Rattle.lab_script.specs.declared.relay_command.RelayAction.{RelayAction}
use Rattle.lab_script.specs.declared.relay_command.RelayCommand.{RelayCommand}
use Rattle.lab_run.specs.Steps.{Step, called, emission_at, events_of, step_of}
use Rattle.lab_relay.specs.Run.{Progress, beginning, progress, progress_after, scene_after}
use Rattle.lab_relay.specs.Scene.{Letter, Scene, after_event, came, lab, last_conn, next_conn}
use Rattle.lab_relay.specs.Steps.{after_loss, after_step, dialed, gone, greeting_to, plain, posted, taken, turn_of}
use Rattle.lab_relay.proofs.OwnedLemmas.{opened}

prefix-same : {X : Type 0} (xs : List X) → IsPrefixOf xs xs
prefix-same xs = ([], append-nil xs)

prefix-then : {X : Type 0} (xs ys zs : List X)
    → IsPrefixOf xs ys → IsPrefixOf ys zs → IsPrefixOf xs zs
prefix-then {X} xs ys zs a b = (
  a.0 ++ b.0,
  sym (append_assoc xs a.0 b.0) ∙ ap (λ (front : List X). front ++ b.0) a.1 ∙ b.1,
)

-- the second scene has all that the first one has, in order, and maybe more behind it
pub record Grows (s t : Scene) : Type 0 where
  pub world : IsPrefixOf s.world t.world
  pub inbox : (side : Side) → IsPrefixOf (s.inbox side) (t.inbox side)

Grows-same : (s : Scene) → Grows s s
Grows-same s = record { world = prefix-same s.world; inbox = λ side. prefix-same (s.inbox side) }

Grows-then : (s t u : Scene) → Grows s t → Grows t u → Grows s u
Grows-then s t u a b =
    record {
      world = prefix-then s.world t.world u.world a.world b.world;
      inbox = λ side.
          prefix-then (s.inbox side) (t.inbox side) (u.inbox side) (a.inbox side) (b.inbox side);
    }

Grows-step : (s : Scene) (step : Step) → Grows s (after_step s step).scene
Grows-step s step =
    record {
      world = (events_of (step ∷ []), refl);
      inbox = λ side. prefix-same (s.inbox side);
    }

Grows-event : (s : Scene) (now line : ℕ) (event : Event) (says : ℕ → Incoming)
    → Grows s (after_event s now line event says)
Grows-event s now line event says =
    record { world = prefix-same s.world; inbox = λ side. (_, refl) }

Grows-loss : (s : Scene) (now line : ℕ) (conn : Option ℕ)
    → Grows s (after_loss s now line conn)
Grows-loss s now line None = Grows-same s
Grows-loss s now line (Some conn) =
    Grows-event s now line (Event.Gone conn) (λ to. Incoming.Pause)

Grows-plain : (w : ℕ) (s : Scene) (now line : ℕ) (side : Side) (action : Action)
    → Grows s (plain w s now line side action).scene
Grows-plain w s now line side action = Grows-step s (step_of w s.world now line side action)

Grows-dialed : (w : ℕ) (s : Scene) (now line : ℕ) (side : Side)
    → Grows s (dialed w s now line side).scene
Grows-dialed w s now line side =
    let made = (plain w s now line side Action.Open).scene in
    Grows-then s made (dialed w s now line side).scene
    (Grows-plain w s now line side Action.Open)
    (Grows-event made now line (opened (came s) side)
    (greeting_to (came s) (next_conn (came s))))

Grows-gone : (w : ℕ) (s : Scene) (now line : ℕ) (side : Side)
    → Grows s (gone w s now line side).scene
Grows-gone w s now line side =
    let lost = (plain w s now line side Action.Lost).scene in
    Grows-then s lost (gone w s now line side).scene
    (Grows-plain w s now line side Action.Lost)
    (Grows-loss lost now line (last_conn (came s) side))

Grows-posted : (s : Scene) (now line : ℕ) (side : Side) (conn : Option ℕ) (out : Option Outgoing)
    → Grows s (posted s now line side conn out).scene
Grows-posted s now line side conn None = Grows-same s
Grows-posted s now line side None (Some out) = Grows-same s
Grows-posted s now line side (Some conn) (Some out) =
    Grows-event s now line (Event.Binary conn (encoding side out)) (λ to. incoming_of out)

Grows-taken : (w : ℕ) (s : Scene) (now line : ℕ) (side : Side) (letter : Option Letter)
    → Grows s (taken w s now line side letter).scene
Grows-taken w s now line side None = Grows-same s
Grows-taken w s now line side (Some letter) =
    Grows-step s (called w s.world line Verb.Take side (EndCall.Heard now letter.says))

Grows-turn : (w : ℕ) (s : Scene) (now line : ℕ) (side : Side) (action : RelayAction)
    → Grows s (turn_of w s now line side action).scene
Grows-turn w s now line side (RelayAction.Put item) =
    Grows-plain w s now line side (Action.Put item)
Grows-turn w s now line side (RelayAction.PutLast item) =
    Grows-plain w s now line side (Action.PutLast item)
Grows-turn w s now line side RelayAction.Pull = Grows-plain w s now line side Action.Pull
Grows-turn w s now line side RelayAction.Tick = Grows-plain w s now line side Action.Tick
Grows-turn w s now line side RelayAction.Close = Grows-plain w s now line side Action.Close
Grows-turn w s now line side RelayAction.Dial = Grows-dialed w s now line side
Grows-turn w s now line side RelayAction.Gone = Grows-gone w s now line side
Grows-turn w s now line side (RelayAction.Post which) =
    Grows-posted s now line side (last_conn (came s) side)
    (emission_at (emissions (history_of side s.world)) which)
Grows-turn w s now line side (RelayAction.Take which) =
    Grows-taken w s now line side (emission_at (s.inbox side) which)

Grows-after : (w : ℕ) (s : Scene) (now line : ℕ) (command : RelayCommand)
    → Grows s (scene_after w s now line command)
Grows-after w s now line (RelayCommand.At moment) = Grows-same s
Grows-after w s now line RelayCommand.Finish =
    Grows-event s now line (Event.EndSession lab) (λ to. Incoming.Closing [])
Grows-after w s now line (RelayCommand.On side action) = Grows-turn w s now line side action

-- lines that follow add to what is there
pub scene-front : (w : ℕ) (front rest : List RelayCommand)
    → Grows (progress w front).scene (progress w (front ++ rest)).scene
unfolding progress
scene-front w front rest =
    subst (λ (p : Progress). Grows (fold (progress_after w) beginning front).scene p.scene)
    (sym (fold-append (progress_after w) beginning front rest))
    (goes (fold (progress_after w) beginning front) rest)
  where
    goes : (p : Progress) (rest : List RelayCommand)
        → Grows p.scene (fold (progress_after w) p rest).scene
    goes p [] = Grows-same p.scene
    goes p (c ∷ cs) =
        let q = progress_after w p c in
        Grows-then p.scene q.scene (fold (progress_after w) q cs).scene
        (Grows-after w p.scene p.now p.line c) (goes q cs)
