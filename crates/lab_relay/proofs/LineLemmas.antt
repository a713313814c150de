-- Each line keeps the world of the two ends legal and honest.
use Rattle.std.proofs.Common.{◌≡◌, ℕ, Option, Some, None, List, [], ◌∷◌, ◌++◌, refl, sym, subst}
use Rattle.std.specs.List.{All, filter_map, fold}
use Rattle.std.proofs.lemmas.List.Elements.{All-append, All-nil}
use Rattle.chan_values.specs.declared.side.Side.{Side}
use Rattle.channel_core.specs.declared.call.EndCall.{EndCall}
use Rattle.channel_core.specs.declared.message.Incoming.{Incoming}
use Rattle.channel_core.specs.declared.message.Outgoing.{Outgoing}
use Rattle.channel_core.specs.Exchange.{incoming_of}
use Rattle.channel_core.specs.History.{emissions}
use Rattle.channel_core.specs.Wire.{encoding}
use Rattle.channel_core.specs.World.{history_of}
use Rattle.channel_core.proofs.WorldLemmas.{IsRight, IsRight-nil, IsRight-push}
use Rattle.relay_core.specs.declared.event.Event.{Event}
use Rattle.relay_core.specs.Forwarding.{actions}
use Rattle.lab_script.specs.declared.command.Action.{Action}
use Rattle.lab_script.specs.declared.relay_command.RelayAction.{RelayAction}
use Rattle.lab_script.specs.declared.relay_command.RelayCommand.{RelayCommand}
use Rattle.lab_script.specs.declared.word.Which.{Which}
use Rattle.lab_run.specs.Steps.{emission_at, events_of, id_of, step_of}
use Rattle.lab_run.proofs.EmissionLemmas.{All-emission}
use Rattle.lab_run.proofs.RightLemmas.{IsRight-step}
use Rattle.lab_relay.specs.Held.{AreOwned, IsHonestLetter}
use Rattle.lab_relay.specs.Run.{Progress, beginning, progress, progress_after, scene_after}
use Rattle.lab_relay.specs.Scene.{Letter, Scene, after_event, came, lab, last_conn, letter_to, next_conn, start}
use Rattle.lab_relay.specs.Steps.{after_loss, dialed, gone, greeting_to, plain, posted, taken, turn_of}
use Rattle.lab_relay.proofs.ArrivedLemmas.{came-push}
use Rattle.lab_relay.proofs.OwnedLemmas.{AreOwned-nil, AreOwned-opened, AreOwned-quiet, IsQuiet-binary, IsQuiet-end, IsQuiet-gone, opened}
use Rattle.lab_relay.proofs.PostLemmas.{WasEmitted-which, honest-posted}
use Rattle.lab_relay.proofs.SceneLemmas.{honest-opened, honest-own}
use Rattle.lab_relay.proofs.WorldLemmas.{honest-longer}

-- the world is legal and honest, the connections are those of their ends, and what the relay sent was
-- emitted at the other end
pub record IsSound (w : ℕ) (s : Scene) : Type 0 where
  pub right : IsRight w s.world
  pub owned : AreOwned (came s)
  pub honest : (side : Side) → All (IsHonestLetter s.world side) (s.inbox side)

pub sound-start : (w : ℕ) → IsSound w start
sound-start w =
    record { right = IsRight-nil w; owned = AreOwned-nil; honest = λ side. All-nil _ }

pub sound-plain : (w : ℕ) (s : Scene) (now line : ℕ) (side : Side) (action : Action)
    → IsSound w s → IsSound w (plain w s now line side action).scene
sound-plain w s now line side action sound =
    record {
      right = IsRight-step w s.world now line side action sound.right;
      owned = sound.owned;
      honest = λ z.
          honest-longer z s.world (events_of (step_of w s.world now line side action ∷ []))
          (s.inbox z) (sound.honest z);
    }

sound-event : (w : ℕ) (s : Scene) (now line : ℕ) (event : Event) (says : ℕ → Incoming)
    → IsSound w s
    → AreOwned (came s ++ event ∷ [])
    → ((z : Side)
    → All (IsHonestLetter s.world z)
    (filter_map (letter_to (came s ++ event ∷ []) says z)
    (actions (came s) (id_of line) now event)))
    → IsSound w (after_event s now line event says)
sound-event w s now line event says sound owned honest =
    record {
      right = sound.right;
      owned = subst AreOwned (sym (came-push s now line event says)) owned;
      honest = λ z.
          All-append (IsHonestLetter s.world z) (s.inbox z) _ (sound.honest z) (honest z);
    }

pub sound-dialed : (w : ℕ) (s : Scene) (now line : ℕ) (side : Side)
    → IsSound w s → IsSound w (dialed w s now line side).scene
sound-dialed w s now line side sound =
    let made = plain w s now line side Action.Open in
    sound-event w made.scene now line (opened (came s) side)
    (greeting_to (came s) (next_conn (came s)))
    (sound-plain w s now line side Action.Open sound)
    (AreOwned-opened (came s) side sound.owned)
    (honest-opened made.scene line now side)

pub sound-lost : (w : ℕ) (s : Scene) (now line : ℕ) (conn : ℕ)
    → IsSound w s
    → IsSound w (after_event s now line (Event.Gone conn) (λ to. Incoming.Pause))
sound-lost w s now line conn sound =
    sound-event w s now line (Event.Gone conn) (λ to. Incoming.Pause) sound
    (AreOwned-quiet (came s) (Event.Gone conn) (IsQuiet-gone conn) sound.owned)
    (honest-own s line now (Event.Gone conn) (λ to. Incoming.Pause) (λ z to bytes moment. tt))

pub sound-gone : (w : ℕ) (s : Scene) (now line : ℕ) (side : Side)
    → IsSound w s → IsSound w (gone w s now line side).scene
sound-gone w s now line side sound = by (last_conn (came s) side)
  where
    lost : IsSound w (plain w s now line side Action.Lost).scene
    lost = sound-plain w s now line side Action.Lost sound

    by : (conn : Option ℕ)
        → IsSound w (after_loss (plain w s now line side Action.Lost).scene now line conn)
    by None = lost
    by (Some conn) = sound-lost w (plain w s now line side Action.Lost).scene now line conn lost

pub sound-posted : (w : ℕ) (s : Scene) (now line : ℕ) (side : Side) (which : Which)
    (o : Option ℕ) (emission : Option Outgoing)
    → IsSound w s
    → last_conn (came s) side ≡ o
    → emission_at (emissions (history_of side s.world)) which ≡ emission
    → IsSound w (posted s now line side o emission).scene
sound-posted w s now line side which o None sound last found = sound
sound-posted w s now line side which None (Some out) sound last found = sound
sound-posted w s now line side which (Some conn) (Some out) sound last found =
    let event = Event.Binary conn (encoding side out) in
    sound-event w s now line event (λ to. incoming_of out) sound
    (AreOwned-quiet (came s) event (IsQuiet-binary conn (encoding side out)) sound.owned)
    (honest-posted s line now side conn out sound.owned last
    (WasEmitted-which (emissions (history_of side s.world)) which out found))

pub sound-taken : (w : ℕ) (s : Scene) (now line : ℕ) (side : Side) (which : Which)
    (letter : Option Letter)
    → IsSound w s
    → emission_at (s.inbox side) which ≡ letter
    → IsSound w (taken w s now line side letter).scene
sound-taken w s now line side which None sound found = sound
sound-taken w s now line side which (Some letter) sound found =
    let call = EndCall.Heard now letter.says in
    let honest =
    All-emission (IsHonestLetter s.world side) (s.inbox side) which letter (sound.honest side)
    found in
    record {
      right = IsRight-push w s.world side call sound.right (honest now);
      owned = sound.owned;
      honest = λ z. honest-longer z s.world _ (s.inbox z) (sound.honest z);
    }

pub sound-turn : (w : ℕ) (s : Scene) (now line : ℕ) (side : Side) (action : RelayAction)
    → IsSound w s → IsSound w (turn_of w s now line side action).scene
sound-turn w s now line side (RelayAction.Put item) sound =
    sound-plain w s now line side (Action.Put item) sound
sound-turn w s now line side (RelayAction.PutLast item) sound =
    sound-plain w s now line side (Action.PutLast item) sound
sound-turn w s now line side RelayAction.Pull sound =
    sound-plain w s now line side Action.Pull sound
sound-turn w s now line side RelayAction.Tick sound =
    sound-plain w s now line side Action.Tick sound
sound-turn w s now line side RelayAction.Close sound =
    sound-plain w s now line side Action.Close sound
sound-turn w s now line side RelayAction.Dial sound = sound-dialed w s now line side sound
sound-turn w s now line side RelayAction.Gone sound = sound-gone w s now line side sound
sound-turn w s now line side (RelayAction.Post which) sound =
    sound-posted w s now line side which (last_conn (came s) side)
    (emission_at (emissions (history_of side s.world)) which) sound refl refl
sound-turn w s now line side (RelayAction.Take which) sound =
    sound-taken w s now line side which (emission_at (s.inbox side) which) sound refl

pub sound-after : (w : ℕ) (s : Scene) (now line : ℕ) (command : RelayCommand)
    → IsSound w s → IsSound w (scene_after w s now line command)
sound-after w s now line (RelayCommand.At moment) sound = sound
sound-after w s now line RelayCommand.Finish sound =
    sound-event w s now line (Event.EndSession lab) (λ to. Incoming.Closing []) sound
    (AreOwned-quiet (came s) (Event.EndSession lab) (IsQuiet-end lab) sound.owned)
    (honest-own s line now (Event.EndSession lab) (λ to. Incoming.Closing [])
    (λ z to bytes moment. tt))
sound-after w s now line (RelayCommand.On side action) sound =
    sound-turn w s now line side action sound

pub sound-progress : (w : ℕ) (commands : List RelayCommand) → IsSound w (progress w commands).scene
unfolding progress
sound-progress w commands = goes beginning commands (sound-start w)
  where
    goes : (p : Progress) (commands : List RelayCommand) → IsSound w p.scene
        → IsSound w (fold (progress_after w) p commands).scene
    goes p [] sound = sound
    goes p (c ∷ cs) sound =
        goes (progress_after w p c) cs (sound-after w p.scene p.now p.line c sound)
