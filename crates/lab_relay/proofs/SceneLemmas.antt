-- What is kept after a step of an end, and after an event at the relay.
use Rattle.std.proofs.Common.{◌≡◌, ℕ, ◌^◌, ◌<◌, List, [], ◌∷◌, ◌++◌, Ok, inr, map, sym, ap, subst, ◌∙◌, nat_eq}
use Rattle.std.specs.List.{All, filter_map}
use Rattle.std.proofs.lemmas.List.{map-append}
use Rattle.std.proofs.lemmas.List.Elements.{All-append, All-nil}
use Rattle.chan_values.specs.declared.side.Side.{Side}
use Rattle.chan_values.specs.declared.side.Side.TheVariants.{Plugin, Agent}
use Rattle.channel_core.specs.Arrival.{Arrives}
use Rattle.channel_core.specs.declared.message.Incoming.{Incoming}
use Rattle.relay_core.specs.declared.action.Action.{Action}
use Rattle.relay_core.specs.declared.event.Event.{Event}
use Rattle.relay_core.specs.Forwarding.{actions, is_ended}
use Rattle.lab_run.specs.declared.pair.Pair.{Pair}
use Rattle.channel_core.specs.World.{history_of}
use Rattle.channel_core.proofs.WorldLemmas.{IsRight-nil}
use Rattle.relay_core.specs.Kept.{Stands}
use Rattle.lab_run.specs.Ends.{IsEndpoint, IsPair}
use Rattle.lab_run.specs.Steps.{Step, events_of, id_of}
use Rattle.lab_relay.specs.declared.hub.Hub.{Hub}
use Rattle.lab_relay.specs.declared.relayed.Relayed.{Relayed}
use Rattle.lab_relay.specs.Held.{AreOwned, Comes, IsHeardAs, IsHonestLetter, IsHub, StandsFor, bytes_for}
use Rattle.lab_relay.specs.Scene.{Letter, Scene, after_event, came, lab, letter_to, next_conn, start}
use Rattle.lab_relay.specs.Steps.{after_step, greeting_to}
use Rattle.lab_relay.proofs.ArrivedLemmas.{came-push}
use Rattle.lab_relay.proofs.GreetingLemmas.{greeted-honest, sent-ended, sent-gone, sent-opened}
use Rattle.lab_relay.proofs.LetterLemmas.{AllSent, letters-all, sent-any, sent-weaker}
use Rattle.lab_relay.proofs.OwnedLemmas.{AreOwned-nil, opened}
use Rattle.lab_relay.proofs.WorldLemmas.{honest-longer}

-- the letters that an event makes are honest, and are heard as they say
pub record AreTrue (s : Scene) (line now : ℕ) (event : Event) (says : ℕ → Incoming) : Type 0 where
  pub honest : (side : Side)
      → All (IsHonestLetter s.world side)
      (filter_map (letter_to (came s ++ event ∷ []) says side)
      (actions (came s) (id_of line) now event))
  pub heard : (side : Side)
      → All (λ l. IsHeardAs side l.bytes l.says)
      (filter_map (letter_to (came s ++ event ∷ []) says side)
      (actions (came s) (id_of line) now event))

-- before the first line
pub StandsFor-new : (w : ℕ) (new : Relayed)
    → IsEndpoint w Plugin [] new.pair.plugin
    → IsEndpoint w Agent [] new.pair.agent
    → Stands new.relay []
    → IsHub [] new.hub
    → ((side : Side) → bytes_for side new.inboxes ≡ [])
    → StandsFor w start new
unfolding history_of
StandsFor-new w new plugin agent relay hub inboxes =
    record {
      pair = record {
        legal = (IsRight-nil w).legal;
        honest = (IsRight-nil w).honest;
        plugin = plugin;
        agent = agent;
      };
      relay = relay;
      hub = hub;
      owned = AreOwned-nil;
      inboxes = inboxes;
      honest = λ side. All-nil _;
      heard = λ side. All-nil _;
    }

-- an end made a step
pub StandsFor-step : (w : ℕ) (s : Scene) (step : Step) (old : Relayed) (pair : Pair)
    → StandsFor w s old
    → IsPair w (s.world ++ events_of (step ∷ [])) pair
    → StandsFor w (after_step s step).scene (record old { pair = pair })
StandsFor-step w s step old pair before is =
    record {
      pair = is;
      relay = before.relay;
      hub = before.hub;
      owned = before.owned;
      inboxes = before.inboxes;
      honest = λ side.
          honest-longer side s.world (events_of (step ∷ [])) (s.inbox side) (before.honest side);
      heard = before.heard;
    }

-- an event came to the relay
pub StandsFor-event : (w : ℕ) (s : Scene) (line now : ℕ) (event : Event) (says : ℕ → Incoming)
    (old new : Relayed) (hub : Hub)
    → StandsFor w s old
    → IsHub (came s ++ event ∷ []) hub
    → AreOwned (came s ++ event ∷ [])
    → AreTrue s line now event says
    → Comes (came s) event line now (record old { hub = hub }) new
    → StandsFor w (after_event s now line event says) new
StandsFor-event w s line now event says old new hub before noted owned letters comes =
    let es = came s ++ event ∷ [] in
    let all = came-push s now line event says in
    let more : Side → List Letter =
    λ side. filter_map (letter_to es says side) (actions (came s) (id_of line) now event) in
    record {
      pair = subst (IsPair w s.world) (sym comes.pair) before.pair;
      relay = subst (λ xs. Stands new.relay xs) (sym all) comes.relay;
      hub = subst (λ xs. IsHub xs new.hub) (sym all) (subst (IsHub es) (sym comes.hub) noted);
      owned = subst AreOwned (sym all) owned;
      inboxes = λ side.
          comes.inboxes says side
          ∙ ap (λ (xs : List (List ℕ)). xs ++ map (λ (l : Letter). l.bytes) (more side))
          (before.inboxes side)
          ∙ sym (map-append (λ (l : Letter). l.bytes) (s.inbox side) (more side));
      honest = λ side.
          All-append (IsHonestLetter s.world side) (s.inbox side) (more side)
          (before.honest side) (letters.honest side);
      heard = λ side.
          All-append (λ l. IsHeardAs side l.bytes l.says) (s.inbox side) (more side)
          (before.heard side) (letters.heard side);
    }

-- ---- what the relay sends of its own

module _ (s : Scene) (line now : ℕ) (event : Event) (says : ℕ → Incoming) where
  abbrev told : List Action
  told = actions (came s) (id_of line) now event

  -- no end has a part in it
  pub honest-own : ((side : Side) (to : ℕ) (bytes : List ℕ)
      → IsHonestLetter s.world side (record { bytes = bytes; says = says to }))
      → (side : Side)
      → All (IsHonestLetter s.world side)
      (filter_map (letter_to (came s ++ event ∷ []) says side) told)
  honest-own honest side =
      letters-all (came s ++ event ∷ []) says side (IsHonestLetter s.world side) told
      (sent-any _ (λ to bytes own. honest side to bytes) told)

  -- what is sent is heard so, whatever end it is sent to
  heard-own : ((side : Side) → AllSent (λ to bytes. Arrives side bytes (Ok (says to))) told)
      → (side : Side)
      → All (λ l. IsHeardAs side l.bytes l.says)
      (filter_map (letter_to (came s ++ event ∷ []) says side) told)
  heard-own heard side =
      letters-all (came s ++ event ∷ []) says side (λ l. IsHeardAs side l.bytes l.says) told
      (sent-weaker (λ to bytes. Arrives side bytes (Ok (says to))) _
      (λ to bytes is own. inr is) told (heard side))

module _ (s : Scene) (line now : ℕ) where
  pub honest-opened : (side z : Side)
      → All (IsHonestLetter s.world z)
      (filter_map
      (letter_to (came s ++ opened (came s) side ∷ [])
      (greeting_to (came s) (next_conn (came s))) z)
      (actions (came s) (id_of line) now (opened (came s) side)))
  honest-opened side =
      honest-own s line now (opened (came s) side)
      (greeting_to (came s) (next_conn (came s)))
      (λ z to bytes moment.
      greeted-honest _ moment (is_ended (came s) lab) (nat_eq to (next_conn (came s))))

  pub AreTrue-opened : (side : Side) → now < 2 ^ 64 → AreOwned (came s)
      → AreTrue s line now (opened (came s) side)
      (greeting_to (came s) (next_conn (came s)))
  AreTrue-opened side small owned =
      record {
        honest = honest-opened side;
        heard = heard-own s line now (opened (came s) side)
            (greeting_to (came s) (next_conn (came s)))
            (λ z. sent-opened z line now small (came s) side owned);
      }

  pub AreTrue-gone : (conn : ℕ) → now < 2 ^ 64
      → AreTrue s line now (Event.Gone conn) (λ to. Incoming.Pause)
  AreTrue-gone conn small =
      record {
        honest = honest-own s line now (Event.Gone conn) (λ to. Incoming.Pause)
            (λ z to bytes moment. tt);
        heard = heard-own s line now (Event.Gone conn) (λ to. Incoming.Pause)
            (λ z. sent-gone z line now small (came s) conn);
      }

  pub AreTrue-ended : now < 2 ^ 64
      → AreTrue s line now (Event.EndSession lab) (λ to. Incoming.Closing [])
  AreTrue-ended small =
      record {
        honest = honest-own s line now (Event.EndSession lab) (λ to. Incoming.Closing [])
            (λ z to bytes moment. tt);
        heard = heard-own s line now (Event.EndSession lab) (λ to. Incoming.Closing [])
            (λ z. sent-ended z line now small (came s));
      }
