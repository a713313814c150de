-- What was heard is what the inboxes say, after one call more, and after one event more at the relay.
use Rattle.std.proofs.Common.{◌≡◌, ℕ, List, [], ◌∷◌, ◌++◌, map, sym, ap, subst, ◌∙◌, ⊎_elim, arith}
use Rattle.std.specs.List.{All, Contains, filter_map}
use Rattle.std.proofs.lemmas.List.{get_or-map, length-map, map-append}
use Rattle.std.proofs.lemmas.List.Elements.{All-append, All-nil, All-push, All-weaker, Contains-append_left}
use Rattle.chan_values.specs.declared.side.Side.{Side}
use Rattle.chan_values.specs.Sides.{other}
use Rattle.channel_core.specs.declared.call.EndCall.{EndCall}
use Rattle.channel_core.specs.declared.message.Incoming.{Incoming}
use Rattle.channel_core.specs.Call.{Entry}
use Rattle.channel_core.specs.History.{emissions}
use Rattle.channel_core.specs.World.{Event as WorldEvent, history_of}
use Rattle.channel_core.proofs.WorldLemmas.{cases_side, event_of, history_of-here, history_of-there}
use Rattle.relay_core.specs.declared.event.Event.{Event}
use Rattle.relay_core.specs.Forwarding.{actions}
use Rattle.lab_script.specs.declared.verb.Verb.{Verb}
use Rattle.lab_run.specs.Ends.{IsSendable}
use Rattle.lab_run.specs.Steps.{called, id_of}
use Rattle.lab_run.proofs.TypedLemmas.{All-sendable, IsFit}
use Rattle.lab_relay.specs.Inboxes.{IsHeardOf}
use Rattle.lab_relay.specs.Scene.{Letter, Scene, after_event, came, letter_to, start}
use Rattle.lab_relay.specs.Steps.{after_step}
use Rattle.lab_relay.proofs.IdLemmas.{All-OutHas, HasBytes, OutHas}
use Rattle.lab_relay.proofs.LineLemmas.{IsSound, sound-start}
use Rattle.lab_relay.proofs.SaidLemmas.{IsCallFit, IsTrueLetter}
use Rattle.lab_relay.proofs.SentLemmas.{ArePlaced, AreSent, AreSent-event, AreSent-start}

-- ---- what was called

-- the call of an entry may be made, and hears a letter of the inbox
pub record IsTrueEntry (letters : List Letter) (e : Entry) : Type 0 where
  pub fit : IsCallFit e.call
  pub heard : IsHeardOf letters e.call

heard-longer : (letters more : List Letter) (call : EndCall)
    → IsHeardOf letters call → IsHeardOf (letters ++ more) call
heard-longer letters more (EndCall.Heard now says) is =
    subst (λ (xs : List Incoming). Contains xs says)
    (sym (map-append (λ (l : Letter). l.says) letters more))
    (Contains-append_left (map (λ (l : Letter). l.says) letters)
    (map (λ (l : Letter). l.says) more) says is)
heard-longer letters more (EndCall.Put item id now) is = tt
heard-longer letters more (EndCall.PutLast item id now) is = tt
heard-longer letters more (EndCall.Pull now) is = tt
heard-longer letters more (EndCall.Tick now) is = tt
heard-longer letters more (EndCall.Opened now) is = tt
heard-longer letters more EndCall.Lost is = tt
heard-longer letters more EndCall.Close is = tt
heard-longer letters more EndCall.Look is = tt

-- what is in a list has its image in that of the images
pub contains-map : {X Y : Type 0} (f : X → Y) (xs : List X) (x : X)
    → Contains xs x → Contains (map f xs) (f x)
contains-map f xs x is =
    (is.0, omega (arith, is.1, length-map xs f), get_or-map f xs is.0 x (f x) is.1 ∙ ap f is.2)

-- one call more
push-all : (P : Side → Entry → Type 0) (world : List WorldEvent) (x : WorldEvent)
    → ((z : Side) → All (P z) (history_of z world))
    → P x.side x.entry
    → (z : Side)
    → All (P z) (history_of z (world ++ x ∷ []))
push-all P world x before holds z =
    ⊎_elim
    (λ (here : x.side ≡ z).
    subst (All (P z)) (sym (history_of-here z world x here))
    (All-push (P z) (history_of z world) x.entry (before z)
    (subst (λ y. P y x.entry) here holds)))
    (λ (there : x.side ≡ other z).
    subst (All (P z)) (sym (history_of-there z world x there)) (before z))
    (cases_side z x.side)

-- ---- what holds after each line

pub record IsTrue (w : ℕ) (s : Scene) : Type 0 where
  pub sound : IsSound w s
  pub sent : AreSent s
  pub letters : (z : Side) → All (IsTrueLetter z) (s.inbox z)
  pub entries : (z : Side) → All (IsTrueEntry (s.inbox z)) (history_of z s.world)

pub true-start : (w : ℕ) → IsTrue w start
unfolding history_of
true-start w =
    record {
      sound = sound-start w;
      sent = AreSent-start;
      letters = λ z. All-nil (IsTrueLetter z);
      entries = λ z. All-nil (IsTrueEntry []);
    }

-- what the ends emitted can be encoded
pub emissions-fit : (w : ℕ) (s : Scene) → IsTrue w s → (z : Side)
    → All (IsSendable z) (emissions (history_of z s.world))
emissions-fit w s t z =
    All-sendable w z (history_of z s.world) (t.sound.right.legal z)
    (All-weaker (IsTrueEntry (s.inbox z)) IsFit (λ e is. (is.fit.0, is.fit.1))
    (history_of z s.world) (t.entries z))

pub emissions-have : (w : ℕ) (s : Scene) → IsTrue w s → (z : Side)
    → All OutHas (emissions (history_of z s.world))
emissions-have w s t z =
    All-OutHas w (history_of z s.world) (t.sound.right.legal z)
    (All-weaker (IsTrueEntry (s.inbox z)) (λ e. HasBytes e.call) (λ e is. is.fit.2)
    (history_of z s.world) (t.entries z))

-- an end is called
pub true-called : (w : ℕ) (s : Scene) (line : ℕ) (verb : Verb) (side : Side) (call : EndCall)
    → IsTrue w s
    → IsSound w (after_step s (called w s.world line verb side call)).scene
    → IsCallFit call
    → IsHeardOf (s.inbox side) call
    → IsTrue w (after_step s (called w s.world line verb side call)).scene
true-called w s line verb side call t sound fit heard =
    record {
      sound = sound;
      sent = record { placed = t.sent.placed; sent = t.sent.sent };
      letters = t.letters;
      entries =
          push-all (λ z e. IsTrueEntry (s.inbox z) e) s.world (event_of w s.world side call)
          t.entries (record { fit = fit; heard = heard });
    }

-- an event comes to the relay
pub true-event : (w : ℕ) (s : Scene) (now line : ℕ) (event : Event) (says : ℕ → Incoming)
    → IsTrue w s
    → IsSound w (after_event s now line event says)
    → ArePlaced (came s ++ event ∷ []) (actions (came s) (id_of line) now event)
    → ((z : Side) → All (IsTrueLetter z) (filter_map (letter_to (came s ++ event ∷ []) says z)
    (actions (came s) (id_of line) now event)))
    → IsTrue w (after_event s now line event says)
true-event w s now line event says t sound placed letters =
    record {
      sound = sound;
      sent = AreSent-event s now line event says t.sent placed;
      letters = λ z. All-append (IsTrueLetter z) (s.inbox z) _ (t.letters z) (letters z);
      entries = λ z.
          let more =
          filter_map (letter_to (came s ++ event ∷ []) says z)
          (actions (came s) (id_of line) now event) in
          All-weaker (IsTrueEntry (s.inbox z)) (IsTrueEntry (s.inbox z ++ more))
          (λ e is. record {
            fit = is.fit;
            heard = heard-longer (s.inbox z) more e.call is.heard;
          })
          (history_of z s.world) (t.entries z);
    }
