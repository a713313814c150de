-- Each step keeps the world of the two ends legal and honest, and is at one of them.
use Rattle.std.proofs.Common.{◌≡◌, ℕ, ◌-◌, Option, Some, None, List, [], ◌∷◌, ◌++◌, length, refl, sym, ap, ◌∙◌, append-nil}
use Rattle.std.specs.List.{cons_option}
use Rattle.std.specs.Option.{option_map_or}
use Rattle.chan_values.specs.declared.side.Side.{Side}
use Rattle.chan_values.specs.declared.side.Side.TheVariants.{Plugin, Agent}
use Rattle.chan_values.specs.Sides.{other}
use Rattle.channel_core.specs.declared.call.EndCall.{EndCall}
use Rattle.channel_core.specs.declared.message.Incoming.TheVariants as Incoming
use Rattle.channel_core.specs.declared.message.Outgoing.{Outgoing}
use Rattle.channel_core.specs.Exchange.{incoming_of}
use Rattle.channel_core.specs.History.{emissions}
use Rattle.channel_core.specs.World.{Event, WasEmitted, history_of}
use Rattle.channel_core.proofs.WorldLemmas.{IsRight, IsRight-nil, IsRight-push, WasEmitted-at, event_of, history_of-away}
use Rattle.lab_script.specs.declared.command.Action.{Action}
use Rattle.lab_script.specs.declared.command.Command.{Command}
use Rattle.lab_script.specs.declared.verb.Verb.{Verb}
use Rattle.lab_script.specs.declared.word.Which.{Which}
use Rattle.lab_script.specs.Command.{verb_of}
use Rattle.lab_run.specs.Steps.{Step, emission_at, events_of, heard_at, id_of, start, step_of, steps_of}
use Rattle.lab_run.proofs.SettleLemmas.{IsRight-settle}

-- before the first line the world is legal and honest
pub IsRight-start : (w : ℕ) → IsRight w start
IsRight-start w =
    IsRight-push w (_ ∷ []) Agent (EndCall.Opened 0)
    (IsRight-push w [] Plugin (EndCall.Opened 0) (IsRight-nil w) tt) tt

-- the emission that a line means was emitted
WasEmitted-which : (sent : List Outgoing) (now : ℕ) (which : Which) (out : Outgoing)
    → emission_at sent which ≡ Some out
    → WasEmitted sent (EndCall.Heard now (incoming_of out))
WasEmitted-which sent now (Which.Number k) out found = WasEmitted-at sent k now out found
WasEmitted-which sent now Which.Last out found =
    WasEmitted-at sent (length sent - 1) now out found

-- a hearing keeps the world legal and honest
IsRight-heard : (w : ℕ) (world : List Event) (now line : ℕ) (side : Side) (o : Option Outgoing)
    → IsRight w world
    → ((out : Outgoing) → o ≡ Some out
    → WasEmitted (emissions (history_of (other side) world)) (EndCall.Heard now (incoming_of out)))
    → IsRight w (world ++ events_of (heard_at w world now line side o ∷ []))
IsRight-heard w world now line side None r was = rw append-nil r
IsRight-heard w world now line side (Some out) r was =
    IsRight-push w world side (EndCall.Heard now (incoming_of out)) r (was out refl)

-- so does each step of one end
pub IsRight-step : (w : ℕ) (world : List Event) (now line : ℕ) (side : Side) (action : Action)
    → IsRight w world
    → IsRight w (world ++ events_of (step_of w world now line side action ∷ []))
IsRight-step w world now line side (Action.Put item) r =
    IsRight-push w world side (EndCall.Put item (id_of line) now) r tt
IsRight-step w world now line side (Action.PutLast item) r =
    IsRight-push w world side (EndCall.PutLast item (id_of line) now) r tt
IsRight-step w world now line side Action.Pull r =
    IsRight-push w world side (EndCall.Pull now) r tt
IsRight-step w world now line side Action.Tick r =
    IsRight-push w world side (EndCall.Tick now) r tt
IsRight-step w world now line side Action.Close r = IsRight-push w world side EndCall.Close r tt
IsRight-step w world now line side (Action.Hear which) r =
    let sent = emissions (history_of (other side) world) in
    IsRight-heard w world now line side (emission_at sent which) r
    (λ out found. WasEmitted-which sent now which out found)
IsRight-step w world now line side (Action.Hurt which place) r = rw append-nil r
IsRight-step w world now line side Action.Lost r = IsRight-push w world side EndCall.Lost r tt
IsRight-step w world now line side Action.Open r =
    IsRight-push w world side (EndCall.Opened now) r tt
IsRight-step w world now line side Action.Pause r =
    IsRight-push w world side (EndCall.Heard now Incoming.Pause) r tt
IsRight-step w world now line side Action.Start r =
    IsRight-push w world side (EndCall.Heard now Incoming.Start) r tt
IsRight-step w world now line side Action.End r =
    IsRight-push w world side (EndCall.Heard now (Incoming.Closing [])) r tt

-- and each line
pub IsRight-steps : (w : ℕ) (world : List Event) (now line : ℕ) (command : Command)
    → IsRight w world → IsRight w (world ++ events_of (steps_of w world now line command))
IsRight-steps w world now line (Command.At moment) r = rw append-nil r
IsRight-steps w world now line Command.Settle r = IsRight-settle w world now line r
IsRight-steps w world now line (Command.On side action) r =
    IsRight-step w world now line side action r

-- ---- where a step is made

-- at its own end, with the line's number and verb
pub record IsOf (line : ℕ) (verb : Verb) (side : Side) (s : Step) : Type 0 where
  pub number : s.line ≡ line
  pub word : s.verb ≡ verb
  pub at : s.side ≡ side
  pub event : (x : Event) → s.event ≡ Some x → x.side ≡ side

-- the side of an event, if there is one
abbrev side_in : Side → Option Event → Side
side_in side o = option_map_or (λ (e : Event). e.side) o side

IsOf-heard : (w : ℕ) (world : List Event) (now line : ℕ) (side : Side) (o : Option Outgoing)
    → IsOf line Verb.Hear side (heard_at w world now line side o)
IsOf-heard w world now line side None =
    record { number = refl; word = refl; at = refl; event = λ x is. absurd (cc) }
IsOf-heard w world now line side (Some out) =
    record {
      number = refl;
      word = refl;
      at = refl;
      event = λ x is. ap (side_in side) (sym is);
    }

-- the step of an end is made there
pub IsOf-step_of : (w : ℕ) (world : List Event) (now line : ℕ) (side : Side) (action : Action)
    → IsOf line (verb_of action) side (step_of w world now line side action)
IsOf-step_of w world now line side (Action.Hear which) =
    IsOf-heard w world now line side
    (emission_at (emissions (history_of (other side) world)) which)
IsOf-step_of w world now line side (Action.Hurt which place) =
    record { number = refl; word = refl; at = refl; event = λ x is. absurd (cc) }
IsOf-step_of w world now line side _ =
    record {
      number = refl;
      word = refl;
      at = refl;
      event = λ x is. ap (side_in side) (sym is);
    }

-- and changes nothing at the other end
step-away : (world : List Event) (side : Side) (o : Option Event)
    → ((x : Event) → o ≡ Some x → x.side ≡ side)
    → history_of (other side) (world ++ cons_option o []) ≡ history_of (other side) world
step-away world side None at = ap (history_of (other side)) (append-nil world)
step-away world side (Some x) at = history_of-away side world x (at x refl)

pub step_of-away : (w : ℕ) (world : List Event) (now line : ℕ) (side : Side) (action : Action)
    → history_of (other side) (world ++ events_of (step_of w world now line side action ∷ []))
    ≡ history_of (other side) world
step_of-away w world now line side action =
    step-away world side _ (IsOf-step_of w world now line side action).event
