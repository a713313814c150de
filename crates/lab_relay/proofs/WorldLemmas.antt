-- What was emitted in a world was emitted in a longer one.
use Rattle.std.proofs.Common.{◌≡◌, ℕ, List, ◌++◌, sym, ap, subst, ◌∙◌}
use Rattle.std.specs.List.{All, filter_map}
use Rattle.std.proofs.lemmas.List.Elements.{All-weaker, Contains-append_left, filter_map-append}
use Rattle.chan_values.specs.declared.side.Side.{Side}
use Rattle.chan_values.specs.Sides.{other}
use Rattle.channel_core.specs.declared.call.EndCall.{EndCall}
use Rattle.channel_core.specs.declared.message.Incoming.{Incoming}
use Rattle.channel_core.specs.declared.message.Outgoing.{Outgoing}
use Rattle.channel_core.specs.Call.{Entry}
use Rattle.channel_core.specs.History.{emissions, message_emitted}
use Rattle.channel_core.specs.World.{Event, WasEmitted, entry_at, history_of}
use Rattle.lab_relay.specs.Held.{IsHonestLetter}
use Rattle.lab_relay.specs.Scene.{Letter}

emissions-longer : (side : Side) (world more : List Event)
    → emissions (history_of side (world ++ more))
    ≡ emissions (history_of side world) ++ emissions (history_of side more)
unfolding emissions history_of
emissions-longer side world more =
    ap (filter_map (λ (e : Entry). message_emitted e.answer))
    (filter_map-append (λ (x : Event). entry_at side x.side x.entry) world more)
    ∙ filter_map-append (λ (e : Entry). message_emitted e.answer) (history_of side world)
    (history_of side more)

WasEmitted-longer : (sent more : List Outgoing) (now : ℕ) (says : Incoming)
    → WasEmitted sent (EndCall.Heard now says)
    → WasEmitted (sent ++ more) (EndCall.Heard now says)
WasEmitted-longer sent more now (Incoming.Stream n id item last) was =
    (was.0, Contains-append_left sent more _ was.1)
WasEmitted-longer sent more now (Incoming.Ack n) was =
    (was.0, was.1, Contains-append_left sent more _ was.2)
WasEmitted-longer sent more now Incoming.Pause was = tt
WasEmitted-longer sent more now Incoming.Start was = tt
WasEmitted-longer sent more now (Incoming.Closing output) was = tt

-- honest letters stay so
pub honest-longer : (side : Side) (world more : List Event) (letters : List Letter)
    → All (IsHonestLetter world side) letters
    → All (IsHonestLetter (world ++ more) side) letters
honest-longer side world more letters =
    All-weaker (IsHonestLetter world side) (IsHonestLetter (world ++ more) side)
    (λ letter was now.
    subst (λ sent. WasEmitted sent (EndCall.Heard now letter.says))
    (sym (emissions-longer (other side) world more))
    (WasEmitted-longer (emissions (history_of (other side) world))
    (emissions (history_of (other side) more)) now letter.says (was now)))
    letters
