-- The world of the two ends, line after line: what a line does to it, and that it stays right.
use Rattle.std.proofs.Common.{◌≡◌, ℕ, ◌≤◌, List, [], ◌∷◌, ◌++◌, length, refl, sym, subst, append-nil, arith}
use Rattle.std.specs.Prelude.{nat_eq}
use Rattle.std.specs.List.{fold}
use Rattle.std.proofs.lemmas.Bool.{cond_both}
use Rattle.std.proofs.lemmas.List.{length-take}
use Rattle.chan_values.specs.declared.side.Side.{Side}
use Rattle.channel_core.specs.Legal.{look_at}
use Rattle.channel_core.specs.World.{Event, history_of}
use Rattle.channel_core.proofs.WorldLemmas.{IsRight}
use Rattle.lab_script.specs.declared.command.Action.TheVariants as Action
use Rattle.lab_script.specs.declared.command.Command.{Command}
use Rattle.lab_script.specs.declared.stream_command.StreamAction.{StreamAction}
use Rattle.lab_script.specs.declared.stream_command.StreamCommand.{StreamCommand}
use Rattle.lab_run.specs.Steps.{events_of, step_of, steps_of}
use Rattle.lab_run.proofs.RightLemmas.{IsRight-start, IsRight-step, IsRight-steps}
use Rattle.smux_streams.specs.History.{acts_of, given, left}
use Rattle.lab_streams.specs.Outcomes.{outcome_of_no_room}
use Rattle.lab_streams.specs.Run.{StreamProgress, beginning, past_of, stream_progress, stream_progress_after, stream_run}
use Rattle.lab_streams.specs.Steps.{Past, StreamStep, after, events_in, is_client, mux_history, outgoing, put_step, refused_step, stream_item, stream_steps}
use Rattle.lab_streams.proofs.PastLemmas.{after-none, past_then-events}
use Rattle.lab_streams.proofs.RunLemmas.{at_first, past_of-append}

-- a Mux gives out no more bytes than it is asked for
few_outgoing : (side : Side) (past : Past) (most : ℕ) → length (outgoing side past most) ≤ most
few_outgoing side past most =
    let g = mux_history side past in
    omega (arith, length-take most (left (given g) (acts_of (is_client side) g)))

-- What a line does to the world of the ends: what a plain line does, a put of bytes that a Mux gave
-- out, or nothing. So what holds after each of these holds after the line.
pub by_line : (P : List Event → Type 0) (w : ℕ) (past : Past) (now line : ℕ)
    (command : StreamCommand)
    → P past.events
    → ((plain : Command)
    → command ≡ StreamCommand.Plain plain
    → P (past.events ++ events_of (steps_of w past.events now line plain)))
    → ((side : Side) (most : ℕ) (bytes : List ℕ)
    → command ≡ StreamCommand.On side (StreamAction.Push most)
    → length bytes ≤ most
    → P
    (past.events
    ++ events_of (step_of w past.events now line side (Action.Put (stream_item bytes)) ∷ [])))
    → P (after past (stream_steps w past now line command)).events
by_line P w past now line (StreamCommand.Plain command) same plain put =
    subst P (sym (past_then-events past (steps_of w past.events now line command)))
    (plain command refl)
by_line P w past now line StreamCommand.Open same plain put = rw append-nil same
by_line P w past now line (StreamCommand.On side (StreamAction.Write sid bytes)) same plain put =
    rw append-nil same
by_line P w past now line (StreamCommand.On side (StreamAction.Close sid)) same plain put =
    rw append-nil same
by_line P w past now line (StreamCommand.On side (StreamAction.Take sid most)) same plain put =
    rw append-nil same
by_line P w past now line (StreamCommand.On side (StreamAction.Push most)) same plain put =
    let look = look_at w (history_of side past.events) in
    let bytes = outgoing side past most in
    cond_both (nat_eq look.room 0) (refused_step line side (outcome_of_no_room look))
    (put_step w past now line side most bytes)
    (λ (s : StreamStep). P (past.events ++ events_in (s ∷ [])))
    (λ _. rw append-nil same)
    (λ _. by_bytes bytes (few_outgoing side past most))
  where
    by_bytes : (bytes : List ℕ)
        → length bytes ≤ most
        → P (past.events ++ events_in (put_step w past now line side most bytes ∷ []))
    by_bytes [] few = rw append-nil same
    by_bytes (b ∷ bytes) few = put side most (b ∷ bytes) refl few

-- the world of the ends stays legal and honest by every line
right_line : (w : ℕ) (past : Past) (now line : ℕ) (command : StreamCommand)
    → IsRight w past.events
    → IsRight w (after past (stream_steps w past now line command)).events
right_line w past now line command right =
    by_line (IsRight w) w past now line command right
    (λ plain is. IsRight-steps w past.events now line plain right)
    (λ side most bytes is few.
    IsRight-step w past.events now line side (Action.Put (stream_item bytes)) right)

-- and so by every script
pub right_run : (w : ℕ) (commands : List StreamCommand)
    → IsRight w (past_of (stream_run w commands)).events
unfolding stream_progress
right_run w commands =
    goes at_first commands
    (subst (λ (p : Past). IsRight w p.events) (sym (after-none beginning)) (IsRight-start w))
  where
    goes : (p : StreamProgress) (commands : List StreamCommand)
        → IsRight w (past_of p.steps).events
        → IsRight w (past_of (fold (stream_progress_after w) p commands).steps).events
    goes p [] right = right
    goes p (c ∷ cs) right =
        let steps = stream_steps w (past_of p.steps) p.now p.line c in
        goes (stream_progress_after w p c) cs
        (subst (λ (q : Past). IsRight w q.events) (sym (past_of-append p.steps steps))
        (right_line w (past_of p.steps) p.now p.line c right))
