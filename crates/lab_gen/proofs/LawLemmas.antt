-- An end of a generated script is closed only where it gave up.
use Rattle.std.proofs.Common.{◌≡◌, ◌≢◌, ℕ, ◌+◌, ◌*◌, ◌^◌, ◌<◌, ◌≤◌, zero, suc, Bool, false, ◌⊎◌, inl, inr, ⊎_elim, Option, Some, None, List, [], ◌∷◌, ◌++◌, length, refl, sym, ap, subst, ◌∙◌, add-one, arith}
use Rattle.std.specs.List.{All, cons_option, fold, list_any}
use Rattle.std.proofs.lemmas.Bool.{cond_both}
use Rattle.std.proofs.lemmas.List.Elements.{All-append, All-cons, All-head, All-nil, All-tail, filter_map-append}
use Rattle.std.proofs.lemmas.List.Folds.{list_any-append}
use Rattle.chan_values.specs.declared.side.Side.{Side}
use Rattle.chan_values.specs.declared.side.Side.TheVariants.{Plugin, Agent}
use Rattle.chan_values.specs.Sides.{other}
use Rattle.channel_core.specs.declared.call.EndAnswer.{EndAnswer}
use Rattle.channel_core.specs.declared.call.EndCall.{EndCall}
use Rattle.channel_core.specs.declared.answer.Heard.{Heard}
use Rattle.channel_core.specs.declared.answer.Tick.{Tick}
use Rattle.channel_core.specs.declared.message.Outgoing.{Outgoing}
use Rattle.channel_core.specs.Call.{Entry}
use Rattle.channel_core.specs.Exchange.{incoming_of}
use Rattle.channel_core.specs.History.{closes, emissions, is_closed, put_items, released_items}
use Rattle.channel_core.specs.Legal.{answer_to_heard, answer_to_incoming, answer_to_tick}
use Rattle.channel_core.specs.World.{Event, entry_at, history_of}
use Rattle.channel_core.proofs.LegalLemmas.{ack_cases, stream_cases}
use Rattle.lab_script.specs.declared.command.Action.{Action}
use Rattle.lab_script.specs.declared.command.Command.{Command}
use Rattle.lab_script.specs.declared.outcome.Outcome.{Outcome}
use Rattle.lab_script.specs.declared.verb.Verb.{Verb}
use Rattle.lab_script.specs.declared.word.Which.{Which}
use Rattle.lab_run.specs.Outcomes.{is_emission, outcome_of_tick}
use Rattle.lab_run.specs.Run.{Progress, progress, progress_after, run}
use Rattle.lab_run.specs.Steps.{Step, called, emission_at, events_of, heard_at, pass_steps, start, step_of, steps_of, world_of}
use Rattle.lab_run.proofs.RunLemmas.{run_is_settled}
use Rattle.lab_gen.specs.declared.round.Round.{Round}
use Rattle.lab_gen.specs.Ends.{IsGenerated}
use Rattle.lab_gen.specs.Generator.{generated, lines_of, round_at, rounds}
use Rattle.lab_gen.specs.Laws.{GeneratedLaws, GeneratedReleasesAll, NeverGaveUp}
use Rattle.lab_gen.proofs.RunLemmas.{IsAction-put}
use Rattle.lab_gen.proofs.ScriptLemmas.{both, generated_is_script, rounds_are}

-- ---- what closes an end

-- whether this event closes its end
abbrev ends_at : Option Event → Bool
ends_at None = false
ends_at (Some x) = closes x.entry.answer x.entry.call

-- a step closes its end only where it gave up
abbrev Stays : Step → Type 0
Stays s = (ends_at s.event ≡ false) ⊎ ((n : ℕ) × (s.outcome ≡ Outcome.GaveUp n))

-- what the other end emits closes no end
heard_stays : (w : ℕ) (h : List Entry) (now : ℕ) (out : Outgoing)
    → closes (EndAnswer.Heard (answer_to_heard w h (incoming_of out)))
    (EndCall.Heard now (incoming_of out))
    ≡ false
heard_stays w h now out =
    cond_both (is_closed h) Heard.AfterClose (answer_to_incoming w h (incoming_of out))
    (λ heard. closes (EndAnswer.Heard heard) (EndCall.Heard now (incoming_of out)) ≡ false)
    (λ closed. refl)
    (λ unclosed. at out)
  where
    at : (out : Outgoing)
        → closes (EndAnswer.Heard (answer_to_incoming w h (incoming_of out)))
        (EndCall.Heard now (incoming_of out))
        ≡ false
    at (Outgoing.Stream m) =
        stream_cases w h m.seq m.item m.last
        (λ heard. closes (EndAnswer.Heard heard) (EndCall.Heard now (incoming_of (Outgoing.Stream m)))
        ≡ false)
        (λ there. refl)
        (λ far. refl)
        (λ end new past. refl)
        (λ new so. refl)
        (λ new so. refl)
    at (Outgoing.Ack n id date) =
        ack_cases h n
        (λ heard. closes (EndAnswer.Heard heard)
        (EndCall.Heard now (incoming_of (Outgoing.Ack n id date)))
        ≡ false)
        (λ emitted before. refl)
        refl

-- nor does a hearing of an emission, if there is one
hearing_stays : (w : ℕ) (world : List Event) (now line : ℕ) (side : Side) (o : Option Outgoing)
    → Stays (heard_at w world now line side o)
hearing_stays w world now line side None = inl refl
hearing_stays w world now line side (Some out) =
    inl (heard_stays w (history_of side world) now out)

-- a tick closes its end where it gives up
tick_stays : (now : ℕ) (tick : Tick)
    → (closes (EndAnswer.Tick tick) (EndCall.Tick now) ≡ false)
    ⊎ ((n : ℕ) × (outcome_of_tick tick ≡ Outcome.GaveUp n))
tick_stays now Tick.Nothing = inl refl
tick_stays now (Tick.Due n) = inl refl
tick_stays now (Tick.GaveUp n) = inr (n, refl)

-- so it is with each line of a generated script that asks something of one end
step_stays : (w : ℕ) (world : List Event) (now line : ℕ) (side : Side) (action : Action)
    → IsGenerated action
    → Stays (step_of w world now line side action)
step_stays w world now line side (Action.Put item) asked = inl refl
step_stays w world now line side (Action.PutLast item) asked = absurd asked
step_stays w world now line side Action.Pull asked = inl refl
step_stays w world now line side Action.Tick asked =
    tick_stays now (answer_to_tick (history_of side world) now)
step_stays w world now line side Action.Close asked = absurd asked
step_stays w world now line side (Action.Hear which) asked =
    hearing_stays w world now line side
    (emission_at (emissions (history_of (other side) world)) which)
step_stays w world now line side (Action.Hurt which place) asked = absurd asked
step_stays w world now line side Action.Lost asked = inl refl
step_stays w world now line side Action.Open asked = inl refl
step_stays w world now line side Action.Pause asked = absurd asked
step_stays w world now line side Action.Start asked = absurd asked
step_stays w world now line side Action.End asked = absurd asked

-- and with each step of a pass
pass_stays : (n w : ℕ) (world : List Event) (now line : ℕ) (side : Side)
    → All Stays (pass_steps n w world now line side)
unfolding pass_steps
pass_stays zero w world now line side = All-nil Stays
pass_stays (suc n) w world now line side =
    let pulled = called w world line Verb.Pull side (EndCall.Pull now) in
    let one = world ++ events_of (pulled ∷ []) in
    let sent = emissions (history_of side one) in
    let o = emission_at sent Which.Last in
    let heard = heard_at w one now line (other side) o in
    let two = one ++ events_of (heard ∷ []) in
    All-cons Stays pulled _ (inl refl)
    (cond_both (is_emission pulled.outcome) (heard ∷ pass_steps n w two now line side) []
    (All Stays)
    (λ emits. All-cons Stays heard _ (hearing_stays w one now line (other side) o)
    (pass_stays n w two now line side))
    (λ idle. All-nil Stays))

-- a line as generated scripts have them
abbrev IsLine : Command → Type 0
IsLine (Command.At moment) = Unit {0}
IsLine Command.Settle = Unit {0}
IsLine (Command.On side action) = IsGenerated action

-- so it is with the steps of each line
line_stays : (w : ℕ) (world : List Event) (now line : ℕ) (command : Command)
    → IsLine command
    → All Stays (steps_of w world now line command)
line_stays w world now line (Command.At moment) asked = All-nil Stays
line_stays w world now line Command.Settle asked =
    let plugin = called w world line Verb.Open Plugin (EndCall.Opened now) in
    let one = world ++ events_of (plugin ∷ []) in
    let agent = called w one line Verb.Open Agent (EndCall.Opened now) in
    let two = one ++ events_of (agent ∷ []) in
    let most = 2 * w + 1 in
    let to_agent = pass_steps most w two now line Plugin in
    let three = two ++ events_of to_agent in
    let to_plugin = pass_steps most w three now line Agent in
    All-cons Stays plugin (agent ∷ (to_agent ++ to_plugin)) (inl refl)
    (All-cons Stays agent (to_agent ++ to_plugin) (inl refl)
    (All-append Stays to_agent to_plugin (pass_stays most w two now line Plugin)
    (pass_stays most w three now line Agent)))
line_stays w world now line (Command.On side action) asked =
    All-cons Stays _ [] (step_stays w world now line side action asked) (All-nil Stays)

-- and of all lines
lines_stay : (w : ℕ) (p : Progress) (commands : List Command)
    → All IsLine commands
    → All Stays p.steps
    → All Stays (fold (progress_after w) p commands).steps
lines_stay w p [] asked before = before
lines_stay w p (c ∷ cs) asked before =
    lines_stay w (progress_after w p c) cs (All-tail IsLine c cs asked)
    (All-append Stays p.steps (steps_of w (world_of p.steps) p.now p.line c) before
    (line_stays w (world_of p.steps) p.now p.line c (All-head IsLine c cs asked)))

-- each line of a round is one of a generated script
lines_are_lines : (round : ℕ) (what : Round) → All IsLine (lines_of round what)
lines_are_lines round (Round.Put side) =
    All-cons IsLine _ [] (IsAction-put round) (All-nil IsLine)
lines_are_lines round (Round.Send side) = both IsLine _ _ tt refl
lines_are_lines round (Round.Lose side) = both IsLine _ _ tt tt
lines_are_lines round Round.Reconnect =
    All-append IsLine (_ ∷ _ ∷ []) (_ ∷ _ ∷ []) (both IsLine _ _ tt tt) (both IsLine _ _ tt tt)

generated_stays : (w count seed : ℕ) → All Stays (run w (generated count seed))
unfolding progress
generated_stays w count seed =
    lines_stay w (record { steps = []; now = 0; line = 1 }) (generated count seed)
    (All-append IsLine (rounds count seed) (Command.Settle ∷ [])
    (rounds_are IsLine seed count
    (λ round below.
    All-cons IsLine (Command.At (100 * round)) (lines_of round (round_at seed round)) tt
    (lines_are_lines round (round_at seed round)))
    count (omega arith))
    (All-cons IsLine Command.Settle [] tt (All-nil IsLine)))
    (All-nil Stays)

-- ---- ends that are not closed

-- whether an entry closes its end
abbrev closing : Entry → Bool
closing e = closes e.answer e.call

-- an entry of either side that does not close its end
entry_stays : (side z : Side) (e : Entry) (h : List Entry)
    → closing e ≡ false
    → list_any closing h ≡ false
    → list_any closing (cons_option (entry_at side z e) h) ≡ false
entry_stays Plugin Plugin e h here rest = rw (here, rest) refl
entry_stays Agent Agent e h here rest = rw (here, rest) refl
entry_stays Plugin Agent e h here rest = rest
entry_stays Agent Plugin e h here rest = rest

-- a step closes no end
abbrev IsMild : Step → Type 0
IsMild s = ends_at s.event ≡ false

-- an event, if there is one, that does not close its end
event_stays : (side : Side) (o : Option Event) (events : List Event)
    → ends_at o ≡ false
    → list_any closing (history_of side events) ≡ false
    → list_any closing (history_of side (cons_option o events)) ≡ false
unfolding history_of
event_stays side None events here rest = rest
event_stays side (Some x) events here rest =
    entry_stays side x.side x.entry (history_of side events) here rest

-- the entries of steps that close no end
steps_stay : (side : Side) (steps : List Step)
    → All IsMild steps
    → list_any closing (history_of side (events_of steps)) ≡ false
unfolding history_of
steps_stay side [] all = refl
steps_stay side (s ∷ steps) all =
    event_stays side s.event (events_of steps) (All-head IsMild s steps all)
    (steps_stay side steps (All-tail IsMild s steps all))

-- at first no end is closed
start_stays : (side : Side) → list_any closing (history_of side start) ≡ false
unfolding history_of
start_stays Plugin = refl
start_stays Agent = refl

-- no end is closed where no step closed one
unclosed : (side : Side) (steps : List Step)
    → All IsMild steps
    → is_closed (history_of side (world_of steps)) ≡ false
unfolding is_closed history_of
unclosed side steps all =
    ap (list_any closing)
    (filter_map-append (λ (x : Event). entry_at side x.side x.entry) start (events_of steps))
    ∙ list_any-append closing (history_of side start) (history_of side (events_of steps))
    ∙ rw (start_stays side, steps_stay side steps all) refl

-- a step does not report that its end gave up
abbrev NeverGivesUp : Step → Type 0
NeverGivesUp s = (n : ℕ) → s.outcome ≢ Outcome.GaveUp n

-- steps that neither close an end nor give up
stay : (steps : List Step)
    → All Stays steps
    → NeverGaveUp steps
    → All IsMild steps
stay [] all never = All-nil IsMild
stay (s ∷ steps) all never =
    All-cons IsMild s steps
    (⊎_elim
    (λ (here : ends_at s.event ≡ false). here)
    (λ (gave : (n : ℕ) × (s.outcome ≡ Outcome.GaveUp n)).
    absurd (All-head NeverGivesUp s steps never gave.0 gave.1))
    (All-head Stays s steps all))
    (stay steps (All-tail Stays s steps all) (All-tail NeverGivesUp s steps never))

pub generated_releases_all : GeneratedReleasesAll
generated_releases_all count seed never =
    let w : ℕ = 10000 in
    let steps = run w (generated count seed) in
    let world = world_of steps in
    let open_ends = stay steps (generated_stays w count seed) never in
    let released : (side : Side)
    → released_items (history_of (other side) world) ≡ put_items (history_of side world) =
    (run_is_settled w (rounds count seed)).released (λ end. unclosed end steps open_ends) in
    (ap length (released Plugin), ap length (released Agent))

pub generated_laws : GeneratedLaws
generated_laws = record { script = generated_is_script; released = generated_releases_all }
