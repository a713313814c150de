-- The report of steps, and its printing.
use Rattle.std.proofs.Common.{◌≡◌, ℕ, ◌+◌, ◌<◌, get_or, length, take, drop, Option, Some, List, [], ◌∷◌, ◌++◌, Result, map, refl, sym, ap, subst, ◌∙◌, append-nil}
use Rattle.std.specs.List.{flat_map}
use Rattle.std.proofs.lemmas.Grind.{flat_map-append}
use Rattle.std.proofs.lemmas.List.{take-append-drop, take_more}
use Rattle.std.proofs.lemmas.Result.{MatchResult-weaker}
use Rattle.chan_values.specs.declared.side.Side.{Side}
use Rattle.lab_script.specs.declared.outcome.Outcome.{Outcome}
use Rattle.lab_script.specs.declared.verb.Verb.{Verb}
use Rattle.lab_script.specs.Report.{report_line}
use Rattle.lab_run.specs.declared.stop.Stop.{Stop}
use Rattle.lab_run.specs.Printing.{Adds, Printout, Prints, Stops}
use Rattle.lab_run.specs.Run.{report}
use Rattle.lab_run.specs.Steps.{Step, step_of}
use Rattle.lab_run.proofs.RunLemmas.{report-step_of}
use Rattle.channel_core.specs.World.{Event as EndEvent}
use Rattle.lab_script.specs.Command.{verb_of}
use Rattle.lab_script.specs.declared.command.Action.{Action}
use Rattle.lab_run.proofs.WritingLemmas.{Adds-then, Stops-longer, Stops-then}
use Rattle.smux_acts.specs.declared.event.Event.{Event}
use Rattle.lab_streams.specs.Outcomes.{outcome_of_event}
use Rattle.lab_streams.specs.Run.{events_text, stream_report, told_text}
use Rattle.lab_streams.specs.Steps.{Past, StreamStep, Told, fed_steps, plain_step, told_of_event, told_once}
use Rattle.lab_streams.proofs.PastLemmas.{fed_steps-append, fed_steps-none, past_then, past_then-append}

-- more steps are more of the report
pub stream_report-append : (a b : List StreamStep)
    → stream_report (a ++ b) ≡ stream_report a ++ stream_report b
unfolding stream_report
stream_report-append a b = flat_map-append _ a b

pub stream_report-none : stream_report [] ≡ []
unfolding stream_report
stream_report-none = refl

-- a step of which one line tells
pub report-once : (s : StreamStep) (line : ℕ) (verb : Verb) (side : Option Side)
    (outcome : Outcome)
    → s.line ≡ line
    → s.told ≡ told_once verb side outcome
    → stream_report (s ∷ []) ≡ report_line line verb side outcome
unfolding stream_report
report-once s line verb side outcome at told =
    append-nil (flat_map (told_text s.line) s.told)
    ∙ ap (λ (t : List Told). flat_map (told_text s.line) t) told
    ∙ append-nil (report_line s.line verb side outcome)
    ∙ ap (λ n. report_line n verb side outcome) at

-- the lines of events
texts : (line : ℕ) (side : Side) (events : List Event)
    → flat_map (told_text line) (map (told_of_event side) events)
    ≡ flat_map (λ e. told_text line (told_of_event side e)) events
texts line side [] = refl
texts line side (e ∷ es) =
    ap (λ (t : List ℕ). told_text line (told_of_event side e) ++ t) (texts line side es)

-- a step of which the lines of events tell
pub report-events : (s : StreamStep) (side : Side) (events : List Event)
    → s.told ≡ map (told_of_event side) events
    → stream_report (s ∷ []) ≡ events_text s.line side events
unfolding stream_report events_text
report-events s side events told =
    append-nil (flat_map (told_text s.line) s.told)
    ∙ ap (λ (t : List Told). flat_map (told_text s.line) t) told
    ∙ texts s.line side events

-- the lines of some events, and of more
events_text-append : (line : ℕ) (side : Side) (a b : List Event)
    → events_text line side (a ++ b) ≡ events_text line side a ++ events_text line side b
unfolding events_text
events_text-append line side a b =
    flat_map-append (λ x. told_text line (told_of_event side x)) a b

-- the line of one event
events_text-one : (line : ℕ) (side : Side) (e : Event)
    → events_text line side (e ∷ []) ≡ told_text line (told_of_event side e)
unfolding events_text
events_text-one line side e = append-nil (told_text line (told_of_event side e))

-- one event more
pub events_text-more : (line : ℕ) (side : Side) (events : List Event) (i : ℕ) (e : Event)
    → i < length events
    → events_text line side (take (i + 1) events)
    ≡ events_text line side (take i events) ++ told_text line (told_of_event side (get_or events i e))
events_text-more line side events i e less =
    ap (events_text line side) (take_more events i e less)
    ∙ events_text-append line side (take i events) (get_or events i e ∷ [])
    ∙ ap (λ (t : List ℕ). events_text line side (take i events) ++ t)
    (events_text-one line side (get_or events i e))

-- and those behind it
pub events_text-rest : (line : ℕ) (side : Side) (events : List Event) (i : ℕ) (e : Event)
    → i < length events
    → events_text line side events
    ≡ (events_text line side (take i events)
    ++ told_text line (told_of_event side (get_or events i e)))
    ++ events_text line side (drop (i + 1) events)
events_text-rest line side events i e less =
    ap (events_text line side) (sym (take-append-drop (i + 1) events))
    ∙ events_text-append line side (take (i + 1) events) (drop (i + 1) events)
    ∙ ap (λ (t : List ℕ). t ++ events_text line side (drop (i + 1) events))
    (events_text-more line side events i e less)

-- one event more is told
pub Adds-event : (line : ℕ) (side : Side) (events : List Event) (i : ℕ) (e : Event)
    (outcome : Outcome) (old mid new : Printout)
    → i < length events
    → outcome ≡ outcome_of_event (get_or events i e)
    → Adds (events_text line side (take i events)) old mid
    → Adds (report_line line Verb.StreamEvent (Some side) outcome) mid new
    → Adds (events_text line side (take (i + 1) events)) old new
Adds-event line side events i e outcome old mid new less is first second =
    let P : Outcome → Type 0 =
    λ o. Adds (report_line line Verb.StreamEvent (Some side) o) mid new in
    subst (λ (t : List ℕ). Adds t old new) (sym (events_text-more line side events i e less))
    (Adds-then (events_text line side (take i events))
    (told_text line (told_of_event side (get_or events i e))) old mid new first
    (subst P is second))

-- one event can not be told
pub Stops-event : (line : ℕ) (side : Side) (events : List Event) (i : ℕ) (e : Event)
    (outcome : Outcome) (stop : Stop) (old mid new : Printout)
    → i < length events
    → outcome ≡ outcome_of_event (get_or events i e)
    → Adds (events_text line side (take i events)) old mid
    → Stops (report_line line Verb.StreamEvent (Some side) outcome) stop mid new
    → Stops (events_text line side events) stop old new
Stops-event line side events i e outcome stop old mid new less is first second =
    let P : Outcome → Type 0 =
    λ o. Stops (report_line line Verb.StreamEvent (Some side) o) stop mid new in
    let so_far = events_text line side (take i events) in
    let told = told_text line (told_of_event side (get_or events i e)) in
    subst (λ (t : List ℕ). Stops t stop old new) (sym (events_text-rest line side events i e less))
    (Stops-longer (so_far ++ told) (events_text line side (drop (i + 1) events)) stop old new
    (Stops-then so_far told stop old mid new first (subst P is second)))

pub events_text-none : (line : ℕ) (side : Side) → events_text line side [] ≡ []
unfolding events_text
events_text-none line side = refl

-- a step of an end is reported as in a plain run
pub report-plain : (s : Step) → stream_report (plain_step s ∷ []) ≡ report (s ∷ [])
unfolding stream_report report
report-plain s =
    append-nil (report_line s.line s.verb (Some s.side) s.outcome ++ [])

-- it is one line
pub report-end : (w : ℕ) (world : List EndEvent) (now line : ℕ) (side : Side) (action : Action)
    (outcome : Outcome)
    → let s = step_of w world now line side action in
    outcome ≡ s.outcome
    → stream_report (plain_step s ∷ [])
    ≡ report_line line (verb_of action) (Some side) outcome
report-end w world now line side action outcome told =
    report-plain (step_of w world now line side action)
    ∙ report-step_of w world now line side action outcome told

-- ---- steps that are printed one after the other

pub Adds-steps : (a b : List StreamStep) (s t u : Printout)
    → Adds (stream_report a) s t → Adds (stream_report b) t u
    → Adds (stream_report (a ++ b)) s u
Adds-steps a b s t u first second =
    subst (λ (x : List ℕ). Adds x s u) (sym (stream_report-append a b))
    (Adds-then (stream_report a) (stream_report b) s t u first second)

pub Stops-steps : (a b : List StreamStep) (stop : Stop) (s t u : Printout)
    → Adds (stream_report a) s t → Stops (stream_report b) stop t u
    → Stops (stream_report (a ++ b)) stop s u
Stops-steps a b stop s t u first second =
    subst (λ (x : List ℕ). Stops x stop s u) (sym (stream_report-append a b))
    (Stops-then (stream_report a) (stream_report b) stop s t u first second)

pub Stops-before : (a b : List StreamStep) (stop : Stop) (s t : Printout)
    → Stops (stream_report a) stop s t
    → Stops (stream_report (a ++ b)) stop s t
Stops-before a b stop s t first =
    subst (λ (x : List ℕ). Stops x stop s t) (sym (stream_report-append a b))
    (Stops-longer (stream_report a) (stream_report b) stop s t first)

pub Prints-steps : {T : Type 0} (a b : List StreamStep) (r : Result T Stop) (s t u : Printout)
    → Adds (stream_report a) s t
    → Prints (stream_report b) r t u
    → Prints (stream_report (a ++ b)) r s u
Prints-steps a b r s t u first second =
    MatchResult-weaker r second
    (λ _ adds. Adds-steps a b s t u first adds)
    (λ stop stops. Stops-steps a b stop s t u first stops)

-- ---- steps of ends with their feeds

-- the report of some, with their feeds
abbrev pub fed_report : Past → List Step → List ℕ
fed_report past a = stream_report (fed_steps past a)

pub fed_report-none : (past : Past) → fed_report past [] ≡ []
fed_report-none past = ap stream_report (fed_steps-none past) ∙ stream_report-none

pub Adds-fed : (past : Past) (a b : List Step) (s t u : Printout)
    → Adds (fed_report past a) s t
    → Adds (fed_report (past_then past a) b) t u
    → Adds (fed_report past (a ++ b)) s u
Adds-fed past a b s t u first second =
    rw fed_steps-append
    (Adds-steps (fed_steps past a) (fed_steps (past_then past a) b) s t u first second)

pub Stops-fed : (past : Past) (a b : List Step) (stop : Stop) (s t u : Printout)
    → Adds (fed_report past a) s t
    → Stops (fed_report (past_then past a) b) stop t u
    → Stops (fed_report past (a ++ b)) stop s u
Stops-fed past a b stop s t u first second =
    rw fed_steps-append
    (Stops-steps (fed_steps past a) (fed_steps (past_then past a) b) stop s t u first second)

pub Stops-fed-before : (past : Past) (a b : List Step) (stop : Stop) (s t : Printout)
    → Stops (fed_report past a) stop s t
    → Stops (fed_report past (a ++ b)) stop s t
Stops-fed-before past a b stop s t first =
    rw fed_steps-append
    (Stops-before (fed_steps past a) (fed_steps (past_then past a) b) stop s t first)

pub Prints-fed : {T : Type 0} (past : Past) (a b : List Step) (r : Result T Stop)
    (s t u : Printout)
    → Adds (fed_report past a) s t
    → Prints (fed_report (past_then past a) b) r t u
    → Prints (fed_report past (a ++ b)) r s u
Prints-fed past a b r s t u first second =
    MatchResult-weaker r second
    (λ _ adds. Adds-fed past a b s t u first adds)
    (λ stop stops. Stops-fed past a b stop s t u first stops)

-- two runs of steps, and then more
pub Adds-fed-two : (past : Past) (a b c : List Step) (s t u : Printout)
    → Adds (fed_report past (a ++ b)) s t
    → Adds (fed_report (past_then (past_then past a) b) c) t u
    → Adds (fed_report past ((a ++ b) ++ c)) s u
Adds-fed-two past a b c s t u first second =
    let P : Past → Type 0 = λ p. Adds (fed_report p c) t u in
    Adds-fed past (a ++ b) c s t u first (subst P (past_then-append past a b) second)

pub Stops-fed-two : (past : Past) (a b c : List Step) (stop : Stop) (s t u : Printout)
    → Adds (fed_report past (a ++ b)) s t
    → Stops (fed_report (past_then (past_then past a) b) c) stop t u
    → Stops (fed_report past ((a ++ b) ++ c)) stop s u
Stops-fed-two past a b c stop s t u first second =
    let P : Past → Type 0 = λ p. Stops (fed_report p c) stop t u in
    Stops-fed past (a ++ b) c stop s t u first (subst P (past_then-append past a b) second)

pub Prints-fed-three : {T : Type 0} (past : Past) (a b c d : List Step) (r : Result T Stop)
    (s t u : Printout)
    → Adds (fed_report past ((a ++ b) ++ c)) s t
    → Prints (fed_report (past_then (past_then (past_then past a) b) c) d) r t u
    → Prints (fed_report past (((a ++ b) ++ c) ++ d)) r s u
Prints-fed-three past a b c d r s t u first second =
    let P : Past → Type 0 = λ p. Prints (fed_report p d) r t u in
    let three = ap (λ (p : Past). past_then p c) (past_then-append past a b)
    ∙ past_then-append past (a ++ b) c in
    Prints-fed past ((a ++ b) ++ c) d r s t u first (subst P three second)
