-- What happened after steps, and the steps of ends with their feeds.
use Rattle.std.proofs.Common.{◌≡◌, ℕ, Bool, true, false, cond, List, [], ◌∷◌, ◌++◌, length, refl, sym, ap, ◌∙◌, append_assoc, append-nil}
use Rattle.std.specs.Prelude.{nat_lt}
use Rattle.std.proofs.lemmas.List.Elements.{filter_map-append}
use Rattle.chan_values.specs.declared.side.Side.{Side}
use Rattle.channel_core.specs.World.{Event}
use Rattle.lab_run.specs.Steps.{Step, events_of}
use Rattle.smux_streams.specs.Laws.{Step as MuxStep}
use Rattle.lab_streams.specs.Outcomes.{items_in}
use Rattle.lab_streams.specs.Steps.{Past, StreamStep, after, bytes_of, calls_in, events_in, feed_step, feed_steps, fed_step, fed_steps, plain_step}

-- what happened, of these calls
pub past_by : (a b : List Event) (c d : List MuxStep) → a ≡ b → c ≡ d
    → (let x : Past = record { events = a; calls = c } in x)
    ≡ (let y : Past = record { events = b; calls = d } in y)
past_by a b c d e f =
    ap (λ (l : List Event). let x : Past = record { events = l; calls = c } in x) e
    ∙ ap (λ (l : List MuxStep). let x : Past = record { events = b; calls = l } in x) f

-- no step
pub after-none : (past : Past) → after past [] ≡ past
after-none past = past_by _ _ _ _ (append-nil past.events) (append-nil past.calls)

-- some steps, and then more
pub after-then : (past : Past) (a b : List StreamStep)
    → after (after past a) b ≡ after past (a ++ b)
after-then past a b =
    past_by _ _ _ _
    (append_assoc past.events (events_in a) (events_in b)
    ∙ ap (λ (l : List Event). past.events ++ l)
    (sym (filter_map-append (λ (s : StreamStep). s.event) a b)))
    (append_assoc past.calls (calls_in a) (calls_in b)
    ∙ ap (λ (l : List MuxStep). past.calls ++ l)
    (sym (filter_map-append (λ (s : StreamStep). s.call) a b)))

-- no step of an end
pub fed_steps-none : (past : Past) → fed_steps past [] ≡ []
unfolding fed_steps
fed_steps-none past = refl

-- one step of an end
pub fed_steps-one : (past : Past) (s : Step) → fed_steps past (s ∷ []) ≡ fed_step past s
unfolding fed_steps
fed_steps-one past s = append-nil (fed_step past s)

-- some steps of ends, and then more
pub fed_steps-append : (past : Past) (a b : List Step)
    → let first = fed_steps past a in
    fed_steps past (a ++ b) ≡ first ++ fed_steps (after past first) b
unfolding fed_steps
fed_steps-append past [] b = ap (λ (p : Past). fed_steps p b) (sym (after-none past))
fed_steps-append past (s ∷ a) b =
    let here = fed_step past s in
    let one = after past here in
    let rest = fed_steps one a in
    ap (λ (l : List StreamStep). here ++ l) (fed_steps-append one a b)
    ∙ sym (append_assoc here rest (fed_steps (after one rest) b))
    ∙ ap (λ (p : Past). (here ++ rest) ++ fed_steps p b) (after-then past here rest)

-- what happened in steps of ends with their feeds
abbrev pub past_then : Past → List Step → Past
past_then past a = after past (fed_steps past a)

pub past_then-append : (past : Past) (a b : List Step)
    → past_then (past_then past a) b ≡ past_then past (a ++ b)
past_then-append past a b =
    after-then past (fed_steps past a) (fed_steps (past_then past a) b)
    ∙ ap (after past) (sym (fed_steps-append past a b))

pub past_then-none : (past : Past) → past_then past [] ≡ past
past_then-none past = ap (after past) (fed_steps-none past) ∙ after-none past

-- a feed is no call of an end
events_in-feed : (past : Past) (line : ℕ) (side : Side) (b : Bool)
    → events_in (cond b (feed_step past line side ∷ []) []) ≡ []
events_in-feed past line side true = refl
events_in-feed past line side false = refl

pub events_in-feed_steps : (past : Past) (line : ℕ) (side : Side) (came : List ℕ)
    → events_in (feed_steps past line side came) ≡ []
events_in-feed_steps past line side came =
    events_in-feed past line side (nat_lt 0 (length came))

events_in-fed_step : (past : Past) (s : Step) → events_in (fed_step past s) ≡ events_of (s ∷ [])
events_in-fed_step past s =
    let one = plain_step s in
    let came = bytes_of (items_in s.outcome) in
    filter_map-append (λ (s : StreamStep). s.event) (one ∷ [])
    (feed_steps (after past (one ∷ [])) s.line s.side came)
    ∙ ap (λ (l : List Event). events_of (s ∷ []) ++ l)
    (events_in-feed_steps (after past (one ∷ [])) s.line s.side came)
    ∙ append-nil (events_of (s ∷ []))

-- the calls of the ends are those of a plain run
pub events_in-fed_steps : (past : Past) (a : List Step)
    → events_in (fed_steps past a) ≡ events_of a
unfolding fed_steps
events_in-fed_steps past [] = refl
events_in-fed_steps past (s ∷ a) =
    let here = fed_step past s in
    let one = after past here in
    filter_map-append (λ (s : StreamStep). s.event) here (fed_steps one a)
    ∙ ap (λ (l : List Event). l ++ events_in (fed_steps one a)) (events_in-fed_step past s)
    ∙ ap (λ (l : List Event). events_of (s ∷ []) ++ l) (events_in-fed_steps one a)
    ∙ sym (filter_map-append (λ (s : Step). s.event) (s ∷ []) a)

pub past_then-events : (past : Past) (a : List Step)
    → (past_then past a).events ≡ past.events ++ events_of a
past_then-events past a =
    ap (λ (l : List Event). past.events ++ l) (events_in-fed_steps past a)
