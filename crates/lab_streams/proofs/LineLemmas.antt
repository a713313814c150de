-- After each step of a script with streams what was consumed is carried.
use Rattle.std.proofs.Common.{◌≡◌, ℕ, true, List, [], ◌∷◌, ◌++◌, inl, refl, sym, ap, subst, ◌∙◌, append_assoc, append-nil}
use Rattle.std.specs.Prelude.{nat_lt, length, Option, Some, None}
use Rattle.std.specs.List.{All, cons_option, fold}
use Rattle.std.proofs.lemmas.Bool.{cond_both}
use Rattle.std.proofs.lemmas.List.Elements.{All-head, All-tail, filter_map-append}
use Rattle.chan_values.specs.declared.side.Side.{Side}
use Rattle.chan_values.specs.declared.side.Side.TheVariants.{Plugin, Agent}
use Rattle.channel_core.specs.History.{put_messages, released_items}
use Rattle.channel_core.specs.World.{Event, IsHonest, history_of}
use Rattle.channel_core.proofs.WorldLemmas.{IsHonest-pushed, IsLegalWorld-front, IsRight}
use Rattle.lab_script.specs.declared.stream_command.StreamAction.{StreamAction}
use Rattle.lab_script.specs.declared.stream_command.StreamCommand.{StreamCommand}
use Rattle.lab_script.specs.StreamCommand.{IsStreamAction, IsStreamCommand}
use Rattle.lab_run.specs.Steps.{Step, events_of, steps_of}
use Rattle.lab_run.proofs.RightLemmas.{IsRight-start, IsRight-steps}
use Rattle.smux_acts.specs.Each.{IsPrefixOf as Prefix}
use Rattle.smux_streams.specs.Call.{Entry, Closes, Opens, Takes, Writes}
use Rattle.smux_streams.specs.History.{acts_of, consumed, consumed_in, given, given_in}
use Rattle.smux_streams.specs.Laws.{side_of}
use Rattle.smux_streams.specs.Legal.{Answers, IsLegal, open_answer, take_answer, write_answer}
use Rattle.lab_streams.specs.Outcomes.{items_in}
use Rattle.lab_streams.specs.Run.{StreamProgress, beginning, past_of, stream_progress, stream_progress_after, stream_run}
use Rattle.lab_streams.specs.Steps.{Past, StreamStep, Told, action_steps, after, arrived, bytes_of, close_step, events_in, feed_step, feed_steps, fed_step, fed_steps, is_client, mux_history, mux_step, open_step, plain_step, stream_steps, take_step, write_step}
use Rattle.lab_streams.proofs.CallLemmas.{after-mux}
use Rattle.lab_streams.proofs.CarriedLemmas.{IsCarried, IsPut, carried_event, carried_feed, carried_quiet}
use Rattle.lab_streams.proofs.EndLemmas.{after-plain, with_events}
use Rattle.lab_streams.proofs.PastLemmas.{after-none, after-then, events_in-fed_steps, fed_steps-one, past_by, past_then}
use Rattle.lab_streams.proofs.PutLemmas.{carried_push}
use Rattle.lab_streams.proofs.QuietLemmas.{AreQuiet, IsQuiet, quiet_steps}
use Rattle.lab_streams.proofs.RunLemmas.{at_first, past_of-append}

-- ---- steps of ends with their feeds

-- the front of a world that is legal and honest
IsHonest-front : (world xs : List Event) → IsHonest (world ++ xs) → IsHonest world
IsHonest-front world [] honest = rw append-nil at honest
IsHonest-front world (x ∷ xs) honest =
    let longer = subst IsHonest (sym (append_assoc world (x ∷ []) xs)) honest in
    (IsHonest-pushed world x (IsHonest-front (world ++ x ∷ []) xs longer)).0

IsRight-front : (w : ℕ) (world xs : List Event) → IsRight w (world ++ xs) → IsRight w world
IsRight-front w world xs right =
    record {
      legal = IsLegalWorld-front w world xs right.legal;
      honest = IsHonest-front world xs right.honest;
    }

carried_option : (w : ℕ) (past : Past) (o : Option Event)
    → IsCarried w past
    → IsRight w (past.events ++ cons_option o [])
    → IsQuiet o
    → IsCarried w (with_events past (cons_option o []))
carried_option w past None is right quiet =
    subst (IsCarried w) (past_by _ _ _ _ (sym (append-nil past.events)) refl) is
carried_option w past (Some x) is right quiet = carried_event w past x is right quiet

-- one step of an end
carried_plain : (w : ℕ) (past : Past) (s : Step)
    → IsCarried w past
    → IsRight w (past.events ++ events_of (s ∷ []))
    → IsQuiet s.event
    → IsCarried w (after past (plain_step s ∷ []))
carried_plain w past s is right quiet =
    subst (IsCarried w) (sym (after-plain past s)) (carried_option w past s.event is right quiet)

carried_feeds : (w : ℕ) (past : Past) (line : ℕ) (side : Side) (came : List ℕ)
    → IsCarried w past
    → IsCarried w (after past (feed_steps past line side came))
carried_feeds w past line side came is =
    cond_both (nat_lt 0 (length came)) (feed_step past line side ∷ []) []
    (λ (l : List StreamStep). IsCarried w (after past l))
    (λ _. carried_feed w past line side is)
    (λ _. subst (IsCarried w) (sym (after-none past)) is)

carried_step : (w : ℕ) (past : Past) (s : Step)
    → IsCarried w past
    → IsRight w (past.events ++ events_of (s ∷ []))
    → IsQuiet s.event
    → IsCarried w (after past (fed_step past s))
carried_step w past s is right quiet =
    let one = plain_step s in
    let here = after past (one ∷ []) in
    let came = bytes_of (items_in s.outcome) in
    subst (IsCarried w) (after-then past (one ∷ []) (feed_steps here s.line s.side came))
    (carried_feeds w here s.line s.side came (carried_plain w past s is right quiet))

-- the calls of ends in a step with its feed
events-step : (past : Past) (s : Step)
    → (after past (fed_step past s)).events ≡ past.events ++ events_of (s ∷ [])
events-step past s =
    ap (λ (l : List Event). past.events ++ l)
    (ap events_in (sym (fed_steps-one past s)) ∙ events_in-fed_steps past (s ∷ []))

carried_steps : (w : ℕ) (past : Past) (steps : List Step)
    → IsCarried w past
    → IsRight w (past.events ++ events_of steps)
    → AreQuiet steps
    → IsCarried w (past_then past steps)
unfolding fed_steps
carried_steps w past [] is right quiet = subst (IsCarried w) (sym (after-none past)) is
carried_steps w past (s ∷ steps) is right quiet =
    let here = fed_step past s in
    let one = after past here in
    let split : past.events ++ events_of (s ∷ steps)
    ≡ (past.events ++ events_of (s ∷ [])) ++ events_of steps =
    ap (λ (l : List Event). past.events ++ l)
    (filter_map-append (λ (s : Step). s.event) (s ∷ []) steps)
    ∙ sym (append_assoc past.events (events_of (s ∷ [])) (events_of steps)) in
    let all = subst (IsRight w) split right in
    let first = IsRight-front w (past.events ++ events_of (s ∷ [])) (events_of steps) all in
    let rest = subst (λ (v : List Event). IsRight w (v ++ events_of steps))
    (sym (events-step past s)) all in
    subst (IsCarried w) (after-then past here (fed_steps one steps))
    (carried_steps w one steps (carried_step w past s is first quiet.0) rest quiet.1)

-- ---- lines

-- a call of a Mux that consumes and gives out nothing
carried_mux : (w : ℕ) (past : Past) (line : ℕ) (side : Side) (e : Entry) (told : List Told)
    → IsCarried w past
    → Answers (is_client side) (mux_history side past) e
    → given_in e ≡ []
    → consumed_in e ≡ []
    → IsCarried w (after past (mux_step line side e told ∷ []))
carried_mux w past line side e told is answers none nothing =
    subst (IsCarried w) (sym (after-mux past line side e told))
    (carried_quiet w past side e is answers none nothing)

carried_action : (w : ℕ) (past : Past) (now line : ℕ) (side : Side) (action : StreamAction)
    → IsCarried w past
    → IsStreamAction action
    → IsCarried w (after past (action_steps w past now line side action))
carried_action w past now line side (StreamAction.Write sid bytes) is ranges =
    let g = mux_history side past in
    let answer = write_answer (given g) (acts_of (is_client side) g) sid (length bytes) in
    carried_mux w past line side (Writes sid bytes answer)
    (write_step past line side sid bytes).told is
    ((ranges.0, (ranges.1.some, ranges.1.few)), inl refl) refl refl
carried_action w past now line side (StreamAction.Close sid) is ranges =
    let g = mux_history side past in
    let answer = write_answer (given g) (acts_of (is_client side) g) sid 0 in
    carried_mux w past line side (Closes sid answer) (close_step past line side sid).told is
    (ranges, inl refl) refl refl
carried_action w past now line side (StreamAction.Push most) is ranges =
    carried_push w past now line side most is
carried_action w past now line side (StreamAction.Take sid most) is ranges =
    let s = take_step past line side sid most in
    let one = after past (s ∷ []) in
    let answer = take_answer (acts_of (is_client side) (mux_history side past)) sid most in
    let taken : IsCarried w one =
    carried_mux w past line side (Takes sid most answer) s.told is (ranges.1.0, inl refl) refl refl in
    subst (IsCarried w) (after-then past (s ∷ []) (feed_step one line side ∷ []))
    (carried_feed w one line side taken)

carried_line : (w : ℕ) (past : Past) (now line : ℕ) (command : StreamCommand)
    → IsCarried w past
    → IsStreamCommand command
    → IsCarried w (after past (stream_steps w past now line command))
carried_line w past now line (StreamCommand.Plain command) is ranges =
    carried_steps w past (steps_of w past.events now line command) is
    (IsRight-steps w past.events now line command is.right)
    (quiet_steps w past.events now line command ranges.1)
carried_line w past now line StreamCommand.Open is ranges =
    let g = mux_history Plugin past in
    let answer = open_answer (given g) (acts_of true g) in
    carried_mux w past line Plugin (Opens answer) (open_step past line).told is
    (tt, (refl, inl refl)) refl refl
carried_line w past now line (StreamCommand.On side action) is ranges =
    carried_action w past now line side action is ranges

-- ---- scripts

-- before the first line
carried_beginning : (w : ℕ) → IsCarried w beginning
unfolding history_of released_items put_messages bytes_of consumed given side_of IsLegal
carried_beginning w =
    record {
      right = IsRight-start w;
      legal = λ side. tt;
      linked = tt;
      fed = λ side. fed_at side;
      put = λ side. put_at side;
    }
  where
    fed_at : (side : Side)
        → Prefix (consumed (mux_history side beginning))
        (arrived side beginning)
    fed_at Plugin = ([], refl)
    fed_at Agent = ([], refl)

    put_at : (side : Side)
        → IsPut (history_of side beginning.events) (given (mux_history side beginning))
    put_at Plugin = record { prefix = ([], refl); whole = λ few. refl }
    put_at Agent = record { prefix = ([], refl); whole = λ few. refl }

carried_lines : (w : ℕ) (p : StreamProgress) (commands : List StreamCommand)
    → IsCarried w (past_of p.steps)
    → All IsStreamCommand commands
    → IsCarried w (past_of (fold (stream_progress_after w) p commands).steps)
carried_lines w p [] is ranges = is
carried_lines w p (c ∷ cs) is ranges =
    let steps = stream_steps w (past_of p.steps) p.now p.line c in
    carried_lines w (stream_progress_after w p c) cs
    (subst (IsCarried w) (sym (past_of-append p.steps steps))
    (carried_line w (past_of p.steps) p.now p.line c is (All-head IsStreamCommand c cs ranges)))
    (All-tail IsStreamCommand c cs ranges)

pub carried_run : (w : ℕ) (commands : List StreamCommand)
    → All IsStreamCommand commands
    → IsCarried w (past_of (stream_run w commands))
unfolding stream_progress
carried_run w commands ranges =
    carried_lines w at_first commands
    (subst (IsCarried w) (sym (after-none beginning)) (carried_beginning w)) ranges
