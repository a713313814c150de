-- A settle is an exchange without a loss, keeps the world legal and honest, and has the steps of the
-- lines that it stands for.
use Rattle.std.proofs.Common.{◌≡◌, ◌≢◌, ℕ, ◌+◌, ◌*◌, ◌-◌, ◌≤◌, zero, suc, cond, ◌⊎◌, inl, inr, ⊎_elim, Option, List, [], ◌∷◌, ◌++◌, length, refl, sym, ap, subst, ◌∙◌, arith}
use Rattle.std.proofs.lemmas.Bool.{cond_both}
use Rattle.std.proofs.lemmas.List.Elements.{filter_map-append}
use Rattle.chan_values.specs.declared.side.Side.{Side}
use Rattle.chan_values.specs.declared.side.Side.TheVariants.{Plugin, Agent}
use Rattle.chan_values.specs.Sides.{other}
use Rattle.channel_core.specs.declared.call.EndAnswer.{EndAnswer}
use Rattle.channel_core.specs.declared.call.EndCall.{EndCall}
use Rattle.channel_core.specs.declared.answer.Heard.{Heard}
use Rattle.channel_core.specs.declared.message.Incoming.{Incoming}
use Rattle.channel_core.specs.declared.message.Outgoing.{Outgoing}
use Rattle.channel_core.specs.declared.answer.Pull.{Pull}
use Rattle.channel_core.specs.Call.{Entry}
use Rattle.channel_core.specs.Exchange.{IsExchange, IsPass, incoming_of, opening}
use Rattle.channel_core.specs.History.{emissions, is_closed}
use Rattle.channel_core.specs.Legal.{answer_to_heard, answer_to_incoming, answer_to_pull}
use Rattle.channel_core.specs.World.{Event, WasEmitted, history_of}
use Rattle.channel_core.proofs.ExchangeLemmas.{openings, openings_parts}
use Rattle.channel_core.proofs.LegalLemmas.{ack_cases, pull_cases, stream_cases}
use Rattle.channel_core.proofs.ShortLemmas.{backlog, backlog_falls, backlog_within}
use Rattle.channel_core.proofs.WorldLemmas.{event_of, IsRight, IsRight-push, WasEmitted-at, append_two-holds, history_of-here, history_of-there, other-other}
use Rattle.lab_script.specs.declared.verb.Verb.{Verb}
use Rattle.lab_script.specs.declared.word.Which.{Which}
use Rattle.lab_run.specs.Outcomes.{is_emission, outcome_of_pull}
use Rattle.lab_run.specs.Steps.{Step, called, emission_at, events_of, heard_at, pass_lines, pass_steps, settle_lines, settle_steps, steps_at}
use Rattle.lab_run.proofs.LineLemmas.{emission_at-pulled, hearing_of, steps_at-both, steps_at-emits}

-- what a pull gives: a message or nothing
pull_gives : (w : ℕ) (h : List Entry) (now : ℕ)
    → (answer_to_pull w h now ≡ Pull.Idle)
    ⊎ ((out : Outgoing) × (answer_to_pull w h now ≡ Pull.Emit out))
pull_gives w h now =
    pull_cases w h now (λ pull. (pull ≡ Pull.Idle) ⊎ ((out : Outgoing) × (pull ≡ Pull.Emit out)))
    (inl refl)
    (λ p owed is. inr (_, refl))
    (λ n m below eligible is. inr (_, refl))

-- the answer that is due to a message is no want of memory
heard_is_kept : (w : ℕ) (h : List Entry) (incoming : Incoming)
    → answer_to_heard w h incoming ≢ Heard.NoMemory incoming
heard_is_kept w h incoming =
    cond_both (is_closed h) Heard.AfterClose (answer_to_incoming w h incoming)
    (λ heard. heard ≢ Heard.NoMemory incoming)
    (λ closed is. cc)
    (λ unclosed. at incoming)
  where
    at : (incoming : Incoming) → answer_to_incoming w h incoming ≢ Heard.NoMemory incoming
    at (Incoming.Stream n id item last) =
        stream_cases w h n item last
        (λ heard. heard ≢ Heard.NoMemory (Incoming.Stream n id item last))
        (λ there is. cc)
        (λ far is. cc)
        (λ m new past is. cc)
        (λ new so is. cc)
        (λ new so is. cc)
    at (Incoming.Ack n) =
        ack_cases h n (λ heard. heard ≢ Heard.NoMemory (Incoming.Ack n))
        (λ emitted before is. cc)
        (λ is. cc)
    at Incoming.Pause = λ is. cc
    at Incoming.Start = λ is. cc
    at (Incoming.Closing output) = λ is. cc

-- the steps of a pass of an end that has nothing to emit
pass_steps-idle : (n w : ℕ) (world : List Event) (now line : ℕ) (side : Side)
    → answer_to_pull w (history_of side world) now ≡ Pull.Idle
    → pass_steps (suc n) w world now line side ≡ called w world line Verb.Pull side
    (EndCall.Pull now) ∷ []
unfolding pass_steps
pass_steps-idle n w world now line side is =
    let h = history_of side world in
    let pulled = called w world line Verb.Pull side (EndCall.Pull now) in
    let one = world ++ events_of (pulled ∷ []) in
    let heard = heard_at w one now line (other side)
    (emission_at (emissions (history_of side one)) Which.Last) in
    let more = heard ∷ pass_steps n w (one ++ events_of (heard ∷ [])) now line side in
    ap
    (λ (p : Pull). pulled ∷ cond (is_emission (outcome_of_pull side (length (emissions h)) p))
    more [])
    is

-- the steps of a pass of an end that emits a message
pass_steps-emits : (n w : ℕ) (world : List Event) (now line : ℕ) (side : Side) (out : Outgoing)
    → answer_to_pull w (history_of side world) now ≡ Pull.Emit out
    → let x = event_of w world side (EndCall.Pull now) in
    let one = world ++ x ∷ [] in
    let y = hearing_of w one now side out in
    pass_steps (suc n) w world now line side
    ≡ called w world line Verb.Pull side (EndCall.Pull now)
    ∷ called w one line Verb.Hear (other side) y.entry.call
    ∷ pass_steps n w (one ++ y ∷ []) now line side
unfolding pass_steps
pass_steps-emits n w world now line side out is =
    let h = history_of side world in
    let pulled = called w world line Verb.Pull side (EndCall.Pull now) in
    let one = world ++ events_of (pulled ∷ []) in
    let last = emission_at (emissions (history_of side one)) Which.Last in
    let more : Option Outgoing → List Step
    = λ o.
    let heard = heard_at w one now line (other side) o in
    heard ∷ pass_steps n w (one ++ events_of (heard ∷ [])) now line side in
    ap
    (λ (p : Pull). pulled ∷ cond (is_emission (outcome_of_pull side (length (emissions h)) p))
    (more last) [])
    is
    ∙ ap (λ (o : Option Outgoing). pulled ∷ more o) (emission_at-pulled w world side now out is)

-- what the steps of a pass leave, and how many messages its end emits
record PassLeaves (w : ℕ) (side : Side) (world : List Event) (now line : ℕ) (steps : List Step)
    : Type 0 where
  pass : IsPass side (events_of steps)
  right : IsRight w (world ++ events_of steps)
  count : ℕ
  few : count ≤ backlog w (history_of side world)
  lines : steps ≡ steps_at w world now line (pass_lines side count)

-- an end that has nothing to emit has passed
idle_passes : (n w : ℕ) (world : List Event) (now line : ℕ) (side : Side)
    → IsRight w world
    → answer_to_pull w (history_of side world) now ≡ Pull.Idle
    → PassLeaves w side world now line (pass_steps (suc n) w world now line side)
idle_passes n w world now line side right is =
    subst (PassLeaves w side world now line) (sym (pass_steps-idle n w world now line side is))
    (record {
      pass = record {
        side = refl;
        now = now;
        call = refl;
        answer =
            ap (λ (p : Pull). EndAnswer.Pull p) is;
      };
      right = IsRight-push w world side (EndCall.Pull now) right tt;
      count = zero;
      few = omega arith;
      lines = refl;
    })

-- an emission that is heard at once goes before a pass
emit_passes : (n w : ℕ) (world : List Event) (now line : ℕ) (side : Side) (out : Outgoing)
    → IsRight w world
    → answer_to_pull w (history_of side world) now ≡ Pull.Emit out
    → ((next : List Event)
    → IsRight w next
    → backlog w (history_of side next) + 1 ≡ backlog w (history_of side world)
    → PassLeaves w side next now line (pass_steps n w next now line side))
    → PassLeaves w side world now line (pass_steps (suc n) w world now line side)
emit_passes n w world now line side out right is rest =
    let h = history_of side world in
    let x = event_of w world side (EndCall.Pull now) in
    let one = world ++ x ∷ [] in
    let y = hearing_of w one now side out in
    let two = one ++ y ∷ [] in
    let answer : x.entry.answer ≡ EndAnswer.Pull (Pull.Emit out)
    = ap (λ (p : Pull). EndAnswer.Pull p) is in
    let sent = emissions (history_of side one) in
    let was : WasEmitted sent y.entry.call
    = WasEmitted-at sent (length sent - 1) now out (emission_at-pulled w world side now out is) in
    let right_two : IsRight w two
    = IsRight-push w one (other side) y.entry.call
    (IsRight-push w world side (EndCall.Pull now) right tt) (rw other-other was) in
    let mine : history_of side two ≡ h ++ x.entry ∷ []
    = history_of-there side one y refl ∙ history_of-here side world x refl in
    let less : backlog w (history_of side two) + 1 ≡ backlog w h
    = ap (λ (h : List Entry). backlog w h + 1) mine
    ∙ backlog_falls w h x.entry out (inl refl) answer in
    let next = rest two right_two less in
    let memory = heard_is_kept w (history_of (other side) one) (incoming_of out) in
    let pulled = called w world line Verb.Pull side (EndCall.Pull now) in
    let heard = called w one line Verb.Hear (other side) y.entry.call in
    subst (PassLeaves w side world now line) (sym (pass_steps-emits n w world now line side out is))
    (record {
      pass = (
        out,
        record { side = refl; now = now; call = refl; answer = answer },
        record { side = refl; now = now; call = refl; memory = λ none. memory (cc) },
        next.pass,
      );
      right =
          append_two-holds (IsRight w) world (events_of (pass_steps n w two now line side))
          x y next.right;
      count = suc next.count;
      few = omega (arith, next.few, less);
      lines =
          ap (λ (l : List Step). pulled ∷ heard ∷ l) next.lines
          ∙ sym (steps_at-emits w world now line side out (pass_lines side next.count) is);
    })

-- an end that has at most n messages to emit passes within n + 1 pulls
passes : (n w : ℕ) (world : List Event) (now line : ℕ) (side : Side)
    → IsRight w world
    → backlog w (history_of side world) ≤ n
    → PassLeaves w side world now line (pass_steps (suc n) w world now line side)
passes zero w world now line side right few =
    ⊎_elim
    (λ idle. idle_passes zero w world now line side right idle)
    (λ emits. emit_passes zero w world now line side emits.0 right emits.1
    (λ next right_next less. absurd (omega (arith, few, less))))
    (pull_gives w (history_of side world) now)
passes (suc n) w world now line side right few =
    ⊎_elim
    (λ idle. idle_passes (suc n) w world now line side right idle)
    (λ emits. emit_passes (suc n) w world now line side emits.0 right emits.1
    (λ next right_next less. passes n w next now line side right_next (omega (arith, few, less))))
    (pull_gives w (history_of side world) now)

-- the pulls of a settle are enough for each end
all_passes : (w : ℕ) (world : List Event) (now line : ℕ) (side : Side)
    → IsRight w world
    → PassLeaves w side world now line (pass_steps (2 * w + 1) w world now line side)
all_passes w world now line side right =
    let enough : suc (2 * w) ≡ 2 * w + 1 = omega arith in
    subst
    (λ n. PassLeaves w side world now line (pass_steps n w world now line side)) enough
    (passes (2 * w) w world now line side right (backlog_within w world side right.legal))

-- what the steps of a settle leave
record SettleLeaves (w : ℕ) (world : List Event) (now line : ℕ) (steps : List Step) : Type 0 where
  exchange : IsExchange (events_of steps)
  right : IsRight w (world ++ events_of steps)
  lines :
      (n : ℕ) × (m : ℕ) × (n ≤ 2 * w) × (m ≤ 2 * w)
      × (steps ≡ steps_at w world now line (settle_lines n m))

settle_leaves : (w : ℕ) (world : List Event) (now line : ℕ)
    → IsRight w world
    → SettleLeaves w world now line (settle_steps w world now line)
settle_leaves w world now line right =
    let plugin = opening Plugin now in
    let agent = opening Agent now in
    let start = openings world now now in
    let opened : Side → Step = λ side. called w world line Verb.Open side (EndCall.Opened now) in
    let right_start : IsRight w start
    = IsRight-push w (world ++ plugin ∷ []) Agent (EndCall.Opened now)
    (IsRight-push w world Plugin (EndCall.Opened now) right tt) tt in
    let to_agent = pass_steps (2 * w + 1) w start now line Plugin in
    let middle = start ++ events_of to_agent in
    let to_plugin = pass_steps (2 * w + 1) w middle now line Agent in
    let first = all_passes w start now line Plugin right_start in
    let second = all_passes w middle now line Agent first.right in
    let xs = plugin ∷ agent ∷ (events_of to_agent ++ events_of to_plugin) in
    let parts : events_of (settle_steps w world now line) ≡ xs
    = ap (λ (l : List Event). plugin ∷ agent ∷ l)
    (filter_map-append (λ (s : Step). s.event) to_agent to_plugin) in
    let both = steps_at-both w start now line (pass_lines Plugin first.count)
    (pass_lines Agent second.count)
    to_agent to_plugin first.lines second.lines in
    record {
      exchange = record {
        plugin_opened = now;
        agent_opened = now;
        to_agent = events_of to_agent;
        to_plugin = events_of to_plugin;
        parts = parts;
        first = first.pass;
        second = second.pass;
      };
      right =
          subst (IsRight w)
          (openings_parts world (events_of to_agent) (events_of to_plugin) now now
          ∙ ap (λ (l : List Event). world ++ l) (sym parts)) second.right;
      lines = (
        first.count,
        second.count,
        omega (arith, first.few, backlog_within w start Plugin right_start.legal),
        omega (arith, second.few, backlog_within w middle Agent first.right.legal),
        ap (λ (l : List Step). opened Plugin ∷ opened Agent ∷ l) both,
      );
    }

-- a settle is an exchange
pub settle_is_exchange : (w : ℕ) (world : List Event) (now line : ℕ)
    → IsRight w world
    → IsExchange (events_of (settle_steps w world now line))
settle_is_exchange w world now line right = (settle_leaves w world now line right).exchange

-- its steps are those of the lines that it stands for
pub settle_has_lines : (w : ℕ) (world : List Event) (now line : ℕ)
    → IsRight w world
    → (n : ℕ) × (m : ℕ) × (n ≤ 2 * w) × (m ≤ 2 * w)
    × (settle_steps w world now line ≡ steps_at w world now line (settle_lines n m))
settle_has_lines w world now line right = (settle_leaves w world now line right).lines

-- and keeps the world legal and honest
pub IsRight-settle : (w : ℕ) (world : List Event) (now line : ℕ)
    → IsRight w world
    → IsRight w (world ++ events_of (settle_steps w world now line))
IsRight-settle w world now line right = (settle_leaves w world now line right).right
