-- After each legal world there is an exchange.
use Rattle.std.proofs.Common.{◌≡◌, ◌≢◌, ℕ, ◌+◌, ◌*◌, ◌≤◌, zero, suc, false, List, [], ◌∷◌, ◌++◌, ◌⊎◌, inl, inr, ⊎_elim, refl, ap, subst, ◌∙◌, arith}
use Rattle.std.proofs.lemmas.Bool.{cond_both}
use Rattle.chan_values.specs.declared.side.Side.{Side}
use Rattle.chan_values.specs.declared.side.Side.TheVariants.{Plugin, Agent}
use Rattle.chan_values.specs.Sides.{other}
use Rattle.channel_core.specs.declared.call.EndAnswer.{EndAnswer}
use Rattle.channel_core.specs.declared.call.EndCall.{EndCall}
use Rattle.channel_core.specs.declared.answer.Heard.{Heard}
use Rattle.channel_core.specs.declared.message.Incoming.{Incoming}
use Rattle.channel_core.specs.declared.message.Outgoing.{Outgoing}
use Rattle.channel_core.specs.declared.answer.Pull.{Pull}
use Rattle.channel_core.specs.Call.{Entry}
use Rattle.channel_core.specs.Exchange.{IsExchange, IsPass, incoming_of, opening}
use Rattle.channel_core.specs.History.{closes, is_closed}
use Rattle.channel_core.specs.Laws.{ExchangeIsPossible}
use Rattle.channel_core.specs.Legal.{answer_to_heard, answer_to_incoming, answer_to_pull}
use Rattle.channel_core.specs.World.{Event, IsLegalWorld, history_of}
use Rattle.channel_core.proofs.ExchangeLemmas.{openings, openings_parts}
use Rattle.channel_core.proofs.HistoryLemmas.{is_closed-push}
use Rattle.channel_core.proofs.LegalLemmas.{ack_cases, pull_cases, stream_cases}
use Rattle.channel_core.proofs.IdleLemmas.{Unclosed}
use Rattle.channel_core.proofs.ShortLemmas.{backlog, backlog_falls, backlog_within}
use Rattle.channel_core.proofs.WorldLemmas.{event_of, append_two-holds, IsLegalWorld-push, cases_side, history_of-here, history_of-there}

-- an event that closes nothing leaves both ends as they were
Unclosed-push : (world : List Event) (x : Event)
    → closes x.entry.answer x.entry.call ≡ false
    → Unclosed world
    → Unclosed (world ++ x ∷ [])
Unclosed-push world x stays unclosed z =
    ⊎_elim
    (λ (here : x.side ≡ z).
    ap is_closed (history_of-here z world x here)
    ∙ is_closed-push (history_of z world) x.entry
    ∙ rw (unclosed z, stays) refl)
    (λ (there : x.side ≡ other z). ap is_closed (history_of-there z world x there) ∙ unclosed z)
    (cases_side z x.side)

-- what a pull gives: a message or nothing
pull_gives : (w : ℕ) (h : List Entry)
    → (answer_to_pull w h 0 ≡ Pull.Idle)
    ⊎ ((out : Outgoing) × (answer_to_pull w h 0 ≡ Pull.Emit out))
pull_gives w h =
    pull_cases w h 0 (λ pull. (pull ≡ Pull.Idle) ⊎ ((out : Outgoing) × (pull ≡ Pull.Emit out)))
    (inl refl)
    (λ p owed is. inr (_, refl))
    (λ n m below eligible is. inr (_, refl))

-- an end that hears a message of the other has memory for it by its answer, and is not closed by it
record IsPlain (call : EndCall) (incoming : Incoming) (heard : Heard) : Type 0 where
  memory : EndAnswer.Heard heard ≢ EndAnswer.Heard (Heard.NoMemory incoming)
  stays : closes (EndAnswer.Heard heard) call ≡ false

heard_plain : (w : ℕ) (h : List Entry) (out : Outgoing)
    → IsPlain
    (EndCall.Heard 0 (incoming_of out)) (incoming_of out) (answer_to_heard w h (incoming_of out))
heard_plain w h out =
    cond_both (is_closed h) Heard.AfterClose (answer_to_incoming w h (incoming_of out))
    (IsPlain (EndCall.Heard 0 (incoming_of out)) (incoming_of out))
    (λ _. record { memory = λ is. cc; stays = refl })
    (λ _. plain out)
  where
    plain : (out : Outgoing)
        → IsPlain
        (EndCall.Heard 0 (incoming_of out)) (incoming_of out)
        (answer_to_incoming w h (incoming_of out))
    plain (Outgoing.Stream m) =
        let incoming = Incoming.Stream m.seq m.id m.item m.last in
        stream_cases w h m.seq m.item m.last (IsPlain (EndCall.Heard 0 incoming) incoming)
        (λ there. record { memory = λ is. cc; stays = refl })
        (λ far. record { memory = λ is. cc; stays = refl })
        (λ k new past. record { memory = λ is. cc; stays = refl })
        (λ new so. record { memory = λ is. cc; stays = refl })
        (λ new so. record { memory = λ is. cc; stays = refl })
    plain (Outgoing.Ack n id date) =
        ack_cases h n (IsPlain (EndCall.Heard 0 (Incoming.Ack n)) (Incoming.Ack n))
        (λ emitted before. record { memory = λ is. cc; stays = refl })
        (record { memory = λ is. cc; stays = refl })

-- a pass that may come next
record Passes (w : ℕ) (side : Side) (world : List Event) : Type 0 where
  events : List Event
  pass : IsPass side events
  legal : IsLegalWorld w (world ++ events)
  unclosed : Unclosed (world ++ events)

-- an end that has nothing to emit has passed
idle_passes : (w : ℕ) (side : Side) (world : List Event)
    → IsLegalWorld w world
    → Unclosed world
    → answer_to_pull w (history_of side world) 0 ≡ Pull.Idle
    → Passes w side world
idle_passes w side world legal unclosed is =
    let x = event_of w world side (EndCall.Pull 0) in
    record {
      events = x ∷ [];
      pass = record { side = refl; now = 0; call = refl; answer = ap (λ p. EndAnswer.Pull p) is };
      legal = IsLegalWorld-push w world x legal (inl refl);
      unclosed = Unclosed-push world x refl unclosed;
    }

-- the other end hears what this one emits
abbrev hearing_of : ℕ → List Event → Side → Outgoing → Event
hearing_of w world side out = event_of w world (other side) (EndCall.Heard 0 (incoming_of out))

-- a message that is emitted and heard at once goes before a pass
emit_passes : (w : ℕ) (side : Side) (world : List Event) (out : Outgoing)
    → IsLegalWorld w world
    → Unclosed world
    → answer_to_pull w (history_of side world) 0 ≡ Pull.Emit out
    → ((next : List Event)
    → IsLegalWorld w next
    → Unclosed next
    → backlog w (history_of side next) + 1 ≡ backlog w (history_of side world)
    → Passes w side next)
    → Passes w side world
emit_passes w side world out legal unclosed is rest =
    let s = history_of side world in
    let x = event_of w world side (EndCall.Pull 0) in
    let one = world ++ x ∷ [] in
    let y = hearing_of w one side out in
    let two = one ++ y ∷ [] in
    let plain = heard_plain w (history_of (other side) one) out in
    let answer : x.entry.answer ≡ EndAnswer.Pull (Pull.Emit out)
    = ap (λ (p : Pull). EndAnswer.Pull p) is in
    let mine : history_of side two ≡ s ++ x.entry ∷ []
    = history_of-there side one y refl ∙ history_of-here side world x refl in
    let less : backlog w (history_of side two) + 1 ≡ backlog w s
    = ap (λ (h : List Entry). backlog w h + 1) mine
    ∙ backlog_falls w s x.entry out (inl refl) answer in
    let next = rest two
    (IsLegalWorld-push w one y (IsLegalWorld-push w world x legal (inl refl)) (inl refl))
    (Unclosed-push one y plain.stays (Unclosed-push world x refl unclosed)) less in
    record {
      events = x ∷ y ∷ next.events;
      pass = (
        out,
        record { side = refl; now = 0; call = refl; answer = answer },
        record { side = refl; now = 0; call = refl; memory = plain.memory },
        next.pass,
      );
      legal = append_two-holds (IsLegalWorld w) world next.events x y next.legal;
      unclosed = append_two-holds Unclosed world next.events x y next.unclosed;
    }

-- an end that has at most so much to emit can pass
passes : (w bound : ℕ) (side : Side) (world : List Event)
    → backlog w (history_of side world) ≤ bound
    → IsLegalWorld w world
    → Unclosed world
    → Passes w side world
passes w zero side world few legal unclosed =
    ⊎_elim
    (λ idle. idle_passes w side world legal unclosed idle)
    (λ emits. emit_passes w side world emits.0 legal unclosed emits.1
    (λ next legal_next unclosed_next less. absurd (omega (arith, few, less))))
    (pull_gives w (history_of side world))
passes w (suc bound) side world few legal unclosed =
    ⊎_elim
    (λ idle. idle_passes w side world legal unclosed idle)
    (λ emits. emit_passes w side world emits.0 legal unclosed emits.1
    (λ next legal_next unclosed_next less.
    passes w bound side next (omega (arith, few, less)) legal_next unclosed_next))
    (pull_gives w (history_of side world))

-- an exchange that follows a world
abbrev Follows : ℕ → List Event → Type 0
Follows w world =
    (xs : List Event)
    × IsExchange xs
    × IsLegalWorld w (world ++ xs)
    × Unclosed (world ++ xs)

-- two openings and two passes are an exchange
follows : (w : ℕ) (world first second : List Event)
    → IsPass Plugin first
    → IsPass Agent second
    → IsLegalWorld w ((openings world 0 0 ++ first) ++ second)
    → Unclosed ((openings world 0 0 ++ first) ++ second)
    → Follows w world
follows w world first second to_agent to_plugin legal unclosed =
    let same = openings_parts world first second 0 0 in
    let xs = opening Plugin 0 ∷ opening Agent 0 ∷ (first ++ second) in
    let exchange : IsExchange xs
    = record {
      plugin_opened = 0;
      agent_opened = 0;
      to_agent = first;
      to_plugin = second;
      parts = refl;
      first = to_agent;
      second = to_plugin;
    } in
    (xs, exchange, subst (IsLegalWorld w) same legal, subst Unclosed same unclosed)

pub exchange_is_possible : ExchangeIsPossible
exchange_is_possible w world legal unclosed =
    let plugin = opening Plugin 0 in
    let agent = opening Agent 0 in
    let one = world ++ plugin ∷ [] in
    let start = openings world 0 0 in
    let legal_one = IsLegalWorld-push w world plugin legal (inl refl) in
    let legal_start : IsLegalWorld w start = IsLegalWorld-push w one agent legal_one (inl refl) in
    let unclosed_start : Unclosed start
    = Unclosed-push one agent refl (Unclosed-push world plugin refl unclosed) in
    let few_plugin = backlog_within w start Plugin legal_start in
    let first = passes w (2 * w) Plugin start few_plugin legal_start unclosed_start in
    let middle = start ++ first.events in
    let few_agent = backlog_within w middle Agent first.legal in
    let second = passes w (2 * w) Agent middle few_agent first.legal first.unclosed in
    follows w world first.events second.events
    first.pass second.pass second.legal second.unclosed
