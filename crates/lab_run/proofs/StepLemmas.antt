-- What one step of a script leaves at the two ends.
use Rattle.std.proofs.Common.{◌≡◌, ℕ, Bool, true, false, cond, Option, Some, None, List, [], ◌∷◌, ◌++◌, length, map, refl, sym, ap, subst, ◌∙◌, Result, IfOk, MatchOption, append-nil}
use Rattle.std.specs.Prelude.{nat_lt}
use Rattle.std.specs.List.{All, cons_option}
use Rattle.std.specs.Str.{bytes_eq}
use Rattle.std.proofs.lemmas.Result.{IfOk-weaker}
use Rattle.std.proofs.lemmas.List.{map-append}
use Rattle.std.proofs.lemmas.List.Elements.{All-append, All-nil}
use Rattle.chan_values.specs.declared.no_memory.NoMemory.{NoMemory}
use Rattle.chan_values.specs.declared.side.Side.{Side}
use Rattle.chan_values.specs.Sides.{other}
use Rattle.agent_message.specs.Sha256.{sha256}
use Rattle.channel_core.specs.declared.call.EndAnswer.{EndAnswer}
use Rattle.channel_core.specs.declared.call.EndCall.{EndCall}
use Rattle.channel_core.specs.declared.answer.Heard.{Heard}
use Rattle.channel_core.specs.declared.message.Outgoing.{Outgoing}
use Rattle.channel_core.specs.declared.answer.Pull.{Pull}
use Rattle.channel_core.specs.declared.answer.Put.{Put}
use Rattle.channel_core.specs.declared.answer.Tick.{Tick}
use Rattle.channel_core.specs.Call.{Entry}
use Rattle.channel_core.specs.Exchange.{incoming_of, opening}
use Rattle.channel_core.specs.History.{emissions, message_emitted}
use Rattle.channel_core.specs.Legal.{IsAnswered, IsNoMemory, answer_to}
use Rattle.channel_core.specs.Stands.{EndState, Follows, Stands}
use Rattle.channel_core.specs.Wire.{encoding, message_of}
use Rattle.channel_core.specs.World.{Event, IsLegalWorld, history_of}
use Rattle.channel_core.proofs.HistoryLemmas.{emissions-push}
use Rattle.channel_core.proofs.LegalLemmas.{IsLegal-nil, IsLegal-pushed, answered_cases}
use Rattle.channel_core.proofs.WorldLemmas.{history_of-here, history_of-away}
use Rattle.lab_script.specs.declared.outcome.Outcome.{Outcome}
use Rattle.lab_script.specs.declared.verb.Verb.{Verb}
use Rattle.lab_run.specs.declared.endpoint.Endpoint.{Endpoint}
use Rattle.lab_run.specs.Damage.{damaged, outcome_of_hurt}
use Rattle.lab_run.specs.Ends.{HasSent, IsCalled, IsEndpoint, IsSendable, Makes}
use Rattle.lab_run.specs.Outcomes.{encodings_in, outcome_of, outcome_of_heard, outcome_of_put, outcome_of_tick}
use Rattle.lab_run.specs.Steps.{Step, called, events_of, hurt_at}

-- an answer that is not want of memory is the one that is due
due_answer : (w : ℕ) (h : List Entry) (call : EndCall) (answer : EndAnswer)
    → IsAnswered w h call answer
    → ¬ IsNoMemory call answer
    → answer ≡ answer_to w h call
due_answer w h call answer answered memory =
    answered_cases w h call answer answered (λ (is : answer ≡ answer_to w h call). is)
    (λ (is : IsNoMemory call answer). absurd (memory is))

put_emits : (answer : Put) → encodings_in (outcome_of_put answer) ≡ []
put_emits (Put.Seq n) = refl
put_emits (Put.Closed item) = refl
put_emits (Put.Past item) = refl
put_emits (Put.Spent item) = refl
put_emits (Put.Full item) = refl

heard_emits : (answer : Heard) → encodings_in (outcome_of_heard answer) ≡ []
heard_emits (Heard.Released items) = refl
heard_emits (Heard.Finished items) = refl
heard_emits Heard.Late = refl
heard_emits Heard.Beyond = refl
heard_emits (Heard.PastEnd n) = refl
heard_emits (Heard.Acked n) = refl
heard_emits (Heard.UnknownAck n) = refl
heard_emits Heard.Paused = refl
heard_emits Heard.Started = refl
heard_emits Heard.Ended = refl
heard_emits Heard.AfterClose = refl
heard_emits (Heard.NoMemory incoming) = refl

tick_emits : (answer : Tick) → encodings_in (outcome_of_tick answer) ≡ []
tick_emits Tick.Nothing = refl
tick_emits (Tick.Due n) = refl
tick_emits (Tick.GaveUp n) = refl

-- the bytes in the outcome of an answer are the encoding of what it emitted
encodings_in-outcome_of : (side : Side) (k : ℕ) (answer : EndAnswer)
    → encodings_in (outcome_of side k answer) ≡ map (encoding side)
    (cons_option (message_emitted answer) [])
encodings_in-outcome_of side k (EndAnswer.Put answer) = put_emits answer
encodings_in-outcome_of side k (EndAnswer.Heard answer) = heard_emits answer
encodings_in-outcome_of side k (EndAnswer.Tick answer) = tick_emits answer
encodings_in-outcome_of side k (EndAnswer.Pull (Pull.Emit out)) = refl
encodings_in-outcome_of side k (EndAnswer.Pull Pull.Idle) = refl
encodings_in-outcome_of side k (EndAnswer.Pull Pull.NoMemory) = refl
encodings_in-outcome_of side k (EndAnswer.Look answer) = refl
encodings_in-outcome_of side k EndAnswer.Done = refl

-- an end that was called answered what is due, and its outcome says so
pub record IsDue (w : ℕ) (world : List Event) (s : Step) (end : EndState) (kept : List (List ℕ))
    (outcome : Outcome) : Type 0 where
  pub told : outcome ≡ s.outcome
  pub sent :
      HasSent w s.side (history_of s.side (world ++ events_of (s ∷ [])))
      end (kept ++ encodings_in outcome)

pub IsDue-called : (w : ℕ) (world : List Event) (line : ℕ) (verb : Verb) (side : Side)
    (call : EndCall) (old new : EndState) (sent : List (List ℕ)) (outcome : Outcome)
    → IsLegalWorld w world
    → HasSent w side (history_of side world) old sent
    → IsCalled side (length (emissions (history_of side world))) call old new outcome
    → IsDue w world (called w world line verb side call) new sent outcome
IsDue-called w world line verb side call old new sent outcome legal before c =
    let h = history_of side world in
    let k = length (emissions h) in
    let follows = c.follows w h (legal side) before.stands in
    let legal_then = IsLegal-pushed w h (record { call = call; answer = c.answer }) follows.0 in
    let due : c.answer ≡ answer_to w h call =
    due_answer w h call c.answer legal_then.1 c.memory in
    let entry : Entry = record { call = call; answer = answer_to w h call } in
    let x : Event = record { side = side; entry = entry } in
    let here : history_of side (world ++ x ∷ []) ≡ h ++ entry ∷ [] =
    history_of-here side world x refl in
    let told : outcome ≡ outcome_of side k (answer_to w h call) =
    c.told ∙ ap (outcome_of side k) due in
    let out = cons_option (message_emitted (answer_to w h call)) [] in
    let more : emissions (history_of side (world ++ x ∷ [])) ≡ emissions h ++ out =
    ap emissions here ∙ emissions-push h entry in
    record {
      told = told;
      sent = record {
        stands =
            rw here
            (subst
            (λ (a : EndAnswer). Stands w new (h ++ record { call = call; answer = a } ∷ []))
            due follows.1);
        encoded =
            ap (λ (xs : List (List ℕ)). xs ++ encodings_in outcome) before.encoded
            ∙ ap
            (λ (xs : List (List ℕ)). map (encoding side) (emissions h) ++ xs)
            (ap encodings_in told ∙ encodings_in-outcome_of side k (answer_to w h call))
            ∙ sym
            (ap (map (encoding side)) more ∙ map-append (encoding side) (emissions h) out);
        sendable =
            subst (All (IsSendable side)) (sym more)
            (All-append (IsSendable side) (emissions h) out before.sendable
            (subst
            (λ (a : EndAnswer). All (IsSendable side) (cons_option (message_emitted a) []))
            due c.sendable));
      };
    }

-- an end makes a step by a call, where memory is found
pub Makes-called : (w : ℕ) (world : List Event) (line : ℕ) (verb : Verb) (side : Side)
    (call : EndCall) (old : Endpoint) (new : Endpoint) (r : Result Outcome NoMemory)
    → IsLegalWorld w world
    → IsEndpoint w side (history_of side world) old
    → IfOk r (IsCalled side (length (emissions (history_of side world))) call old.end new.end)
    → new.sent.items ≡ old.sent.items
    → new.side ≡ old.side
    → IfOk r (Makes w world (called w world line verb side call) new)
Makes-called w world line verb side call old new r legal before told kept same =
    IfOk-weaker r _ _
    (λ outcome c.
    let due =
    IsDue-called w world line verb side call old.end new.end old.sent.items outcome legal
    before.sent c in
    record { at = same ∙ before.at; told = due.told; sent = rw kept due.sent })
    told

-- an end makes a step without a call, and emits nothing
pub Makes-quiet : (w : ℕ) (world : List Event) (s : Step) (endpoint : Endpoint) (outcome : Outcome)
    → s.event ≡ None
    → IsEndpoint w s.side (history_of s.side world) endpoint
    → outcome ≡ s.outcome
    → encodings_in outcome ≡ []
    → Makes w world s endpoint outcome
Makes-quiet w world s endpoint outcome uncalled before told quiet =
    let same : world ++ events_of (s ∷ []) ≡ world =
    ap (λ (o : Option Event). world ++ cons_option o []) uncalled ∙ append-nil world in
    record {
      at = before.at;
      told = told;
      sent = rw (same, quiet, append-nil) before.sent;
    }

-- a damaged emission is none
pub outcome_of_hurt-quiet : (side : Side) (place : ℕ) (emission : Option Outgoing)
    → encodings_in (outcome_of_hurt side place emission) ≡ []
outcome_of_hurt-quiet side place None = refl
outcome_of_hurt-quiet side place (Some out) =
    let payload = (message_of (other side) out).payload in
    let new = damaged payload place in
    choice (nat_lt place (length payload)) (bytes_eq (sha256 payload) (sha256 new)) _
  where
    choice : (there same : Bool) (n : ℕ)
        → encodings_in (cond there (cond same Outcome.Passed (Outcome.Refused n)) Outcome.Absent)
        ≡ []
    choice true true n = refl
    choice true false n = refl
    choice false same n = refl

-- an end makes the step of a hurt
pub Makes-hurt : (w : ℕ) (world : List Event) (line : ℕ) (side : Side) (place : ℕ)
    (emission : Option Outgoing) (endpoint : Endpoint) (r : Result Outcome NoMemory)
    → IsEndpoint w side (history_of side world) endpoint
    → IfOk r (λ outcome. outcome ≡ outcome_of_hurt side place emission)
    → IfOk r (Makes w world (hurt_at line side place emission) endpoint)
Makes-hurt w world line side place emission endpoint r before told =
    IfOk-weaker r _ _
    (λ outcome t.
    Makes-quiet w world (hurt_at line side place emission) endpoint outcome refl before t
    (ap encodings_in t ∙ outcome_of_hurt-quiet side place emission))
    told

-- ---- new ends

-- an end that made no call
pub IsEndpoint-new : (w : ℕ) (side : Side) (endpoint : Endpoint)
    → Stands w endpoint.end []
    → endpoint.side ≡ side
    → endpoint.sent.items ≡ []
    → IsEndpoint w side [] endpoint
unfolding emissions
IsEndpoint-new w side endpoint stands same none =
    record {
      at = same;
      sent = record { stands = stands; encoded = none; sendable = All-nil _ };
    }

-- and then was connected
pub IsEndpoint-connected : (w : ℕ) (side : Side) (old new : Endpoint)
    → IsEndpoint w side [] old
    → Follows old.end new.end (EndCall.Opened 0) EndAnswer.Done
    → new.side ≡ old.side
    → new.sent.items ≡ old.sent.items
    → IsEndpoint w side ((opening side 0).entry ∷ []) new
unfolding emissions
IsEndpoint-connected w side old new before follows same kept =
    record {
      at = same ∙ before.at;
      sent = record {
        stands = (follows w [] (IsLegal-nil w) before.sent.stands).1;
        encoded = kept ∙ before.sent.encoded;
        sendable = All-nil _;
      };
    }
