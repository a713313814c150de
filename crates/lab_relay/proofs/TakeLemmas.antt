-- An end hears a message of its inbox.
use Rattle.std.proofs.Common.{◌≡◌, ℕ, List, [], ◌∷◌, ◌++◌, length, refl, ap, ◌∙◌, append-nil}
use Rattle.chan_values.specs.declared.side.Side.{Side}
use Rattle.chan_values.specs.declared.side.Side.TheVariants.{Plugin, Agent}
use Rattle.chan_values.specs.Sides.{other}
use Rattle.channel_core.specs.declared.answer.Heard.{Heard}
use Rattle.channel_core.specs.declared.call.EndCall.{EndCall}
use Rattle.channel_core.specs.declared.message.Incoming.{Incoming}
use Rattle.channel_core.specs.History.{emissions}
use Rattle.channel_core.specs.Legal.{answer_to_heard}
use Rattle.channel_core.specs.Stands.{EndState}
use Rattle.channel_core.specs.World.{Event, WasEmitted, history_of}
use Rattle.channel_core.proofs.WorldLemmas.{IsRight-push, event_of, history_of-away}
use Rattle.lab_script.specs.declared.outcome.Outcome.{Outcome}
use Rattle.lab_script.specs.declared.verb.Verb.{Verb}
use Rattle.lab_run.specs.declared.pair.Pair.{Pair}
use Rattle.lab_run.specs.Ends.{IsCalled, IsEndpoint, IsPair, endpoint_of}
use Rattle.lab_run.specs.Outcomes.{encodings_in, outcome_of_heard}
use Rattle.lab_run.specs.Steps.{called}
use Rattle.lab_run.proofs.StepLemmas.{IsDue-called}

heard_emits : (answer : Heard) → encodings_in (outcome_of_heard answer) ≡ []
heard_emits (Heard.Released items) = refl
heard_emits (Heard.Finished items) = refl
heard_emits Heard.Late = refl
heard_emits Heard.Beyond = refl
heard_emits (Heard.PastEnd n) = refl
heard_emits (Heard.Acked n) = refl
heard_emits (Heard.UnknownAck n) = refl
heard_emits Heard.Paused = refl
heard_emits Heard.Started = refl
heard_emits Heard.Ended = refl
heard_emits Heard.AfterClose = refl
heard_emits (Heard.NoMemory incoming) = refl

-- a pair in which the end of this side is another
abbrev pub with_end : Side → EndState → Pair → Pair
with_end Plugin end pair = record pair { plugin = record pair.plugin { end = end } }
with_end Agent end pair = record pair { agent = record pair.agent { end = end } }

module _ (w : ℕ) (world : List Event) (line now : ℕ) (says : Incoming) (pair : Pair)
    (is : IsPair w world pair) where
  abbrev call : EndCall
  call = EndCall.Heard now says

  -- an end that heard a message reports its answer, and keeps what it sent
  pub record HasHeard (side : Side) (end : EndState) (outcome : Outcome) : Type 0 where
    pub told : outcome ≡ (called w world line Verb.Take side call).outcome
    pub endpoint :
        IsEndpoint w side (history_of side (world ++ event_of w world side call ∷ []))
        (record (endpoint_of side pair) { end = end })

  heard-at : (side : Side) (end : EndState) (outcome : Outcome)
      → IsEndpoint w side (history_of side world) (endpoint_of side pair)
      → IsCalled side (length (emissions (history_of side world))) call
      (endpoint_of side pair).end end outcome
      → HasHeard side end outcome
  heard-at side end outcome before c =
      let due =
      IsDue-called w world line Verb.Take side call (endpoint_of side pair).end end
      (endpoint_of side pair).sent.items outcome is.legal before.sent c in
      let quiet : encodings_in outcome ≡ [] =
      ap encodings_in due.told
      ∙ heard_emits (answer_to_heard w (history_of side world) says) in
      record {
        told = due.told;
        endpoint = record {
          at = before.at;
          sent = rw (quiet, append-nil) at due.sent;
        };
      }

  -- both ends after one of them heard a message
  pub IsPair-heard : (side : Side) (end : EndState) (outcome : Outcome)
      → WasEmitted (emissions (history_of (other side) world)) call
      → IsCalled side (length (emissions (history_of side world))) call
      (endpoint_of side pair).end end outcome
      → (outcome ≡ (called w world line Verb.Take side call).outcome)
      × IsPair w (world ++ event_of w world side call ∷ []) (with_end side end pair)
  IsPair-heard Plugin end outcome was c =
      let heard = heard-at Plugin end outcome is.plugin c in
      let right = IsRight-push w world Plugin call
      (record { legal = is.legal; honest = is.honest }) was in (
        heard.told,
        record {
          legal = right.legal;
          honest = right.honest;
          plugin = heard.endpoint;
          agent = rw (history_of-away Plugin world (event_of w world Plugin call) refl) is.agent;
        },
      )
  IsPair-heard Agent end outcome was c =
      let heard = heard-at Agent end outcome is.agent c in
      let right = IsRight-push w world Agent call
      (record { legal = is.legal; honest = is.honest }) was in (
        heard.told,
        record {
          legal = right.legal;
          honest = right.honest;
          plugin = rw (history_of-away Agent world (event_of w world Agent call) refl) is.plugin;
          agent = heard.endpoint;
        },
      )
