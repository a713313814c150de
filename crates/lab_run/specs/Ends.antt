-- The ends of the lab, and the world that they stand for.
use Rattle.std.specs.Prelude.{◌≡◌, ℕ, List, [], ◌∷◌, ◌++◌, map}
use Rattle.std.specs.List.{All, cons_option}
use Rattle.agent_message.specs.Layout.{IsMessage}
use Rattle.chan_values.specs.declared.side.Side.{Side}
use Rattle.chan_values.specs.declared.side.Side.TheVariants.{Plugin, Agent}
use Rattle.chan_values.specs.Sides.{other}
use Rattle.channel_core.specs.declared.call.EndAnswer.{EndAnswer}
use Rattle.channel_core.specs.declared.call.EndCall.{EndCall}
use Rattle.channel_core.specs.declared.message.Outgoing.{Outgoing}
use Rattle.channel_core.specs.Call.{Entry}
use Rattle.channel_core.specs.Condition.{CanBeEncoded}
use Rattle.channel_core.specs.History.{emissions, message_emitted}
use Rattle.channel_core.specs.Legal.{IsNoMemory}
use Rattle.channel_core.specs.Stands.{EndState, Follows, Stands}
use Rattle.channel_core.specs.Wire.{encoding, message_of}
use Rattle.channel_core.specs.World.{Event, IsHonest, IsLegalWorld, history_of}
use Rattle.lab_script.specs.declared.outcome.Outcome.{Outcome}
use Rattle.lab_run.specs.declared.endpoint.Endpoint.{Endpoint}
use Rattle.lab_run.specs.declared.pair.Pair.{Pair}
use Rattle.lab_run.specs.Outcomes.{encodings_in, outcome_of}
use Rattle.lab_run.specs.Steps.{Step, events_of}

-- a message of this side that has an encoding
abbrev pub IsSendable : Side → Outgoing → Type 0
IsSendable side out = CanBeEncoded out × IsMessage (message_of side out)

-- all that the ends emitted in this world has an encoding
abbrev pub AllSendable : List Event → Type 0
AllSendable world = (side : Side) → All (IsSendable side) (emissions (history_of side world))

-- A call found memory: the end answered it, and the outcome says that answer. An emission has the
-- number k.
pub record IsCalled
    (side : Side) (k : ℕ) (call : EndCall) (old new : EndState) (outcome : Outcome) : Type 0 where
  pub answer : EndAnswer
  pub follows : Follows old new call answer
  pub memory : ¬ IsNoMemory call answer
  pub told : outcome ≡ outcome_of side k answer
  pub sendable : All (IsSendable side) (cons_option (message_emitted answer) [])

-- the end did all that its history says, and these are the encodings of what it emitted
pub record HasSent
    (w : ℕ) (side : Side) (h : List Entry) (end : EndState) (sent : List (List ℕ)) : Type 0 where
  pub stands : Stands w end h
  pub encoded : sent ≡ map (encoding side) (emissions h)
  pub sendable : All (IsSendable side) (emissions h)

-- this end of the lab did all that the history says, and kept what it emitted
pub record IsEndpoint (w : ℕ) (side : Side) (h : List Entry) (endpoint : Endpoint) : Type 0 where
  pub at : endpoint.side ≡ side
  pub sent : HasSent w side h endpoint.end endpoint.sent.items

-- An end made this step, and this is its outcome. It kept what it emitted, but for what is in the
-- outcome.
pub record Makes
    (w : ℕ) (world : List Event) (s : Step) (endpoint : Endpoint) (outcome : Outcome) : Type 0 where
  pub at : endpoint.side ≡ s.side
  pub told : outcome ≡ s.outcome
  pub sent :
      HasSent w s.side (history_of s.side (world ++ events_of (s ∷ [])))
      endpoint.end (endpoint.sent.items ++ encodings_in outcome)

-- both ends of the lab did all that happened in the world
pub record IsPair (w : ℕ) (world : List Event) (pair : Pair) : Type 0 where
  pub legal : IsLegalWorld w world
  pub honest : IsHonest world
  pub plugin : IsEndpoint w Plugin (history_of Plugin world) pair.plugin
  pub agent : IsEndpoint w Agent (history_of Agent world) pair.agent

-- the end of this side in the lab
abbrev pub endpoint_of : Side → Pair → Endpoint
endpoint_of Plugin pair = pair.plugin
endpoint_of Agent pair = pair.agent

-- one end of the lab made this step, and the other stays what it was
pub record PairMakes
    (w : ℕ) (world : List Event) (s : Step) (pair : Pair) (outcome : Outcome) : Type 0 where
  pub legal : IsLegalWorld w (world ++ events_of (s ∷ []))
  pub honest : IsHonest (world ++ events_of (s ∷ []))
  pub here : Makes w world s (endpoint_of s.side pair) outcome
  pub there :
      let far = other s.side in
      IsEndpoint w far (history_of far (world ++ events_of (s ∷ []))) (endpoint_of far pair)
