-- The two ends and the two sides of the link over them, and what they stand for.
use Rattle.std.specs.Prelude.{◌≡◌, ℕ, Bool, true, false, Option, Some, List, [], ◌∷◌, ◌++◌, drop, map}
use Rattle.chan_values.specs.declared.side.Side.{Side}
use Rattle.chan_values.specs.declared.side.Side.TheVariants.{Plugin, Agent}
use Rattle.chan_values.specs.Sides.{other}
use Rattle.lab_script.specs.declared.outcome.Outcome.{Outcome}
use Rattle.lab_script.specs.declared.verb.Verb.{Verb}
use Rattle.lab_run.specs.Ends.{IsPair}
use Rattle.smux_acts.specs.declared.event.Event.{Event}
use Rattle.smux_streams.specs.declared.answers.Fed.{Fed}
use Rattle.smux_streams.specs.Call.{Entry, Feeds, Outs}
use Rattle.smux_streams.specs.History.{consumed}
use Rattle.smux_streams.specs.Laws.{IsLegalPair}
use Rattle.smux_streams.specs.Stands.{Follows, Stands}
use Rattle.lab_streams.specs.declared.carrier.Carrier.{Carrier}
use Rattle.lab_streams.specs.declared.link.Link.{Link}
use Rattle.lab_streams.specs.declared.streams.Streams.{Streams}
use Rattle.lab_streams.specs.Steps.{Past, StreamStep, after, arrived, feed_step, mux_history, outgoing, told_of_event, told_once, with_call}

-- the Mux did all that its history says, and of the bytes that came those that it has not taken are
-- kept
pub record IsCarrier
    (client : Bool) (g : List Entry) (came : List ℕ) (carrier : Carrier) : Type 0 where
  pub stands : Stands client carrier.mux g
  pub kept : consumed g ++ carrier.left ≡ came

-- both sides of the link did all that happened
pub record IsLink (past : Past) (link : Link) : Type 0 where
  pub legal : IsLegalPair past.calls
  pub plugin : IsCarrier true (mux_history Plugin past) (arrived Plugin past) link.plugin
  pub agent : IsCarrier false (mux_history Agent past) (arrived Agent past) link.agent

-- the ends and both sides of the link did all that happened
pub record IsStreams (w : ℕ) (past : Past) (streams : Streams) : Type 0 where
  pub pair : IsPair w past.events streams.pair
  pub link : IsLink past streams.link

-- it is a link of which something may have happened
abbrev pub IsSomeLink : Link → Type 0
IsSomeLink link = (past : Past) × IsLink past link

-- the side of the link at this end
abbrev pub carrier_of : Side → Link → Carrier
carrier_of Plugin link = link.plugin
carrier_of Agent link = link.agent

-- these bytes came at one side, and nothing else changed
pub record KeepsBytes (side : Side) (came : List ℕ) (old new : Link) : Type 0 where
  pub here :
      let before = carrier_of side old in
      carrier_of side new ≡ record before { left = before.left ++ came }
  pub there : carrier_of (other side) new ≡ carrier_of (other side) old

-- what was kept was fed, and these are the events; what was not taken is kept
pub record FeedsKept (old new : Carrier) (events : List Event) : Type 0 where
  pub fed : Fed
  pub follows : Follows old.mux new.mux (Feeds old.left (Some fed))
  pub told : events ≡ fed.events
  pub rest : new.left ≡ drop fed.consumed old.left

-- the Mux of a side was fed all that waited for it, and these are the events
pub record IsFed (past : Past) (line : ℕ) (side : Side) (link : Link) (events : List Event)
    : Type 0 where
  pub told : (feed_step past line side).told ≡ map (told_of_event side) events
  pub made : IsLink (after past (feed_step past line side ∷ [])) link

-- the Mux of a side was asked for so many outgoing bytes, and gave these
pub record GivesOut (past : Past) (side : Side) (most : ℕ) (link : Link) (bytes : List ℕ)
    : Type 0 where
  pub given : bytes ≡ outgoing side past most
  pub made : IsLink (with_call past side (Outs most (Some bytes))) link

-- a Mux was called, and the report is to say this outcome
pub record MakesStep
    (past : Past) (s : StreamStep) (verb : Verb) (side : Option Side) (link : Link)
    (outcome : Outcome) : Type 0 where
  pub told : s.told ≡ told_once verb side outcome
  pub made : IsLink (after past (s ∷ [])) link
