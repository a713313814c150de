-- What is reported of the answers of a Mux. Want of memory is no answer by the rules.
use Rattle.std.specs.Prelude.{if◌then◌else◌, List, []}
use Rattle.chan_values.specs.declared.item.Item.{Item}
use Rattle.channel_core.specs.declared.answer.Look.{Look}
use Rattle.lab_script.specs.declared.outcome.Outcome.{Outcome}
use Rattle.lab_script.specs.declared.outcome.StreamOutcome.{StreamOutcome}
use Rattle.smux_acts.specs.declared.event.Event.{Event}
use Rattle.smux_store.specs.declared.answers.Open.{Open}
use Rattle.smux_store.specs.declared.answers.Taken.{Taken}
use Rattle.smux_streams.specs.declared.answers.Write.{Write}

-- what the opening of a stream reports
abbrev pub outcome_of_open : Open → Outcome
outcome_of_open (Open.Sid n) = Outcome.Stream (StreamOutcome.Sid n)
outcome_of_open Open.IdsSpent = Outcome.Stream StreamOutcome.IdsSpent
outcome_of_open Open.TooMany = Outcome.Stream StreamOutcome.TooMany
outcome_of_open Open.Full = Outcome.Full
outcome_of_open Open.NoMemory = Outcome.Quiet

-- what a write, or a close, reports
abbrev pub outcome_of_write : Write → Outcome
outcome_of_write Write.Done = Outcome.Stream StreamOutcome.Done
outcome_of_write Write.Unknown = Outcome.Stream StreamOutcome.Unknown
outcome_of_write Write.Closed = Outcome.Closed
outcome_of_write Write.Full = Outcome.Full
outcome_of_write Write.NoMemory = Outcome.Quiet

-- what a take reports
abbrev pub outcome_of_taken : Taken → Outcome
outcome_of_taken (Taken.Bytes bytes) = Outcome.Stream (StreamOutcome.Taken bytes)
outcome_of_taken Taken.End = Outcome.Ended
outcome_of_taken Taken.Nothing = Outcome.Nothing
outcome_of_taken Taken.Unknown = Outcome.Stream StreamOutcome.Unknown
outcome_of_taken Taken.NoMemory = Outcome.Quiet

-- what is reported of an event of a stream
abbrev pub outcome_of_event : Event → Outcome
outcome_of_event (Event.Opened sid) = Outcome.Stream (StreamOutcome.Opened sid)
outcome_of_event (Event.Ready sid) = Outcome.Stream (StreamOutcome.Ready sid)
outcome_of_event (Event.Ended sid) = Outcome.Stream (StreamOutcome.Ended sid)
outcome_of_event (Event.Refused sid) = Outcome.Stream (StreamOutcome.Refused sid)

-- what a push reports where the end has no room: it is closed, was given its last item, or waits
-- for acknowledgements
abbrev pub outcome_of_no_room : Look → Outcome
outcome_of_no_room look =
    if look.closed then Outcome.Closed else if look.finished then Outcome.Past else Outcome.Full

-- the items that an outcome reports as released
abbrev pub items_in : Outcome → List Item
items_in (Outcome.Released items) = items
items_in (Outcome.Finished items) = items
items_in outcome = []
