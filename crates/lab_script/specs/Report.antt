-- The lines of a report.
use Rattle.std.specs.Prelude.{ℕ, List, [], ◌∷◌, ◌++◌, codes, length, map, decimal, Option, Some, None}
use Rattle.std.specs.List.{join_with_byte}
use Rattle.chan_values.specs.declared.item.Item.{Item}
use Rattle.chan_values.specs.declared.side.Side.{Side}
use Rattle.lab_script.specs.declared.outcome.Outcome.{Outcome}
use Rattle.lab_script.specs.declared.outcome.Outcome.TheVariants.{Seq, Full, Closed, Past, Spent, Emit, Idle, Released, Finished, Late, Beyond, PastEnd, Acked, UnknownAck, Paused, Started, Ended, AfterClose, Absent, Refused, Passed, Nothing, Due, GaveUp, Quiet, Stream, Relay}
use Rattle.lab_script.specs.declared.outcome.RelayOutcome.{RelayOutcome}
use Rattle.lab_script.specs.declared.outcome.RelayOutcome.TheVariants.{Connection, Sent, Dropped}
use Rattle.lab_script.specs.declared.outcome.StreamOutcome.{StreamOutcome}
use Rattle.lab_script.specs.declared.outcome.StreamOutcome.TheVariants.{Sid, TooMany, IdsSpent, Done, Unknown, Empty, Taken}
use Rattle.lab_script.specs.declared.verb.Verb.{Verb}
use Rattle.lab_script.specs.Verb.{verb_text}
use Rattle.lab_script.specs.Words.{side_text, hex_text}

-- an item: its type, a colon and its payload
abbrev pub item_text : Item → List ℕ
item_text item = decimal item.ptype ++ codes ":" ++ hex_text item.payload

-- the words of what the streams of an end answered, or of what became of one of them
abbrev pub stream_outcome_words : StreamOutcome → List (List ℕ)
stream_outcome_words (Sid n) = codes "sid" ∷ decimal n ∷ []
stream_outcome_words TooMany = codes "too-many" ∷ []
stream_outcome_words IdsSpent = codes "ids-spent" ∷ []
stream_outcome_words Done = codes "done" ∷ []
stream_outcome_words Unknown = codes "unknown" ∷ []
stream_outcome_words Empty = codes "empty" ∷ []
stream_outcome_words (Taken bytes) = hex_text bytes ∷ []
stream_outcome_words (StreamOutcome.Opened n) = codes "opened" ∷ decimal n ∷ []
stream_outcome_words (StreamOutcome.Ready n) = codes "ready" ∷ decimal n ∷ []
stream_outcome_words (StreamOutcome.Ended n) = codes "ended" ∷ decimal n ∷ []
stream_outcome_words (StreamOutcome.Refused n) = codes "refused" ∷ decimal n ∷ []

-- the words of what the relay answered
abbrev pub relay_outcome_words : RelayOutcome → List (List ℕ)
relay_outcome_words (Connection n) = codes "conn" ∷ decimal n ∷ []
relay_outcome_words Sent = codes "sent" ∷ []
relay_outcome_words Dropped = codes "dropped" ∷ []

-- the words of an outcome
abbrev pub outcome_words : Outcome → List (List ℕ)
outcome_words (Seq n) = codes "seq" ∷ decimal n ∷ []
outcome_words Full = codes "full" ∷ []
outcome_words Closed = codes "closed" ∷ []
outcome_words Past = codes "past" ∷ []
outcome_words Spent = codes "spent" ∷ []
outcome_words (Emit n encoding) = codes "emit" ∷ decimal n ∷ hex_text encoding ∷ []
outcome_words Idle = codes "idle" ∷ []
outcome_words (Released items) = codes "released" ∷ decimal (length items) ∷ map item_text items
outcome_words (Finished items) = codes "finished" ∷ decimal (length items) ∷ map item_text items
outcome_words Late = codes "late" ∷ []
outcome_words Beyond = codes "beyond" ∷ []
outcome_words (PastEnd n) = codes "past-end" ∷ decimal n ∷ []
outcome_words (Acked n) = codes "acked" ∷ decimal n ∷ []
outcome_words (UnknownAck n) = codes "unknown-ack" ∷ decimal n ∷ []
outcome_words Paused = codes "paused" ∷ []
outcome_words Started = codes "started" ∷ []
outcome_words Ended = codes "ended" ∷ []
outcome_words AfterClose = codes "after-close" ∷ []
outcome_words Absent = codes "absent" ∷ []
outcome_words (Refused n) = codes "refused" ∷ decimal n ∷ []
outcome_words Passed = codes "passed" ∷ []
outcome_words Nothing = codes "nothing" ∷ []
outcome_words (Due n) = codes "due" ∷ decimal n ∷ []
outcome_words (GaveUp n) = codes "gave-up" ∷ decimal n ∷ []
outcome_words Quiet = []
outcome_words (Stream outcome) = stream_outcome_words outcome
outcome_words (Relay outcome) = relay_outcome_words outcome

-- the letter of the end that the line names, where it names one
abbrev pub side_words : Option Side → List (List ℕ)
side_words None = []
side_words (Some side) = side_text side ∷ []

-- a line of the report: its words, with one space between two of them, and a line feed
abbrev pub report_line : ℕ → Verb → Option Side → Outcome → List ℕ
report_line number verb side outcome =
    join_with_byte 32 (decimal number ∷ verb_text verb ∷ (side_words side ++ outcome_words outcome))
    ++ 10 ∷ []
