-- What a link writer sends of what the end emits.
use Rattle.std.specs.Prelude.{◌≡◌, ℕ, ◌≤◌, ◌+◌, max, Bool, true, false, not, Option, Some, None, List, [], ◌∷◌, map, is_ok, is_some}
use Rattle.std.specs.List.{count_by, filter, flat_map, sum_by}
use Rattle.chan_io.specs.declared.got.Got.{Got}
use Rattle.chan_values.specs.declared.side.Side.{Side}
use Rattle.channel_core.specs.Call.{Entry}
use Rattle.channel_core.specs.History.{emissions}
use Rattle.channel_core.specs.Wire.{encoding}
use Rattle.channel_core.specs.declared.message.Outgoing.{Outgoing}
use Rattle.turn_lock.specs.Runs.{AllFit}
use Rattle.session_run.specs.Held.{end_entry}
use Rattle.session_run.specs.declared.shelf_call.Count.{Count}
use Rattle.session_workers.specs.Writing.{SendAnswer, WriterTurn, emits, end_calls, failures, idles, messages_in, send_in, starved}
use Rattle.session_workers.specs.WriterRuns.{MayTurn, at_first, progress}

-- the message that a turn pulled, with the answer of its send
abbrev pub pulled_in : WriterTurn → List (Outgoing × SendAnswer)
pulled_in (emits now out sent) = (out, sent) ∷ []
pulled_in turn = []

-- the calls that the turns made of the end, as a history of it
abbrev pub history_of_turns : List WriterTurn → List Entry
history_of_turns turns = map end_entry (flat_map end_calls turns)

-- whether a message is binary
abbrev pub is_binary : Got → Bool
is_binary (Got.Binary bytes) = true
is_binary got = false

-- what these turns sent of what the end emitted in them
pub record SendsWhatIsEmitted (side : Side) (turns : List WriterTurn) : Type 0 where
  -- each message that was emitted was sent, or it was tried
  pub emitted :
      emissions (history_of_turns turns) ≡ map (λ p. p.0) (flat_map pulled_in turns)
  -- the binary messages are, in order, the encodings of those whose send had no fault
  pub sent :
      filter is_binary (flat_map (messages_in side) turns)
      ≡ map
      (λ p. Got.Binary (encoding side p.0))
      (filter (λ p. is_ok p.1) (flat_map pulled_in turns))
  -- for each that is missing a send failed, or memory was wanted
  pub missing :
      count_by (λ p. not (is_ok p.1)) (flat_map pulled_in turns)
      ≤ sum_by (λ turn. failures (send_in turn)) turns + count_by starved turns

-- so it is of all turns
abbrev pub EmissionsAreSent : Type 0
EmissionsAreSent = (side : Side) (turns : List WriterTurn) → SendsWhatIsEmitted side turns

-- the answer to the end-of-session text, where a turn sent it
abbrev pub text_in : WriterTurn → Option SendAnswer
text_in (idles now i) = i.text
text_in turn = None

-- how many connections a second count showed
abbrev pub openings_again : Option Count → ℕ
openings_again None = 0
openings_again (Some count) = count.openings

-- how many connections the counts of a turn showed
abbrev pub openings_shown : WriterTurn → ℕ
openings_shown (idles now i) = max i.count.openings (openings_again i.again)
openings_shown turn = 0

-- the most that the counts of some turns showed
abbrev pub most_openings : List WriterTurn → ℕ
most_openings [] = 0
most_openings (turn ∷ turns) = max (openings_shown turn) (most_openings turns)

-- the end-of-session text was sent, or tried, at most once for each connection that was noted
abbrev pub TextsAreOnceForEachOpening : Type 0
TextsAreOnceForEachOpening = (side : Side) (turns : List WriterTurn)
    → AllFit (progress side) (MayTurn side) (at_first 0) turns
    → count_by (λ turn. is_some (text_in turn)) turns ≤ most_openings turns
