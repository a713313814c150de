-- What holds of what happened, and of the report, in every script with streams.
use Rattle.std.specs.Prelude.{◌≡◌, ◌≢◌, ◌↔◌, ◌≤◌, ◌*◌, ℕ, true, false, length, List, [], ◌∷◌, ◌++◌, All, map}
use Rattle.std.specs.List.{AllPairs, list_any}
use Rattle.chan_values.specs.declared.side.Side.{Side}
use Rattle.chan_values.specs.Limits.{max_seq}
use Rattle.chan_values.specs.Sides.{other}
use Rattle.channel_core.specs.declared.call.EndAnswer.TheVariants as EndAnswer
use Rattle.channel_core.specs.declared.answer.Heard.TheVariants as Heard
use Rattle.channel_core.specs.Exchange.{IsExchange}
use Rattle.channel_core.specs.History.{finished_count, has_ended, is_closed, put_items, put_messages, released_items, taken_items}
use Rattle.channel_core.specs.Laws.{IsPrefixOf}
use Rattle.channel_core.specs.World.{Event, IsHonest, IsLegalWorld, history_of}
use Rattle.lab_script.specs.declared.command.Command.{Command}
use Rattle.lab_script.specs.declared.stream_command.StreamCommand.{StreamCommand}
use Rattle.lab_script.specs.StreamCommand.{IsStreamCommand}
use Rattle.lab_run.specs.Ends.{AllSendable}
use Rattle.lab_run.specs.Steps.{settle_lines}
use Rattle.smux_acts.specs.Acts.{Act, delivered, finished, written}
use Rattle.smux_acts.specs.Each.{Each}
use Rattle.smux_acts.specs.Laws.{IsWhole}
use Rattle.smux_streams.specs.History.{acts_of, consumed, given}
use Rattle.smux_streams.specs.Laws.{IsLegalPair, IsLinked, taken_in, tells_end}
use Rattle.lab_streams.specs.Run.{past_of, stream_run}
use Rattle.lab_streams.specs.Steps.{Past, arrived, events_in, is_client, mux_history, stream_steps, stream_steps_at}

-- each end answered as it should, heard only what the other had emitted and took each number at
-- most once, and what it released is a prefix of what the other end's user put in: all of it where
-- the last item was released
pub record AreEndsFaithful (w : ℕ) (events : List Event) : Type 0 where
  pub legal : IsLegalWorld w events
  pub honest : IsHonest events
  pub once : (side : Side) → AllPairs (λ p q. p.0 ≢ q.0) (taken_items (history_of side events))
  pub prefix : (side : Side)
      → IsPrefixOf (released_items (history_of side events))
      (put_items (history_of (other side) events))
  pub whole : (side : Side)
      → (finished_count (history_of side events) ≡ 1)
      ↔ ((has_ended (history_of (other side) events) ≡ true)
      × (released_items (history_of side events) ≡ put_items (history_of (other side) events)))
  -- no message that an end hears is answered as past the end of its direction
  pub within : (n : ℕ) → All (λ x. x.entry.answer ≢ EndAnswer.Heard (Heard.PastEnd n)) events
  -- an end answers at most once that the last item is released
  pub finished : (side : Side) → finished_count (history_of side events) ≤ 1

-- what happened at the Mux of a side
abbrev pub acts_at : Side → Past → List Act
acts_at side past = acts_of (is_client side) (mux_history side past)

-- Each Mux answered as it should, and was fed what the other gave out, in order. So of each stream
-- what one side delivered is a prefix of what the other wrote, and where its end was told all of it
-- was delivered, the other side closed or refused it, and no bytes of it come later.
pub record AreStreamsFaithful (past : Past) : Type 0 where
  pub legal : IsLegalPair past.calls
  pub linked : IsLinked past.calls
  -- what a Mux consumed is a prefix of the bytes of the streams that its end released
  pub fed : (side : Side) → IsPrefixOf (consumed (mux_history side past)) (arrived side past)
  -- and these are a prefix of what the other Mux gave out
  pub carried : (side : Side)
      → IsPrefixOf (arrived side past) (given (mux_history (other side) past))
  -- all of it where the end released all that was put in there and numbers are left
  pub all : (side : Side)
      → (let far = history_of (other side) past.events in
      released_items (history_of side past.events) ≡ put_items far
      → length (put_messages far) ≤ max_seq
      → arrived side past ≡ given (mux_history (other side) past))
  pub delivered : (side : Side) (sid : ℕ)
      → IsPrefixOf (delivered sid (acts_at side past)) (written sid (acts_at (other side) past))
  pub ended : (side : Side) (sid : ℕ)
      → finished sid (acts_at side past) ≡ true
      → IsWhole sid (acts_at side past) (acts_at (other side) past)
  pub over : (side : Side) (sid : ℕ)
      → Each (λ before e. list_any (tells_end sid) before ≡ true → taken_in sid e ≡ [])
      (mux_history side past)

-- after these lines the ends and the streams are as they should be; after a last item nothing is put
-- in
pub record IsStreamFaithful (w : ℕ) (commands : List StreamCommand) : Type 0 where
  pub ends : AreEndsFaithful w (past_of (stream_run w commands)).events
  pub streams : AreStreamsFaithful (past_of (stream_run w commands))
  -- after the last item of a direction nothing is put in there, whatever lines follow
  pub ended : (rest : List StreamCommand) (side : Side)
      → let h = history_of side (past_of (stream_run w commands)).events in
      has_ended h ≡ true
      → put_items (history_of side (past_of (stream_run w (commands ++ rest))).events) ≡ put_items h
  -- a script that goes on behind these lines begins with their steps
  pub begins : (rest : List StreamCommand)
      → IsPrefixOf (stream_run w commands) (stream_run w (commands ++ rest))

-- the line of a settle
abbrev pub settle_line : StreamCommand
settle_line = StreamCommand.Plain Command.Settle

-- a settle behind these lines makes an exchange without a loss, and its steps are those of the
-- lines that it stands for; where neither end is closed then, each has released all that the other
-- put in
pub record IsStreamSettled (w : ℕ) (commands : List StreamCommand) : Type 0 where
  pub exchange : (now line : ℕ)
      → IsExchange
      (events_in (stream_steps w (past_of (stream_run w commands)) now line settle_line))
  -- an end emits at most two messages for each place of its window
  pub lines : (now line : ℕ)
      → let past = past_of (stream_run w commands) in
      (n : ℕ) × (m : ℕ) × (n ≤ 2 * w) × (m ≤ 2 * w)
      × (stream_steps w past now line settle_line
      ≡ stream_steps_at w past now line (map StreamCommand.Plain (settle_lines n m)))
  pub released :
      let events = (past_of (stream_run w (commands ++ settle_line ∷ []))).events in
      ((end : Side) → is_closed (history_of end events) ≡ false)
      → (side : Side)
      → released_items (history_of (other side) events) ≡ put_items (history_of side events)

-- every script of the grammar, in windows of every length, is faithful
abbrev pub EveryStreamScriptIsFaithful : Type 0
EveryStreamScriptIsFaithful =
    (w : ℕ) (commands : List StreamCommand)
    → All IsStreamCommand commands
    → IsStreamFaithful w commands

-- after every script a settle is an exchange without a loss
abbrev pub EveryStreamSettleExchangesAll : Type 0
EveryStreamSettleExchangesAll =
    (w : ℕ) (commands : List StreamCommand) → IsStreamSettled w commands

-- all that the ends of a script with streams emit has an encoding
abbrev pub EveryStreamEmissionIsSendable : Type 0
EveryStreamEmissionIsSendable =
    (w : ℕ) (commands : List StreamCommand)
    → All IsStreamCommand commands
    → AllSendable (past_of (stream_run w commands)).events

-- all laws of scripts with streams together
pub record StreamLaws : Type 0 where
  pub faithful : EveryStreamScriptIsFaithful
  pub settled : EveryStreamSettleExchangesAll
  pub sendable : EveryStreamEmissionIsSendable
