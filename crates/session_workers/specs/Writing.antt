-- What the link writer does in one turn.
use Rattle.std.specs.Prelude.{◌≡◌, ℕ, ◌+◌, ◌-◌, ◌^◌, min, Bool, true, false, ◌&&◌, ◌||◌, Option, Some, None, List, [], ◌∷◌, ◌++◌, Result, Err, codes, if◌then◌else◌, is_some, nat_eq, nat_lt}
use Rattle.chan_io.specs.Faults.{RisesBy}
use Rattle.chan_io.specs.LinksOut.{Departures, sent_by}
use Rattle.chan_io.specs.declared.failed.IoFault.{IoFault}
use Rattle.chan_io.specs.declared.got.Got.{Got}
use Rattle.chan_values.specs.declared.side.Side.{Side}
use Rattle.channel_core.specs.Wire.{encoding}
use Rattle.channel_core.specs.declared.answer.Look.{Look}
use Rattle.channel_core.specs.declared.answer.Pull.{Pull}
use Rattle.channel_core.specs.declared.call.EndAnswer.{EndAnswer}
use Rattle.channel_core.specs.declared.call.EndCall.{EndCall}
use Rattle.channel_core.specs.declared.message.Outgoing.{Outgoing}
use Rattle.session_run.specs.declared.shelf_call.Count.{Count}
use Rattle.session_run.specs.declared.shelf_call.ShelfAnswer.{ShelfAnswer}
use Rattle.session_run.specs.declared.shelf_call.ShelfCall.{ShelfCall}

-- what a send was answered
abbrev pub SendAnswer : Type 0
SendAnswer = Result Unit IoFault

-- a turn in which nothing was pulled
pub record IdleTurn : Type 0 where
  -- what the shelf showed
  pub count : Count
  -- what the end showed after that
  pub look : Look
  -- what the shelf showed then, where the end was closed
  pub again : Option Count
  -- what the send of the end-of-session text was answered, where it was sent
  pub text : Option SendAnswer

-- one turn, with the moment of its pull
pub data WriterTurn : Type 0 where
  -- a message was pulled, and sent with this answer
  emits : ℕ → Outgoing → SendAnswer → WriterTurn
  -- nothing was pulled
  idles : ℕ → IdleTurn → WriterTurn
  -- the pull wanted memory
  starves : ℕ → WriterTurn

-- its calls of the end
abbrev pub end_calls : WriterTurn → List (EndCall × EndAnswer)
end_calls (emits now out sent) = (EndCall.Pull now, EndAnswer.Pull (Pull.Emit out)) ∷ []
end_calls (idles now i) =
    (EndCall.Pull now, EndAnswer.Pull Pull.Idle) ∷ (EndCall.Look, EndAnswer.Look i.look) ∷ []
end_calls (starves now) = (EndCall.Pull now, EndAnswer.Pull Pull.NoMemory) ∷ []

-- one count of the shelf
abbrev pub counting : Count → ShelfCall × ShelfAnswer
counting count = (ShelfCall.Count, ShelfAnswer.Count count)

-- the second count, where there was one
abbrev pub counting_again : Option Count → List (ShelfCall × ShelfAnswer)
counting_again None = []
counting_again (Some count) = counting count ∷ []

-- its calls of the shelf
abbrev pub shelf_calls : WriterTurn → List (ShelfCall × ShelfAnswer)
shelf_calls (idles now i) = counting i.count ∷ counting_again i.again
shelf_calls turn = []

-- the answer of its send, if it made one
abbrev pub send_in : WriterTurn → Option SendAnswer
send_in (emits now out sent) = Some sent
send_in (idles now i) = i.text
send_in (starves now) = None

-- whether a send wanted memory
abbrev pub wants : Option SendAnswer → Bool
wants (Some (Err IoFault.NoMemory)) = true
wants sent = false

-- how many sends failed: one or none
abbrev pub failures : Option SendAnswer → ℕ
failures (Some (Err IoFault.Failed)) = 1
failures sent = 0

-- whether memory was wanted
abbrev pub starved : WriterTurn → Bool
starved (starves now) = true
starved turn = wants (send_in turn)

-- whether it is the last turn: the end was closed, or memory was wanted
abbrev pub is_last : WriterTurn → Bool
is_last (idles now i) = is_some i.again || wants i.text
is_last turn = starved turn

-- the end-of-session text
abbrev pub end_session : List ℕ
end_session = codes "{\"MessageType\":\"end_session\"}"

-- the end-of-session text, where it was sent with success
abbrev pub text_by : Option SendAnswer → List Got
text_by None = []
text_by (Some sent) = sent_by (Got.Text end_session) sent

-- the messages that it sent: one or none
abbrev pub messages_in : Side → WriterTurn → List Got
messages_in side (emits now out sent) = sent_by (Got.Binary (encoding side out)) sent
messages_in side (idles now i) = text_by i.text
messages_in side (starves now) = []

-- whether this side ends the session
abbrev pub is_agent : Side → Bool
is_agent Side.Agent = true
is_agent Side.Plugin = false

-- whether the end-of-session text is due, at most once for each opening: at a closed end after a fault,
-- and else after a finish, once all that was put in is acknowledged
abbrev pub is_text_due : Side → ℕ → Count → Look → Option Count → Bool
is_text_due side told count look (Some again) =
    is_agent side && (again.fault && nat_lt told again.openings)
is_text_due side told count look None =
    is_agent side && (count.finish && (nat_lt told count.openings && nat_eq look.low look.next))

-- for how many openings the text was sent, or tried to be, after an idle turn
abbrev pub told_idle : Side → ℕ → IdleTurn → Option Count → ℕ
told_idle side told i None =
    if is_text_due side told i.count i.look None then i.count.openings else told
told_idle side told i (Some again) = told

-- the same after any turn
abbrev pub told_after : Side → ℕ → WriterTurn → ℕ
told_after side told (idles now i) = told_idle side told i i.again
told_after side told turn = told

-- an idle turn asks the shelf again exactly where the end is closed, and sends the text exactly where
-- that is due
pub record IsIdleTurn (side : Side) (told : ℕ) (i : IdleTurn) : Type 0 where
  pub closed : is_some i.again ≡ i.look.closed
  pub due : is_some i.text ≡ is_text_due side told i.count i.look i.again

-- the turn is one that the writer may make
abbrev pub IsWriterTurn : Side → ℕ → WriterTurn → Type 0
IsWriterTurn side told (idles now i) = IsIdleTurn side told i
IsWriterTurn side told turn = Unit {0}

-- these messages were sent, and then the link was shut where this says so
abbrev pub Departs : List Got → Bool → Option Departures → Option Departures → Type 0
Departs messages shut None after = after ≡ None
Departs messages shut (Some before) after =
    after
    ≡ Some (record {
      sent = before.sent ++ messages;
      shuts = if shut then min (before.shuts + 1) (2 ^ 64 - 1) else before.shuts;
    })

-- the count of faults rose by the sends that failed, as far as it goes, and stayed where none did
pub record CountsFailures (failed before now : ℕ) : Type 0 where
  pub rises : RisesBy failed before now
  pub stays : failed ≡ 0 → now ≡ before
