-- What has been so since an entry of a history: one begins it, and none after that one ends it.
use Rattle.std.specs.Prelude.{◌≡◌, ◌≢◌, ℕ, ◌<◌, ◌⊎◌, Bool, List, ◌∷◌, ◌++◌, length}
use Rattle.std.specs.List.{All}
use Rattle.chan_values.specs.declared.item.Item.{Item}
use Rattle.resend_queue.specs.declared.answer.Sent.{Sent}
use Rattle.channel_core.specs.declared.call.EndAnswer.{EndAnswer}
use Rattle.channel_core.specs.declared.call.EndCall.{EndCall}
use Rattle.channel_core.specs.declared.answer.Heard.TheVariants as Heard
use Rattle.channel_core.specs.declared.message.Incoming.TheVariants as Incoming
use Rattle.channel_core.specs.declared.message.Outgoing.TheVariants as Outgoing
use Rattle.channel_core.specs.declared.answer.Pull.TheVariants as Pull
use Rattle.channel_core.specs.declared.answer.Tick.TheVariants as Tick
use Rattle.channel_core.specs.Call.{Entry}
use Rattle.channel_core.specs.History.{owed_acks}

-- some entry of the history, after those before it, begins this, and no later entry ends it
pub record IsSince
    (Begins : List Entry → Entry → Type 0) (Ends : Entry → Type 0) (h : List Entry) : Type 0 where
  pub before : List Entry
  pub entry : Entry
  pub after : List Entry
  pub parts : h ≡ before ++ entry ∷ after
  pub begins : Begins before entry
  pub lasts : All (λ e. ¬ Ends e) after

-- a connection was made
abbrev pub IsOpening : Entry → Type 0
IsOpening e = (now : ℕ) × (e.call ≡ EndCall.Opened now)

-- the connection was lost
abbrev pub IsLoss : Entry → Type 0
IsLoss e = e.call ≡ EndCall.Lost

-- a pause was heard
abbrev pub IsPause : Entry → Type 0
IsPause e = e.answer ≡ EndAnswer.Heard Heard.Paused

-- a start was heard, or a connection was made
abbrev pub IsStart : Entry → Type 0
IsStart e = (e.answer ≡ EndAnswer.Heard Heard.Started) ⊎ IsOpening e

-- the end was closed, heard a closing, or gave up a message
abbrev pub IsClosing : Entry → Type 0
IsClosing e =
    (e.call ≡ EndCall.Close)
    ⊎ (e.answer ≡ EndAnswer.Heard Heard.Ended)
    ⊎ ((n : ℕ) × (e.answer ≡ EndAnswer.Tick (Tick.GaveUp n)))

-- the stream message with this number was given out
abbrev pub IsEmissionOf : ℕ → Entry → Type 0
IsEmissionOf n e =
    (m : Sent) × (e.answer ≡ EndAnswer.Pull (Pull.Emit (Outgoing.Stream m))) × (m.seq ≡ n)

-- the timer of this number expired
abbrev pub IsDueOf : ℕ → Entry → Type 0
IsDueOf n e = e.answer ≡ EndAnswer.Tick (Tick.Due n)

-- the acknowledgement of this number was given out
abbrev pub IsAckOf : ℕ → Entry → Type 0
IsAckOf n e =
    (id : List ℕ) × (date : ℕ) × (e.answer ≡ EndAnswer.Pull (Pull.Emit (Outgoing.Ack n id date)))

-- a stream message was taken, or came late
abbrev pub IsTakenOrLate : EndAnswer → Type 0
IsTakenOrLate answer =
    ((items : List Item) × (answer ≡ EndAnswer.Heard (Heard.Released items)))
    ⊎ ((items : List Item) × (answer ≡ EndAnswer.Heard (Heard.Finished items)))
    ⊎ (answer ≡ EndAnswer.Heard Heard.Late)

-- the stream message with this number and MessageId was taken or came late, where fewer than w were
-- owed, and this number was not
pub record FindsRoom (w n : ℕ) (id : List ℕ) (before : List Entry) (e : Entry) : Type 0 where
  pub now : ℕ
  pub item : Item
  pub last : Bool
  pub call : e.call ≡ EndCall.Heard now (Incoming.Stream n id item last)
  pub answer : IsTakenOrLate e.answer
  pub room : length (owed_acks w before) < w
  pub new : All (λ p. p.0 ≢ n) (owed_acks w before)
