-- The send queue of one end: what was put in and isn't acknowledged (SND.UNA and SND.NXT of RFC 9293,
-- 3.3.1, in messages).
use Rattle.std.specs.Prelude.{ℕ, ◌<◌, ◌≤◌, ◌^◌, length, ◌+◌, ◌-◌, ◌==◌, ◌&&◌, ◌||◌, Bool, true, false, not, Option, Some, None, List, [], ◌∷◌, ◌++◌, map, filter, find, nat_lt, nat_le, option_and_then, if◌then◌else◌}
use Rattle.chan_values.specs.declared.item.Item.{Item}
use Rattle.chan_values.specs.Limits.{max_payload, max_seq}
use Rattle.resend_queue.specs.declared.answer.Kept.{Kept}
use Rattle.resend_queue.specs.declared.answer.Kept.TheVariants as kepts
use Rattle.resend_queue.specs.declared.answer.Mark.{Mark}
use Rattle.resend_queue.specs.declared.answer.Mark.TheVariants as marks
use Rattle.resend_queue.specs.declared.answer.Out.{Out}
use Rattle.resend_queue.specs.declared.answer.Sent.{Sent}
use Rattle.resend_queue.specs.declared.answer.Out.TheVariants as outs

-- a message that was put in and isn't acknowledged
pub record Pending : Type 0 where
  -- its sequence number
  pub seq : ℕ
  -- its id
  pub id : List ℕ
  -- CreatedDate: the moment of its put, at least 1
  pub date : ℕ
  -- its payload and type
  pub item : Item
  -- nothing follows it in its direction
  pub last : Bool
  -- the moment of its last transmission
  pub emitted : Option ℕ
  -- it was transmitted since the last reopening
  pub sent : Bool
  -- it was marked due after its last transmission
  pub due : Bool

-- a send queue
pub record QueueState : Type 0 where
  -- how far the next number may be from the lowest unacknowledged one
  pub window : ℕ
  -- the next number
  pub next : ℕ
  -- the unacknowledged messages, by number
  pub pending : List Pending
  -- how often the lowest unacknowledged number was marked due
  pub dues : ℕ
  -- an item was put in as the last
  pub ended : Bool

-- how often one number may be marked due
abbrev pub max_dues : ℕ
max_dues = 3000

-- nothing was put in
abbrev pub empty_queue : ℕ → QueueState
empty_queue window = record { window = window; next = 0; pending = []; dues = 0; ended = false }

-- the number of the first of these messages, or else the next number
abbrev pub first_number : List Pending → ℕ → ℕ
first_number [] next = next
first_number (p ∷ ps) next = p.seq

-- the lowest unacknowledged number, or else the next number
abbrev pub lowest : QueueState → ℕ
lowest q = first_number q.pending q.next

-- a message that was never transmitted
abbrev pub new_message : ℕ → Item → List ℕ → ℕ → Bool → Pending
new_message seq item id date last =
    record {
      seq = seq;
      id = id;
      date = date;
      item = item;
      last = last;
      emitted = None;
      sent = false;
      due = false;
    }

-- what a put is answered, as the last or not
abbrev pub put_answer : QueueState → Item → Kept
put_answer q item =
    if q.ended then kepts.Past item
    else if q.next == max_seq + 1 then kepts.Spent item
    else if q.next - lowest q == q.window then kepts.Full item
    else kepts.Seq q.next

-- the queue after a put, as the last or not
abbrev pub after_put : QueueState → Item → List ℕ → ℕ → Bool → Kept → QueueState
after_put q item id date last (kepts.Seq seq) =
    record q {
      next = q.next + 1;
      pending = q.pending ++ new_message q.next item id date last ∷ [];
      ended = last;
    }
after_put q item id date last answer = q

-- the message with a number
abbrev pub with_number : QueueState → ℕ → Option Pending
with_number q seq = find (λ p. p.seq == seq) q.pending

-- the moment of the last transmission of an unacknowledged number
abbrev pub moment_of : QueueState → ℕ → Option ℕ
moment_of q seq = option_and_then (λ p. p.emitted) (with_number q seq)

-- the queue after an acknowledgement of this number
abbrev pub without_number : QueueState → ℕ → QueueState
without_number q seq =
    record q {
      pending = filter (λ p. not (p.seq == seq)) q.pending;
      dues = if lowest q == seq then 0 else q.dues;
    }

-- the queue after an acknowledgement that was answered so
abbrev pub after_ack : QueueState → ℕ → Option ℕ → QueueState
after_ack q seq None = q
after_ack q seq (Some moment) = without_number q seq

-- a message may be transmitted: not yet since the last reopening, or its timer expired
abbrev pub is_ready : Pending → Bool
is_ready p = not p.sent || p.due

-- more than the timeout has passed since a moment
abbrev pub is_past : Option ℕ → ℕ → ℕ → Bool
is_past None now timeout = false
is_past (Some moment) now timeout = nat_lt timeout (now - moment)

-- the timer of a message expires: it was transmitted since the last reopening and isn't marked, and
-- the timeout has passed
abbrev pub is_overdue : Pending → ℕ → ℕ → Bool
is_overdue p now timeout = p.sent && (not p.due && is_past p.emitted now timeout)

-- what is answered of the lowest message at a moment
abbrev pub mark_answer_of : List Pending → ℕ → ℕ → ℕ → Mark
mark_answer_of [] dues now timeout = marks.Nothing
mark_answer_of (p ∷ ps) dues now timeout =
    if not (is_overdue p now timeout) then marks.Nothing
    else if nat_le max_dues dues then marks.GaveUp p.seq
    else marks.Due p.seq

-- what a look at the lowest message is answered
abbrev pub mark_answer : QueueState → ℕ → ℕ → Mark
mark_answer q now timeout = mark_answer_of q.pending q.dues now timeout

-- these messages with the change at a number
abbrev pub changed_at : ℕ → (Pending → Pending) → List Pending → List Pending
changed_at seq change pending =
    map (λ (p : Pending). if p.seq == seq then change p else p) pending

-- a message whose timer expired
abbrev pub marked : Pending → Pending
marked p = record p { due = true }

-- the queue after a look at the lowest message
abbrev pub after_mark : QueueState → Mark → QueueState
after_mark q (marks.Due seq) =
    record q { pending = changed_at seq marked q.pending; dues = q.dues + 1 }
after_mark q answer = q

-- the message with the least number that may be transmitted
abbrev pub first_ready : QueueState → Option Pending
first_ready q = find is_ready q.pending

-- a message as it goes out
abbrev pub out_of : Option Pending → Out
out_of None = outs.Idle
out_of (Some p) =
    outs.Stream
    (record { seq = p.seq; id = p.id; date = p.date; item = p.item; last = p.last })

-- a message can be transmitted: its number is below 2^63, it has a date, and its payload is not longer
-- than a message's may be
abbrev pub IsTransmittable : Sent → Type 0
IsTransmittable sent =
    (sent.seq < 2 ^ 63) × (0 < sent.date) × (length sent.item.payload ≤ max_payload)

-- what goes out, if anything does
abbrev pub IfStream : Out → (Sent → Type 0) → Type 0
IfStream (outs.Stream sent) P = P sent
IfStream answer P = Unit {0}

-- a message that was just transmitted
abbrev pub transmitted : ℕ → Pending → Pending
transmitted now p = record p { emitted = Some now; sent = true; due = false }

-- the queue after a poll for a transmission
abbrev pub after_out : QueueState → ℕ → Out → QueueState
after_out q now (outs.Stream sent) =
    record q { pending = changed_at sent.seq (transmitted now) q.pending }
after_out q now answer = q

-- a message on a new connection
abbrev pub unsent : Pending → Pending
unsent p = record p { sent = false }

-- the queue on a new connection
abbrev pub reopened : QueueState → QueueState
reopened q = record q { pending = map unsent q.pending }
