-- What an end keeps, and the histories that it stands for.
use Rattle.std.specs.Prelude.{◌≡◌, ℕ, ◌-◌, ◌||◌, Bool, Some, None, List, [], ◌∷◌, ◌++◌, length, if◌then◌else◌, slice_get}
use Rattle.std.specs.List.{filter_map}
use Rattle.std.specs.List.Sorted.{IsPermutation}
use Rattle.std.specs.Option.{option_map}
use Rattle.resend_queue.specs.declared.answer.Kept.{Kept}
use Rattle.resend_queue.specs.Queue.{Pending, QueueState, lowest}
use Rattle.resend_queue.specs.RoundTrips.{RoundTrip}
use Rattle.receive_window.specs.Window.{WindowState}
use Rattle.channel_core.specs.declared.answer.Put.{Put}
use Rattle.channel_core.specs.declared.call.EndAnswer.{EndAnswer}
use Rattle.channel_core.specs.declared.call.EndCall.{EndCall}
use Rattle.channel_core.specs.Call.{Entry}
use Rattle.channel_core.specs.History.{PutMessage, early_items, emitted_numbers, has_ended, is_closed, is_paused, is_up, last_number, lowest_unacked, next_in_order, owed_acks, put_messages, unacked_numbers}
use Rattle.channel_core.specs.Legal.{IsLegal}
use Rattle.channel_core.specs.Numbers.{has_number}
use Rattle.channel_core.specs.Resending.{due_count, last_moment, marked_due, round_trip, sent_since_opened, transmissions}

-- an end, as contracts see it
pub record EndState : Type 0 where
  -- the messages that were put in and are not acknowledged
  pub queue : QueueState
  -- the stream messages that were taken
  pub received : WindowState
  -- the retransmission timeout
  pub estimate : RoundTrip
  -- the acknowledgements that are owed: number and MessageId of what was heard
  pub owed : List (ℕ × List ℕ)
  -- it is connected
  pub up : Bool
  -- stream messages are held back
  pub paused : Bool
  -- it is closed
  pub closed : Bool

-- what the entries tell of the message with this number
abbrev pub pending_message : List Entry → ℕ → PutMessage → Pending
pending_message h n m =
    record {
      seq = n;
      id = m.id;
      date = m.date;
      item = m.item;
      last = m.last;
      emitted =
          if has_number (emitted_numbers h) n then Some (last_moment (transmissions h) n) else None;
      sent = has_number (sent_since_opened h) n;
      due = has_number (marked_due h) n;
    }

-- the send queue that the entries make: the unacknowledged messages, by number
abbrev pub queue_after : ℕ → List Entry → QueueState
queue_after w h =
    record {
      window = w;
      next = length (put_messages h);
      pending =
          filter_map
          (λ n. option_map (pending_message h n) (slice_get (put_messages h) n))
          (unacked_numbers h);
      dues = due_count h (lowest_unacked h);
      ended = has_ended h;
    }

-- how many items may be put in at an end
abbrev pub room_of : EndState → ℕ
room_of end =
    if end.closed || end.queue.ended then 0
    else end.received.window - (end.queue.next - lowest end.queue)

-- the answer of an end to a put, by that of its queue
abbrev pub put_answer_of : Kept → Put
put_answer_of (Kept.Seq n) = Put.Seq n
put_answer_of (Kept.Past item) = Put.Past item
put_answer_of (Kept.Spent item) = Put.Spent item
put_answer_of (Kept.Full item) = Put.Full item

-- an end with the window w keeps what the entries tell
pub record Stands (w : ℕ) (end : EndState) (h : List Entry) : Type 0 where
  pub queue : end.queue ≡ queue_after w h
  pub window : end.received.window ≡ w
  pub expected : end.received.expected ≡ next_in_order h
  -- the items that were taken out of order and wait, in some order
  pub early : IsPermutation (early_items h) end.received.early
  pub last : end.received.last ≡ last_number h
  pub estimate : end.estimate ≡ round_trip h
  pub owed : end.owed ≡ owed_acks w h
  pub up : end.up ≡ is_up h
  pub paused : end.paused ≡ is_paused h
  pub closed : end.closed ≡ is_closed h

-- one call more: whatever legal history the end stood for, with this entry it is legal, and the end
-- stands for it
abbrev pub Follows : EndState → EndState → EndCall → EndAnswer → Type 0
Follows old new call answer =
    let entry : Entry = record { call = call; answer = answer } in
    (w : ℕ) (h : List Entry)
    → IsLegal w h
    → Stands w old h
    → IsLegal w (h ++ entry ∷ []) × Stands w new (h ++ entry ∷ [])
