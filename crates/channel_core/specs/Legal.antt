-- Which answer each call gets after the entries before it, and which histories there may be.
use Rattle.std.specs.Prelude.{◌≡◌, ℕ, ◌+◌, ◌-◌, max, Bool, not, ◌&&◌, ◌||◌, ◌⊎◌, Option, Some, None, List, [], ◌∷◌, ◌++◌, find, length, if◌then◌else◌, nat_eq, nat_le, nat_lt, slice_get}
use Rattle.std.specs.List.{All, list_any}
use Rattle.std.specs.Option.{option_map}
use Rattle.chan_values.specs.Limits.{max_seq}
use Rattle.chan_values.specs.declared.item.Item.{Item}
use Rattle.receive_window.specs.Window.{items_in_order}
use Rattle.resend_queue.specs.Queue.{max_dues}
use Rattle.channel_core.specs.declared.call.EndAnswer.{EndAnswer}
use Rattle.channel_core.specs.declared.call.EndCall.{EndCall}
use Rattle.channel_core.specs.declared.answer.Heard.{Heard}
use Rattle.channel_core.specs.declared.message.Incoming.{Incoming}
use Rattle.channel_core.specs.declared.answer.Look.{Look}
use Rattle.channel_core.specs.declared.message.Outgoing.TheVariants as Outgoing
use Rattle.channel_core.specs.declared.answer.Pull.{Pull}
use Rattle.channel_core.specs.declared.answer.Put.{Put}
use Rattle.channel_core.specs.declared.answer.Tick.{Tick}
use Rattle.channel_core.specs.Call.{Entry, with_earlier}
use Rattle.channel_core.specs.History.{PutMessage, TakenMessage, acked_numbers, emitted_numbers, has_ended, is_closed, is_paused, is_up, items_of, lowest_unacked, next_in_order, owed_acks, put_messages, taken_items, taken_messages}
use Rattle.channel_core.specs.Numbers.{has_number, least_above, least_absent, least_below, numbers_of, or_else}
use Rattle.channel_core.specs.Resending.{due_count, is_eligible, last_moment, marked_due, round_trip, sent_since_opened, transmissions}

-- to a put, as the last or not: the next number, unless the end is closed, an item was put in as the
-- last, the numbers are spent or the window is full
unfoldable pub answer_to_put : ℕ → List Entry → Item → Put
answer_to_put w h item =
    if is_closed h then Put.Closed item
    else if has_ended h then Put.Past item
    else if nat_eq (length (put_messages h)) (max_seq + 1) then Put.Spent item
    else if nat_eq (length (put_messages h) - lowest_unacked h) w then Put.Full item
    else Put.Seq (length (put_messages h))

-- what is in order once this item is taken too: from the old next number up to the new one
abbrev pub items_released_by : List (ℕ × Item) → ℕ → Item → List Item
items_released_by taken n item =
    let more = taken ++ (n, item) ∷ [] in
    items_in_order more (least_absent (numbers_of taken)) (least_absent (numbers_of more))

-- the message that shows that this one is past the end of its direction: one that was taken as the
-- last, below it, or where it is the last itself the next one that was taken above it
unfoldable pub past_end : List TakenMessage → ℕ → Bool → Option ℕ
past_end taken n last =
    or_else
    (option_map (λ m. m.seq) (find (λ m. m.last && nat_lt m.seq n) taken))
    (if last then least_above (numbers_of (items_of taken)) n else None)

-- whether the last message of the direction is among those with the numbers from the first bound up to
-- the second
abbrev pub has_last_between : List TakenMessage → ℕ → ℕ → Bool
has_last_between taken from to =
    list_any (λ m. m.last && (nat_le from m.seq && nat_lt m.seq to)) taken

-- whether it is among those that are in order once this message is taken too
unfoldable pub ends_with : List TakenMessage → TakenMessage → Bool
ends_with taken m =
    let more = taken ++ m ∷ [] in
    has_last_between
    more
    (least_absent (numbers_of (items_of taken)))
    (least_absent (numbers_of (items_of more)))

-- to a stream message that is taken: what is in order then, and whether it ends the direction
abbrev pub taken_answer : Bool → List Item → Heard
taken_answer finished items = if finished then Heard.Finished items else Heard.Released items

-- to a stream message inside the window that was not taken before
abbrev pub answer_to_new : Option ℕ → List Entry → ℕ → Item → Bool → Heard
answer_to_new (Some m) h n item last = Heard.PastEnd m
answer_to_new None h n item last =
    taken_answer
    (ends_with (taken_messages h) (record { seq = n; item = item; last = last }))
    (items_released_by (taken_items h) n item)

-- to a stream message: late if it was taken before, beyond if it is outside the window, past the end if
-- it comes after the last of its direction, or others come after it, which says that it is the last
unfoldable pub answer_to_stream : ℕ → List Entry → ℕ → Item → Bool → Heard
answer_to_stream w h n item last =
    if nat_lt n (next_in_order h) || has_number (numbers_of (taken_items h)) n then Heard.Late
    else if nat_le (next_in_order h + w) n then Heard.Beyond
    else answer_to_new (past_end (taken_messages h) n last) h n item last

-- to an acknowledgement: it counts once, for a number that was given out
unfoldable pub answer_to_ack : List Entry → ℕ → Heard
answer_to_ack h n =
    if has_number (emitted_numbers h) n && not (has_number (acked_numbers h) n)
    then Heard.Acked n
    else Heard.UnknownAck n

-- to what an end hears while it is not closed
abbrev pub answer_to_incoming : ℕ → List Entry → Incoming → Heard
answer_to_incoming w h (Incoming.Stream n id item last) = answer_to_stream w h n item last
answer_to_incoming w h (Incoming.Ack n) = answer_to_ack h n
answer_to_incoming w h Incoming.Pause = Heard.Paused
answer_to_incoming w h Incoming.Start = Heard.Started
answer_to_incoming w h (Incoming.Closing output) = Heard.Ended

-- to what an end hears
abbrev pub answer_to_heard : ℕ → List Entry → Incoming → Heard
answer_to_heard w h incoming =
    if is_closed h then Heard.AfterClose else answer_to_incoming w h incoming

-- the message as it goes out with its number
abbrev pub emit_message : ℕ → Option PutMessage → Pull
emit_message n None = Pull.Idle
emit_message n (Some m) =
    Pull.Emit
    (Outgoing.Stream
    (record { seq = n; id = m.id; date = m.date; item = m.item; last = m.last }))

-- the message with this number goes out
abbrev pub emit_number : List Entry → Option ℕ → Pull
emit_number h None = Pull.Idle
emit_number h (Some n) = emit_message n (slice_get (put_messages h) n)

-- the first acknowledgement that is owed goes out, or else the lowest number that may go
abbrev pub emit_next : List Entry → ℕ → List (ℕ × List ℕ) → Pull
emit_next h now (p ∷ owed) = Pull.Emit (Outgoing.Ack p.0 p.1 (max now 1))
emit_next h now [] =
    if is_paused h then Pull.Idle
    else emit_number h (least_below (is_eligible h) (length (put_messages h)))

-- to a pull: acknowledgements go before stream messages, and nothing goes where the end is not up
unfoldable pub answer_to_pull : ℕ → List Entry → ℕ → Pull
answer_to_pull w h now =
    if is_closed h || not (is_up h) then Pull.Idle else emit_next h now (owed_acks w h)

-- whether the timer of a number has expired: it was sent on the present connection, is not marked,
-- and more than the timeout has passed since its last transmission
abbrev pub is_expired : List Entry → ℕ → ℕ → Bool
is_expired h n now =
    has_number (sent_since_opened h) n
    && (not (has_number (marked_due h) n)
    && nat_lt (round_trip h).timeout (now - last_moment (transmissions h) n))

-- to a tick: it looks at the lowest unacknowledged number alone, and gives it up after `max_dues`
unfoldable pub answer_to_tick : List Entry → ℕ → Tick
answer_to_tick h now =
    let n = lowest_unacked h in
    if is_closed h || not (is_up h) then Tick.Nothing
    else if nat_eq n (length (put_messages h)) then Tick.Nothing
    else if not (is_expired h n now) then Tick.Nothing
    else if nat_le max_dues (due_count h n) then Tick.GaveUp n
    else Tick.Due n

-- to a look
unfoldable pub look_at : ℕ → List Entry → Look
look_at w h =
    record {
      next = length (put_messages h);
      low = lowest_unacked h;
      expected = next_in_order h;
      room =
          if is_closed h || has_ended h then 0
          else w - (length (put_messages h) - lowest_unacked h);
      closed = is_closed h;
      finished = has_ended h;
    }

-- the one answer to a call after these entries, at an end with the window w
abbrev pub answer_to : ℕ → List Entry → EndCall → EndAnswer
answer_to w h (EndCall.Put item id now) = EndAnswer.Put (answer_to_put w h item)
answer_to w h (EndCall.PutLast item id now) = EndAnswer.Put (answer_to_put w h item)
answer_to w h (EndCall.Heard now incoming) = EndAnswer.Heard (answer_to_heard w h incoming)
answer_to w h (EndCall.Tick now) = EndAnswer.Tick (answer_to_tick h now)
answer_to w h (EndCall.Pull now) = EndAnswer.Pull (answer_to_pull w h now)
answer_to w h EndCall.Lost = EndAnswer.Done
answer_to w h (EndCall.Opened now) = EndAnswer.Done
answer_to w h EndCall.Close = EndAnswer.Done
answer_to w h EndCall.Look = EndAnswer.Look (look_at w h)

-- want of memory, as a call tells it
abbrev pub IsNoMemory : EndCall → EndAnswer → Type 0
IsNoMemory (EndCall.Heard now incoming) answer =
    answer ≡ EndAnswer.Heard (Heard.NoMemory incoming)
IsNoMemory (EndCall.Pull now) answer = answer ≡ EndAnswer.Pull Pull.NoMemory
IsNoMemory call answer = ⊥

-- an answer for which memory may be wanted: the items that a message releases, and what a pull gives
abbrev pub NeedsMemory : EndAnswer → Type 0
NeedsMemory (EndAnswer.Heard (Heard.Released items)) = Unit {0}
NeedsMemory (EndAnswer.Heard (Heard.Finished items)) = Unit {0}
NeedsMemory (EndAnswer.Pull answer) = Unit {0}
NeedsMemory answer = ⊥

-- the call got its answer, or there was no memory for it
abbrev pub IsAnswered : ℕ → List Entry → EndCall → EndAnswer → Type 0
IsAnswered w h call answer =
    (answer ≡ answer_to w h call)
    ⊎ (IsNoMemory call answer × NeedsMemory (answer_to w h call))

-- a history of an end with the window w: each call got the answer due after the entries before it
unfoldable pub IsLegal : ℕ → List Entry → Type 0
IsLegal w h = All (λ p. IsAnswered w p.0 p.1.call p.1.answer) (with_earlier h)
