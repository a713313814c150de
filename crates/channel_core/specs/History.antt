-- What one end did, read off the list of its calls with their answers. Nothing else is kept.
use Rattle.std.specs.Prelude.{ℕ, max, Bool, true, false, not, ◌||◌, Option, Some, None, List, [], ◌∷◌, ◌++◌, map, drop, find, length, if◌then◌else◌, nat_eq, nat_lt}
use Rattle.std.specs.List.{count_by, filter, filter_map, flat_map, fold, list_any, range_with_len}
use Rattle.std.specs.Option.{option_map}
use Rattle.chan_values.specs.declared.item.Item.{Item}
use Rattle.channel_core.specs.declared.call.EndAnswer.{EndAnswer}
use Rattle.channel_core.specs.declared.call.EndCall.{EndCall}
use Rattle.channel_core.specs.declared.answer.Heard.TheVariants as Heard
use Rattle.channel_core.specs.declared.message.Incoming.TheVariants as Incoming
use Rattle.channel_core.specs.declared.message.Outgoing.{Outgoing}
use Rattle.channel_core.specs.declared.answer.Pull.TheVariants as Pull
use Rattle.channel_core.specs.declared.answer.Put.TheVariants as Put
use Rattle.channel_core.specs.declared.answer.Tick.TheVariants as Tick
use Rattle.channel_core.specs.Call.{Entry}
use Rattle.channel_core.specs.Numbers.{has_number, least_absent, numbers_of}

-- a message as it was put in; its number is its place among them
pub record PutMessage : Type 0 where
  pub item : Item
  -- MessageId
  pub id : List ℕ
  -- CreatedDate: the moment of the put, at least 1
  pub date : ℕ
  -- it was put in as the last
  pub last : Bool

-- the message that this call put in
abbrev pub message_put : EndAnswer → EndCall → Option PutMessage
message_put (EndAnswer.Put (Put.Seq n)) (EndCall.Put item id now) =
    Some (record { item = item; id = id; date = max now 1; last = false })
message_put (EndAnswer.Put (Put.Seq n)) (EndCall.PutLast item id now) =
    Some (record { item = item; id = id; date = max now 1; last = true })
message_put answer call = None

-- the messages that were put in, in order
unfoldable pub put_messages : List Entry → List PutMessage
put_messages h = filter_map (λ e. message_put e.answer e.call) h

-- the items that were put in, in order
abbrev pub put_items : List Entry → List Item
put_items h = map (λ m. m.item) (put_messages h)

-- whether an item was put in as the last: then no other is
abbrev pub has_ended : List Entry → Bool
has_ended h = list_any (λ m. m.last) (put_messages h)

-- the number that this answer counts as acknowledged
abbrev pub number_acked : EndAnswer → Option ℕ
number_acked (EndAnswer.Heard (Heard.Acked n)) = Some n
number_acked answer = None

-- the numbers that were acknowledged
unfoldable pub acked_numbers : List Entry → List ℕ
acked_numbers h = filter_map (λ e. number_acked e.answer) h

-- SND.UNA: the least number that was not acknowledged
abbrev pub lowest_unacked : List Entry → ℕ
lowest_unacked h = least_absent (acked_numbers h)

-- the numbers that were put in and not acknowledged
abbrev pub unacked_numbers : List Entry → List ℕ
unacked_numbers h =
    filter (λ n. not (has_number (acked_numbers h) n)) (range_with_len 0 (length (put_messages h)))

-- a stream message that was taken
pub record TakenMessage : Type 0 where
  pub seq : ℕ
  pub item : Item
  -- it is the last of its direction
  pub last : Bool

-- the stream message that this call took
abbrev pub message_taken : EndAnswer → EndCall → Option TakenMessage
message_taken
    (EndAnswer.Heard (Heard.Released items)) (EndCall.Heard now (Incoming.Stream n id item last)) =
    Some (record { seq = n; item = item; last = last })
message_taken
    (EndAnswer.Heard (Heard.Finished items)) (EndCall.Heard now (Incoming.Stream n id item last)) =
    Some (record { seq = n; item = item; last = last })
message_taken answer call = None

-- the stream messages that were taken, in the order in which they came
unfoldable pub taken_messages : List Entry → List TakenMessage
taken_messages h = filter_map (λ e. message_taken e.answer e.call) h

-- numbers and items of messages
abbrev pub items_of : List TakenMessage → List (ℕ × Item)
items_of messages = map (λ m. (m.seq, m.item)) messages

-- those of the stream messages that were taken
unfoldable pub taken_items : List Entry → List (ℕ × Item)
taken_items h = items_of (taken_messages h)

-- the number of the stream message that was taken as the last of its direction
abbrev pub last_number : List Entry → Option ℕ
last_number h = option_map (λ m. m.seq) (find (λ m. m.last) (taken_messages h))

-- RCV.NXT: the least number that was not taken
abbrev pub next_in_order : List Entry → ℕ
next_in_order h = least_absent (numbers_of (taken_items h))

-- the stream messages that were taken out of order and wait for an earlier one
abbrev pub early_items : List Entry → List (ℕ × Item)
early_items h = filter (λ p. nat_lt (next_in_order h) p.0) (taken_items h)

-- the items that this answer released
abbrev pub items_released : EndAnswer → List Item
items_released (EndAnswer.Heard (Heard.Released items)) = items
items_released (EndAnswer.Heard (Heard.Finished items)) = items
items_released answer = []

-- the items that were released, in order
unfoldable pub released_items : List Entry → List Item
released_items h = flat_map (λ e. items_released e.answer) h

-- whether this answer released the last item of the direction
abbrev pub is_finished : EndAnswer → Bool
is_finished (EndAnswer.Heard (Heard.Finished items)) = true
is_finished answer = false

-- how often the last item of the direction was released
unfoldable pub finished_count : List Entry → ℕ
finished_count h = count_by (λ e. is_finished e.answer) h

-- the message that this answer gave out
abbrev pub message_emitted : EndAnswer → Option Outgoing
message_emitted (EndAnswer.Pull (Pull.Emit out)) = Some out
message_emitted answer = None

-- the messages that were given out, in order
unfoldable pub emissions : List Entry → List Outgoing
emissions h = filter_map (λ e. message_emitted e.answer) h

-- the number of a stream message that is given out
abbrev pub stream_number : Outgoing → Option ℕ
stream_number (Outgoing.Stream m) = Some m.seq
stream_number (Outgoing.Ack n id date) = None

-- the numbers of the stream messages that were given out
abbrev pub emitted_numbers : List Entry → List ℕ
emitted_numbers h = filter_map stream_number (emissions h)

-- a message that was heard is owed behind the others, if it is not owed yet and fewer than w are
abbrev pub owed_with : ℕ → List (ℕ × List ℕ) → ℕ → List ℕ → List (ℕ × List ℕ)
owed_with w owed n id =
    if list_any (λ p. nat_eq n p.0) owed || not (nat_lt (length owed) w)
    then owed
    else owed ++ (n, id) ∷ []

-- a message that was taken, or comes late, is owed; an acknowledgement given out pays the first
abbrev pub owed_after :
    ℕ → List (ℕ × List ℕ) → EndAnswer → EndCall → List (ℕ × List ℕ)
owed_after w owed
    (EndAnswer.Heard (Heard.Released items)) (EndCall.Heard now (Incoming.Stream n id item last)) =
    owed_with w owed n id
owed_after w owed
    (EndAnswer.Heard (Heard.Finished items)) (EndCall.Heard now (Incoming.Stream n id item last)) =
    owed_with w owed n id
owed_after w owed
    (EndAnswer.Heard Heard.Late) (EndCall.Heard now (Incoming.Stream n id item last)) =
    owed_with w owed n id
owed_after w owed (EndAnswer.Pull (Pull.Emit (Outgoing.Ack n id date))) call = drop 1 owed
owed_after w owed answer call = owed

-- the acknowledgements that are owed, the oldest first: number and MessageId of what was heard
unfoldable pub owed_acks : ℕ → List Entry → List (ℕ × List ℕ)
owed_acks w h = fold (λ owed e. owed_after w owed e.answer e.call) [] h

-- the acknowledgement that is given out: number and MessageId
abbrev pub ack_of : Outgoing → Option (ℕ × List ℕ)
ack_of (Outgoing.Stream m) = None
ack_of (Outgoing.Ack n id date) = Some (n, id)

-- the acknowledgements that were given out, in order
abbrev pub emitted_acks : List Entry → List (ℕ × List ℕ)
emitted_acks h = filter_map ack_of (emissions h)

-- an opening connects the end, a loss disconnects it
abbrev pub up_after : Bool → EndCall → Bool
up_after up (EndCall.Opened now) = true
up_after up EndCall.Lost = false
up_after up call = up

-- whether the end is connected: the last opening or loss was an opening
unfoldable pub is_up : List Entry → Bool
is_up h = fold (λ up e. up_after up e.call) false h

-- a pause holds stream messages back until a start or an opening
abbrev pub paused_after : Bool → EndAnswer → EndCall → Bool
paused_after paused (EndAnswer.Heard Heard.Paused) call = true
paused_after paused (EndAnswer.Heard Heard.Started) call = false
paused_after paused answer (EndCall.Opened now) = false
paused_after paused answer call = paused

-- whether stream messages are held back: the last pause, start or opening was a pause
unfoldable pub is_paused : List Entry → Bool
is_paused h = fold (λ paused e. paused_after paused e.answer e.call) false h

-- whether this entry closes the end: a close, a closing that was heard, or a message given up
abbrev pub closes : EndAnswer → EndCall → Bool
closes answer EndCall.Close = true
closes (EndAnswer.Heard Heard.Ended) call = true
closes (EndAnswer.Tick (Tick.GaveUp n)) call = true
closes answer call = false

-- whether the end is closed
unfoldable pub is_closed : List Entry → Bool
is_closed h = list_any (λ e. closes e.answer e.call) h
