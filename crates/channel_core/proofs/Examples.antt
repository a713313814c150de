-- What the definitions give for short histories, by computation alone.
use Rattle.std.proofs.Common.{◌≡◌, ℕ, true, false, List, [], ◌∷◌, ◌++◌, refl}
use Rattle.std.specs.List.{fold}
use Rattle.chan_values.specs.declared.item.Item.{Item}
use Rattle.resend_queue.specs.RoundTrips.{after_samples}
use Rattle.channel_core.specs.declared.call.EndAnswer.{EndAnswer}
use Rattle.channel_core.specs.declared.call.EndCall.{EndCall}
use Rattle.channel_core.specs.declared.answer.Heard.TheVariants as Heard
use Rattle.channel_core.specs.declared.message.Incoming.TheVariants as Incoming
use Rattle.channel_core.specs.declared.message.Outgoing.TheVariants as Outgoing
use Rattle.channel_core.specs.declared.answer.Pull.TheVariants as Pull
use Rattle.channel_core.specs.declared.answer.Put.TheVariants as Put
use Rattle.channel_core.specs.declared.answer.Tick.TheVariants as Tick
use Rattle.channel_core.specs.Call.{Entry, with_earlier}
use Rattle.channel_core.specs.History.{acked_numbers, emissions, is_closed, is_paused, is_up, owed_acks, put_messages, taken_items, taken_messages}
use Rattle.channel_core.specs.Legal.{answer_to, answer_to_ack, answer_to_pull, answer_to_put, answer_to_stream, answer_to_tick, ends_with, past_end}
use Rattle.channel_core.specs.Numbers.{least_absent}
use Rattle.channel_core.specs.Resending.{marked_due, round_trip_samples, sent_since_opened, transmissions}

-- an output of one byte
item : ℕ → Item
item byte = record { ptype = 1; payload = byte ∷ [] }

-- the history that these calls make at a new end with the window 2
run : List EndCall → List Entry
run calls = fold (λ h call. h ++ record { call = call; answer = answer_to 2 h call } ∷ []) [] calls

-- what a call answers after others
abbrev after : List EndCall → EndCall → EndAnswer
after calls call = answer_to 2 (run calls) call

put : ℕ → EndCall
put byte = EndCall.Put (item byte) (byte ∷ []) 5

hear : ℕ → EndCall
hear n = EndCall.Heard 0 (Incoming.Stream n [] (item n) false)

hear_last : ℕ → EndCall
hear_last n = EndCall.Heard 0 (Incoming.Stream n [] (item n) true)

-- a window of two takes two items
third_is_full : after (put 1 ∷ put 2 ∷ []) (put 3) ≡ EndAnswer.Put (Put.Full (item 3))
unfolding run item put answer_to_put put_messages acked_numbers least_absent is_closed
third_is_full = refl

-- an early item is released with the one that was missing
both_are_released : after (hear 1 ∷ []) (hear 0)
    ≡ EndAnswer.Heard (Heard.Released (item 0 ∷ item 1 ∷ []))
unfolding run item hear answer_to_stream taken_items taken_messages past_end ends_with
    least_absent is_closed
both_are_released = refl

-- the same message again is late
again_is_late : after (hear 1 ∷ []) (hear 1) ≡ EndAnswer.Heard Heard.Late
unfolding run item hear answer_to_stream taken_items taken_messages past_end ends_with
    least_absent is_closed
again_is_late = refl

-- the third message is outside the window of two
third_is_beyond : after [] (hear 2) ≡ EndAnswer.Heard Heard.Beyond
unfolding run item hear answer_to_stream taken_items taken_messages past_end ends_with
    least_absent is_closed
third_is_beyond = refl

-- nothing is put in after the last item
second_is_past : after (EndCall.PutLast (item 1) (1 ∷ []) 5 ∷ []) (put 2)
    ≡ EndAnswer.Put (Put.Past (item 2))
unfolding run item put answer_to_put put_messages acked_numbers least_absent is_closed
second_is_past = refl

-- an early last item ends the direction with the one that was missing
last_is_finished : after (hear_last 1 ∷ []) (hear 0)
    ≡ EndAnswer.Heard (Heard.Finished (item 0 ∷ item 1 ∷ []))
unfolding run item hear hear_last answer_to_stream taken_items taken_messages past_end ends_with
    least_absent is_closed
last_is_finished = refl

-- a message above the last one is past the end
above_is_past : after (hear_last 0 ∷ []) (hear 1) ≡ EndAnswer.Heard (Heard.PastEnd 0)
unfolding run item hear hear_last answer_to_stream taken_items taken_messages past_end ends_with
    least_absent is_closed
above_is_past = refl

-- so is a last one below another
below_is_past : after (hear 1 ∷ []) (hear_last 0) ≡ EndAnswer.Heard (Heard.PastEnd 1)
unfolding run item hear hear_last answer_to_stream taken_items taken_messages past_end ends_with
    least_absent is_closed
below_is_past = refl

-- a put and a pull on a new connection
sent : List EndCall
sent = EndCall.Opened 0 ∷ put 7 ∷ EndCall.Pull 10 ∷ []

-- the message goes out with its number, id and date
first_goes : after (EndCall.Opened 0 ∷ put 7 ∷ []) (EndCall.Pull 10)
    ≡ EndAnswer.Pull
    (Pull.Emit (Outgoing.Stream (record {
      seq = 0;
      id = 7 ∷ [];
      date = 5;
      item = item 7;
      last = false;
    })))
unfolding run item put answer_to_put answer_to_pull put_messages acked_numbers least_absent
    is_closed is_up is_paused owed_acks sent_since_opened marked_due
first_goes = refl

-- its timer has not expired after the timeout of 200
not_due_at_timeout : after sent (EndCall.Tick 210) ≡ EndAnswer.Tick Tick.Nothing
unfolding sent run item put answer_to_put answer_to_pull answer_to_tick put_messages acked_numbers
    least_absent is_closed is_up is_paused owed_acks sent_since_opened marked_due transmissions
    round_trip_samples with_earlier after_samples
not_due_at_timeout = refl

-- but has one millisecond later
due_past_timeout : after sent (EndCall.Tick 211) ≡ EndAnswer.Tick (Tick.Due 0)
unfolding sent run item put answer_to_put answer_to_pull answer_to_tick put_messages acked_numbers
    least_absent is_closed is_up is_paused owed_acks sent_since_opened marked_due transmissions
    round_trip_samples with_earlier after_samples
due_past_timeout = refl

-- it goes out again, and is acknowledged 100 ms later, which makes the timeout 110
resent : List EndCall
resent =
    sent
    ++ EndCall.Tick 211
    ∷ EndCall.Pull 220
    ∷ EndCall.Heard 320 (Incoming.Ack 0)
    ∷ put 8
    ∷ EndCall.Pull 400
    ∷ []

sample_counts : after resent (EndCall.Tick 511) ≡ EndAnswer.Tick (Tick.Due 1)
unfolding resent sent run item put answer_to_put answer_to_pull answer_to_tick answer_to_ack
    emissions put_messages acked_numbers least_absent is_closed is_up is_paused owed_acks
    sent_since_opened marked_due transmissions round_trip_samples with_earlier after_samples
sample_counts = refl
