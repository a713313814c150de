-- When a message goes out, and when it goes out again, read off a history.
use Rattle.std.specs.Prelude.{ℕ, ◌-◌, Bool, false, not, ◌&&◌, ◌||◌, Option, Some, None, List, [], ◌∷◌, ◌++◌, length, if◌then◌else◌, nat_eq, nat_lt}
use Rattle.std.specs.List.{count_by, filter, filter_map, fold}
use Rattle.resend_queue.specs.RoundTrips.{RoundTrip, after_samples}
use Rattle.channel_core.specs.declared.call.EndAnswer.{EndAnswer}
use Rattle.channel_core.specs.declared.call.EndCall.{EndCall}
use Rattle.channel_core.specs.declared.answer.Heard.TheVariants as Heard
use Rattle.channel_core.specs.declared.message.Outgoing.TheVariants as Outgoing
use Rattle.channel_core.specs.declared.answer.Pull.TheVariants as Pull
use Rattle.channel_core.specs.declared.answer.Tick.TheVariants as Tick
use Rattle.channel_core.specs.Call.{Entry, with_earlier}
use Rattle.channel_core.specs.History.{acked_numbers, put_messages}
use Rattle.channel_core.specs.Numbers.{has_number}

-- an opening forgets what was sent, a stream message given out was sent
abbrev pub sent_after : List ℕ → EndAnswer → EndCall → List ℕ
sent_after sent answer (EndCall.Opened now) = []
sent_after sent (EndAnswer.Pull (Pull.Emit (Outgoing.Stream m))) call = sent ++ m.seq ∷ []
sent_after sent answer call = sent

-- the numbers that were sent on the present connection, since the last opening
unfoldable pub sent_since_opened : List Entry → List ℕ
sent_since_opened h = fold (λ sent e. sent_after sent e.answer e.call) [] h

-- a timer that expired marks its number, until it is given out
abbrev pub marked_after : List ℕ → EndAnswer → List ℕ
marked_after marked (EndAnswer.Tick (Tick.Due n)) = marked ++ n ∷ []
marked_after marked (EndAnswer.Pull (Pull.Emit (Outgoing.Stream m))) =
    filter (λ n. not (nat_eq n m.seq)) marked
marked_after marked answer = marked

-- the numbers whose timer expired after they were last given out
unfoldable pub marked_due : List Entry → List ℕ
marked_due h = fold (λ marked e. marked_after marked e.answer) [] h

-- whether a number may go out: it was put in, is not acknowledged, and was not sent on the present
-- connection or is marked
abbrev pub is_eligible : List Entry → ℕ → Bool
is_eligible h n =
    nat_lt n (length (put_messages h))
    && (not (has_number (acked_numbers h) n)
    && (not (has_number (sent_since_opened h) n) || has_number (marked_due h) n))

-- the stream message that this call gave out: its number and the moment
abbrev pub number_transmitted : EndAnswer → EndCall → Option (ℕ × ℕ)
number_transmitted (EndAnswer.Pull (Pull.Emit (Outgoing.Stream m))) (EndCall.Pull now) =
    Some (m.seq, now)
number_transmitted answer call = None

-- the transmissions of stream messages: number and moment of each, in order
unfoldable pub transmissions : List Entry → List (ℕ × ℕ)
transmissions h = filter_map (λ e. number_transmitted e.answer e.call) h

-- the moment of the last transmission of a number, 0 where there was none
abbrev pub last_moment : List (ℕ × ℕ) → ℕ → ℕ
last_moment sent n = fold (λ last p. if nat_eq n p.0 then p.1 else last) 0 sent

-- how long an acknowledgement took from the last transmission on; `-` stops at 0
abbrev pub sample_of : List Entry → EndAnswer → EndCall → Option ℕ
sample_of earlier (EndAnswer.Heard (Heard.Acked n)) (EndCall.Heard now incoming) =
    Some (now - last_moment (transmissions earlier) n)
sample_of earlier answer call = None

-- the round-trip samples, one for each number acknowledged, in order
unfoldable pub round_trip_samples : List Entry → List ℕ
round_trip_samples h = filter_map (λ p. sample_of p.0 p.1.answer p.1.call) (with_earlier h)

-- the round-trip estimate and the retransmission timeout
abbrev pub round_trip : List Entry → RoundTrip
round_trip h = after_samples (round_trip_samples h)

-- whether this answer says that the number's timer expired
abbrev pub is_due : ℕ → EndAnswer → Bool
is_due n (EndAnswer.Tick (Tick.Due k)) = nat_eq n k
is_due n answer = false

-- how often the number's timer expired
abbrev pub due_count : List Entry → ℕ → ℕ
due_count h n = count_by (λ e. is_due n e.answer) h
