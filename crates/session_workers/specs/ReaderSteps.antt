-- Which steps a link reader may make, and what it remembers after each.
use Rattle.std.specs.Prelude.{◌≡◌, ℕ, ◌-◌, ◌==◌, Bool, true, false, ◌⊎◌, Option, Some, None, List, [], ◌∷◌, Ok, Err, length, nat_lt, if◌then◌else◌}
use Rattle.chan_io.specs.declared.got.Got.{Got}
use Rattle.channel_core.specs.Arrival.{Arrives}
use Rattle.channel_core.specs.declared.answer.Heard.{Heard}
use Rattle.channel_core.specs.declared.message.Incoming.{Incoming}
use Rattle.session_run.specs.declared.parcel.Parcel.{Parcel}
use Rattle.session_run.specs.declared.shelf_call.Count.{Count}
use Rattle.session_workers.specs.declared.link_setting.LinkSetting.{LinkSetting}
use Rattle.session_workers.specs.declared.read_state.ReadEnd.{ReadEnd}
use Rattle.session_workers.specs.declared.read_state.ReadState.{ReadState}
use Rattle.session_workers.specs.declared.reply.Reply.{Reply}
use Rattle.session_workers.specs.Openings.{Replies, opening_with}
use Rattle.session_workers.specs.Reading.{Met, ReaderStep, Taken, arrived, dials, drops, finishes, full, gets, hears, looks, loses, misses, opens, passes, refuses, starves, unread, wants}

-- how the reader ends at this answer of the end, if it does
abbrev pub heard_end : Heard → Option ReadEnd
heard_end Heard.Ended = Some ReadEnd.Closed
heard_end Heard.AfterClose = Some ReadEnd.Closed
heard_end (Heard.NoMemory incoming) = Some ReadEnd.NoMemory
heard_end heard = None

-- it ends where fewer than all of the parcels were added
abbrev pub added_end : List Parcel → ℕ → Option ReadEnd
added_end parcels added =
    if nat_lt added (length parcels) then Some ReadEnd.NoMemory else None

-- how the reader ends where so many of the parcels of this answer were added, if it does
abbrev pub released_end : Heard → ℕ → Option ReadEnd
released_end (Heard.Released items) added = added_end (arrived items false) added
released_end (Heard.Finished items) added = added_end (arrived items true) added
released_end heard added = heard_end heard

-- how the reader ends at a binary message, if it does
abbrev pub meeting_end : Met → Option ReadEnd
meeting_end (hears now count incoming heard added) = released_end heard added
meeting_end starves = Some ReadEnd.NoMemory
meeting_end met = None

-- before the first step, with the digits of the first token
abbrev pub first_state : List ℕ → ReadState
first_state token =
    record { up = false; was_up = false; token = token; tries = 5; over = None }

-- after a dial that failed: the sixth in succession is the last
abbrev pub after_miss : ReadState → ReadState
after_miss s =
    record s {
      tries = s.tries - 1;
      over = if s.tries == 0 then Some ReadEnd.LinkLost else s.over;
    }

-- after a reply that was accepted: the next opening has its token
abbrev pub after_opening : ReadState → List ℕ → ReadState
after_opening s token = record s { up = true; was_up = true; token = token; tries = 5 }

-- after a reply
abbrev pub after_reply : ReadState → List ℕ → Taken → ReadState
after_reply s reply (opens now token) = after_opening s token
after_reply s reply (finishes now heard) = record s { tries = 5; over = heard_end heard }
after_reply s reply refuses = record s { over = Some (ReadEnd.Refused reply) }
after_reply s reply unread = record s { over = Some ReadEnd.NoMemory }

-- after one step more
abbrev pub reader_after : ReadState → ReaderStep → ReadState
reader_after s (misses opening) = after_miss s
reader_after s (dials opening reply taken) = after_reply s reply taken
reader_after s (gets bytes met) = record s { over = meeting_end met }
reader_after s (passes text) = s
reader_after s (loses got) = record s { up = false }
reader_after s (looks look) =
    record s { over = if look.closed then Some ReadEnd.Closed else s.over }
reader_after s wants = record s { over = Some ReadEnd.NoMemory }

-- the shelf is counted before a stream message, and before no other
abbrev pub IsCountFor : Incoming → Option Count → Type 0
IsCountFor (Incoming.Stream seq id item last) (Some count) = Unit {0}
IsCountFor (Incoming.Stream seq id item last) None = ⊥
IsCountFor incoming count = count ≡ None

-- whether a count shows more parcels than the window
abbrev pub is_full : ℕ → Option Count → Bool
is_full window (Some count) = nat_lt window count.parcels
is_full window None = false

-- what a reply says is done: that the session has ended is heard where there was a connection
-- before, and else is a refusal, as every other reply
abbrev pub MayTake : Bool → List ℕ → Taken → Type 0
MayTake was_up reply (opens now token) = Replies reply (Reply.Accepted token)
MayTake was_up reply (finishes now heard) = (was_up ≡ true) × Replies reply Reply.Ended
MayTake was_up reply refuses =
    Replies reply Reply.Other ⊎ ((was_up ≡ false) × Replies reply Reply.Ended)
MayTake was_up reply unread = Unit {0}

-- a message is heard as what its bytes say, a stream message only where the shelf isn't full; it is
-- dropped where it is refused for another cause than memory, or finds the shelf full
abbrev pub MayMeet : LinkSetting → List ℕ → Met → Type 0
MayMeet setting bytes (hears now count incoming heard added) =
    Arrives setting.side bytes (Ok incoming)
    × IsCountFor incoming count
    × (is_full setting.window count ≡ false)
MayMeet setting bytes (drops refusal) = Arrives setting.side bytes (Err refusal)
MayMeet setting bytes (full incoming count) =
    Arrives setting.side bytes (Ok incoming)
    × IsCountFor incoming count
    × (is_full setting.window count ≡ true)
MayMeet setting bytes starves = Unit {0}

-- the end of a connection
abbrev pub IsLoss : Option Got → Type 0
IsLoss got = (got ≡ None) ⊎ (got ≡ Some Got.Gone)

-- the step is one that the reader may make before its end: it dials only without a connection, with
-- the token that it has, and receives only over one
abbrev pub MayRead : LinkSetting → ReadState → ReaderStep → Type 0
MayRead setting s (misses opening) =
    (s.over ≡ None) × (s.up ≡ false) × (opening ≡ opening_with setting s.token)
MayRead setting s (dials opening reply taken) =
    (s.over ≡ None)
    × (s.up ≡ false)
    × (opening ≡ opening_with setting s.token)
    × MayTake s.was_up reply taken
MayRead setting s (gets bytes met) = (s.over ≡ None) × (s.up ≡ true) × MayMeet setting bytes met
MayRead setting s (passes text) = (s.over ≡ None) × (s.up ≡ true)
MayRead setting s (loses got) = (s.over ≡ None) × (s.up ≡ true) × IsLoss got
MayRead setting s (looks look) = s.over ≡ None
MayRead setting s wants = s.over ≡ None

-- the steps of one turn: a look, and one more exactly where it showed the end open
abbrev pub IsReaderTurn : List ReaderStep → Type 0
IsReaderTurn (looks look ∷ []) = look.closed ≡ true
IsReaderTurn (looks look ∷ step ∷ []) = look.closed ≡ false
IsReaderTurn steps = ⊥
