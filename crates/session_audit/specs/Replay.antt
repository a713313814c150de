-- The replay: the entries that are made for what is seen of an end, as few and as late as can be.
-- A message is put in only when it is first given out. A timer is looked at only when a message goes
-- out again on the same connection, and then so late that it has expired.
use Rattle.std.specs.Prelude.{◌≡◌, ℕ, ◌-◌, ◌^◌, List, [], ◌∷◌, ◌++◌, length, if◌then◌else◌, nat_eq}
use Rattle.std.specs.List.{fold}
use Rattle.resend_queue.specs.declared.answer.Sent.{Sent}
use Rattle.channel_core.specs.declared.call.EndCall.{EndCall}
use Rattle.channel_core.specs.declared.message.Outgoing.TheVariants as Outgoing
use Rattle.channel_core.specs.Call.{Entry}
use Rattle.channel_core.specs.History.{put_messages}
use Rattle.channel_core.specs.Legal.{answer_to}
use Rattle.channel_core.specs.Numbers.{has_number}
use Rattle.channel_core.specs.Resending.{sent_since_opened}
use Rattle.session_audit.specs.declared.act.Act.{Act}
use Rattle.session_audit.specs.Acts.{acts_of}

-- the last moment that there is
abbrev pub last_of_all : ℕ
last_of_all = 2 ^ 64 - 1

-- a message is put in with its item, id and date, as the last where it is the last
abbrev pub put_call : Sent → EndCall
put_call m =
    if m.last then EndCall.PutLast m.item m.id m.date else EndCall.Put m.item m.id m.date

-- what has to be called before a stream message can go out: the next number is put in, and the timer
-- of a number that went out on this connection expires
abbrev pub calls_before : List Entry → Sent → List EndCall
calls_before h m =
    if nat_eq m.seq (length (put_messages h)) then put_call m ∷ []
    else if has_number (sent_since_opened h) m.seq then EndCall.Tick last_of_all ∷ []
    else []

-- the calls that are made for what is seen next
abbrev pub calls_for : List Entry → Act → List EndCall
calls_for h (Act.Emits (Outgoing.Stream m)) = calls_before h m ++ EndCall.Pull 0 ∷ []
calls_for h (Act.Emits (Outgoing.Ack n id date)) = EndCall.Pull date ∷ []
calls_for h (Act.Hears incoming) = EndCall.Heard 0 incoming ∷ []
calls_for h Act.Opens = EndCall.Opened 0 ∷ []
calls_for h Act.Loses = EndCall.Lost ∷ []
calls_for h Act.Closes = EndCall.Close ∷ []

-- a call after these entries, with its answer
abbrev pub entry_of : ℕ → List Entry → EndCall → Entry
entry_of w h call = record { call = call; answer = answer_to w h call }

-- these calls after these entries, each with its answer
abbrev pub entries_of : ℕ → List Entry → List EndCall → List Entry
entries_of w h [] = []
entries_of w h (call ∷ calls) =
    entry_of w h call ∷ entries_of w (h ++ entry_of w h call ∷ []) calls

-- the entries that are made for what is seen next
abbrev pub replay_of : ℕ → List Entry → Act → List Entry
replay_of w h act = entries_of w h (calls_for h act)

-- the entries that are made for all that is seen
unfoldable pub replay : ℕ → List Act → List Entry
replay w acts = fold (λ h act. h ++ replay_of w h act) [] acts

-- what is seen next can be replayed: the entries made for it show it and nothing else
abbrev pub CanReplay : ℕ → List Act → Act → Type 0
CanReplay w acts act = acts_of (replay_of w (replay w acts) act) ≡ act ∷ []
