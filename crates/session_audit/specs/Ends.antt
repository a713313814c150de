-- An end of the core as an end of the replay.
use Rattle.std.specs.Prelude.{◌≡◌, ℕ, ◌≤◌, Bool, List, [], ◌∷◌, ◌++◌, length}
use Rattle.std.specs.Bool.{Decides}
use Rattle.chan_values.specs.Limits.{max_payload}
use Rattle.channel_core.specs.declared.call.EndCall.{EndCall}
use Rattle.channel_core.specs.declared.message.Outgoing.TheVariants as Outgoing
use Rattle.channel_core.specs.Call.{Entry}
use Rattle.channel_core.specs.Condition.{IsNumbered}
use Rattle.channel_core.specs.Legal.{IsLegal}
use Rattle.channel_core.specs.Numbers.{has_number}
use Rattle.channel_core.specs.Resending.{sent_since_opened}
use Rattle.channel_core.specs.Stands.{EndState, Stands}
use Rattle.session_audit.specs.declared.act.Act.{Act}
use Rattle.session_audit.specs.Acts.{acts_of}
use Rattle.session_audit.specs.Replay.{entries_of, replay_of}

-- the end stands for this legal history
abbrev pub IsAt : ℕ → EndState → List Entry → Type 0
IsAt w end h = IsLegal w h × Stands w end h

-- these calls were made, and each got its answer
abbrev pub Makes : EndState → EndState → List EndCall → Type 0
Makes old new calls =
    (w : ℕ) (h : List Entry) → IsAt w old h → IsAt w new (h ++ entries_of w h calls)

-- an act that can be replayed: what is given out can be put in, what is heard has a number
abbrev pub IsActable : Act → Type 0
IsActable (Act.Emits (Outgoing.Stream m)) = length m.item.payload ≤ max_payload
IsActable (Act.Hears incoming) = IsNumbered incoming
IsActable act = Unit {0}

-- whether a stream message that is given out went out before on the present connection
abbrev pub IsAgain : Bool → List Entry → Act → Type 0
IsAgain again h (Act.Emits (Outgoing.Stream m)) = again ≡ has_number (sent_since_opened h) m.seq
IsAgain again h act = Unit {0}

-- the replay made its entries for the act, and tells whether they show it
abbrev pub Replays : EndState → EndState → Act → Bool → Bool → Type 0
Replays old new act again done =
    (w : ℕ) (h : List Entry)
    → IsAt w old h
    → IsAgain again h act
    → IsAt w new (h ++ replay_of w h act)
    × Decides done (acts_of (replay_of w h act) ≡ act ∷ [])
