-- What the link reader does, step by step.
use Rattle.std.specs.Prelude.{◌≡◌, ℕ, Bool, true, false, ◌⊎◌, Option, Some, None, List, [], ◌∷◌, ◌++◌, Ok, Err, drop, length, map, nat_lt, take, if◌then◌else◌}
use Rattle.chan_io.specs.Dials.{dial_with}
use Rattle.chan_io.specs.declared.dial.Dial.{Dial}
use Rattle.chan_io.specs.declared.got.Got.{Got}
use Rattle.chan_values.specs.declared.item.Item.{Item}
use Rattle.channel_core.specs.Arrival.{Arrives}
use Rattle.channel_core.specs.declared.answer.Heard.{Heard}
use Rattle.channel_core.specs.declared.answer.Look.{Look}
use Rattle.channel_core.specs.declared.call.EndAnswer.{EndAnswer}
use Rattle.channel_core.specs.declared.call.EndCall.{EndCall}
use Rattle.channel_core.specs.declared.message.Incoming.{Incoming}
use Rattle.channel_core.specs.declared.wire.InRefusal.{InRefusal}
use Rattle.session_run.specs.declared.parcel.Parcel.{Parcel}
use Rattle.session_run.specs.declared.shelf_call.Count.{Count}
use Rattle.session_run.specs.declared.shelf_call.ShelfAnswer.{ShelfAnswer}
use Rattle.session_run.specs.declared.shelf_call.ShelfCall.{ShelfCall}
use Rattle.session_workers.specs.declared.link_setting.LinkSetting.{LinkSetting}
use Rattle.session_workers.specs.declared.read_state.ReadEnd.{ReadEnd}
use Rattle.session_workers.specs.declared.read_state.ReadState.{ReadState}
use Rattle.session_workers.specs.declared.reply.Reply.{Reply}
use Rattle.session_workers.specs.Openings.{Replies, opening_with}

-- what became of a reply
pub data Taken : Type 0 where
  -- it is accepted, at this moment, with this token for the next opening
  opens : ℕ → List ℕ → Taken
  -- a later one tells that the session has ended: heard as a closing, at this moment
  finishes : ℕ → Heard → Taken
  -- it is another
  refuses : Taken
  -- there was no memory to read it
  unread : Taken

-- what became of a binary message
pub data Met : Type 0 where
  -- it was heard, at this moment, after this count of the shelf; of the parcels that it released so
  -- many were added to the shelf
  hears : ℕ → Option Count → Incoming → Heard → ℕ → Met
  -- it was refused, and dropped
  drops : InRefusal → Met
  -- it is a stream message, and was dropped, since more parcels waited than the window
  full : Incoming → Option Count → Met
  -- there was no memory to read it
  starves : Met

-- one step of the reader
pub data ReaderStep : Type 0 where
  -- a dial with this opening failed
  misses : List ℕ → ReaderStep
  -- a dial with this opening had this reply
  dials : List ℕ → List ℕ → Taken → ReaderStep
  -- a binary message came
  gets : List ℕ → Met → ReaderStep
  -- a text came, and was passed over
  passes : List ℕ → ReaderStep
  -- the connection was over: Gone, or None for a failed receive
  loses : Option Got → ReaderStep
  -- the end was looked at
  looks : Look → ReaderStep
  -- there was no memory to dial or to receive
  wants : ReaderStep

-- the calls of the end after a reply
abbrev pub taking_calls : Taken → List (EndCall × EndAnswer)
taking_calls (opens now token) = (EndCall.Opened now, EndAnswer.Done) ∷ []
taking_calls (finishes now heard) =
    (EndCall.Heard now (Incoming.Closing []), EndAnswer.Heard heard) ∷ []
taking_calls taken = []

-- the calls of the end at a binary message
abbrev pub meeting_calls : Met → List (EndCall × EndAnswer)
meeting_calls (hears now count incoming heard added) =
    (EndCall.Heard now incoming, EndAnswer.Heard heard) ∷ []
meeting_calls met = []

-- the calls of the end in a step
abbrev pub reader_calls : ReaderStep → List (EndCall × EndAnswer)
reader_calls (dials opening reply taken) = taking_calls taken
reader_calls (gets bytes met) = meeting_calls met
reader_calls (loses got) = (EndCall.Lost, EndAnswer.Done) ∷ []
reader_calls (looks look) = (EndCall.Look, EndAnswer.Look look) ∷ []
reader_calls step = []

-- the parcels of these items; behind the last item of the other end stands that all arrived
abbrev pub arrived : List Item → Bool → List Parcel
arrived items true = map (λ item. Parcel.Arrived item) items ++ Parcel.Finished ∷ []
arrived items false = map (λ item. Parcel.Arrived item) items

-- the parcels of what a message released
abbrev pub parcels_of : Heard → List Parcel
parcels_of (Heard.Released items) = arrived items false
parcels_of (Heard.Finished items) = arrived items true
parcels_of heard = []

-- a parcel was added
abbrev pub added_call : Parcel → ShelfCall × ShelfAnswer
added_call parcel = (ShelfCall.Add parcel, ShelfAnswer.Added)

-- there was no memory for a parcel
abbrev pub wanting_call : Parcel → ShelfCall × ShelfAnswer
wanting_call parcel = (ShelfCall.Add parcel, ShelfAnswer.NoMemory)

-- so many of the parcels were added, one by one, and memory was wanted at the next, if there is one
abbrev pub adding : List Parcel → ℕ → List (ShelfCall × ShelfAnswer)
adding parcels added =
    map added_call (take added parcels) ++ map wanting_call (take 1 (drop added parcels))

-- the count before a stream message
abbrev pub counted : Option Count → List (ShelfCall × ShelfAnswer)
counted (Some count) = (ShelfCall.Count, ShelfAnswer.Count count) ∷ []
counted None = []

-- the calls of the shelf after a reply
abbrev pub taking_shelf_calls : Taken → List (ShelfCall × ShelfAnswer)
taking_shelf_calls (opens now token) = (ShelfCall.Opening, ShelfAnswer.Done) ∷ []
taking_shelf_calls taken = []

-- the calls of the shelf at a binary message
abbrev pub meeting_shelf_calls : Met → List (ShelfCall × ShelfAnswer)
meeting_shelf_calls (hears now count incoming heard added) =
    counted count ++ adding (parcels_of heard) added
meeting_shelf_calls (full incoming count) = counted count
meeting_shelf_calls met = []

-- the calls of the shelf in a step
abbrev pub reader_shelf_calls : ReaderStep → List (ShelfCall × ShelfAnswer)
reader_shelf_calls (dials opening reply taken) = taking_shelf_calls taken
reader_shelf_calls (gets bytes met) = meeting_shelf_calls met
reader_shelf_calls step = []

-- the dial of a step, if it made one
abbrev pub dials_in : ReaderStep → List Dial
dials_in (misses opening) = dial_with opening None ∷ []
dials_in (dials opening reply taken) = dial_with opening (Some reply) ∷ []
dials_in step = []

-- what was received in a step, if anything; None is a failed receive
abbrev pub arrivals_in : ReaderStep → List (Option Got)
arrivals_in (gets bytes met) = Some (Got.Binary bytes) ∷ []
arrivals_in (passes text) = Some (Got.Text text) ∷ []
arrivals_in (loses got) = got ∷ []
arrivals_in step = []

-- how many dials failed in a step: one or none
abbrev pub missed_in : ReaderStep → ℕ
missed_in (misses opening) = 1
missed_in step = 0

-- how many receives failed in a step: one or none
abbrev pub failed_in : ReaderStep → ℕ
failed_in (loses None) = 1
failed_in step = 0
