-- What holds of all that a link reader may do.
use Rattle.std.specs.Prelude.{◌≡◌, ◌≢◌, ℕ, Some, None, List, [], ◌++◌, length}
use Rattle.std.specs.List.{All, flat_map, fold}
use Rattle.chan_io.specs.declared.dial.Dial.{Dial}
use Rattle.turn_lock.specs.Runs.{AllFit}
use Rattle.session_run.specs.Shelf.{parcels_added}
use Rattle.session_run.specs.declared.parcel.Parcel.{Parcel}
use Rattle.session_workers.specs.declared.link_setting.LinkSetting.{LinkSetting}
use Rattle.session_workers.specs.declared.read_state.ReadEnd.{ReadEnd}
use Rattle.session_workers.specs.declared.read_state.ReadState.{ReadState}
use Rattle.session_workers.specs.ReaderSteps.{MayRead, first_state, reader_after}
use Rattle.session_workers.specs.Reading.{ReaderStep, dials_in, gets, hears, parcels_of, reader_shelf_calls}

-- the steps are those of a reader from its first on
abbrev pub AreSteps : LinkSetting → List ℕ → List ReaderStep → Type 0
AreSteps setting token steps =
    AllFit reader_after (MayRead setting) (first_state token) steps

-- what the reader remembers after these steps
abbrev pub state_after : List ℕ → List ReaderStep → ReadState
state_after token steps = fold reader_after (first_state token) steps

-- the dial failed
abbrev pub IsMissed : Dial → Type 0
IsMissed dial = dial.reply ≡ None

-- the last n of these dials failed
pub record EndsMissed (n : ℕ) (all : List Dial) : Type 0 where
  pub earlier : List Dial
  pub missed : List Dial
  pub parts : all ≡ earlier ++ missed
  pub count : length missed ≡ n
  pub failed : All IsMissed missed

-- where the link was lost, the last six dials failed
abbrev pub LostBySix : Type 0
LostBySix = (setting : LinkSetting) (token : List ℕ) (steps : List ReaderStep)
    → AreSteps setting token steps
    → (state_after token steps).over ≡ Some ReadEnd.LinkLost
    → EndsMissed 6 (flat_map dials_in steps)

-- the parcels of what a step released
abbrev pub parcels_in : ReaderStep → List Parcel
parcels_in (gets bytes (hears now count incoming heard added)) = parcels_of heard
parcels_in step = []

-- what the steps added to the shelf is the first of what was released in them, in order, and all of
-- it unless the reader ended for want of memory
abbrev pub AddedIsReleased : Type 0
AddedIsReleased = (setting : LinkSetting) (token : List ℕ) (steps : List ReaderStep)
    → AreSteps setting token steps
    → (lacking : List Parcel)
    × (flat_map parcels_in steps
    ≡ parcels_added (flat_map reader_shelf_calls steps) ++ lacking)
    × ((state_after token steps).over ≢ Some ReadEnd.NoMemory → lacking ≡ [])
