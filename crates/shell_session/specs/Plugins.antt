-- The plugin's end of a shell session, and what it did of the account that it stands for.
use Rattle.std.specs.Prelude.{◌≡◌, ◌<◌, ◌≤◌, ◌⊎◌, ℕ, ℤ, Bool, true, false, Option, Some, None, IfSome, List, [], ◌∷◌, All, drop}
use Rattle.chan_io.specs.Faults.{Rises}
use Rattle.chan_io.specs.Sinks.{Output, Writes, WritesPart}
use Rattle.chan_io.specs.Sources.{Input}
use Rattle.chan_values.specs.declared.item.Item.{Item}
use Rattle.session_feeds.specs.Sessions.{Account}
use Rattle.session_feeds.specs.declared.feeder.Came.{Came}
use Rattle.session_feeds.specs.declared.session.SessionFault.{SessionFault}
use Rattle.shell_session.specs.Items.{LastExit, joined, of_type, terminate}
use Rattle.shell_session.specs.Parcels.{arrived, overs}
use Rattle.shell_session.specs.Readings.{Reading, given_before, mark_for, new_reading}
use Rattle.shell_session.specs.Streams.{StreamsTold}

pub record ShellPluginState : Type 0 where
  pub begun : Bool
  pub refused : Option SessionFault
  -- whether Flag 2 was given
  pub flagged : Bool
  -- what the user's input told at first
  pub first : Option Input
  -- its feeder, while it is not out
  pub input : Option Reading
  -- the user's outputs, and how many calls of each failed
  pub output : Option Output
  pub output_faults : ℕ
  pub errors : Option Output
  pub errors_faults : ℕ
  -- the status of the program, once it came
  pub exit : Option ℤ

-- a new one
abbrev pub new_shell_plugin : StreamsTold → ℕ → ShellPluginState
new_shell_plugin streams input_faults =
    record {
      begun = false;
      refused = None;
      flagged = false;
      first = streams.input;
      input = Some (new_reading 1 streams.input input_faults);
      output = streams.output;
      output_faults = streams.output_faults;
      errors = streams.errors;
      errors_faults = streams.errors_faults;
      exit = None;
    }

-- the mark of a feeder that is out
abbrev pub mark_out : ℕ → Option Reading → List ℕ
mark_out mark None = mark ∷ []
mark_out mark (Some reading) = []

-- the marks of the feeders that are out: where the feeder of the user's input is not here, it is out
abbrev pub plugin_out : ShellPluginState → List ℕ
plugin_out s = mark_out (mark_for 1 (given_before s.first)) s.input

-- these bytes were written to an output: all of them, or a front where its count of faults rose
abbrev pub Wrote : List ℕ → Option Output → ℕ → Option Output → ℕ → Type 0
Wrote bytes first first_faults now faults =
    Writes bytes first now ⊎ (WritesPart bytes first now × Rises first_faults faults)

-- the items of type 1 that were given are what the input gave, once its feeder came back
abbrev pub IsOfInput : Option Input → Option Reading → List Item → Type 0
IsOfInput first None given = of_type 1 given ≡ []
IsOfInput first (Some reading) given =
    (of_type 1 given ≡ reading.pieces)
    × IfSome reading.now (λ input. joined 1 given ≡ drop (given_before first) input.given)

-- the user's input has not ended, or want of memory came in place of Flag 2
abbrev pub GaveNoFlag : ShellPluginState → Account StreamsTold → Type 0
GaveNoFlag s a =
    (s.flagged ≡ false) × (of_type 10 a.given ≡ []) × (s.refused ≡ None → overs a.taken ≡ 0)

-- Flag 2 was given once, behind an end of the user's input
abbrev pub GaveFlag : ShellPluginState → Account StreamsTold → Type 0
GaveFlag s a =
    (s.flagged ≡ true) × (of_type 10 a.given ≡ terminate ∷ []) × (0 < overs a.taken)

-- why a call was refused: the count of faults rose of an output, since the session was made
abbrev pub IsPluginFault : SessionFault → ShellPluginState → Account StreamsTold → Type 0
IsPluginFault SessionFault.Write s a =
    Rises a.contents.output_faults s.output_faults
    ⊎ Rises a.contents.errors_faults s.errors_faults
IsPluginFault SessionFault.NoMemory s a = Unit {0}
IsPluginFault fault s a = ⊥

-- a feeder that came back, with how it came to its end
abbrev pub IsInputBack : ShellPluginState → ℕ × Option Came → Type 0
IsInputBack s back =
    (reading : Reading) × (s.input ≡ Some reading)
    × (back ≡ (mark_for 1 (given_before s.first), reading.came))

-- what the plugin did of this account, of which the contents are what its streams told at first
pub record PluginStandsFor (s : ShellPluginState) (a : Account StreamsTold) : Type 0 where
  -- nothing was taken before it begins
  pub fresh : s.begun ≡ false → (s.refused ≡ None) × (a.taken ≡ []) × (a.back ≡ [])
  pub first : s.first ≡ a.contents.input
  -- what arrived
  pub output : Wrote (joined 1 (arrived a.taken)) a.contents.output a.contents.output_faults
      s.output s.output_faults
  pub errors : Wrote (joined 11 (arrived a.taken)) a.contents.errors a.contents.errors_faults
      s.errors s.errors_faults
  pub exit : LastExit (arrived a.taken) s.exit
  -- what was given
  pub session : All (λ item. (item.ptype ≡ 1) ⊎ (item ≡ terminate)) a.given
  pub input : IsOfInput s.first s.input a.given
  pub flag : GaveNoFlag s a ⊎ GaveFlag s a
  -- the feeders that came back
  pub back : All (IsInputBack s) a.back
  -- once it began, the feeder of the input is out until it comes back
  pub feeds : s.begun ≡ true → s.refused ≡ None → a.back ≡ [] → s.input ≡ None
  -- why it was refused; while it was not, all was written
  pub fault : IfSome s.refused (λ fault. IsPluginFault fault s a)
  pub whole : s.refused ≡ None
      → Writes (joined 1 (arrived a.taken)) a.contents.output s.output
      × Writes (joined 11 (arrived a.taken)) a.contents.errors s.errors
  pub counted : (a.contents.output_faults ≤ s.output_faults)
      × (a.contents.errors_faults ≤ s.errors_faults)

-- the fault of one call: the count rose in it of an output
abbrev pub IsPluginRaised : SessionFault → ShellPluginState → ShellPluginState → Type 0
IsPluginRaised SessionFault.Write old new =
    Rises old.output_faults new.output_faults ⊎ Rises old.errors_faults new.errors_faults
IsPluginRaised SessionFault.NoMemory old new = Unit {0}
IsPluginRaised fault old new = ⊥
