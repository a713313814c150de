-- What one call does with the plugin's end of a shell session. No public clause cites this file.
use Rattle.std.specs.Prelude.{◌≡◌, ◌≢◌, ◌≤◌, ◌⊎◌, ℕ, ℤ, Bool, true, false, Some, IfOk, IfErr, List, [], ◌∷◌, ◌++◌, All, Result, Ok, Err}
use Rattle.chan_io.specs.Faults.{Rises}
use Rattle.chan_io.specs.Sinks.{Writes, WritesPart}
use Rattle.chan_values.specs.declared.item.Item.{Item}
use Rattle.session_feeds.specs.Marks.{IsNew}
use Rattle.session_feeds.specs.Sessions.{Account, AddsMarks, AllSmall, feeders_of, puts_in, refusal_in}
use Rattle.session_feeds.specs.declared.session.SessionFault.{SessionFault}
use Rattle.session_feeds.specs.declared.session.Verdict.{Verdict}
use Rattle.session_run.specs.declared.parcel.Parcel.{Parcel}
use Rattle.shell_session.specs.Items.{IsExit, IsNoExit, terminate}
use Rattle.shell_session.specs.Plugins.{IsPluginRaised, PluginStandsFor, ShellPluginState, plugin_out}
use Rattle.shell_session.specs.Readings.{Reading, told_by}
use Rattle.shell_session.specs.Streams.{StreamsTold}
use Rattle.shell_session.specs.Verdicts.{AsksNothing, AsksToPut, EndsByFlag}

-- bytes were written to standard output, or to standard error; and whether all of them were
abbrev pub ShowsOutput : List ℕ → ShellPluginState → Bool → ShellPluginState → Type 0
ShowsOutput bytes old true new =
    (new ≡ record old { output = new.output })
    × Writes bytes old.output new.output
ShowsOutput bytes old false new =
    (new ≡ record old { output = new.output; output_faults = new.output_faults })
    × WritesPart bytes old.output new.output
    × Rises old.output_faults new.output_faults
    × (old.output_faults ≤ new.output_faults)

abbrev pub ShowsErrors : List ℕ → ShellPluginState → Bool → ShellPluginState → Type 0
ShowsErrors bytes old true new =
    (new ≡ record old { errors = new.errors })
    × Writes bytes old.errors new.errors
ShowsErrors bytes old false new =
    (new ≡ record old { errors = new.errors; errors_faults = new.errors_faults })
    × WritesPart bytes old.errors new.errors
    × Rises old.errors_faults new.errors_faults
    × (old.errors_faults ≤ new.errors_faults)

-- a status is kept, and another item passed over
abbrev pub Keeps : Item → ShellPluginState → ShellPluginState → Type 0
Keeps item old new =
    (IsNoExit item × (new ≡ old))
    ⊎ ((status : ℤ) × IsExit status item × (new ≡ record old { exit = Some status }))

-- what is done with an item, and whether all of it was
abbrev pub Shows : Item → ShellPluginState → Bool → ShellPluginState → Type 0
Shows item old done new =
    ((item.ptype ≡ 1) × ShowsOutput item.payload old done new)
    ⊎ (((item.ptype ≡ 11) × ShowsErrors item.payload old done new)
    ⊎ ((item.ptype ≢ 1) × (item.ptype ≢ 11) × (done ≡ true) × Keeps item old new))

-- Flag 2 is to be put in, unless it was before, or memory was wanted
abbrev pub Flags : ShellPluginState → Result (Verdict Reading) SessionFault → ShellPluginState → Type 0
Flags old (Ok verdict) new =
    ((old.flagged ≡ true) × AsksNothing verdict × (new ≡ old))
    ⊎ ((old.flagged ≡ false) × AsksToPut terminate true false verdict
    × (new ≡ record old { flagged = true }))
Flags old (Err SessionFault.NoMemory) new = (old.flagged ≡ false) × (new ≡ old)
Flags old (Err fault) new = ⊥

-- an account with one parcel more, and what it was answered
abbrev pub taking : Parcel → Result (Verdict Reading) SessionFault → Account StreamsTold
    → Account StreamsTold
taking parcel result a =
    record a { taken = a.taken ++ parcel ∷ []; given = a.given ++ puts_in result }

-- the end once it has noted a refusal
abbrev pub noting : Result (Verdict Reading) SessionFault → ShellPluginState → ShellPluginState
noting result s = record s { refused = refusal_in result }

-- a parcel was taken; a refusal is noted later
pub record Takes (parcel : Parcel) (old : ShellPluginState)
    (result : Result (Verdict Reading) SessionFault) (new : ShellPluginState) : Type 0 where
  pub begun : new.begun ≡ true
  pub stands : (a : Account StreamsTold)
      → PluginStandsFor old a
      → PluginStandsFor (noting result new) (taking parcel result a)
  pub out : AddsMarks told_by (plugin_out old) (feeders_of result) (plugin_out new)
  pub fits : AllSmall (puts_in result)
  pub fresh : All (λ f. IsNew (told_by f)) (feeders_of result)
  pub ends : IfOk result EndsByFlag
  pub fault : IfErr result (λ fault. IsPluginRaised fault old new)
