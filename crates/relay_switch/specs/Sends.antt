-- How a turn ends by what its send was answered.
use Rattle.std.specs.Prelude.{◌≡◌, Option, Result, Ok, Err}
use Rattle.chan_io.specs.LinksOut.{Departures, Shuts}
use Rattle.chan_io.specs.declared.failed.IoFault.{IoFault}
use Rattle.relay_switch.specs.declared.outlet.Turned.{Turned}

-- a send that was made leaves the output as it is; behind another one the output is shut
abbrev pub EndsSend : Result Unit IoFault → Turned → Option Departures → Option Departures → Type 0
EndsSend (Ok done) turned before after = (turned ≡ Turned.Sent) × (after ≡ before)
EndsSend (Err IoFault.Failed) turned before after = (turned ≡ Turned.Failed) × Shuts before after
EndsSend (Err IoFault.NoMemory) turned before after =
    (turned ≡ Turned.NoMemory) × Shuts before after
