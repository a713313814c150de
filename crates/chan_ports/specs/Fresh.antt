-- Objects that were just handed out: nothing was done with them yet, and none of their calls failed.
use Rattle.std.specs.Prelude.{◌≡◌, ℕ, ℤ, false, Option, IfSome, List, []}
use Rattle.chan_io.specs.Sources.{Input}
use Rattle.chan_io.specs.Sinks.{Output}
use Rattle.chan_io.specs.LinksIn.{Arrivals}
use Rattle.chan_io.specs.LinksOut.{Departures, unsent}

-- a source that has given nothing
abbrev pub IsUnread : Option Input → ℕ → Type 0
IsUnread input faults = IfSome input (λ i. i.given ≡ []) × (faults ≡ 0)

-- a sink that has taken nothing and is not finished
abbrev pub IsUnwritten : Option Output → ℕ → Type 0
IsUnwritten output faults =
    IfSome output (λ o. o ≡ record { taken = []; finished = false }) × (faults ≡ 0)

-- a link's input that has answered nothing
abbrev pub IsUnheard : Option Arrivals → ℕ → Type 0
IsUnheard arrivals faults = IfSome arrivals (λ a. a.answered ≡ []) × (faults ≡ 0)

-- a link's output that has sent nothing and was not shut
abbrev pub IsUnsent : Option Departures → ℕ → Type 0
IsUnsent departures faults = IfSome departures (λ d. d ≡ unsent) × (faults ≡ 0)

-- a child's end that has answered no status
abbrev pub IsUnwaited : Option (List ℤ) → ℕ → Type 0
IsUnwaited statuses faults = IfSome statuses (λ s. s ≡ []) × (faults ≡ 0)
