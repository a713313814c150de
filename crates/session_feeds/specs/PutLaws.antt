-- What holds of all that a worker puts in.
use Rattle.std.specs.Prelude.{◌≡◌, Bool, false, List, [], ◌++◌}
use Rattle.std.specs.List.{flat_map}
use Rattle.session_feeds.specs.Puts.{PutsPrefix, ToPut, Trial, items_put, trial_calls}

-- what a worker put in is the first of what it was given, in order, and all of it unless a put was
-- stopped
abbrev pub PutsAreGiven : Type 0
PutsAreGiven = (given : List ToPut) (trials : List Trial) (stopped : Bool)
    → PutsPrefix given trials stopped
    → (left : List ToPut)
    × (given ≡ items_put (flat_map trial_calls trials) ++ left)
    × (stopped ≡ false → left ≡ [])
