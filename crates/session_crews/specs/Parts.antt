-- Whose calls a history has.
use Rattle.std.specs.Prelude.{◌≡◌, ℕ, List}
use Rattle.std.specs.List.{flat_map}
use Rattle.turn_lock.specs.declared.view.Entry.{Entry}
use Rattle.session_run.specs.Adds.{entries_by}

-- the calls of each part, as entries with the part's number
abbrev pub entries_in : {C A : Type 0} → List (ℕ × List (C × A)) → List (Entry C A)
entries_in parts = flat_map (λ p. entries_by p.0 p.1) parts
