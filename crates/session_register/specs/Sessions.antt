-- The sessions of rows.
use Rattle.std.specs.Prelude.{List, map}
use Rattle.std.specs.List.{IsDistinct}
use Rattle.session_register.specs.declared.row.Row.{Row}
use Rattle.session_register.specs.Names.{same_name}

-- no session has two rows
abbrev pub HaveDifferentSessions : List Row → Type 0
HaveDifferentSessions rows = IsDistinct same_name (map (λ (row : Row). row.session) rows)
