-- Actions that are moved into a line, one at a time.
use Rattle.std.specs.Prelude.{Bool, true, false, List, ◌++◌, drop, take}
use Rattle.relay_core.specs.declared.action.Action.{Action}
use Rattle.relay_switch.specs.Lines.{LineState}

-- the line with the first of these actions behind what waits, where it was moved
abbrev pub taking : Bool → List Action → LineState → LineState
taking true added line = record line { waiting = line.waiting ++ take 1 added }
taking false added line = line

-- what is left of them
abbrev pub left : Bool → List Action → List Action
left true added = drop 1 added
left false added = added
