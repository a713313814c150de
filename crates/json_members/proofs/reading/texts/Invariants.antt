use Rattle.std.proofs.Common.{◌≡◌, Some, map, take}
use Rattle.serde_json.specs.Find.{as_str}
use Rattle.serde_json.specs.View.{view}
use Rattle.json_members.specs.Members.{each_as}
use Rattle.json_members.proofs.reading.texts.Given as goal

abbrev pub invariant-loop-value : goal.invariant-loop-value
invariant-loop-value l = each_as as_str (map view (take l.value-index l.list)) ≡ Some l.texts.items
