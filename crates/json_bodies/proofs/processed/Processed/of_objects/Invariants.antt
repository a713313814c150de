use Rattle.std.proofs.Common.{map, take}
use Rattle.std.specs.List.{AllZip}
use Rattle.serde_json.specs.View.{view}
use Rattle.json_bodies.specs.Processed.{GivesProcessed}
use Rattle.json_bodies.proofs.processed.Processed.of_objects.Given as goal

abbrev pub invariant-loop-object : goal.invariant-loop-object
invariant-loop-object l = AllZip GivesProcessed (map view (take l.object-index l.objects)) l.actions.items
