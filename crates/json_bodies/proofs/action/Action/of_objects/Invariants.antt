use Rattle.std.proofs.Common.{map, take}
use Rattle.std.specs.List.{AllZip}
use Rattle.serde_json.specs.View.{view}
use Rattle.json_bodies.specs.Action.{GivesAction}
use Rattle.json_bodies.proofs.action.Action.of_objects.Given as goal

abbrev pub invariant-loop-object : goal.invariant-loop-object
invariant-loop-object l = AllZip GivesAction (map view (take l.object-index l.objects)) l.actions.items
