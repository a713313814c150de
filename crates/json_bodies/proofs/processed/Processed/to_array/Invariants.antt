use Rattle.std.proofs.Common.{◌≡◌, All, map, take}
use Rattle.serde_json.specs.View.{view}
use Rattle.json_bodies.specs.Processed.{processed_fields, IsTypedProcessed}
use Rattle.json_members.specs.Object.{object_with}
use Rattle.json_bodies.proofs.processed.Processed.to_array.Given as goal

abbrev pub invariant-loop-action : goal.invariant-loop-action
invariant-loop-action l = record {
  made : map view l.list.items
      ≡ map (λ action. object_with (processed_fields action)) (take l.action-index l.actions);
  typed : All IsTypedProcessed (take l.action-index l.actions);
}
