use Rattle.std.proofs.Common.{refl, ap, ◌∙◌}
use Rattle.serde_json.proofs.Views.{view-Object}
use Rattle.serde_json.specs.View.{members_view}
use Rattle.json_bodies.specs.Action.{action_fields}
use Rattle.json_bodies.specs.declared.action.Action.TheVariants.{Other}
use Rattle.json_bodies.proofs.ObjectLemmas.{object-put_all}
use Rattle.json_bodies.proofs.action.Action.other_object.Goals as goal

pub returns-clause-object : goal.returns-clause-object
unfolding action_fields
returns-clause-object c =
    let none = ap members_view c.new-body.ensures.empty in
    let empty = ap members_view c.new.ensures.empty in
    view-Object _ ∙ object-put_all (action_fields (Other c.args.name.now)) _ refl
    (rw (c.in_ok-put_text.ensures.put, c.in_ok-put_value.ensures, view-Object, empty, none) refl)
