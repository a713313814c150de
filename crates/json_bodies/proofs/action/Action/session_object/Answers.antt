use Rattle.std.proofs.Common.{refl, ap, ◌∙◌}
use Rattle.serde_json.proofs.Views.{view-Object}
use Rattle.serde_json.specs.View.{members_view}
use Rattle.json_bodies.specs.Action.{action_fields}
use Rattle.json_bodies.specs.declared.action.Action.TheVariants.{Session}
use Rattle.json_bodies.proofs.ObjectLemmas.{object-put_all}
use Rattle.json_bodies.proofs.action.Action.session_object.Goals as goal

pub returns-clause-object : goal.returns-clause-object
unfolding action_fields
returns-clause-object c =
    let none = ap members_view c.new-body.ensures.empty in
    view-Object _ ∙ object-put_all (action_fields (Session c.args.name.now c.args.properties.now)) _ refl
    (rw (c.in_ok-put_str.ensures.put, c.in_ok-put_value.ensures, c.in_ok-parameters.ensures.object, none) refl)
