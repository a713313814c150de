use Rattle.std.proofs.Common.{refl, ap, ◌∙◌}
use Rattle.serde_json.proofs.Views.{view-Object}
use Rattle.serde_json.specs.View.{members_view}
use Rattle.json_bodies.specs.Properties.{properties_fields}
use Rattle.json_bodies.proofs.ObjectLemmas.{object-put_all}
use Rattle.json_bodies.proofs.properties.Properties.to_object.Goals as goal

pub returns-clause-object : goal.returns-clause-object
unfolding properties_fields
returns-clause-object c =
    let none = ap members_view c.new-body.ensures.empty in
    view-Object _ ∙ object-put_all (properties_fields c.args.self.now) _ refl
    (rw (c.in_ok-put_optional_text-3.ensures.put, c.in_ok-put_optional_text-2.ensures.put, c.in_ok-put_optional_text.ensures.put, none) refl)
