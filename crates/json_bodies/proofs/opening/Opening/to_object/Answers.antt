use Rattle.std.proofs.Common.{refl, ap, ◌∙◌}
use Rattle.serde_json.proofs.Views.{view-Object}
use Rattle.serde_json.specs.View.{members_view}
use Rattle.json_bodies.specs.Opening.{opening_fields}
use Rattle.json_bodies.proofs.OpeningLemmas.{opening_form}
use Rattle.json_bodies.proofs.ReadingLemmas.{object-put_all}
use Rattle.json_bodies.proofs.opening.Opening.to_object.Goals as goal

pub returns-clause-object : goal.returns-clause-object
unfolding opening_fields
returns-clause-object c =
    let none = ap members_view c.new-body.ensures.empty in
    view-Object _ ∙ object-put_all opening_form c.args.self.now _ (rw (c.in_ok-put_text-3.ensures.put, c.in_ok-put_text-2.ensures.put, c.in_ok-put_str.ensures.put, c.in_ok-put_optional_text.ensures.put, c.in_ok-put_text.ensures.put, none) refl)
