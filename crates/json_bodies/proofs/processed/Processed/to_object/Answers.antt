use Rattle.std.proofs.Common.{◌≡◌, refl, ap, ◌∙◌, rules}
use Rattle.serde_json.proofs.Views.{view-Object}
use Rattle.serde_json.specs.Data.{null}
use Rattle.serde_json.specs.View.{view, members_view}
use Rattle.serde_json.specs.declared.value.Value.{the_lemmas}
use Rattle.serde_json.specs.declared.value.Value.TheVariants.{Null}
use Rattle.json_bodies.specs.Processed.{processed_fields}
use Rattle.json_bodies.proofs.ObjectLemmas.{object-put_all}
use Rattle.json_bodies.proofs.processed.Processed.to_object.Goals as goal

view-Null : view Null ≡ null
view-Null = search (rules, the_lemmas)

pub returns-clause-object : goal.returns-clause-object
unfolding processed_fields
returns-clause-object c =
    let none = ap members_view c.new-body.ensures.empty in
    view-Object _ ∙ object-put_all (processed_fields c.args.self.now) _ refl
    (rw (c.in_ok-put_text-2.ensures.put, c.in_ok-put_text.ensures.put, c.in_ok-put_unsigned.ensures.put, c.in_ok-put_value.ensures, view-Null, none, c.from.ensures) refl)
