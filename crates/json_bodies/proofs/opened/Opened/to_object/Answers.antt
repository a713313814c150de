use Rattle.std.proofs.Common.{refl, ap, ◌∙◌}
use Rattle.serde_json.proofs.Views.{view-Object}
use Rattle.serde_json.specs.View.{members_view}
use Rattle.json_bodies.specs.Opened.{opened_fields}
use Rattle.json_bodies.proofs.OpenedLemmas.{opened_form}
use Rattle.json_bodies.proofs.ReadingLemmas.{object-put_all}
use Rattle.json_bodies.proofs.opened.Opened.to_object.Goals as goal

pub returns-clause-object : goal.returns-clause-object
unfolding opened_fields
returns-clause-object c =
    let none = ap members_view c.new-body.ensures.empty in
    view-Object _ ∙ object-put_all opened_form c.args.self.now _ (rw (c.in_ok-put_text.ensures.put, c.in_ok-put_truth-2.ensures, c.in_ok-put_truth.ensures, none) refl)
