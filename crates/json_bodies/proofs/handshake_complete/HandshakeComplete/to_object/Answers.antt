use Rattle.std.proofs.Common.{refl, ap, ◌∙◌}
use Rattle.serde_json.proofs.Views.{view-Object}
use Rattle.serde_json.specs.View.{members_view}
use Rattle.json_bodies.specs.HandshakeComplete.{complete_fields}
use Rattle.json_bodies.proofs.ObjectLemmas.{object-put_all}
use Rattle.json_bodies.proofs.handshake_complete.HandshakeComplete.to_object.Goals as goal

pub returns-clause-object : goal.returns-clause-object
unfolding complete_fields
returns-clause-object c =
    let none = ap members_view c.new-body.ensures.empty in
    view-Object _ ∙ object-put_all (complete_fields c.args.self.now) _ refl
    (rw (c.in_ok-put_unsigned.ensures.put, c.in_ok-put_text.ensures.put, none) refl)
