use Rattle.std.proofs.Common.{All, refl, ap, ◌∙◌, subst}
use Rattle.serde_json.proofs.Views.{view-Object}
use Rattle.serde_json.specs.View.{members_view}
use Rattle.json_bodies.specs.Action.{IsTypedAction}
use Rattle.json_bodies.specs.HandshakeRequest.{request_fields}
use Rattle.json_bodies.proofs.ObjectLemmas.{object-put_all}
use Rattle.json_bodies.proofs.handshake_request.HandshakeRequest.to_object.Goals as goal

pub returns-clause-object : goal.returns-clause-object
unfolding request_fields
returns-clause-object c =
    let none = ap members_view c.new-body.ensures.empty in
    view-Object _ ∙ object-put_all (request_fields c.args.self.now) _ refl
    (rw (c.in_ok-put_value.ensures, c.in_ok-put_text.ensures.put, c.in_ok-actions.ensures.array, none, c.as_slice.ensures) refl)

pub returns-clause-typed : goal.returns-clause-typed
returns-clause-typed c = subst (λ l. All IsTypedAction l) c.as_slice.ensures c.in_ok-actions.ensures.typed
