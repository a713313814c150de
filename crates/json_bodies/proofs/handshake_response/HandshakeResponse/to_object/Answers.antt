use Rattle.std.proofs.Common.{All, IsUtf8, refl, ap, ◌∙◌, subst}
use Rattle.serde_json.proofs.Views.{view-Object}
use Rattle.serde_json.specs.View.{members_view}
use Rattle.json_bodies.specs.HandshakeResponse.{response_fields}
use Rattle.json_bodies.specs.Processed.{IsTypedProcessed}
use Rattle.json_bodies.proofs.ObjectLemmas.{object-put_all}
use Rattle.json_bodies.proofs.handshake_response.HandshakeResponse.to_object.Goals as goal

pub returns-clause-object : goal.returns-clause-object
unfolding response_fields
returns-clause-object c =
    let none = ap members_view c.new-body.ensures.empty in
    view-Object _ ∙ object-put_all (response_fields c.args.self.now) _ refl
    (rw (c.in_ok-put_value-2.ensures, c.in_ok-put_value.ensures, c.in_ok-put_text.ensures.put, c.in_ok-actions.ensures.array, c.in_ok-errors.ensures.array, none, c.as_slice.ensures, c.as_slice-2.ensures) refl)

pub returns-clause-errors : goal.returns-clause-errors
returns-clause-errors c = subst (λ l. All IsUtf8 l) c.as_slice.ensures c.in_ok-errors.ensures.utf8

pub returns-clause-typed : goal.returns-clause-typed
returns-clause-typed c = subst (λ l. All IsTypedProcessed l) c.as_slice-2.ensures c.in_ok-actions.ensures.typed
