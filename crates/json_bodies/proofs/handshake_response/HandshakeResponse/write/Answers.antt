use Rattle.json_bodies.proofs.HandshakeResponseLemmas.{IsTypedResponse, response_form}
use Rattle.json_bodies.proofs.ReadingLemmas.{text-written, body_of-written}
use Rattle.json_bodies.proofs.handshake_response.HandshakeResponse.write.Goals as goal

pub returns-clause-text : goal.returns-clause-text
returns-clause-text c =
    let body = c.in_ok-body.ensures in
    let typed : IsTypedResponse c.args.self.now = record { client_version = body.client_version; errors = body.errors; actions = body.typed } in
    text-written response_form c.args.self.now typed _ _ body.object c.in_ok-to_vec.ensures.text

pub returns-clause-body : goal.returns-clause-body
returns-clause-body c =
    let response = c.args.self.now in
    let body = c.in_ok-body.ensures in
    let typed : IsTypedResponse response = record { client_version = body.client_version; errors = body.errors; actions = body.typed } in
    λ range. body_of-written response_form response _ typed range (text-written response_form response typed _ _ body.object c.in_ok-to_vec.ensures.text)
