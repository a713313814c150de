use Rattle.json_bodies.proofs.HandshakeRequestLemmas.{IsTypedRequest, request_form}
use Rattle.json_bodies.proofs.ReadingLemmas.{text-written, body_of-written}
use Rattle.json_bodies.proofs.handshake_request.HandshakeRequest.write.Goals as goal

pub returns-clause-text : goal.returns-clause-text
returns-clause-text c =
    let body = c.in_ok-body.ensures in
    let typed : IsTypedRequest c.args.self.now = record { agent_version = body.agent_version; actions = body.typed } in
    text-written request_form c.args.self.now typed _ _ body.object c.in_ok-to_vec.ensures.text

pub returns-clause-body : goal.returns-clause-body
returns-clause-body c =
    let request = c.args.self.now in
    let body = c.in_ok-body.ensures in
    let typed : IsTypedRequest request = record { agent_version = body.agent_version; actions = body.typed } in
    λ range. body_of-written request_form request _ typed range (text-written request_form request typed _ _ body.object c.in_ok-to_vec.ensures.text)
