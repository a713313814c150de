use Rattle.json_bodies.proofs.HandshakeCompleteLemmas.{IsTypedComplete, complete_form}
use Rattle.json_bodies.proofs.ReadingLemmas.{text-written, body_of-written}
use Rattle.json_bodies.proofs.handshake_complete.HandshakeComplete.write.Goals as goal

pub returns-clause-text : goal.returns-clause-text
returns-clause-text c =
    let body = c.in_ok-body.ensures in
    let typed : IsTypedComplete c.args.self.now = record { message = body.message; nanos = body.nanos } in
    text-written complete_form c.args.self.now typed _ _ body.object c.in_ok-to_vec.ensures.text

pub returns-clause-body : goal.returns-clause-body
returns-clause-body c =
    let complete = c.args.self.now in
    let body = c.in_ok-body.ensures in
    let typed : IsTypedComplete complete = record { message = body.message; nanos = body.nanos } in
    λ range. body_of-written complete_form complete _ typed range (text-written complete_form complete typed _ _ body.object c.in_ok-to_vec.ensures.text)
