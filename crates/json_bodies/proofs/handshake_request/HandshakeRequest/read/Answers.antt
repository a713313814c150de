use Rattle.std.proofs.lemmas.Result.{err_from_is_err_and}
use Rattle.json_bodies.proofs.HandshakeRequestLemmas.{IsTypedRequest, request_table, request_form}
use Rattle.json_bodies.proofs.ReadingLemmas.{IsReading-refused, IsReading-found, body_of-written}
use Rattle.json_bodies.proofs.handshake_request.HandshakeRequest.read.Goals as goal

pub returns-in_err-body-clause-reading : goal.returns-in_err-body-clause-reading
returns-in_err-body-clause-reading c =
    let err = err_from_is_err_and c.from_residual.result c.from_residual.ensures.1 in
    rw (err.1, err.2) (IsReading-refused request_table _ _ c.in_err-body.ensures.fault)

pub returns-in_err-body-clause-written : goal.returns-in_err-body-clause-written
returns-in_err-body-clause-written c =
    let err = err_from_is_err_and c.from_residual.result c.from_residual.ensures.1 in
    let reading = IsReading-refused request_table _ _ c.in_err-body.ensures.fault in
    λ request writable is.
    let typed : IsTypedRequest request = record { agent_version = writable.agent_version; actions = writable.typed } in
    rw (err.1, err.2) (reading.body request (body_of-written request_form request _ typed writable.range is))

pub returns-clause-reading : goal.returns-clause-reading
returns-clause-reading c =
    IsReading-found request_table _ _ _ c.in_ok-body.ensures.ok c.of_object.ensures.gives c.of_object.ensures.fault

pub returns-clause-written : goal.returns-clause-written
returns-clause-written c =
    let reading = IsReading-found request_table _ _ _ c.in_ok-body.ensures.ok c.of_object.ensures.gives c.of_object.ensures.fault in
    λ request writable is.
    let typed : IsTypedRequest request = record { agent_version = writable.agent_version; actions = writable.typed } in
    reading.body request (body_of-written request_form request _ typed writable.range is)
