use Rattle.std.proofs.Common.{ℕ, ◌<◌, ◌^◌, arith}
use Rattle.std.proofs.lemmas.Result.{err_from_is_err_and}
use Rattle.json_bodies.proofs.HandshakeCompleteLemmas.{IsTypedComplete, complete_table, complete_form}
use Rattle.json_bodies.proofs.ReadingLemmas.{IsReading-refused, IsReading-found, body_of-written}
use Rattle.json_bodies.proofs.handshake_complete.HandshakeComplete.read.Goals as goal

fits : (n : ℕ) → n < 2 ^ 63 → n < 2 ^ 64
fits n range = omega arith

pub returns-in_err-body-clause-reading : goal.returns-in_err-body-clause-reading
returns-in_err-body-clause-reading c =
    let err = err_from_is_err_and c.from_residual.result c.from_residual.ensures.1 in
    rw (err.1, err.2) (IsReading-refused complete_table _ _ c.in_err-body.ensures.fault)

pub returns-in_err-body-clause-written : goal.returns-in_err-body-clause-written
returns-in_err-body-clause-written c =
    let err = err_from_is_err_and c.from_residual.result c.from_residual.ensures.1 in
    let reading = IsReading-refused complete_table _ _ c.in_err-body.ensures.fault in
    λ complete writable is.
    let typed : IsTypedComplete complete = record { message = writable.message; nanos = fits _ writable.range } in
    rw (err.1, err.2) (reading.body complete (body_of-written complete_form complete _ typed writable.range is))

pub returns-clause-reading : goal.returns-clause-reading
returns-clause-reading c =
    IsReading-found complete_table _ _ _ c.in_ok-body.ensures.ok c.of_object.ensures.gives c.of_object.ensures.fault

pub returns-clause-written : goal.returns-clause-written
returns-clause-written c =
    let reading = IsReading-found complete_table _ _ _ c.in_ok-body.ensures.ok c.of_object.ensures.gives c.of_object.ensures.fault in
    λ complete writable is.
    let typed : IsTypedComplete complete = record { message = writable.message; nanos = fits _ writable.range } in
    reading.body complete (body_of-written complete_form complete _ typed writable.range is)
