use Rattle.json_bodies.proofs.OpeningLemmas.{opening_form}
use Rattle.json_bodies.proofs.ReadingLemmas.{text-written, body_of-written}
use Rattle.json_bodies.proofs.opening.Opening.write.Goals as goal

pub returns-clause-text : goal.returns-clause-text
returns-clause-text c = text-written opening_form c.args.self.now c.in_ok-body.ensures.writable _ _ c.in_ok-body.ensures.object c.in_ok-to_vec.ensures.text

pub returns-clause-body : goal.returns-clause-body
returns-clause-body c =
    let opening = c.args.self.now in
    let writable = c.in_ok-body.ensures.writable in
    body_of-written opening_form opening _ writable tt (text-written opening_form opening writable _ _ c.in_ok-body.ensures.object c.in_ok-to_vec.ensures.text)
