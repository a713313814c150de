use Rattle.json_bodies.proofs.OpenedLemmas.{opened_form}
use Rattle.json_bodies.proofs.ReadingLemmas.{text-written, body_of-written}
use Rattle.json_bodies.proofs.opened.Opened.write.Goals as goal

pub returns-clause-text : goal.returns-clause-text
returns-clause-text c =
    text-written opened_form c.args.self.now c.in_ok-body.ensures.utf8 _ _ c.in_ok-body.ensures.object c.in_ok-to_vec.ensures.text

pub returns-clause-body : goal.returns-clause-body
returns-clause-body c =
    let opened = c.args.self.now in
    let utf8 = c.in_ok-body.ensures.utf8 in
    λ range. body_of-written opened_form opened _ utf8 range (text-written opened_form opened utf8 _ _ c.in_ok-body.ensures.object c.in_ok-to_vec.ensures.text)
