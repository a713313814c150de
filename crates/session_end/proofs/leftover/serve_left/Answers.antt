use Rattle.std.proofs.Common.{◌≡◌, ◌∙◌, true, false, sym}
use Rattle.session_end.proofs.LeftoverLemmas.{Leaves-none}
use Rattle.session_end.proofs.leftover.serve_left.Goals as goal

pub returns : goal.returns
returns g c =
    Leaves-none g.S.Session.stands g.S.Session.out g.S.Session.begun g.S.Session.refused
    c.args.service.now c.args.ended
    (λ is.
    let same = rw is at c.eq.ensures in
    let not : true ≡ false = sym same ∙ c.if-eq.false in
    cc)
    c.requires.none_out
