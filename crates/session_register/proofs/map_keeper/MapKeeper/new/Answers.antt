use Rattle.std.proofs.Common.{◌≡◌, sym, subst}
use Rattle.session_register.specs.MapRows.{AreNamed, IsRows, rows_in}
use Rattle.session_register.specs.Sessions.{HaveDifferentSessions}
use Rattle.session_register.proofs.DifferLemmas.{nothing_kept}
use Rattle.session_register.proofs.map_keeper.MapKeeper.new.Goals as goal

pub invariant_of-result : goal.invariant_of-result
invariant_of-result c =
    subst (λ es. AreNamed es × IsRows es × HaveDifferentSessions (rows_in es))
    (sym c.new.ensures.empty) nothing_kept
