-- The line of a journal that is accepted, and the numbers of the reasons to refuse one.
use Rattle.std.specs.Prelude.{ℕ, List, [], ◌∷◌, ◌++◌, codes, decimal}
use Rattle.session_audit.specs.declared.verdict.Totals.{Totals}
use Rattle.session_audit.specs.declared.verdict.Why.{Why}

-- the line that tells the totals
abbrev pub verdict_line : Totals → List ℕ
verdict_line totals =
    codes "yes sent P "
    ++ decimal totals.sent_p
    ++ codes " A "
    ++ decimal totals.sent_a
    ++ codes " released A "
    ++ decimal totals.released_a
    ++ codes " P "
    ++ decimal totals.released_p
    ++ 10 ∷ []

-- the number of a reason
abbrev pub why_number : Why → ℕ
why_number (Why.Size n) = 1
why_number (Why.WrongEnd byte) = 2
why_number (Why.Kind byte) = 3
why_number (Why.Extra n) = 4
why_number (Why.Message refusal) = 5
why_number (Why.Cut have) = 6
why_number Why.NotEmitted = 7
why_number Why.Unheard = 8
