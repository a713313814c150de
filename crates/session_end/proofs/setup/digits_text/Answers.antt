use Rattle.std.proofs.Common.{sym, subst}
use Rattle.std.specs.Prelude.{IsUtf8}
use Rattle.std.proofs.lemmas.Str.{IsUtf8-from_ascii}
use Rattle.session_end.proofs.TokenLemmas.{digits_ascii}
use Rattle.session_end.proofs.setup.digits_text.Goals as goal

pub unreachable-requires : goal.unreachable-requires
unreachable-requires c =
    c.in-Err.ensures.cases.0
    (subst IsUtf8 (sym c.digits-digits.ensures)
    (IsUtf8-from_ascii _ (digits_ascii c.args.token)))
