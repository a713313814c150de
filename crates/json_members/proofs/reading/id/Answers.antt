use Rattle.std.proofs.Common.{refl}
use Rattle.json_members.proofs.ParsedLemmas.{none_from_err}
use Rattle.json_members.proofs.reading.id.Goals as goal

pub returns-in-Err : goal.returns-in-Err
returns-in-Err c = rw (c.in_ok-text.ensures, none_from_err _ _ _ c.in-Err.is c.try_parse.ensures.ok) refl
