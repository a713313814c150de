use Rattle.std.proofs.Common.{◌∙◌}
use Rattle.relay_desk.proofs.AdmitLemmas.{names-none, names-read}
use Rattle.relay_desk.proofs.opening.value_in.Goals as goal

pub returns-in-Ok : goal.returns-in-Ok
returns-in-Ok c =
    names-read c.args.text.now _ c.in-Ok.opening _ _ c.in-Ok.ensures.reading
    (c.as_bytes.ensures.value ∙ c.as_str.ensures) c.read-in-Ok.ensures.value c.read-in-Ok.ensures.found
