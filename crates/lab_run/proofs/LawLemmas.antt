-- All laws of scripts together.
use Rattle.lab_run.specs.Laws.{ScriptLaws}
use Rattle.lab_run.proofs.HurtLemmas.{hurt_tells_incoming}
use Rattle.lab_run.proofs.RunLemmas.{run_is_faithful, run_is_settled}
use Rattle.lab_run.proofs.SendableLemmas.{every_emission_is_sendable}

pub script_laws : ScriptLaws
script_laws =
    record {
      faithful = run_is_faithful;
      settled = run_is_settled;
      sendable = every_emission_is_sendable;
      hurt = hurt_tells_incoming;
    }
