use Rattle.lab_streams.proofs.SendableLemmas.{every_emission_is_sendable}
use Rattle.lab_streams.proofs.laws.every_emission_is_sendable.Goals as goal

pub returns : goal.returns
returns c = every_emission_is_sendable
