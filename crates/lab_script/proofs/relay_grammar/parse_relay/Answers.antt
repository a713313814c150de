use Rattle.lab_script.specs.Command.{IsScriptLine}
use Rattle.lab_script.proofs.RelayLines.{SaysRelay-relayed, none_of_both, not_IsRelayLine}
use Rattle.lab_script.proofs.relay_grammar.parse_relay.Goals as goal

pub returns-in-Some-clause-found : goal.returns-in-Some-clause-found
returns-in-Some-clause-found c =
    let said = rw c.in-Some.is at c.in_ok-command.ensures.found in
    rw c.relayed.ensures (SaysRelay-relayed c.args.line.now c.in-Some.command said)

pub returns-in-Some-clause-none : goal.returns-in-Some-clause-none
returns-in-Some-clause-none c =
    let said = rw c.in-Some.is at c.in_ok-command.ensures.found in
    rw c.relayed.ensures (not_IsRelayLine c.args.line.now c.in-Some.command said)

pub returns-in-None-clause-none : goal.returns-in-None-clause-none
returns-in-None-clause-none c =
    let out : ¬ IsScriptLine c.args.line.now = rw c.in-None.is at c.in_ok-command.ensures.none in
    none_of_both c.args.line.now c.parse_own.result out c.parse_own.ensures.none
