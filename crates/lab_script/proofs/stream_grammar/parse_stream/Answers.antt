use Rattle.lab_script.specs.Command.{IsScriptLine}
use Rattle.lab_script.specs.StreamCommand.{IsBesideStreams}
use Rattle.lab_script.proofs.StreamLines.{SaysStream-plain, none_of_both, not_IsStreamLine}
use Rattle.lab_script.proofs.stream_grammar.parse_stream.Goals as goal

pub returns-in_default-clause-none : goal.returns-in_default-clause-none
returns-in_default-clause-none c =
    let out : ¬ IsScriptLine c.args.line.now = rw c.in_default.is at c.in_ok-command.ensures.none in
    none_of_both c.args.line.now c.parse_own.result out c.parse_own.ensures.none

pub returns-then-is_beside_streams-clause-found : goal.returns-then-is_beside_streams-clause-found
returns-then-is_beside_streams-clause-found c =
    let said = rw c.in-Some.is at c.in_ok-command.ensures.found in
    SaysStream-plain c.args.line.now c.in-Some.command said
    (c.is_beside_streams.ensures.0 c.if-is_beside_streams.true)

pub returns-else-is_beside_streams-clause-none : goal.returns-else-is_beside_streams-clause-none
returns-else-is_beside_streams-clause-none c =
    let said = rw c.in-Some.is at c.in_ok-command.ensures.found in
    not_IsStreamLine c.args.line.now c.in-Some.command said
    (λ (beside : IsBesideStreams c.in-Some.command).
    let is = c.is_beside_streams.ensures.1 beside in
    absurd (cc (is, c.if-is_beside_streams.false)))
