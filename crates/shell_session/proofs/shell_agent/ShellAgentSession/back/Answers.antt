use Rattle.std.proofs.Common.{Some, sym, subst}
use Rattle.shell_session.specs.Agents.{AgentStandsFor, ShellAgentState}
use Rattle.shell_session.specs.Feeders.{told_of_errors, told_of_output}
use Rattle.shell_session.proofs.BackLemmas.{back_with}
use Rattle.shell_session.proofs.OutputsBack.{errors_back, output_back}
use Rattle.shell_session.proofs.shell_agent.ShellAgentSession.back.Goals as goal

pub returns-in-Output-clause-stands : goal.returns-in-Output-clause-stands
returns-in-Output-clause-stands g c =
    let f = c.in-Output.feeder in
    let has = rw c.in-Output.is at c.requires in
    rw (c.in-Output.is, c.keep.ensures.kept)
    (λ a stands.
    subst (λ (s : ShellAgentState). AgentStandsFor (record s { output = Some f })
    (back_with f (told_of_output f).mark a))
    (sym c.self.view_is) (output_back c.args.self.now f c.keep.ensures.reads has a stands))

pub returns-in-Errors-clause-stands : goal.returns-in-Errors-clause-stands
returns-in-Errors-clause-stands g c =
    let f = c.in-Errors.feeder in
    let has = rw c.in-Errors.is at c.requires in
    rw (c.in-Errors.is, c.keep-in-Errors.ensures.kept)
    (λ a stands.
    subst (λ (s : ShellAgentState). AgentStandsFor (record s { errors = Some f })
    (back_with f (told_of_errors f).mark a))
    (sym c.self.view_is)
    (errors_back c.args.self.now f c.keep-in-Errors.ensures.reads has a stands))
