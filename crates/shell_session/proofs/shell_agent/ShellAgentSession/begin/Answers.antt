use Rattle.std.proofs.Common.{true≢false, sym, ap, ◌∙◌, ◌++◌, [], true, subst}
use Rattle.session_feeds.specs.Sessions.{puts_in, refusal_in}
use Rattle.shell_session.specs.AgentSteps.{Begins}
use Rattle.shell_session.specs.Agents.{AgentStandsFor, ShellAgentState}
use Rattle.shell_session.proofs.AskingLemmas.{begins_stands}
use Rattle.shell_session.proofs.WaitLemmas.{begins_waits}
use Rattle.shell_session.proofs.shell_agent.ShellAgentSession.begin.Goals as goal

pub returns-clause-stands : goal.returns-clause-stands
returns-clause-stands g c = λ a stands.
    let new = c.ask-answer.new.side in
    let answer = c.ask-answer.result in
    let begins = subst
    (λ (s : ShellAgentState). Begins c.args.now s.stage answer new) c.self.view_is
    c.ask-answer.ensures in
    rw c.refusal-self-inside.ensures
    (subst (λ (s : ShellAgentState). AgentStandsFor
    (record s { stage = new; begun = true; refused = refusal_in answer })
    (record a { taken = a.taken ++ []; given = a.given ++ puts_in answer }))
    (sym c.self.view_is)
    (begins_stands c.args.self.now a new c.args.now answer c.requires begins stands))

pub invariant_of-self : goal.invariant_of-self
invariant_of-self g c =
    let fresh = ap (λ (s : ShellAgentState). s.begun) c.self.view_is ∙ c.requires in
    record {
      unasked = λ no_more. absurd (true≢false no_more);
      waits = λ b r none.
          begins_waits c.args.now c.self.inside.side c.ask-answer.new.side c.ask-answer.result
          (c.self.invariant.unasked fresh) c.ask-answer.ensures
          (sym c.refusal-self-inside.ensures ∙ r);
      none_back = c.self.invariant.none_back;
    }
