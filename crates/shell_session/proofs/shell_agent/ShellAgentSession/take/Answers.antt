use Rattle.std.proofs.Common.{◌≤◌, ◌∷◌, [], true, Ok, Err, Some, None, inr, cond, ◌==◌, sym, ap, ◌∙◌, subst, true≢false}
use Rattle.std.proofs.lemmas.Option.{none-some}
use Rattle.chan_io.specs.Faults.{Rises}
use Rattle.chan_ports.specs.Fresh.{IsUnwaited, IsUnwritten}
use Rattle.session_feeds.specs.declared.session.SessionFault.{SessionFault}
use Rattle.shell_session.specs.AgentSteps.{Opens, taking}
use Rattle.shell_session.specs.Agents.{AgentStandsFor, ShellAgentState}
use Rattle.shell_session.specs.Children.{ChildState}
use Rattle.shell_session.specs.Items.{of_type}
use Rattle.shell_session.proofs.AgentLemmas.{rises_on}
use Rattle.shell_session.proofs.OpeningLemmas.{behind, gone}
use Rattle.shell_session.proofs.RunLemmas.{ran, runs_stands}
use Rattle.shell_session.proofs.TakeLemmas.{child_stands, fault_stands, none_stands, unstarted_stands}
use Rattle.shell_session.proofs.WaitLemmas.{completes, opens_waits, waits_asked}
use Rattle.shell_session.proofs.shell_agent.ShellAgentSession.take.Goals as goal

pub invariant_of-self : goal.invariant_of-self
invariant_of-self g c =
    let begun = ap (λ (s : ShellAgentState). s.begun) c.self.view_is ∙ c.requires.0 in
    record {
      unasked = λ fresh. absurd (true≢false (sym begun ∙ fresh));
      waits = λ b r none. absurd (none-some _ (sym none));
      none_back = λ none. absurd (none-some _ (sym none));
    }

pub returns-in-Some-clause-begun : goal.returns-in-Some-clause-begun
returns-in-Some-clause-begun g c =
    ap (λ (s : ShellAgentState). s.begun) c.self.view_is ∙ c.requires.0

pub returns-in-Some-clause-stands : goal.returns-in-Some-clause-stands
returns-in-Some-clause-stands g c =
    let there = ap (λ (s : ShellAgentState). s.child) (sym c.self.view_is) ∙ c.in-Some.is in
    rw c.refusal-self-inside.ensures
    (λ a stands.
    subst (λ (s : ShellAgentState). AgentStandsFor
    (ran s c.run-answer.new.child c.run-answer.result) (taking c.args.parcel c.run-answer.result a))
    (sym c.self.view_is)
    (runs_stands c.args.parcel c.args.self.now a c.in-Some.child c.run-answer.new.child
    c.run-answer.result there c.requires.0 c.requires.1 stands c.run-answer.ensures))

pub open-requires : goal.open-requires
open-requires g c =
    waits_asked c.self.inside.side
    (c.self.invariant.waits (ap (λ (s : ShellAgentState). s.begun) c.self.view_is ∙ c.requires.0)
    (ap (λ (s : ShellAgentState). s.refused) c.self.view_is ∙ c.requires.1) c.in_default.is)

pub invariant_of-self-in-Ok-None : goal.invariant_of-self-in-Ok-None
invariant_of-self-in-Ok-None g c =
    let begun = ap (λ (s : ShellAgentState). s.begun) c.self.view_is ∙ c.requires.0 in
    record {
      unasked = λ fresh. absurd (true≢false (sym begun ∙ fresh));
      waits = λ b r none.
          opens_waits c.args.now c.args.parcel c.self.inside.side c.open.new.side
          (c.self.invariant.waits b r none)
          (subst (λ o. Opens c.args.now c.args.parcel c.self.inside.side (Ok o) c.open.new.side)
          c.in-Ok-None.field-0-is c.in-Ok-None.ensures.opens);
      none_back = c.self.invariant.none_back;
    }

pub returns-in-Ok-None-clause-begun : goal.returns-in-Ok-None-clause-begun
returns-in-Ok-None-clause-begun g c =
    ap (λ (s : ShellAgentState). s.begun) c.self.view_is ∙ c.requires.0

pub returns-in-Ok-None-clause-refused : goal.returns-in-Ok-None-clause-refused
returns-in-Ok-None-clause-refused g c =
    ap (λ (s : ShellAgentState). s.refused) c.self.view_is ∙ c.requires.1

pub returns-in-Ok-None-clause-stands : goal.returns-in-Ok-None-clause-stands
returns-in-Ok-None-clause-stands g c = λ a stands.
    let s = c.args.self.now in
    let p = c.args.parcel in
    let stage = c.open.new.side in
    let none = ap (λ (t : ShellAgentState). t.child) (sym c.self.view_is) ∙ c.in_default.is in
    let opens =
    subst (λ (t : ShellAgentState). Opens c.args.now p t.stage (Ok None) stage) c.self.view_is
    (subst (λ o. Opens c.args.now p c.self.inside.side (Ok o) stage) c.in-Ok-None.field-0-is
    c.in-Ok-None.ensures.opens) in
    rw c.nothing.ensures.puts
    (subst
    (λ (t : ShellAgentState).
    AgentStandsFor (gone t stage t.agreed t.starter_faults t.child t.refused) (behind a p []))
    (sym c.self.view_is)
    (subst
    (λ r. AgentStandsFor (gone s stage s.agreed s.starter_faults s.child r) (behind a p []))
    (sym c.requires.1)
    (none_stands s a c.args.now stage c.requires.0 c.requires.1 none stands p opens)))

pub invariant_of-self-in-Err : goal.invariant_of-self-in-Err
invariant_of-self-in-Err g c =
    let begun = ap (λ (s : ShellAgentState). s.begun) c.self.view_is ∙ c.requires.0 in
    record {
      unasked = λ fresh. absurd (true≢false (sym begun ∙ fresh));
      waits = λ b r none. absurd (none-some c.in-Err.fault (sym r));
      none_back = c.self.invariant.none_back;
    }

pub returns-in-Err-clause-begun : goal.returns-in-Err-clause-begun
returns-in-Err-clause-begun g c =
    ap (λ (s : ShellAgentState). s.begun) c.self.view_is ∙ c.requires.0

pub returns-in-Err-clause-stands : goal.returns-in-Err-clause-stands
returns-in-Err-clause-stands g c = λ a stands.
    let s = c.args.self.now in
    let p = c.args.parcel in
    let stage = c.open.new.side in
    let none = ap (λ (t : ShellAgentState). t.child) (sym c.self.view_is) ∙ c.in_default.is in
    let opens =
    subst
    (λ (t : ShellAgentState). Opens c.args.now p t.stage (Err c.in-Err.fault) stage)
    c.self.view_is c.in-Err.ensures.opens in
    subst
    (λ (t : ShellAgentState).
    AgentStandsFor (gone t stage t.agreed t.starter_faults t.child (Some c.in-Err.fault))
    (behind a p []))
    (sym c.self.view_is)
    (fault_stands s a c.args.now stage c.requires.0 c.requires.1 none stands p c.in-Err.fault opens)

pub invariant_of-self-in_default-start : goal.invariant_of-self-in_default-start
invariant_of-self-in_default-start g c =
    let begun = ap (λ (s : ShellAgentState). s.begun) c.self.view_is ∙ c.requires.0 in
    record {
      unasked = λ fresh. absurd (true≢false (sym begun ∙ fresh));
      waits = λ b r none. absurd (none-some SessionFault.Start (sym r));
      none_back = c.self.invariant.none_back;
    }

pub returns-in_default-start-clause-begun : goal.returns-in_default-start-clause-begun
returns-in_default-start-clause-begun g c =
    ap (λ (s : ShellAgentState). s.begun) c.self.view_is ∙ c.requires.0

pub returns-in_default-start-clause-stands : goal.returns-in_default-start-clause-stands
returns-in_default-start-clause-stands g c = λ a stands.
    let s = c.args.self.now in
    let p = c.args.parcel in
    let stage = c.open.new.side in
    let none = ap (λ (t : ShellAgentState). t.child) (sym c.self.view_is) ∙ c.in_default.is in
    let item = c.in-Ok-Some.completion in
    let faults = g.T.Starter.faults c.start.new.self in
    let opens =
    subst
    (λ (t : ShellAgentState). Opens c.args.now p t.stage (Ok (Some item)) stage)
    c.self.view_is
    (subst (λ o. Opens c.args.now p c.self.inside.side (Ok o) stage) c.in-Ok-Some.field-0-is
    c.in-Ok-Some.ensures.opens) in
    let more = subst (λ (t : ShellAgentState). t.starter_faults ≤ faults) c.self.view_is
    c.start.ensures.counted in
    let rises = subst (λ (t : ShellAgentState). Rises t.starter_faults faults) c.self.view_is
    c.in_default-start.ensures.failed in
    subst
    (λ (t : ShellAgentState).
    AgentStandsFor (gone t stage true faults t.child (Some SessionFault.Start)) (behind a p []))
    (sym c.self.view_is)
    (unstarted_stands s a c.args.now stage c.requires.0 c.requires.1 none stands p item faults
    SessionFault.Start opens
    (rises_on a.contents s.starter_faults faults stands.counted rises) more)

pub invariant_of-self-in_default-feed : goal.invariant_of-self-in_default-feed
invariant_of-self-in_default-feed g c =
    let begun = ap (λ (s : ShellAgentState). s.begun) c.self.view_is ∙ c.requires.0 in
    record {
      unasked = λ fresh. absurd (true≢false (sym begun ∙ fresh));
      waits = λ b r none. absurd (none-some SessionFault.NoMemory (sym r));
      none_back = c.self.invariant.none_back;
    }

pub returns-in_default-feed-clause-begun : goal.returns-in_default-feed-clause-begun
returns-in_default-feed-clause-begun g c =
    ap (λ (s : ShellAgentState). s.begun) c.self.view_is ∙ c.requires.0

pub returns-in_default-feed-clause-stands : goal.returns-in_default-feed-clause-stands
returns-in_default-feed-clause-stands g c = λ a stands.
    let s = c.args.self.now in
    let p = c.args.parcel in
    let stage = c.open.new.side in
    let none = ap (λ (t : ShellAgentState). t.child) (sym c.self.view_is) ∙ c.in_default.is in
    let item = c.in-Ok-Some.completion in
    let faults = g.T.Starter.faults c.start.new.self in
    let opens =
    subst
    (λ (t : ShellAgentState). Opens c.args.now p t.stage (Ok (Some item)) stage)
    c.self.view_is
    (subst (λ o. Opens c.args.now p c.self.inside.side (Ok o) stage) c.in-Ok-Some.field-0-is
    c.in-Ok-Some.ensures.opens) in
    let more = subst (λ (t : ShellAgentState). t.starter_faults ≤ faults) c.self.view_is
    c.start.ensures.counted in
    subst
    (λ (t : ShellAgentState).
    AgentStandsFor (gone t stage true faults t.child (Some SessionFault.NoMemory)) (behind a p []))
    (sym c.self.view_is)
    (unstarted_stands s a c.args.now stage c.requires.0 c.requires.1 none stands p item faults
    SessionFault.NoMemory opens tt more)

pub invariant_of-self-2 : goal.invariant_of-self-2
invariant_of-self-2 g c =
    let begun = ap (λ (s : ShellAgentState). s.begun) c.self.view_is ∙ c.requires.0 in
    record {
      unasked = λ fresh. absurd (true≢false (sym begun ∙ fresh));
      waits = λ b r none. absurd (none-some _ (sym none));
      none_back = λ none. absurd (none-some _ (sym none));
    }

pub returns-clause-begun : goal.returns-clause-begun
returns-clause-begun g c = ap (λ (s : ShellAgentState). s.begun) c.self.view_is ∙ c.requires.0

pub returns-clause-stands : goal.returns-clause-stands
returns-clause-stands g c = λ a stands.
    let s = c.args.self.now in
    let p = c.args.parcel in
    let stage = c.open.new.side in
    let none = ap (λ (t : ShellAgentState). t.child) (sym c.self.view_is) ∙ c.in_default.is in
    let item = c.in-Ok-Some.completion in
    let faults = g.T.Starter.faults c.start.new.self in
    let opens =
    subst
    (λ (t : ShellAgentState). Opens c.args.now p t.stage (Ok (Some item)) stage)
    c.self.view_is
    (subst (λ o. Opens c.args.now p c.self.inside.side (Ok o) stage) c.in-Ok-Some.field-0-is
    c.in-Ok-Some.ensures.opens) in
    let more = subst (λ (t : ShellAgentState). t.starter_faults ≤ faults) c.self.view_is
    c.start.ensures.counted in
    let child = c.new.result in
    let stdin = subst (λ (d : ChildState). IsUnwritten d.stdin d.stdin_faults) (sym c.new.ensures)
    c.in-Ok.ensures.stdin in
    let end = subst (λ (d : ChildState). IsUnwaited d.statuses d.end_faults) (sym c.new.ensures)
    c.in-Ok.ensures.end in
    rw (c.in-Ok-feed.ensures.0, c.in-Ok.ensures.steady)
    (subst
    (λ (t : ShellAgentState).
    AgentStandsFor (gone t stage true t.starter_faults (Some child) t.refused)
    (behind a p (item ∷ [])))
    (sym c.self.view_is)
    (subst
    (λ r. AgentStandsFor (gone s stage true s.starter_faults (Some child) r)
    (behind a p (item ∷ [])))
    (sym c.requires.1)
    (child_stands s a c.args.now stage c.requires.0 c.requires.1 none stands p item child opens
    stdin
    end (ap (λ (d : ChildState). d.over) c.new.ensures)
    (ap (λ (d : ChildState). d.feeding) c.new.ensures))))

pub returns-clause-refused : goal.returns-clause-refused
returns-clause-refused g c = ap (λ (s : ShellAgentState). s.refused) c.self.view_is ∙ c.requires.1

pub returns-clause-ends : goal.returns-clause-ends
returns-clause-ends g c =
    let item = c.in-Ok-Some.completion in
    let waits =
    c.self.invariant.waits (ap (λ (s : ShellAgentState). s.begun) c.self.view_is ∙ c.requires.0)
    (ap (λ (s : ShellAgentState). s.refused) c.self.view_is ∙ c.requires.1) c.in_default.is in
    let type =
    completes c.args.now c.args.parcel c.self.inside.side c.open.new.side item waits
    (subst (λ o. Opens c.args.now c.args.parcel c.self.inside.side (Ok o) c.open.new.side)
    c.in-Ok-Some.field-0-is c.in-Ok-Some.ensures.opens) in
    inr (
      ap (λ l. of_type 12 l) c.in-Ok-feed.ensures.0
          ∙ ap (λ n. cond (n == 12) (item ∷ []) []) type,
      c.in-Ok-feed.ensures.2,
      c.in-Ok-feed.ensures.3,
    )
