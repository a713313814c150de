-- One parcel at the agent's end of a shell session while no child was started.
use Rattle.std.proofs.Common.{◌≡◌, ◌≤◌, ℕ, true, false, Some, None, Ok, Err, ◌⊎◌, inl, inr, [], ◌∷◌, ◌++◌, sym, refl, ap, ◌∙◌, subst, le_refl, true≢false}
use Rattle.std.proofs.lemmas.Bool.{false≢true}
use Rattle.chan_ports.specs.Fresh.{IsUnwaited, IsUnwritten}
use Rattle.chan_values.specs.declared.item.Item.{Item}
use Rattle.handshake.specs.Agent.{AgentAgrees, AgentRefuses, IsConsent}
use Rattle.handshake.specs.Items.{completion_item}
use Rattle.handshake.specs.declared.agent.AgentStage.{AgentStage}
use Rattle.handshake.specs.declared.step.Why.{Why}
use Rattle.session_feeds.specs.Sessions.{Account}
use Rattle.session_feeds.specs.declared.session.SessionFault.{SessionFault}
use Rattle.session_run.specs.declared.parcel.Parcel.{Parcel}
use Rattle.shell_session.specs.AgentSteps.{Opens}
use Rattle.shell_session.specs.Agents.{AgentStandsFor, IsAgentFault, ShellAgentState, standard}
use Rattle.shell_session.specs.Children.{ChildState}
use Rattle.shell_session.specs.Parcels.{arrived}
use Rattle.shell_session.proofs.OpeningLemmas.{asked, behind, gone, not_agreed, nothing_arrived, one_arrived, passes_stands, refusal_stands, started_stands}
use Rattle.shell_session.proofs.WaitLemmas.{agrees, is_passed, is_taken, passes_never, refuses}

-- ---- what the end stands for behind it

module _ (s : ShellAgentState) (a : Account ℕ) (now : ℕ) (stage : AgentStage)
    (begun : s.begun ≡ true) (on : s.refused ≡ None)
    (none : s.child ≡ None) (stands : AgentStandsFor s a) where
  -- nothing comes of the parcel
  pub none_stands : (p : Parcel)
      → Opens now p s.stage (Ok None) stage
      → AgentStandsFor (gone s stage s.agreed s.starter_faults s.child None) (behind a p [])
  none_stands (Parcel.Arrived item) o =
      let asked' = asked (Parcel.Arrived item) s a begun on none stands in
      absurd (passes_never standard asked'.0 now item o.0 (o.1 standard asked'.0 [] asked'.1).0 o.2)
  none_stands Parcel.Finished opens =
      subst (λ (t : AgentStage). AgentStandsFor (gone s t s.agreed s.starter_faults s.child None)
      (behind a Parcel.Finished [])) (sym opens.1)
      (passes_stands Parcel.Finished s a begun on none stands refl)
  none_stands Parcel.Over opens =
      subst (λ (t : AgentStage). AgentStandsFor (gone s t s.agreed s.starter_faults s.child None)
      (behind a Parcel.Over [])) (sym opens.1)
      (passes_stands Parcel.Over s a begun on none stands refl)

  unagreed : (p : Parcel) → s.agreed ≡ true → AgentAgrees (arrived (a.taken ++ p ∷ []))
  unagreed p yes' = absurd (true≢false (sym yes' ∙ not_agreed p s a begun on none stands))

  refused_by : (item : Item) (fault : SessionFault)
      → ((why : Why) × (fault ≡ SessionFault.Handshake why) × AgentRefuses (item ∷ []) why)
      ⊎ (fault ≡ SessionFault.NoMemory)
      → IsAgentFault fault (gone s stage s.agreed s.starter_faults s.child (Some fault))
      (behind a (Parcel.Arrived item) [])
  refused_by item fault (inl h) =
      subst (λ f. IsAgentFault f (gone s stage s.agreed s.starter_faults s.child (Some fault))
      (behind a (Parcel.Arrived item) [])) (sym h.1)
      (subst (λ l. AgentRefuses l h.0)
      (sym (one_arrived s a item (nothing_arrived (Parcel.Arrived item) s a begun on none stands)))
      h.2)
  refused_by item fault (inr h) =
      subst (λ f. IsAgentFault f (gone s stage s.agreed s.starter_faults s.child (Some fault))
      (behind a (Parcel.Arrived item) [])) (sym h) tt

  -- it is refused
  pub fault_stands : (p : Parcel) (fault : SessionFault)
      → Opens now p s.stage (Err fault) stage
      → AgentStandsFor (gone s stage s.agreed s.starter_faults s.child (Some fault)) (behind a p [])
  fault_stands (Parcel.Arrived item) fault o =
      let asked' = asked (Parcel.Arrived item) s a begun on none stands in
      refusal_stands
      (Parcel.Arrived item) s a begun on none stands stage s.agreed s.starter_faults fault
      (unagreed (Parcel.Arrived item))
      (refused_by item fault
      (refuses standard asked'.0 now item fault o.0 (o.1 standard asked'.0 [] asked'.1).0 o.2))
      (le_refl s.starter_faults)
  fault_stands Parcel.Finished fault opens = absurd (false≢true (ap is_taken opens.0))
  fault_stands Parcel.Over fault opens = absurd (false≢true (ap is_taken opens.0))

  -- the handshake is done by it
  pub consents : (p : Parcel) (completion : Item) → Opens now p s.stage (Ok (Some completion)) stage
      → (item : Item) × (p ≡ Parcel.Arrived item) × IsConsent item
      × ((moment : ℕ) × (completion ≡ completion_item moment now))
  consents (Parcel.Arrived item) completion o =
      let asked' = asked (Parcel.Arrived item) s a begun on none stands in
      let h = agrees standard asked'.0 now item completion o.0
      (o.1 standard asked'.0 [] asked'.1).0 o.2 in
      (item, refl, h.0, (asked'.0, h.1))
  consents Parcel.Finished completion opens = absurd (false≢true (ap is_passed opens.0))
  consents Parcel.Over completion opens = absurd (false≢true (ap is_passed opens.0))

  -- but the child could not be started, or memory was wanted
  pub unstarted_stands : (p : Parcel) (completion : Item) (faults : ℕ) (fault : SessionFault)
      → Opens now p s.stage (Ok (Some completion)) stage
      → IsAgentFault fault (gone s stage true faults s.child (Some fault)) (behind a p [])
      → s.starter_faults ≤ faults
      → AgentStandsFor (gone s stage true faults s.child (Some fault)) (behind a p [])
  unstarted_stands p completion faults fault opens cause more =
      let h = consents p completion opens in
      refusal_stands p s a begun on none stands stage true faults fault
      (λ _. subst (λ q. AgentAgrees (arrived (a.taken ++ q ∷ []))) (sym h.1)
      (subst AgentAgrees
      (sym (one_arrived s a h.0 (nothing_arrived p s a begun on none stands))) h.2))
      cause more

  -- and the child was started
  pub child_stands : (p : Parcel) (completion : Item) (c : ChildState)
      → Opens now p s.stage (Ok (Some completion)) stage
      → IsUnwritten c.stdin c.stdin_faults → IsUnwaited c.statuses
      c.end_faults → c.over ≡ false → c.feeding ≡ 2
      → AgentStandsFor (gone s stage true s.starter_faults (Some c) None)
      (behind a p (completion ∷ []))
  child_stands p completion c opens stdin end over feeding =
      let h = consents p completion opens in
      subst (λ q. AgentStandsFor (gone s stage true s.starter_faults (Some c) None)
      (behind a q (completion ∷ []))) (sym h.1)
      (started_stands h.0 s a stage c completion h.3.0 now begun on none stands h.2 h.3.1 stdin end
      over feeding)
