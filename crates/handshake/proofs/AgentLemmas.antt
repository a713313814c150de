-- An agent has one step with an item behind the same items.
use Rattle.std.proofs.Common.{◌≡◌, ◌∙◌, ℕ, Option, Some, None, List, [], ◌∷◌, ◌++◌, refl, inl, inr, ap, sym, subst}
use Rattle.chan_values.specs.declared.item.Item.{Item}
use Rattle.json_bodies.proofs.HandshakeResponseLemmas.{response_table}
use Rattle.handshake.proofs.BodyLemmas.{no_other, one_other, one_value}
use Rattle.handshake.specs.Agent.{AgentAgrees, AgentRefuses, IsAgentStep, IsConsent, IsFailure, IsNoConsent}
use Rattle.handshake.specs.Sessions.{session_status}
use Rattle.handshake.specs.Steps.{IsAnswered}
use Rattle.handshake.specs.declared.agreed.Agreed.{Agreed}
use Rattle.handshake.specs.declared.step.Step.{Step}
use Rattle.handshake.specs.declared.step.Why.{Why}

-- ---- one item

one_failure : (status : Option ℕ) (v w : Why) → IsFailure status v → IsFailure status w → v ≡ w
one_failure None v w a b = a ∙ sym b
one_failure (Some status) v w a b = a.1 ∙ sym b.1

consent_is_taken : (item : Item) (why : Why) → IsConsent item → IsNoConsent item why → ⊥
consent_is_taken item why is (inl other) =
    no_other response_table 6 item is.response is.typed is.body why other
consent_is_taken item why is (inr rejection) =
    let same = one_value response_table item.payload rejection.response is.response
    rejection.body is.body in
    let failure = subst (λ status. IsFailure status why) (ap session_status same ∙ is.success)
    rejection.failure in
    failure.0 refl

one_no_consent : (item : Item) (v w : Why) → IsNoConsent item v → IsNoConsent item w → v ≡ w
one_no_consent item v w (inl a) (inl b) = one_other response_table 6 item v w a b
one_no_consent item v w (inl a) (inr rejection) =
    absurd (no_other response_table 6 item rejection.response rejection.typed rejection.body v a)
one_no_consent item v w (inr rejection) (inl b) =
    absurd (no_other response_table 6 item rejection.response rejection.typed rejection.body w b)
one_no_consent item v w (inr a) (inr b) =
    let same = one_value response_table item.payload b.response a.response b.body a.body in
    one_failure (session_status a.response) v w a.failure
    (subst (λ response. IsFailure (session_status response) w) same b.failure)

-- ---- the items

one_refusal : (items : List Item) (v w : Why) → AgentRefuses items v → AgentRefuses items w → v ≡ w
one_refusal [] v w a b = absurd a
one_refusal (first ∷ items) v w a b = one_no_consent first v w a b

agreed_is_taken : (items : List Item) (more : Item) (why : Why)
    → AgentAgrees items → AgentRefuses (items ++ more ∷ []) why → ⊥
agreed_is_taken [] more why g refuses = g
agreed_is_taken (first ∷ items) more why g refuses = consent_is_taken first why g refuses

-- ---- the step

module _ (choice : Agreed) (asked : ℕ) (before : List Item) (item : Item) (now : ℕ) where
  abbrev Steps : Step → Type 0
  Steps step = IsAgentStep choice asked before item now step

  finish_or_pass : (out back : Item) (agreed : Agreed)
      → Steps (Step.Finish out agreed) → Steps (Step.Pass back) → ⊥
  finish_or_pass out back agreed a b = subst AgentAgrees a.0 b.1

  finish_or_refused : (out : Item) (agreed : Agreed) (why : Why)
      → Steps (Step.Finish out agreed) → Steps (Step.Refused why) → ⊥
  finish_or_refused out agreed why a b =
      consent_is_taken item why a.1 (subst (λ items. AgentRefuses (items ++ item ∷ []) why) a.0 b)

  pub one_step : (a b : Step) → IsAnswered a → IsAnswered b → Steps a → Steps b → a ≡ b
  one_step (Step.Finish o g) (Step.Finish p h) x y a b =
      let out : o ≡ p = a.2 ∙ sym b.2 in
      let agreed : g ≡ h = a.3 ∙ sym b.3 in
      cc
  one_step (Step.Finish o g) (Step.Pass l) x y a b = absurd (finish_or_pass o l g a b)
  one_step (Step.Finish o g) (Step.Refused w) x y a b = absurd (finish_or_refused o g w a b)
  one_step (Step.Pass k) (Step.Finish p h) x y a b = absurd (finish_or_pass p k h b a)
  one_step (Step.Pass k) (Step.Pass l) x y a b = ap Step.Pass (a.0 ∙ sym b.0)
  one_step (Step.Pass k) (Step.Refused w) x y a b = absurd (agreed_is_taken before item w a.1 b)
  one_step (Step.Refused v) (Step.Finish p h) x y a b = absurd (finish_or_refused p h v b a)
  one_step (Step.Refused v) (Step.Pass l) x y a b = absurd (agreed_is_taken before item v b.1 a)
  one_step (Step.Refused v) (Step.Refused w) x y a b =
      ap Step.Refused (one_refusal (before ++ item ∷ []) v w a b)
  one_step (Step.Put o) b x y a c = absurd a
  one_step a (Step.Put p) x y c b = absurd b
  one_step (Step.Done g) b x y a c = absurd a
  one_step a (Step.Done h) x y c b = absurd b
  one_step (Step.NoMemory k) b x y a c = absurd x
  one_step a (Step.NoMemory l) x y c b = absurd y
