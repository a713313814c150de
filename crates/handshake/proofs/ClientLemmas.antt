-- A client has one step with an item behind the same items.
use Rattle.std.proofs.Common.{◌≡◌, ◌≤◌, ◌<◌, ◌∙◌, ℕ, Option, Some, None, List, [], ◌∷◌, ◌++◌, length, arith, inl, inr, ap, sym, subst}
use Rattle.chan_values.specs.declared.item.Item.{Item}
use Rattle.json_bodies.proofs.HandshakeCompleteLemmas.{complete_table}
use Rattle.json_bodies.proofs.HandshakeRequestLemmas.{request_table}
use Rattle.json_bodies.specs.HandshakeComplete.{complete_faults}
use Rattle.json_bodies.specs.HandshakeResponse.{response_text}
use Rattle.json_bodies.specs.Reading.{Shows}
use Rattle.json_bodies.specs.declared.handshake_request.HandshakeRequest.{HandshakeRequest}
use Rattle.handshake.proofs.BodyLemmas.{no_other, one_other, one_value}
use Rattle.handshake.specs.Client.{ClientAgrees, ClientRefuses, IsClientStep, IsCompletion, IsNoCompletion, IsNoRequest, IsRequest}
use Rattle.handshake.specs.Items.{IsOther, response_item}
use Rattle.handshake.specs.Sessions.{agreed_session, response_to}
use Rattle.handshake.specs.Steps.{IsAnswered}
use Rattle.handshake.specs.declared.agreed.Agreed.{Agreed}
use Rattle.handshake.specs.declared.step.Step.{Step}
use Rattle.handshake.specs.declared.step.Why.{Why}

-- ---- one item

between : (n m k : ℕ) → n ≤ m → m < k → k ≡ n → ⊥
between n m k low high same = omega arith

module _ (version : List ℕ) (item : Item) where
  one_request : (a b : HandshakeRequest)
      → IsRequest version item a → IsRequest version item b → a ≡ b
  one_request a b g h = one_value request_table item.payload a b g.body h.body

  request_is_taken : (request : HandshakeRequest) (why : Why)
      → IsRequest version item request → IsNoRequest version item why → ⊥
  request_is_taken request why is (inl other) =
      no_other request_table 5 item request is.typed is.body why other
  request_is_taken request why is (inr long) =
      let same = one_value request_table item.payload long.request request long.body is.body in
      between _ _ _ is.short long.long
      (ap (λ r. length (response_text (response_to version r))) same)

  one_no_request : (v w : Why)
      → IsNoRequest version item v → IsNoRequest version item w → v ≡ w
  one_no_request v w (inl a) (inl b) = one_other request_table 5 item v w a b
  one_no_request v w (inl a) (inr long) =
      absurd (no_other request_table 5 item long.request long.typed long.body v a)
  one_no_request v w (inr long) (inl b) =
      absurd (no_other request_table 5 item long.request long.typed long.body w b)
  one_no_request v w (inr a) (inr b) = a.told ∙ sym b.told

completion_is_taken : (item : Item) (why : Why)
    → IsCompletion item → IsOther 7 (Shows complete_faults) item why → ⊥
completion_is_taken item why is other =
    no_other complete_table 7 item is.complete is.typed is.body why other

one_no_completion : (agreed : Option Agreed) (item : Item) (v w : Why)
    → IsNoCompletion agreed item v → IsNoCompletion agreed item w → v ≡ w
one_no_completion None item v w a b = a ∙ sym b
one_no_completion (Some agreed) item v w a b = one_other complete_table 7 item v w a b

-- ---- the items

module _ (version : List ℕ) where
  one_agreed : (items : List Item) (a b : Agreed)
      → ClientAgrees version items a → ClientAgrees version items b → a ≡ b
  one_agreed [] a b g h = absurd g
  one_agreed (first ∷ []) a b g h = absurd g
  one_agreed (first ∷ second ∷ items) a b g h =
      let same = one_request version first g.0 h.0 g.1 h.1 in
      let some = sym g.2 ∙ ap agreed_session same ∙ h.2 in
      cc

  agreed_is_taken : (items : List Item) (agreed : Agreed) (why : Why)
      → ClientAgrees version items agreed → ClientRefuses version items why → ⊥
  agreed_is_taken [] agreed why g refuses = g
  agreed_is_taken (first ∷ []) agreed why g refuses = g
  agreed_is_taken (first ∷ second ∷ items) agreed why g (inl refuses) =
      request_is_taken version first g.0 why g.1 refuses
  agreed_is_taken (first ∷ second ∷ items) agreed why g (inr r) =
      let same = one_request version first r.0 g.0 r.1 g.1 in
      completion_is_taken second why g.3
      (subst (λ session. IsNoCompletion session second why) (ap agreed_session same ∙ g.2) r.2)

  one_refusal : (items : List Item) (v w : Why)
      → ClientRefuses version items v → ClientRefuses version items w → v ≡ w
  one_refusal [] v w a b = absurd a
  one_refusal (first ∷ []) v w a b = one_no_request version first v w a b
  one_refusal (first ∷ second ∷ items) v w (inl a) (inl b) = one_no_request version first v w a b
  one_refusal (first ∷ second ∷ items) v w (inl a) (inr r) =
      absurd (request_is_taken version first r.0 v r.1 a)
  one_refusal (first ∷ second ∷ items) v w (inr q) (inl b) =
      absurd (request_is_taken version first q.0 w q.1 b)
  one_refusal (first ∷ second ∷ items) v w (inr q) (inr r) =
      let same = one_request version first r.0 q.0 r.1 q.1 in
      one_no_completion (agreed_session q.0) second v w q.2
      (subst (λ request. IsNoCompletion (agreed_session request) second w) same r.2)

  still_agreed : (items : List Item) (more : Item) (agreed : Agreed)
      → ClientAgrees version items agreed → ClientAgrees version (items ++ more ∷ []) agreed
  still_agreed [] more agreed g = absurd g
  still_agreed (first ∷ []) more agreed g = absurd g
  still_agreed (first ∷ second ∷ items) more agreed g = g

  not_by_one : (items : List Item) (agreed : Agreed)
      → length items ≡ 1 → ClientAgrees version items agreed → ⊥
  not_by_one [] agreed one g = g
  not_by_one (first ∷ []) agreed one g = g
  not_by_one (first ∷ second ∷ items) agreed one g = omega arith

-- ---- the step

module _ (version : List ℕ) (before : List Item) (item : Item) where
  abbrev Steps : Step → Type 0
  Steps step = IsClientStep version before item step

  put_or_done : (out : Item) (agreed : Agreed) → Steps (Step.Put out) → Steps (Step.Done agreed) → ⊥
  put_or_done out agreed a b = let none = ap length a.0 in let one = b.0 in omega arith

  put_or_pass : (out back : Item) → Steps (Step.Put out) → Steps (Step.Pass back) → ⊥
  put_or_pass out back a b = subst (λ items. ClientAgrees version items b.1.0) a.0 b.1.1

  put_or_refused : (out : Item) (why : Why) → Steps (Step.Put out) → Steps (Step.Refused why) → ⊥
  put_or_refused out why a b =
      request_is_taken version item a.1.0 why a.1.1
      (subst (λ items. ClientRefuses version (items ++ item ∷ []) why) a.0 b)

  done_or_pass : (agreed : Agreed) (back : Item)
      → Steps (Step.Done agreed) → Steps (Step.Pass back) → ⊥
  done_or_pass agreed back a b = not_by_one version before b.1.0 a.0 b.1.1

  done_or_refused : (agreed : Agreed) (why : Why)
      → Steps (Step.Done agreed) → Steps (Step.Refused why) → ⊥
  done_or_refused agreed why a b = agreed_is_taken version (before ++ item ∷ []) agreed why a.1 b

  pass_or_refused : (back : Item) (why : Why)
      → Steps (Step.Pass back) → Steps (Step.Refused why) → ⊥
  pass_or_refused back why a b =
      agreed_is_taken version (before ++ item ∷ []) a.1.0 why
      (still_agreed version before item a.1.0 a.1.1) b

  pub one_step : (a b : Step) → IsAnswered a → IsAnswered b → Steps a → Steps b → a ≡ b
  one_step (Step.Put o) (Step.Put p) x y a b =
      let same = one_request version item a.1.0 b.1.0 a.1.1 b.1.1 in
      ap Step.Put (a.1.2 ∙ ap (response_item version) same ∙ sym b.1.2)
  one_step (Step.Put o) (Step.Done h) x y a b = absurd (put_or_done o h a b)
  one_step (Step.Put o) (Step.Pass l) x y a b = absurd (put_or_pass o l a b)
  one_step (Step.Put o) (Step.Refused w) x y a b = absurd (put_or_refused o w a b)
  one_step (Step.Done g) (Step.Put p) x y a b = absurd (put_or_done p g b a)
  one_step (Step.Done g) (Step.Done h) x y a b =
      ap Step.Done (one_agreed version (before ++ item ∷ []) g h a.1 b.1)
  one_step (Step.Done g) (Step.Pass l) x y a b = absurd (done_or_pass g l a b)
  one_step (Step.Done g) (Step.Refused w) x y a b = absurd (done_or_refused g w a b)
  one_step (Step.Pass k) (Step.Put p) x y a b = absurd (put_or_pass p k b a)
  one_step (Step.Pass k) (Step.Done h) x y a b = absurd (done_or_pass h k b a)
  one_step (Step.Pass k) (Step.Pass l) x y a b = ap Step.Pass (a.0 ∙ sym b.0)
  one_step (Step.Pass k) (Step.Refused w) x y a b = absurd (pass_or_refused k w a b)
  one_step (Step.Refused v) (Step.Put p) x y a b = absurd (put_or_refused p v b a)
  one_step (Step.Refused v) (Step.Done h) x y a b = absurd (done_or_refused h v b a)
  one_step (Step.Refused v) (Step.Pass l) x y a b = absurd (pass_or_refused l v b a)
  one_step (Step.Refused v) (Step.Refused w) x y a b =
      ap Step.Refused (one_refusal version (before ++ item ∷ []) v w a b)
  one_step (Step.Finish o g) b x y a c = absurd a
  one_step a (Step.Finish p h) x y c b = absurd b
  one_step (Step.NoMemory k) b x y a c = absurd x
  one_step a (Step.NoMemory l) x y c b = absurd y
