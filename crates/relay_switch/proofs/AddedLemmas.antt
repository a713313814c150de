-- What is added to the line of each connection at a step.
use Rattle.std.proofs.Common.{◌≡◌, ℕ, ◌+◌, Bool, true, false, cond, nat_eq, nat_lt, Option, Some, None, List, [], ◌∷◌, length, refl, sym, ap, ◌∙◌, arith}
use Rattle.std.proofs.lemmas.Bool.{eqb-true}
use Rattle.relay_core.specs.declared.action.Action.{Action}
use Rattle.relay_core.specs.declared.event.Event.{Event}
use Rattle.relay_core.specs.Forwarding.{actions, peer_of}
use Rattle.relay_core.specs.Rooms.{at}
use Rattle.relay_switch.specs.Lines.{Lines, bytes_in, conn_of, line_in, to_conn}
use Rattle.relay_switch.specs.Steps.{added_by}
use Rattle.relay_switch.specs.Switching.{admitted, is_binary, max_waiting}

cond-nil : (b : Bool) → cond {A = List Action} b [] [] ≡ []
cond-nil true = refl
cond-nil false = refl

to-nil : (c : ℕ) (o q : Bool) (a : Action) → nat_eq (conn_of a) c ≡ q → q ≡ false
    → to_conn c (cond o [] (a ∷ [])) ≡ []
to-nil c true q a is not = refl
to-nil c false q a is not = ap (λ b. cond b (a ∷ []) []) (is ∙ not)

module _ (lines : Lines) where
  abbrev bytes_for : ℕ → ℕ
  bytes_for c = bytes_in (line_in lines c).waiting

  one : (c d : ℕ) (b : List ℕ) (o : Bool) → nat_eq d c ≡ true
      → to_conn c (cond o [] (Action.Send d b ∷ [])) ≡ cond o [] (Action.Send d b ∷ [])
  one c d b true is = refl
  one c d b false is = ap (λ t. cond t (Action.Send d b ∷ []) []) is

  -- one message, for the line of any connection
  sent-admitted : (c d : ℕ) (b : List ℕ) (q : Bool) → nat_eq d c ≡ q
      → to_conn c (cond (nat_lt max_waiting (bytes_for d + length b)) [] (Action.Send d b ∷ []))
      ≡ cond (nat_lt max_waiting (bytes_for c + bytes_in (cond q (Action.Send d b ∷ []) []))) []
      (cond q (Action.Send d b ∷ []) [])
  sent-admitted c d b true is =
      let same : bytes_for d ≡ bytes_for c = ap bytes_for (eqb-true d c is) in
      let bytes : bytes_for d + length b ≡ bytes_for c + (length b + 0) = omega (arith, same) in
      one c d b (nat_lt max_waiting (bytes_for d + length b)) is
      ∙ ap (λ n. cond (nat_lt max_waiting n) [] (Action.Send d b ∷ [])) bytes
  sent-admitted c d b false is =
      to-nil c (nat_lt max_waiting (bytes_for d + length b)) false (Action.Send d b) is refl
      ∙ sym (cond-nil (nat_lt max_waiting (bytes_for c + 0)))

  peer-admitted : (c conn : ℕ) (peer : Option ℕ) (b : List ℕ)
      → to_conn c (added_by true lines (at peer (λ d. Action.Send d b ∷ [])))
      ≡ admitted (Event.Binary conn b) (line_in lines c).waiting
      (to_conn c (at peer (λ d. Action.Send d b ∷ [])))
  peer-admitted c conn None b =
      sym (cond-nil (nat_lt max_waiting (bytes_for c + 0)))
  peer-admitted c conn (Some d) b = sent-admitted c d b (nat_eq d c) refl

  forwards-admitted : (c conn : ℕ) (fits : Bool) (peer : Option ℕ) (b : List ℕ)
      → to_conn c
      (added_by true lines (cond fits (at peer (λ d. Action.Send d b ∷ [])) []))
      ≡ admitted (Event.Binary conn b) (line_in lines c).waiting
      (to_conn c (cond fits (at peer (λ d. Action.Send d b ∷ [])) []))
  forwards-admitted c conn true peer b = peer-admitted c conn peer b
  forwards-admitted c conn false peer b = peer-admitted c conn None b

  -- what is added to the line of a connection is what is admitted there
  pub added-admitted : (c : ℕ) (es : List Event) (e : Event) (id : List ℕ) (now : ℕ)
      → to_conn c (added_by (is_binary e) lines (actions es id now e))
      ≡ admitted e (line_in lines c).waiting (to_conn c (actions es id now e))
  added-admitted c es (Event.Opened conn session role reply) id now = refl
  added-admitted c es (Event.Gone conn) id now = refl
  added-admitted c es (Event.EndSession session) id now = refl
  added-admitted c es (Event.Binary conn b) id now =
      forwards-admitted c conn _ (peer_of es conn) b
