-- One parcel at the agent's end of a shell session while the child runs.
use Rattle.std.proofs.Common.{◌≡◌, ◌≢◌, ◌<◌, ℕ, ◌+◌, ◌-◌, Bool, true, false, cond, ◌&&◌, ◌==◌, Some, None, IfSome, Result, Ok, Err, ◌⊎◌, inl, inr, ⊎_elim, List, [], ◌∷◌, ◌++◌, sym, refl, ap, ◌∙◌, subst, arith, append-nil, true≢false}
use Rattle.std.proofs.lemmas.Bool.{false≢true}
use Rattle.std.proofs.lemmas.Bool.Decides.{nat_tests}
use Rattle.std.proofs.lemmas.Option.{none-some, same_Some}
use Rattle.std.proofs.lemmas.List.Elements.{All-cons, All-nil}
use Rattle.chan_io.specs.Faults.{Rises}
use Rattle.chan_values.specs.declared.item.Item.{Item}
use Rattle.handshake.specs.Agent.{AgentAgrees}
use Rattle.session_feeds.specs.Sessions.{Account, puts_in, refusal_in}
use Rattle.session_feeds.specs.declared.session.SessionFault.{SessionFault}
use Rattle.session_feeds.specs.declared.session.Verdict.{Verdict}
use Rattle.session_run.specs.declared.parcel.Parcel.{Parcel}
use Rattle.shell_session.specs.AgentSteps.{Runs, RunsOut, taking}
use Rattle.shell_session.specs.Agents.{AgentStandsFor, GaveNoStatus, GaveStatus, IsAgentFault, IsChild, IsOfFeeder, IsTalk, ShellAgentState}
use Rattle.shell_session.specs.Children.{ChildState, SameEnd, TookInput}
use Rattle.shell_session.specs.Items.{exit_item}
use Rattle.shell_session.specs.Parcels.{arrived, behind_first, is_over, overs}
use Rattle.shell_session.specs.Verdicts.{AsksNothing}
use Rattle.shell_session.proofs.ParcelLemmas.{agrees-more, arrived-append, behind-more, of_type-append, overs-more}
use Rattle.shell_session.proofs.AgentLemmas.{IsSessionType, of_feeder-more, rises_on, talk-more, waited}

-- ---- a parcel while the child runs

-- the counts of the outputs that are still fed, where the parcel does not tell of the last
counts_on : (feeding before one after : ℕ) (over : Bool)
    → feeding ≡ 2 - before
    → before < 2
    → one ≡ cond over 1 0
    → after ≡ before + one
    → (over && (feeding == 1)) ≡ false
    → after < 2
counts_on feeding before one after false f b o a last = omega arith
counts_on feeding before one after true f b o a last =
    let ne : feeding ≢ 1 = λ e. false≢true (sym last ∙ ap (λ n. n == 1) e) in omega arith

-- and where it does
counts_out : (feeding before one after : ℕ) (over : Bool)
    → feeding ≡ 2 - before
    → one ≡ cond over 1 0
    → after ≡ before + one
    → (over && (feeding == 1)) ≡ true
    → (before ≡ 1) × (after ≡ 2)
counts_out feeding before one after false f o a last = absurd (false≢true last)
counts_out feeding before one after true f o a last =
    let one_left : feeding ≡ 1 = grind (arith, nat_tests) in (omega arith, omega arith)

overs_one : (p : Parcel) → overs (p ∷ []) ≡ cond (is_over p) 1 0
overs_one (Parcel.Arrived item) = refl
overs_one Parcel.Finished = refl
overs_one Parcel.Over = refl

-- how the given items and the child look behind a parcel
abbrev pub ran : {F : Type 0}
    → ShellAgentState
    → ChildState
    → Result (Verdict F) SessionFault
    → ShellAgentState
ran s c result = record s { child = Some c; refused = refusal_in result }

-- what a session gives as a child goes on is nothing, and at its end the item of its status
no_items : {F : Type 0} (verdict : Verdict F)
    → AsksNothing verdict
    → (given : List Item)
    → given ++ verdict.puts ≡ given
no_items verdict asks given = ap (λ l. given ++ l) asks.puts ∙ append-nil given

module _ {F : Type 0} (p : Parcel) (s : ShellAgentState) (a : Account ℕ) (c c' : ChildState)
    (result : Result (Verdict F) SessionFault)
    (there : s.child ≡ Some c) (begun : s.begun ≡ true) (on : s.refused ≡ None)
    (stands : AgentStandsFor s a) (runs : Runs p c result c') where
  is_child : IsChild s a.taken c
  is_child = subst (λ o. IfSome o (IsChild s a.taken)) there stands.child

  behind : behind_first (a.taken ++ p ∷ []) ≡ behind_first a.taken ++ p ∷ []
  behind = behind-more a.taken (p ∷ []) (stands.agrees is_child.agreed)

  overs_behind :
      overs (behind_first (a.taken ++ p ∷ []))
      ≡ overs (behind_first a.taken) + overs (p ∷ [])
  overs_behind = ap overs behind ∙ overs-more (behind_first a.taken) (p ∷ [])

  child_ran : IsChild (ran s c' result) (a.taken ++ p ∷ []) c'
  child_ran = record {
    agreed = is_child.agreed;
    input =
        subst (λ ps. TookInput ps c') (sym behind)
        (runs.input (behind_first a.taken) is_child.input);
    feeding =
        let f = runs.feeding in let g = is_child.feeding in let o = overs_behind in omega arith;
  }

  -- the account behind a call that gave these items, and was refused or not
  stands_ran : (given : List Item)
      → IsTalk (ran s c' result) given
      → IsOfFeeder 1 s.output given
      → IsOfFeeder 11 s.errors given
      → GaveNoStatus (ran s c' result) (record a { taken = a.taken ++ p ∷ []; given = given })
      ⊎ GaveStatus (ran s c' result) (record a { taken = a.taken ++ p ∷ []; given = given })
      → IfSome (refusal_in result)
      (λ fault. IsAgentFault fault (ran s c' result)
      (record a { taken = a.taken ++ p ∷ []; given = given }))
      → AgentStandsFor (ran s c' result) (record a { taken = a.taken ++ p ∷ []; given = given })
  stands_ran given talk output errors status fault = record {
    fresh = λ none. absurd (true≢false (sym begun ∙ none));
    asks = λ b r no. absurd (true≢false (sym is_child.agreed ∙ no));
    agrees =
        λ yes. subst AgentAgrees (sym (arrived-append a.taken (p ∷ [])))
        (agrees-more (arrived a.taken) (arrived (p ∷ [])) (stands.agrees yes));
    started = λ r. sym is_child.agreed;
    child = child_ran;
    talk = talk;
    output = output;
    errors = errors;
    status = status;
    back = stands.back;
    output_back = stands.output_back;
    errors_back = stands.errors_back;
    fault = fault;
    counted = stands.counted;
  }

  -- the child goes on
  goes_on : (verdict : Verdict F)
      → result ≡ Ok verdict
      → AsksNothing verdict
      → (is_over p && (c.feeding == 1)) ≡ false
      → SameEnd c c'
      → AgentStandsFor (ran s c' result) (taking p result a)
  goes_on verdict ok asks last end =
      let given_is : a.given ++ puts_in result ≡ a.given = ap (λ r. a.given ++ puts_in r) ok
      ∙ no_items verdict asks a.given in
      let refused_is : refusal_in result ≡ None = ap (λ r. refusal_in r) ok in
      subst (λ given. AgentStandsFor (ran s c' result)
      (record a { taken = a.taken ++ p ∷ []; given = given })) (sym given_is)
      (stands_ran a.given
      (subst (IsTalk (ran s c' result)) (append-nil a.given)
      (talk-more s (ran s c' result) a.given [] on refl refl refl
      (All-nil IsSessionType) stands.talk))
      stands.output stands.errors
      (⊎_elim
      (λ (no : GaveNoStatus s a). inl (record {
        items = no.items;
        early =
            λ _. counts_on c.feeding (overs (behind_first a.taken)) (overs (p ∷ [])) _
            (is_over p) is_child.feeding (no.early on) (overs_one p) overs_behind last;
        unasked =
            λ _. subst (λ o. IfSome o (λ statuses. statuses ≡ [])) (sym end.0)
            (subst (λ o. IfSome o
            (λ (d : ChildState). IfSome d.statuses (λ statuses. statuses ≡ []))) there
            (no.unasked on));
      }))
      (λ (gave : GaveStatus s a).
      let same : gave.child ≡ c = same_Some gave.child c (sym gave.is ∙ there) in
      inr (record {
        status = gave.status;
        items = gave.items;
        child = c';
        is = refl;
        answered =
            subst (λ o. IfSome o (λ statuses. statuses ≡ gave.status ∷ [])) (sym end.0)
            (subst (λ (d : ChildState). IfSome d.statuses
            (λ statuses. statuses ≡ gave.status ∷ [])) same gave.answered);
        ends = let e = gave.ends in let o = overs_behind in omega arith;
      }))
      stands.status)
      (subst (λ o. IfSome o
      (λ fault. IsAgentFault fault (ran s c' result)
      (record a { taken = a.taken ++ p ∷ []; given = a.given }))) (sym refused_is) tt))

  -- behind the last of its outputs nothing was given before
  module _ (last : (is_over p && (c.feeding == 1)) ≡ true) where
    counted_out : (overs (behind_first a.taken) ≡ 1)
        × (overs (behind_first (a.taken ++ p ∷ [])) ≡ 2)
    counted_out =
        counts_out c.feeding (overs (behind_first a.taken)) (overs (p ∷ [])) _
        (is_over p) is_child.feeding (overs_one p) overs_behind last

    gave_none : GaveNoStatus s a
    gave_none =
        ⊎_elim (λ (no : GaveNoStatus s a). no)
        (λ (gave : GaveStatus s a). absurd
        (let e = gave.ends in let o = counted_out.0 in omega arith)) stands.status

    -- it ends with its status
    ends_with : (verdict : Verdict F)
        → result ≡ Ok verdict
        → RunsOut c (Ok verdict) c'
        → AgentStandsFor (ran s c' result) (taking p result a)
    ends_with verdict ok out =
        let item = exit_item out.0 in
        let given_is : a.given ++ puts_in result ≡ a.given ++ item ∷ [] = ap
        (λ r. a.given ++ puts_in r) ok ∙ ap (λ l. a.given ++ l) out.1.puts in
        let refused_is : refusal_in result ≡ None = ap (λ r. refusal_in r) ok in
        subst (λ given. AgentStandsFor (ran s c' result)
        (record a { taken = a.taken ++ p ∷ []; given = given })) (sym given_is)
        (stands_ran (a.given ++ item ∷ [])
        (talk-more s (ran s c' result) a.given (item ∷ []) on refl refl refl
        (All-cons IsSessionType item [] (inr (inr refl)) (All-nil IsSessionType)) stands.talk)
        (of_feeder-more 1 s.output a.given (item ∷ []) refl stands.output)
        (of_feeder-more 11 s.errors a.given (item ∷ []) refl stands.errors)
        (inr (record {
          status = out.0;
          items = of_type-append 12 a.given (item ∷ []) ∙ ap (λ l. l ++ item ∷ []) gave_none.items;
          child = c';
          is = refl;
          answered =
              waited c.statuses c'.statuses out.0
              (subst (λ o. IfSome o
              (λ (d : ChildState). IfSome d.statuses (λ statuses. statuses ≡ []))) there
              (gave_none.unasked on)) out.3;
          ends = let o = counted_out.1 in omega arith;
        }))
        (subst (λ o. IfSome o
        (λ fault. IsAgentFault fault (ran s c' result)
        (record a { taken = a.taken ++ p ∷ []; given = a.given ++ item ∷ [] })))
        (sym refused_is) tt))

    -- or is refused
    refused_with : (fault : SessionFault)
        → result ≡ Err fault
        → IsAgentFault fault (ran s c' result) (record a { taken = a.taken ++ p ∷ [] })
        → AgentStandsFor (ran s c' result) (taking p result a)
    refused_with fault err cause =
        let given_is : a.given ++ puts_in result ≡ a.given = ap (λ r. a.given ++ puts_in r) err
        ∙ append-nil a.given in
        let refused_is : refusal_in result ≡ Some fault = ap (λ r. refusal_in r) err in
        subst (λ given. AgentStandsFor (ran s c' result)
        (record a { taken = a.taken ++ p ∷ []; given = given })) (sym given_is)
        (stands_ran a.given
        (subst (IsTalk (ran s c' result)) (append-nil a.given)
        (talk-more s (ran s c' result) a.given [] on refl refl refl
        (All-nil IsSessionType) stands.talk))
        stands.output stands.errors
        (inl (record {
          items = gave_none.items;
          early = λ none. absurd (none-some fault (sym none ∙ refused_is));
          unasked = λ none. absurd (none-some fault (sym none ∙ refused_is));
        }))
        (subst (λ o. IfSome o
        (λ f. IsAgentFault f (ran s c' result)
        (record a { taken = a.taken ++ p ∷ []; given = a.given }))) (sym refused_is) cause))

    child_raised : Rises c.end_faults c'.end_faults
        → IsAgentFault SessionFault.Child (ran s c' result) (record a { taken = a.taken ++ p ∷ [] })
    child_raised rises = (c', refl, rises_on 0 c.end_faults c'.end_faults (omega arith) rises)

  -- whatever the child does
  pub runs_out_stands : (r : Result (Verdict F) SessionFault)
      → result ≡ r
      → (is_over p && (c.feeding == 1)) ≡ true
      → RunsOut c r c'
      → AgentStandsFor (ran s c' result) (taking p result a)
  runs_out_stands (Ok verdict) is last out = ends_with last verdict is out
  runs_out_stands (Err SessionFault.Child) is last out =
      refused_with last SessionFault.Child is (child_raised last out)
  runs_out_stands (Err SessionFault.NoMemory) is last out =
      refused_with last SessionFault.NoMemory is tt
  runs_out_stands (Err (SessionFault.Handshake why)) is last out = absurd out
  runs_out_stands (Err SessionFault.Start) is last out = absurd out
  runs_out_stands (Err SessionFault.Port) is last out = absurd out
  runs_out_stands (Err SessionFault.Write) is last out = absurd out
  runs_out_stands (Err (SessionFault.Frames at')) is last out = absurd out

  pub runs_stands : AgentStandsFor (ran s c' result) (taking p result a)
  runs_stands =
      ⊎_elim (λ g. goes_on g.2.0 g.2.1 g.2.2 g.0 g.1)
      (λ g. runs_out_stands result refl g.0 g.1) runs.goes
