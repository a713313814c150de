-- A feeder of a child's output or errors comes back to the agent's end of a shell session.
use Rattle.std.proofs.Common.{◌≡◌, ℕ, true, cond, Option, Some, None, is_some, ◌⊎◌, inl, inr, ⊎_elim, [], ◌∷◌, ◌++◌, Contains, sym, refl, ap, ◌∙◌, subst, arith, append-nil}
use Rattle.std.proofs.lemmas.Option.{none-some}
use Rattle.std.proofs.lemmas.List.Elements.{All-push, All-weaker}
use Rattle.session_feeds.specs.Sessions.{Account, TakesOut}
use Rattle.session_feeds.specs.declared.feeder.Came.{Came}
use Rattle.shell_session.specs.Agents.{AgentStandsFor, IsBack, IsOfFeeder, ShellAgentState, agent_out, missing}
use Rattle.shell_session.specs.Feeders.{told_of_errors, told_of_output}
use Rattle.shell_session.specs.Readings.{IsReading, Reading, given_before}
use Rattle.shell_session.proofs.AgentLemmas.{of_feeder-more}
use Rattle.shell_session.proofs.BackLemmas.{back_with, child_kept, comes_back, either_mark, errors_parts, fault_kept, kept_among, none_at_23, none_at_two, of_two, other_pieces, out_of, output_parts, session_types, status_back, talk_back}

-- ---- the feeder of the output

module _ (s : ShellAgentState) (r : Reading) (reads : IsReading r)
    (has : Contains (agent_out s) (told_of_output r).mark) where
  output_there : is_some s.child ≡ true
  output_there = (out_of (is_some s.child) (missing 2 s.output ++ missing 23 s.errors) _ has).0

  output_which : (((told_of_output r).mark ≡ 2) × (s.output ≡ None))
      ⊎ (((told_of_output r).mark ≡ 23) × (s.errors ≡ None))
  output_which =
      of_two s.output s.errors _
      (out_of (is_some s.child) (missing 2 s.output ++ missing 23 s.errors) _ has).1

  output_is : ((told_of_output r).mark ≡ 2) × (r.ptype ≡ 1) × (given_before r.first ≡ 0)
  output_is =
      output_parts (told_of_output r).mark r.ptype (given_before r.first) refl reads.short
      (either_mark s.output s.errors _ output_which)

  output_gone : s.output ≡ None
  output_gone = none_at_two s.output s.errors _ output_is.0 output_which

  pub output_back : (a : Account ℕ)
      → AgentStandsFor s a
      → AgentStandsFor (record s { output = Some r }) (back_with r (told_of_output r).mark a)
  output_back a stands =
      let s' : ShellAgentState = record s { output = Some r } in
      let entry : ℕ × Option Came = ((told_of_output r).mark, r.came) in
      let entry_is : entry ≡ (2, r.came) = ap (λ n. (n, r.came)) output_is.0 in
      record {
        fresh = stands.fresh;
        asks = stands.asks;
        agrees = stands.agrees;
        started = stands.started;
        child = child_kept s s' a.taken s.child refl stands.child;
        talk =
            talk_back s r reads output_there s' refl refl refl refl a.given
            (session_types s r reads output_there 1 output_is.1 (inl refl)) stands.talk;
        output =
            comes_back 1 r a.given output_is.1 output_is.2 reads
            (subst (λ o. IsOfFeeder 1 o a.given) output_gone stands.output);
        errors =
            of_feeder-more 11 s.errors a.given r.pieces
            (other_pieces 11 1 r output_is.1 (λ e. omega arith) reads) stands.errors;
        status =
            status_back s r reads output_there a (told_of_output r).mark s' refl refl
            (other_pieces 12 1 r output_is.1 (λ e. omega arith) reads) stands.status;
        back = All-push (IsBack s') a.back entry
            (All-weaker (IsBack s) (IsBack s')
            (λ b is. ⊎_elim (λ old. absurd (none-some old.0 (sym output_gone ∙ old.1)))
            (λ old. inr old) is) a.back stands.back)
            (inl (r, refl, entry_is));
        output_back = (a.back, [], ap (λ e. a.back ++ e ∷ []) entry_is);
        errors_back = kept_among 23 s.errors a.back entry stands.errors_back;
        fault =
            fault_kept s s' a (back_with r entry.0 a) s.refused refl refl refl refl stands.fault;
        counted = stands.counted;
      }

  -- its mark leaves those that are out
  pub output_out : TakesOut (told_of_output r) (agent_out s)
      (agent_out (record s { output = Some r }))
  output_out = (
    [],
    missing 23 s.errors,
    ap (λ b. cond b (missing 2 s.output ++ missing 23 s.errors) []) output_there
        ∙ ap (λ o. missing 2 o ++ missing 23 s.errors) output_gone
        ∙ ap (λ n. n ∷ missing 23 s.errors) (sym output_is.0),
    ap (λ b. cond b (missing 23 s.errors) []) output_there ∙ sym (append-nil (missing 23 s.errors)),
  )

-- ---- the feeder of the errors

module _ (s : ShellAgentState) (r : Reading) (reads : IsReading r)
    (has : Contains (agent_out s) (told_of_errors r).mark) where
  errors_there : is_some s.child ≡ true
  errors_there = (out_of (is_some s.child) (missing 2 s.output ++ missing 23 s.errors) _ has).0

  errors_which : (((told_of_errors r).mark ≡ 2) × (s.output ≡ None))
      ⊎ (((told_of_errors r).mark ≡ 23) × (s.errors ≡ None))
  errors_which =
      of_two s.output s.errors _
      (out_of (is_some s.child) (missing 2 s.output ++ missing 23 s.errors) _ has).1

  errors_is : ((told_of_errors r).mark ≡ 23) × (r.ptype ≡ 11) × (given_before r.first ≡ 0)
  errors_is =
      errors_parts (told_of_errors r).mark r.ptype (given_before r.first) refl reads.short
      (either_mark s.output s.errors _ errors_which)

  errors_gone : s.errors ≡ None
  errors_gone = none_at_23 s.output s.errors _ errors_is.0 errors_which

  pub errors_back : (a : Account ℕ)
      → AgentStandsFor s a
      → AgentStandsFor (record s { errors = Some r }) (back_with r (told_of_errors r).mark a)
  errors_back a stands =
      let s' : ShellAgentState = record s { errors = Some r } in
      let entry : ℕ × Option Came = ((told_of_errors r).mark, r.came) in
      let entry_is : entry ≡ (23, r.came) = ap (λ n. (n, r.came)) errors_is.0 in
      record {
        fresh = stands.fresh;
        asks = stands.asks;
        agrees = stands.agrees;
        started = stands.started;
        child = child_kept s s' a.taken s.child refl stands.child;
        talk =
            talk_back s r reads errors_there s' refl refl refl refl a.given
            (session_types s r reads errors_there 11 errors_is.1 (inr refl)) stands.talk;
        output =
            of_feeder-more 1 s.output a.given r.pieces
            (other_pieces 1 11 r errors_is.1 (λ e. omega arith) reads) stands.output;
        errors =
            comes_back 11 r a.given errors_is.1 errors_is.2 reads
            (subst (λ o. IsOfFeeder 11 o a.given) errors_gone stands.errors);
        status =
            status_back s r reads errors_there a (told_of_errors r).mark s' refl refl
            (other_pieces 12 11 r errors_is.1 (λ e. omega arith) reads) stands.status;
        back = All-push (IsBack s') a.back entry
            (All-weaker (IsBack s) (IsBack s')
            (λ b is. ⊎_elim (λ old. inl old)
            (λ old. absurd (none-some old.0 (sym errors_gone ∙ old.1))) is) a.back stands.back)
            (inr (r, refl, entry_is));
        output_back = kept_among 2 s.output a.back entry stands.output_back;
        errors_back = (a.back, [], ap (λ e. a.back ++ e ∷ []) entry_is);
        fault =
            fault_kept s s' a (back_with r entry.0 a) s.refused refl refl refl refl stands.fault;
        counted = stands.counted;
      }

  pub errors_out : TakesOut (told_of_errors r) (agent_out s)
      (agent_out (record s { errors = Some r }))
  errors_out = (
    missing 2 s.output,
    [],
    ap (λ b. cond b (missing 2 s.output ++ missing 23 s.errors) []) errors_there
        ∙ ap (λ o. missing 2 s.output ++ missing 23 o) errors_gone
        ∙ ap (λ n. missing 2 s.output ++ n ∷ []) (sym errors_is.0),
    ap (λ b. cond b (missing 2 s.output ++ []) []) errors_there
        ∙ sym (append-nil (missing 2 s.output ++ [])),
  )
