-- The agent's end of a shell session asks for the session.
use Rattle.std.proofs.Common.{◌≡◌, ◌<◌, ℕ, true, false, Option, Some, None, IfSome, is_some, Result, Ok, Err, inl, ⊎_elim, List, [], ◌∷◌, ◌++◌, take, sym, refl, ap, ◌∙◌, subst, arith, append-nil, true≢false}
use Rattle.std.proofs.lemmas.Option.{none-some}
use Rattle.std.proofs.lemmas.List.Elements.{All-nil}
use Rattle.chan_values.specs.declared.item.Item.{Item}
use Rattle.handshake.specs.AgentState.{Asks as AsksFor}
use Rattle.handshake.specs.Items.{completion_item, request_item}
use Rattle.handshake.specs.declared.agent.AgentStage.{AgentStage}
use Rattle.session_feeds.specs.Sessions.{Account, puts_in, refusal_in}
use Rattle.session_feeds.specs.declared.session.SessionFault.{SessionFault}
use Rattle.session_feeds.specs.declared.session.Verdict.{Verdict}
use Rattle.shell_session.specs.AgentSteps.{Begins}
use Rattle.shell_session.specs.Agents.{AgentStandsFor, GaveNoStatus, GaveStatus, IsChild, IsOfFeeder, IsTalk, ShellAgentState, standard, steps_made}
use Rattle.shell_session.specs.Children.{ChildState}
use Rattle.shell_session.specs.Items.{of_type}
use Rattle.shell_session.specs.Parcels.{arrived, behind_first, overs}
use Rattle.shell_session.proofs.AgentLemmas.{IsSessionType, of_feeder-more}
use Rattle.shell_session.proofs.ParcelLemmas.{of_type-append}

-- the session is asked for
module _ (s : ShellAgentState) (a : Account ℕ) (stage : AgentStage) (fresh : s.begun ≡ false)
    (stands : AgentStandsFor s a) where
  abbrev pub begun_as : Option SessionFault → ShellAgentState
  begun_as refused = record s { stage = stage; begun = true; refused = refused }

  no_child : is_some s.child ≡ false
  no_child = stands.started (stands.fresh fresh).2 ∙ (stands.fresh fresh).1

  is_none : (o : Option ChildState) → is_some o ≡ false → o ≡ None
  is_none None none' = refl
  is_none (Some c) none' = absurd (true≢false none')

  none : s.child ≡ None
  none = is_none s.child no_child

  given_none : (request : List Item) → a.given ++ request ≡ request
  given_none request =
      ap (λ l. l ++ request) (stands.talk.items
      ∙ ap (λ n. take n
      (request_item standard ∷ completion_item stands.talk.asked
      stands.talk.now ∷ []) ++ stands.talk.rest)
      (stands.talk.exact (stands.fresh fresh).2 ∙ ap (λ b. steps_made b s.agreed) fresh)
      ∙ stands.talk.early none)

  no_status_before : of_type 12 a.given ≡ []
  no_status_before =
      ⊎_elim (λ (no : GaveNoStatus s a). no.items)
      (λ (gave : GaveStatus s a). absurd (none-some gave.child (sym none ∙ gave.is))) stands.status

  pub asked_stands : (now : ℕ) (item : Item)
      → AsksFor standard now item stage
      → AgentStandsFor (begun_as None) (record a { given = a.given ++ item ∷ [] })
  asked_stands now item asks = record {
    fresh = λ no. absurd (true≢false no);
    asks = λ b r no. (ap (λ l. arrived l) (stands.fresh fresh).3, (now, asks.stands));
    agrees = λ yes. absurd (true≢false (sym yes ∙ (stands.fresh fresh).1));
    started = λ r. stands.started (stands.fresh fresh).2;
    child = subst (λ o. IfSome o (IsChild (begun_as None) a.taken)) (sym none) tt;
    talk = record {
      steps = 1;
      asked = 0;
      now = 0;
      rest = [];
      items = given_none (item ∷ []) ∙ ap (λ i. i ∷ []) asks.request;
      exact = λ r. ap (λ b. steps_made true b) (sym (stands.fresh fresh).1);
      early = λ no. refl;
      session = All-nil IsSessionType;
    };
    output =
        of_feeder-more 1 s.output a.given (item ∷ [])
        (ap (λ (i : Item). of_type 1 (i ∷ [])) asks.request) stands.output;
    errors =
        of_feeder-more 11 s.errors a.given (item ∷ [])
        (ap (λ (i : Item). of_type 11 (i ∷ [])) asks.request) stands.errors;
    status = inl (record {
      items =
          of_type-append 12 a.given (item ∷ [])
          ∙ ap (λ l. l ++ of_type 12 (item ∷ [])) no_status_before
          ∙ ap (λ (i : Item). of_type 12 (i ∷ [])) asks.request;
      early =
          λ r. subst (λ ps. overs (behind_first ps) < 2) (sym (stands.fresh fresh).3) (omega arith);
      unasked =
          λ r. subst
          (λ o. IfSome o (λ (c : ChildState). IfSome c.statuses (λ statuses. statuses ≡ [])))
          (sym none) tt;
    });
    back = stands.back;
    output_back = stands.output_back;
    errors_back = stands.errors_back;
    fault = tt;
    counted = stands.counted;
  }

  pub unasked_stands : AgentStandsFor (begun_as (Some SessionFault.NoMemory))
      (record a { given = a.given ++ [] })
  unasked_stands =
      let s' = begun_as (Some SessionFault.NoMemory) in
      let given_is : a.given ++ [] ≡ a.given = append-nil a.given in
      record {
        fresh = λ no. absurd (true≢false no);
        asks = λ b r no. absurd (none-some SessionFault.NoMemory (sym r));
        agrees = λ yes. absurd (true≢false (sym yes ∙ (stands.fresh fresh).1));
        started = λ r. absurd (none-some SessionFault.NoMemory (sym r));
        child = subst (λ o. IfSome o (IsChild s' a.taken)) (sym none) tt;
        talk = subst (λ l. IsTalk s' l) (sym given_is) (record {
          steps = stands.talk.steps;
          asked = stands.talk.asked;
          now = stands.talk.now;
          rest = stands.talk.rest;
          items = stands.talk.items;
          exact = λ r. absurd (none-some SessionFault.NoMemory (sym r));
          early = stands.talk.early;
          session = stands.talk.session;
        });
        output = subst (λ l. IsOfFeeder 1 s.output l) (sym given_is) stands.output;
        errors = subst (λ l. IsOfFeeder 11 s.errors l) (sym given_is) stands.errors;
        status = inl (record {
          items = ap (λ l. of_type 12 l) given_is ∙ no_status_before;
          early = λ r. absurd (none-some SessionFault.NoMemory (sym r));
          unasked = λ r. absurd (none-some SessionFault.NoMemory (sym r));
        });
        back = stands.back;
        output_back = stands.output_back;
        errors_back = stands.errors_back;
        fault = tt;
        counted = stands.counted;
      }

-- the session is asked for, or memory was wanted
pub begins_stands : {F : Type 0} (s : ShellAgentState) (a : Account ℕ) (stage : AgentStage)
    (now : ℕ) (result : Result (Verdict F) SessionFault)
    → s.begun ≡ false
    → Begins now s.stage result stage
    → AgentStandsFor s a
    → AgentStandsFor (record s { stage = stage; begun = true; refused = refusal_in result })
    (record a { taken = a.taken ++ []; given = a.given ++ puts_in result })
begins_stands s a stage now (Ok verdict) fresh begins stands =
    subst (λ l. AgentStandsFor (record s { stage = stage; begun = true; refused = None })
    (record a { taken = l; given = a.given ++ verdict.puts })) (sym (append-nil a.taken))
    (subst (λ l. AgentStandsFor (record s { stage = stage; begun = true; refused = None })
    (record a { given = a.given ++ l })) (sym begins.1.puts)
    (asked_stands s a stage fresh stands now begins.0 (begins.4 standard (stands.fresh fresh).0)))
begins_stands s a stage now (Err SessionFault.NoMemory) fresh begins stands =
    subst (λ l. AgentStandsFor
    (record s { stage = stage; begun = true; refused = Some SessionFault.NoMemory })
    (record a { taken = l; given = a.given ++ [] })) (sym (append-nil a.taken))
    (unasked_stands s a stage fresh stands)
begins_stands s a stage now (Err (SessionFault.Handshake why)) fresh begins stands = absurd begins
begins_stands s a stage now (Err SessionFault.Start) fresh begins stands = absurd begins
begins_stands s a stage now (Err SessionFault.Child) fresh begins stands = absurd begins
begins_stands s a stage now (Err SessionFault.Port) fresh begins stands = absurd begins
begins_stands s a stage now (Err SessionFault.Write) fresh begins stands = absurd begins
begins_stands s a stage now (Err (SessionFault.Frames n)) fresh begins stands = absurd begins
