-- What the agent's end of a shell session stands for while no child was started.
use Rattle.std.proofs.Common.{◌≡◌, ◌<◌, ◌≤◌, ℕ, ◌-◌, Bool, true, false, Option, Some, None, IfSome, is_some, inl, ⊎_elim, List, [], ◌∷◌, ◌++◌, take, sym, refl, ap, ◌∙◌, subst, arith, append-nil, true≢false}
use Rattle.std.specs.List.{cons_option}
use Rattle.std.proofs.lemmas.Option.{none-some}
use Rattle.std.proofs.lemmas.List.Elements.{All-nil}
use Rattle.chan_ports.specs.Fresh.{IsUnwaited, IsUnwritten}
use Rattle.chan_values.specs.declared.item.Item.{Item}
use Rattle.handshake.specs.Agent.{AgentAgrees, IsConsent}
use Rattle.handshake.specs.AgentState.{AgentStands}
use Rattle.handshake.specs.Items.{completion_item, request_item}
use Rattle.handshake.specs.declared.agent.AgentStage.{AgentStage}
use Rattle.session_feeds.specs.Sessions.{Account}
use Rattle.session_feeds.specs.declared.session.SessionFault.{SessionFault}
use Rattle.session_run.specs.declared.parcel.Parcel.{Parcel}
use Rattle.shell_session.specs.Agents.{AgentStandsFor, GaveNoStatus, GaveStatus, IsAgentFault, IsChild, IsOfFeeder, IsTalk, ShellAgentState, standard, steps_made}
use Rattle.shell_session.specs.Children.{ChildState, TookInput}
use Rattle.shell_session.specs.Items.{of_type}
use Rattle.shell_session.specs.Parcels.{arrival, arrived, behind_first, overs}
use Rattle.shell_session.proofs.AgentLemmas.{IsSessionType, of_feeder-more}
use Rattle.shell_session.proofs.ParcelLemmas.{arrived-append, behind-first, behind-none, of_type-append}

-- the end once it has gone on so far
abbrev pub gone : ShellAgentState
    → AgentStage
    → Bool
    → ℕ
    → Option ChildState
    → Option SessionFault
    → ShellAgentState
gone s stage agreed faults child refused = record s {
  stage = stage;
  agreed = agreed;
  starter_faults = faults;
  child = child;
  refused = refused;
}

-- the account with this parcel and these items
abbrev pub behind : Account ℕ → Parcel → List Item → Account ℕ
behind a p items = record a { taken = a.taken ++ p ∷ []; given = a.given ++ items }

arrived_one : (p : Parcel) → arrival p ≡ None → arrived (p ∷ []) ≡ []
arrived_one p away = ap (λ o. cons_option o []) away

module _ (p : Parcel) (s : ShellAgentState) (a : Account ℕ) (begun : s.begun ≡ true)
    (on : s.refused ≡ None)
    (none : s.child ≡ None) (stands : AgentStandsFor s a) where
  pub not_agreed : s.agreed ≡ false
  not_agreed = sym (stands.started on) ∙ ap (λ o. is_some o) none

  pub nothing_arrived : arrived a.taken ≡ []
  nothing_arrived = (stands.asks begun on not_agreed).0

  pub asked : (asked : ℕ) × AgentStands standard asked s.stage []
  asked = (stands.asks begun on not_agreed).1

  -- no status was given, since no output of a child has ended
  pub no_status : of_type 12 a.given ≡ []
  no_status =
      ⊎_elim (λ (no : GaveNoStatus s a). no.items)
      (λ (gave : GaveStatus s a). absurd (none-some gave.child (sym none ∙ gave.is))) stands.status

  -- it goes on without a child
  pub passes_stands : arrival p ≡ None
      → AgentStandsFor (gone s s.stage s.agreed s.starter_faults s.child None) (behind a p [])
  passes_stands away =
      let same : arrived (a.taken ++ p ∷ []) ≡ [] = arrived-append a.taken (p ∷ [])
      ∙ ap (λ l. l ++ arrived (p ∷ [])) nothing_arrived ∙ arrived_one p away in
      let s' = gone s s.stage s.agreed s.starter_faults s.child None in
      let given_is : a.given ++ [] ≡ a.given = append-nil a.given in
      record {
        fresh = λ no. absurd (true≢false (sym begun ∙ no));
        asks = λ b r no. (same, asked);
        agrees = λ yes. absurd (true≢false (sym yes ∙ not_agreed));
        started = λ r. stands.started on;
        child = subst (λ o. IfSome o (IsChild s' (a.taken ++ p ∷ []))) (sym none) tt;
        talk = subst (λ l. IsTalk s' l) (sym given_is) (record {
          steps = stands.talk.steps;
          asked = stands.talk.asked;
          now = stands.talk.now;
          rest = stands.talk.rest;
          items = stands.talk.items;
          exact = λ r. stands.talk.exact on;
          early = stands.talk.early;
          session = stands.talk.session;
        });
        output = subst (λ l. IsOfFeeder 1 s.output l) (sym given_is) stands.output;
        errors = subst (λ l. IsOfFeeder 11 s.errors l) (sym given_is) stands.errors;
        status = inl (record {
          items = ap (λ l. of_type 12 l) given_is ∙ no_status;
          early =
              λ r. subst (λ ps. overs ps < 2) (sym (behind-none (a.taken ++ p ∷ []) same))
              (omega arith);
          unasked =
              λ r. subst
              (λ o. IfSome o (λ (c : ChildState). IfSome c.statuses (λ statuses. statuses ≡ [])))
              (sym none) tt;
        });
        back = stands.back;
        output_back = stands.output_back;
        errors_back = stands.errors_back;
        fault = tt;
        counted = stands.counted;
      }

  -- it is refused
  pub refusal_stands : (stage : AgentStage) (agreed : Bool) (faults : ℕ) (fault : SessionFault)
      → (agreed ≡ true → AgentAgrees (arrived (a.taken ++ p ∷ [])))
      → IsAgentFault fault (gone s stage agreed faults s.child (Some fault)) (behind a p [])
      → s.starter_faults ≤ faults
      → AgentStandsFor (gone s stage agreed faults s.child (Some fault)) (behind a p [])
  refusal_stands stage agreed faults fault agrees cause more =
      let s' = gone s stage agreed faults s.child (Some fault) in
      let given_is : a.given ++ [] ≡ a.given = append-nil a.given in
      record {
        fresh = λ no. absurd (true≢false (sym begun ∙ no));
        asks = λ b r no. absurd (none-some fault (sym r));
        agrees = agrees;
        started = λ r. absurd (none-some fault (sym r));
        child = subst (λ o. IfSome o (IsChild s' (a.taken ++ p ∷ []))) (sym none) tt;
        talk = subst (λ l. IsTalk s' l) (sym given_is) (record {
          steps = stands.talk.steps;
          asked = stands.talk.asked;
          now = stands.talk.now;
          rest = stands.talk.rest;
          items = stands.talk.items;
          exact = λ r. absurd (none-some fault (sym r));
          early = stands.talk.early;
          session = stands.talk.session;
        });
        output = subst (λ l. IsOfFeeder 1 s.output l) (sym given_is) stands.output;
        errors = subst (λ l. IsOfFeeder 11 s.errors l) (sym given_is) stands.errors;
        status = inl (record {
          items = ap (λ l. of_type 12 l) given_is ∙ no_status;
          early = λ r. absurd (none-some fault (sym r));
          unasked = λ r. absurd (none-some fault (sym r));
        });
        back = stands.back;
        output_back = stands.output_back;
        errors_back = stands.errors_back;
        fault = cause;
        counted = let h = stands.counted in omega arith;
      }

-- an item was the first
pub one_arrived : (s : ShellAgentState) (a : Account ℕ) (item : Item)
    → arrived a.taken ≡ []
    → arrived (a.taken ++ Parcel.Arrived item ∷ []) ≡ item ∷ []
one_arrived s a item none =
    arrived-append a.taken (Parcel.Arrived item ∷ []) ∙ ap (λ l. l ++ item ∷ []) none

-- what a child's start does
module _ (item : Item) (s : ShellAgentState) (a : Account ℕ) (stage : AgentStage)
    (c : ChildState) (completion : Item) (moment now : ℕ)
    (begun : s.begun ≡ true) (on : s.refused ≡ None) (none : s.child ≡ None)
    (stands : AgentStandsFor s a)
    (consent : IsConsent item) (is : completion ≡ completion_item moment now)
    (stdin : IsUnwritten c.stdin c.stdin_faults) (end : IsUnwaited c.statuses c.end_faults)
    (over : c.over ≡ false) (feeding : c.feeding ≡ 2) where
  abbrev p : Parcel
  p = Parcel.Arrived item

  abbrev pub started : ShellAgentState
  started = gone s stage true s.starter_faults (Some c) None

  empty : arrived a.taken ≡ []
  empty = nothing_arrived p s a begun on none stands

  behind_is : behind_first (a.taken ++ p ∷ []) ≡ []
  behind_is = behind-first a.taken item empty

  talk_started : IsTalk started (a.given ++ completion ∷ [])
  talk_started =
      let steps_are : stands.talk.steps ≡ 1 = stands.talk.exact on
      ∙ ap (λ b. steps_made b s.agreed) begun
      ∙ ap (λ b. steps_made true b) (not_agreed p s a begun on none stands) in
      record {
        steps = 2;
        asked = moment;
        now = now;
        rest = [];
        items =
            ap (λ l. l ++ completion ∷ []) (stands.talk.items
            ∙ ap (λ n. take n
            (request_item standard ∷ completion_item stands.talk.asked
            stands.talk.now ∷ []) ++ stands.talk.rest) steps_are
            ∙ ap (λ l. (request_item standard ∷ []) ++ l) (stands.talk.early none))
            ∙ ap (λ i. request_item standard ∷ i ∷ []) is;
        exact = λ r. ap (λ b. steps_made b true) (sym begun);
        early = λ no. absurd (none-some c (sym no));
        session = All-nil IsSessionType;
      }

  pub started_stands : AgentStandsFor started (behind a p (completion ∷ []))
  started_stands =
      let type_is : completion.ptype ≡ 7 = ap (λ (i : Item). i.ptype) is in
      record {
        fresh = λ no. absurd (true≢false (sym begun ∙ no));
        asks = λ b r no. absurd (true≢false no);
        agrees = λ yes. subst AgentAgrees (sym (one_arrived s a item empty)) consent;
        started = λ r. refl;
        child = record {
          agreed = refl;
          input = subst (λ ps. TookInput ps c) (sym behind_is) (inl (record {
            faults = stdin.1;
            over = over;
            told = stdin.0;
          }));
          feeding = feeding ∙ ap (λ ps. 2 - overs ps) (sym behind_is);
        };
        talk = talk_started;
        output =
            of_feeder-more 1 s.output a.given (completion ∷ [])
            (ap (λ (i : Item). of_type 1 (i ∷ [])) is) stands.output;
        errors =
            of_feeder-more 11 s.errors a.given (completion ∷ [])
            (ap (λ (i : Item). of_type 11 (i ∷ [])) is) stands.errors;
        status = inl (record {
          items =
              of_type-append 12 a.given (completion ∷ [])
              ∙ ap (λ l. l ++ of_type 12 (completion ∷ [])) (no_status p s a begun on none stands)
              ∙ ap (λ (i : Item). of_type 12 (i ∷ [])) is;
          early = λ r. subst (λ ps. overs ps < 2) (sym behind_is) (omega arith);
          unasked = λ r. end.0;
        });
        back = stands.back;
        output_back = stands.output_back;
        errors_back = stands.errors_back;
        fault = tt;
        counted = stands.counted;
      }
