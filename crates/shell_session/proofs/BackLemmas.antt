-- A feeder that comes back to a shell session.
use Rattle.std.proofs.Common.{◌≡◌, ◌≢◌, ◌<◌, ℕ, ◌+◌, ◌*◌, ◌^◌, Bool, true, false, cond, Option, Some, None, IfSome, is_some, slice_index_or, zero, suc, ◌⊎◌, inl, inr, ⊎_elim, List, [], ◌∷◌, ◌++◌, All, Contains, take, length, sym, refl, ap, ◌∙◌, subst, arith, append_assoc}
use Rattle.std.specs.List.{AllByRecursion}
use Rattle.std.proofs.lemmas.Bool.{false≢true}
use Rattle.std.proofs.lemmas.Option.{none-some}
use Rattle.std.proofs.lemmas.List.Elements.{All-append, All-weaker, recursion_from_All}
use Rattle.chan_io.specs.Sources.{Input}
use Rattle.chan_values.specs.declared.item.Item.{Item}
use Rattle.chan_io.specs.Faults.{Rises}
use Rattle.handshake.specs.Agent.{AgentRefuses}
use Rattle.handshake.specs.Items.{completion_item, request_item}
use Rattle.session_feeds.specs.declared.session.SessionFault.{SessionFault}
use Rattle.session_run.specs.declared.parcel.Parcel.{Parcel}
use Rattle.shell_session.specs.Parcels.{arrived}
use Rattle.session_feeds.specs.Sessions.{Account}
use Rattle.session_feeds.specs.declared.feeder.Came.{Came}
use Rattle.shell_session.specs.Agents.{IsAmong, GaveNoStatus, GaveStatus, IsAgentFault, IsChild, IsOfFeeder, IsTalk, ShellAgentState, missing, standard, steps_made}
use Rattle.shell_session.specs.Children.{ChildState}
use Rattle.shell_session.specs.Items.{of_type}
use Rattle.shell_session.specs.Readings.{Gave, IsReading, Reading, given_before, mark_for, payloads}
use Rattle.shell_session.proofs.AgentLemmas.{IsSessionType}
use Rattle.shell_session.proofs.ParcelLemmas.{of_type-all, of_type-append, of_type-none, of_type-other}

-- ---- what a feeder gave

pub typed_pieces : (t : ℕ) (r : Reading) → r.ptype ≡ t → IsReading r → of_type t r.pieces ≡ r.pieces
typed_pieces t r is reads =
    of_type-all t r.pieces
    (subst (λ u. AllByRecursion (λ (item : Item). item.ptype ≡ u) r.pieces) is
    (recursion_from_All (λ (item : Item). item.ptype ≡ r.ptype) r.pieces reads.typed))

pub other_pieces : (t u : ℕ) (r : Reading)
    → r.ptype ≡ u
    → u ≢ t
    → IsReading r
    → of_type t r.pieces ≡ []
other_pieces t u r is ne reads =
    of_type-other t u r.pieces ne
    (subst (λ v. AllByRecursion (λ (item : Item). item.ptype ≡ v) r.pieces) is
    (recursion_from_All (λ (item : Item). item.ptype ≡ r.ptype) r.pieces reads.typed))

no_bytes : (l : List ℕ) → length l ≡ 0 → l ≡ []
no_bytes [] none = refl
no_bytes (x ∷ xs) none = absurd (omega arith)

-- the source of a feeder that had given nothing gave its pieces and nothing else
pub gave_all : (first now : Option Input) (bytes : List ℕ)
    → given_before first ≡ 0
    → Gave bytes first now
    → IfSome now (λ input. input.given ≡ bytes)
gave_all None now bytes none gave =
    subst (λ o. IfSome o (λ (input : Input). input.given ≡ bytes)) (sym gave) tt
gave_all (Some first) now bytes none gave =
    subst (λ o. IfSome o (λ (input : Input). input.given ≡ bytes)) (sym gave.1)
    (ap (λ l. l ++ bytes) (no_bytes first.given none))

-- the items of its type are of it, where none of that type were given before
pub comes_back : (t : ℕ) (r : Reading) (given : List Item)
    → r.ptype ≡ t
    → given_before r.first ≡ 0
    → IsReading r
    → of_type t given ≡ []
    → IsOfFeeder t (Some r) (given ++ r.pieces)
comes_back t r given is none reads empty =
    let types : of_type t (given ++ r.pieces) ≡ r.pieces =
    of_type-append t given r.pieces ∙ ap (λ l. l ++ of_type t r.pieces) empty
    ∙ typed_pieces t r is reads in (
      types,
      subst (λ l. IfSome r.now (λ input. input.given ≡ l)) (sym (ap (λ l. payloads l) types))
          (gave_all r.first r.now (payloads r.pieces) none reads.gave),
    )

-- ---- marks

-- a list of at most two marks contains one of them
at_two : (o e : Option Reading) (mark k : ℕ)
    → k < length (missing 2 o ++ missing 23 e)
    → slice_index_or (missing 2 o ++ missing 23 e) k mark ≡ mark
    → ((mark ≡ 2) × (o ≡ None)) ⊎ ((mark ≡ 23) × (e ≡ None))
at_two None None mark zero k is = inl (sym is, refl)
at_two None None mark (suc zero) k is = inr (sym is, refl)
at_two None None mark (suc (suc n)) k is = absurd (omega arith)
at_two None (Some e) mark zero k is = inl (sym is, refl)
at_two None (Some e) mark (suc n) k is = absurd (omega arith)
at_two (Some o) None mark zero k is = inr (sym is, refl)
at_two (Some o) None mark (suc n) k is = absurd (omega arith)
at_two (Some o) (Some e) mark n k is = absurd (omega arith)

pub of_two : (o e : Option Reading) (mark : ℕ)
    → Contains (missing 2 o ++ missing 23 e) mark
    → ((mark ≡ 2) × (o ≡ None)) ⊎ ((mark ≡ 23) × (e ≡ None))
of_two o e mark has = at_two o e mark has.0 has.1 has.2

in_none : (mark : ℕ) → Contains [] mark → ⊥
in_none mark has = let l = has.1 in omega arith

-- the child was started, since a feeder is out
pub out_of : (b : Bool) (marks : List ℕ) (mark : ℕ)
    → Contains (cond b marks []) mark
    → (b ≡ true) × Contains marks mark
out_of true marks mark has = (refl, has)
out_of false marks mark has = absurd (in_none mark has)

-- the mark of a feeder of the output, or of the errors, tells its type and how much its source had given
pub output_parts : (mark ptype before : ℕ)
    → mark ≡ 2 * mark_for ptype before
    → ptype < 2 ^ 32
    → (mark ≡ 2) ⊎ (mark ≡ 23)
    → (mark ≡ 2) × (ptype ≡ 1) × (before ≡ 0)
output_parts mark ptype before is short (inl two) = (two, omega arith, omega arith)
output_parts mark ptype before is short (inr odd) = absurd (omega arith)

pub errors_parts : (mark ptype before : ℕ)
    → mark ≡ 2 * mark_for ptype before + 1
    → ptype < 2 ^ 32
    → (mark ≡ 2) ⊎ (mark ≡ 23)
    → (mark ≡ 23) × (ptype ≡ 11) × (before ≡ 0)
errors_parts mark ptype before is short (inl even) = absurd (omega arith)
errors_parts mark ptype before is short (inr odd) = (odd, omega arith, omega arith)

pub either_mark : (o e : Option Reading) (mark : ℕ)
    → ((mark ≡ 2) × (o ≡ None)) ⊎ ((mark ≡ 23) × (e ≡ None))
    → (mark ≡ 2) ⊎ (mark ≡ 23)
either_mark o e mark (inl m) = inl m.0
either_mark o e mark (inr m) = inr m.0

pub none_at_two : (o e : Option Reading) (mark : ℕ)
    → mark ≡ 2
    → ((mark ≡ 2) × (o ≡ None)) ⊎ ((mark ≡ 23) × (e ≡ None))
    → o ≡ None
none_at_two o e mark two (inl m) = m.1
none_at_two o e mark two (inr m) = absurd (let n = m.0 in omega arith)

pub none_at_23 : (o e : Option Reading) (mark : ℕ)
    → mark ≡ 23
    → ((mark ≡ 2) × (o ≡ None)) ⊎ ((mark ≡ 23) × (e ≡ None))
    → e ≡ None
none_at_23 o e mark odd (inl m) = absurd (let n = m.0 in omega arith)
none_at_23 o e mark odd (inr m) = m.1

-- what stands in a list stands in a longer one
among-more : {X : Type 0} (x y : X) (xs : List X) → IsAmong x xs → IsAmong x (xs ++ y ∷ [])
among-more x y xs is = (
  is.0,
  is.1 ++ y ∷ [],
  ap (λ l. l ++ y ∷ []) is.2 ∙ append_assoc is.0 (x ∷ is.1) (y ∷ []),
)

pub kept_among : (mark : ℕ) (o : Option Reading) (back : List (ℕ × Option Came)) (x : ℕ × Option Came)
    → IfSome o (λ r. IsAmong (mark, r.came) back)
    → IfSome o (λ r. IsAmong (mark, r.came) (back ++ x ∷ []))
kept_among mark None back x is = tt
kept_among mark (Some r) back x is = among-more (mark, r.came) x back is

some_child : (o : Option ChildState) → is_some o ≡ true → o ≢ None
some_child None there = absurd (false≢true there)
some_child (Some c) there = λ e. none-some c (sym e)

-- ---- the account with what a feeder gave, whichever it is

abbrev pub back_with : Reading → ℕ → Account ℕ → Account ℕ
back_with r mark a = record a { given = a.given ++ r.pieces; back = a.back ++ (mark, r.came) ∷ [] }

module _ (s : ShellAgentState) (r : Reading) (reads : IsReading r)
    (there : is_some s.child ≡ true) where
  pub session_types : (t : ℕ) → r.ptype ≡ t → (t ≡ 1) ⊎ (t ≡ 11) → All IsSessionType r.pieces
  session_types t is which =
      All-weaker (λ (item : Item). item.ptype ≡ r.ptype) IsSessionType
      (λ item e. ⊎_elim (λ one. inl (e ∙ is ∙ one)) (λ eleven. inr (inl (e ∙ is ∙ eleven))) which)
      r.pieces reads.typed

  pub talk_back : (s' : ShellAgentState)
      → s'.refused ≡ s.refused
      → s'.begun ≡ s.begun
      → s'.agreed ≡ s.agreed
      → s'.child ≡ s.child
      → (given : List Item)
      → All IsSessionType r.pieces
      → IsTalk s given
      → IsTalk s' (given ++ r.pieces)
  talk_back s' f b a c given all talk = record {
    steps = talk.steps;
    asked = talk.asked;
    now = talk.now;
    rest = talk.rest ++ r.pieces;
    items =
        ap (λ l. l ++ r.pieces) talk.items
        ∙ append_assoc
        (take talk.steps (request_item standard ∷ completion_item talk.asked talk.now ∷ []))
        talk.rest r.pieces;
    exact =
        λ on. talk.exact (sym f ∙ on) ∙ ap (λ d. steps_made d s.agreed) (sym b)
        ∙ ap (λ d. steps_made s'.begun d) (sym a);
    early = λ none. absurd (some_child s.child there (sym c ∙ none));
    session = All-append IsSessionType talk.rest r.pieces talk.session all;
  }

  pub status_back : (a : Account ℕ) (mark : ℕ) (s' : ShellAgentState)
      → s'.refused ≡ s.refused
      → s'.child ≡ s.child
      → of_type 12 r.pieces ≡ []
      → GaveNoStatus s a ⊎ GaveStatus s a
      → GaveNoStatus s' (back_with r mark a) ⊎ GaveStatus s' (back_with r mark a)
  status_back a mark s' f c none (inl before) = inl (record {
    items = of_type-none 12 a.given r.pieces none ∙ before.items;
    early = λ on. before.early (sym f ∙ on);
    unasked =
        λ on. subst
        (λ o. IfSome o (λ (d : ChildState). IfSome d.statuses (λ statuses. statuses ≡ []))) (sym c)
        (before.unasked (sym f ∙ on));
  })
  status_back a mark s' f c none (inr gave) = inr (record {
    status = gave.status;
    items = of_type-none 12 a.given r.pieces none ∙ gave.items;
    child = gave.child;
    is = c ∙ gave.is;
    answered = gave.answered;
    ends = gave.ends;
  })

-- ---- what other fields keep

pub child_kept : (s s' : ShellAgentState) (taken : List Parcel) (o : Option ChildState)
    → s'.agreed ≡ s.agreed
    → IfSome o (IsChild s taken)
    → IfSome o (IsChild s' taken)
child_kept s s' taken None same is = tt
child_kept s s' taken (Some c) same is = record {
  agreed = same ∙ is.agreed;
  input = is.input;
  feeding = is.feeding;
}

fault_is : (s s' : ShellAgentState) (a a' : Account ℕ) (f : SessionFault)
    → a'.taken ≡ a.taken
    → a'.contents ≡ a.contents
    → s'.starter_faults ≡ s.starter_faults
    → s'.child ≡ s.child
    → IsAgentFault f s a
    → IsAgentFault f s' a'
fault_is s s' a a' (SessionFault.Handshake why) t c f o is =
    subst (λ l. AgentRefuses (arrived l) why) (sym t) is
fault_is s s' a a' SessionFault.Start t c f o is =
    subst (λ n. Rises n s'.starter_faults) (sym c) (subst (λ n. Rises a.contents n) (sym f) is)
fault_is s s' a a' SessionFault.Child t c f o is = (is.0, o ∙ is.1, is.2)
fault_is s s' a a' SessionFault.NoMemory t c f o is = tt
fault_is s s' a a' SessionFault.Port t c f o is = absurd is
fault_is s s' a a' SessionFault.Write t c f o is = absurd is
fault_is s s' a a' (SessionFault.Frames n) t c f o is = absurd is

pub fault_kept : (s s' : ShellAgentState) (a a' : Account ℕ) (o : Option SessionFault)
    → a'.taken ≡ a.taken
    → a'.contents ≡ a.contents
    → s'.starter_faults ≡ s.starter_faults
    → s'.child ≡ s.child
    → IfSome o (λ f. IsAgentFault f s a)
    → IfSome o (λ f. IsAgentFault f s' a')
fault_kept s s' a a' None t c f o is = tt
fault_kept s s' a a' (Some fault) t c f o is = fault_is s s' a a' fault t c f o is
