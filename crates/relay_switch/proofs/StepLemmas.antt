-- A step and a take of a switch, from what each part of them does.
use Rattle.std.proofs.Common.{◌≡◌, ℕ, ◌+◌, ◌<◌, Bool, true, false, not, cond, ◌&&◌, nat_eq, Some, None, Result, Ok, Err, OnErr, List, [], ◌∷◌, ◌++◌, drop, length, refl, remove, sym, ap, subst, ◌∙◌, append-nil, arith, slice_get, slice_index_or}
use Rattle.std.specs.BTreeMap.{is_at}
use Rattle.std.specs.Ordering.{nat_cmp}
use Rattle.std.proofs.lemmas.Bool.{eqb-true}
use Rattle.relay_core.specs.declared.action.Action.{Action}
use Rattle.relay_core.specs.declared.event.Event.{Event}
use Rattle.relay_core.specs.Forwarding.{IsNew, actions}
use Rattle.relay_core.specs.Kept as relay
use Rattle.relay_core.proofs.TestLemmas.{key-conn}
use Rattle.relay_switch.specs.declared.switch.Change.{Change}
use Rattle.relay_switch.specs.Lines.{LineState, Lines, SameLines, SetsLine, WaitsSame, bytes_in, closed_if, empty_line, line_in, to_conn, waiting_in, weight}
use Rattle.relay_switch.specs.Steps.{LetsIn, OpensLines, SameSwitch, Steps, Takes, TakesFirst, added_by, change_of, is_known, lets_in, open_by}
use Rattle.relay_switch.specs.Switching.{SwitchState, is_among, is_binary, is_drop}
use Rattle.relay_switch.proofs.LineLemmas.{key-true}

-- ---- lists of actions

pub bytes-push : (xs : List Action) (a : Action) → bytes_in (xs ++ a ∷ []) ≡ bytes_in xs + weight a
bytes-push [] a = omega arith
bytes-push (x ∷ xs) a = omega (arith, bytes-push xs a)

-- the first that was taken out stood in front
pub taken-first : (xs : List Action) (a : Action) → 0 < length xs → a ≡ slice_index_or xs 0 a
    → xs ≡ a ∷ remove xs 0
taken-first [] a within is = absurd (omega arith)
taken-first (x ∷ xs) a within is = ap (λ (y : Action). y ∷ xs) (sym is)

-- ---- what waits

pub WaitsSame-refl : (lines : Lines) (added : List Action) → WaitsSame lines added lines added
WaitsSame-refl lines added = record { waiting = λ c. refl; is_open = λ c. refl }

pub WaitsSame-then : (a : Lines) (xs : List Action) (b : Lines) (ys : List Action) (c : Lines)
    (zs : List Action)
    → WaitsSame a xs b ys
    → WaitsSame b ys c zs
    → WaitsSame a xs c zs
WaitsSame-then a xs b ys c zs p q =
    record {
      waiting = λ n. q.waiting n ∙ p.waiting n;
      is_open = λ n. q.is_open n ∙ p.is_open n;
    }

-- by look-ups the same lines
pub WaitsSame-lines : (old new : Lines) (added : List Action) → SameLines old new
    → WaitsSame old added new added
WaitsSame-lines old new added same =
    record {
      waiting = λ c. ap (λ (l : LineState). l.waiting ++ to_conn c added) (same c);
      is_open = λ c. ap (λ (l : LineState). l.is_open) (same c);
    }

-- ---- want of memory

pub same-switch : (old new : SwitchState)
    → ((es : List Event) → relay.Stands old.relay es → relay.Stands new.relay es)
    → WaitsSame old.lines old.added new.lines new.added
    → ((c : ℕ) → is_among new.opened c ≡ is_among old.opened c)
    → SameSwitch old new
same-switch old new stands waits opened =
    record { relay = stands; waits = waits; opened = opened }

-- a connection that was let in and taken back
pub taken-back : (old mid new : List ℕ) (e : Event) (change : Change) → change ≡ change_of e
    → is_known old e ≡ false
    → LetsIn change old mid
    → ((c : ℕ) → is_among new c ≡ cond (lets_in change c) false (is_among mid c))
    → (c : ℕ) → is_among new c ≡ is_among old c
taken-back old mid new e change is unknown let_in back c =
    back c
    ∙ ap (λ b. cond (lets_in change c) false b) (let_in c)
    ∙ ap (λ (x : Change). cond (lets_in x c) false (cond (lets_in x c) true (is_among old c))) is
    ∙ by e unknown
  where
    one : (conn : ℕ) (b : Bool) → (b ≡ true → conn ≡ c) → is_among old conn ≡ false
        → cond b false (cond b true (is_among old c)) ≡ is_among old c
    one conn true same none = sym none ∙ ap (is_among old) (same refl)
    one conn false same none = refl

    by : (e : Event) → is_known old e ≡ false
        → cond (lets_in (change_of e) c) false
        (cond (lets_in (change_of e) c) true (is_among old c))
        ≡ is_among old c
    by (Event.Opened conn session role reply) none =
        one conn (is_at (nat_cmp conn) c) (key-true conn c) none
    by (Event.Binary conn bytes) none = refl
    by (Event.Gone conn) none = refl
    by (Event.EndSession session) none = refl

-- ---- a step that was made

pub steps-by : (old new : SwitchState) (e : Event) (id : List ℕ) (now : ℕ) (told : List Action)
    (l1 l2 : Lines) (rest : List Action) (change : Change) (forwards : Bool)
    → change ≡ change_of e
    → forwards ≡ is_binary e
    → ((es : List Event) → relay.Stands old.relay es → IsNew es e
    → (told ≡ actions es id now e) × relay.Stands new.relay (es ++ e ∷ []))
    → WaitsSame old.lines old.added l1 rest
    → rest ≡ []
    → SameLines l1 l2
    → OpensLines change l2 new.lines
    → new.added ≡ added_by forwards l2 told
    → LetsIn change old.opened new.opened
    → Steps old e id now new
steps-by old new e id now told l1 l2 rest change forwards is sends follows waits none same opens added let_in =
    record {
      told = told;
      follows = follows;
      settled = l2;
      before = λ c.
          ap (λ (l : LineState). l.waiting) (same c)
          ∙ sym (append-nil (line_in l1 c).waiting)
          ∙ ap (λ xs. (line_in l1 c).waiting ++ to_conn c xs) (sym none)
          ∙ waits.waiting c;
      waiting = λ c.
          λ i. opens.waiting c i ++ to_conn c ((added ∙ ap (λ b. added_by b l2 told) sends) i);
      is_open = λ c.
          opens.is_open c
          ∙ ap (λ (x : Change). open_by x c (line_in l2 c).is_open) is
          ∙ ap (λ (l : LineState). open_by (change_of e) c l.is_open) (same c)
          ∙ ap (open_by (change_of e) c) (waits.is_open c);
      opened = λ c.
          let_in c ∙ ap (λ (x : Change). cond (lets_in x c) true (is_among old.opened c)) is;
    }

-- ---- a take

same-if : (b : Bool) (x : Bool) → x ≡ cond b (x && true) x
same-if true true = refl
same-if true false = refl
same-if false x = refl

-- nothing waits
pub takes-none : (old new : SwitchState) (conn : ℕ) → new.relay ≡ old.relay
    → new.opened ≡ old.opened
    → TakesFirst old.lines old.added conn None new.lines new.added
    → Takes old conn None new
takes-none old new conn kept opened first =
    record {
      relay = kept;
      opened = opened;
      first = first.first;
      waiting = first.waiting;
      is_open = λ c. first.is_open c ∙ same-if (nat_eq conn c) (line_in old.lines c).is_open;
    }

set-waiting : (conn c : ℕ) (ends b : Bool) (lines : Lines) → (b ≡ true → conn ≡ c)
    → (cond b (closed_if ends (line_in lines conn)) (line_in lines c)).waiting
    ≡ (line_in lines c).waiting
set-waiting conn c ends true lines same =
    ap (λ n. (line_in lines n).waiting) (same refl)
set-waiting conn c ends false lines same = refl

set-open : (conn c : ℕ) (ends b : Bool) (lines : Lines) → (b ≡ true → conn ≡ c)
    → (cond b (closed_if ends (line_in lines conn)) (line_in lines c)).is_open
    ≡ cond b ((line_in lines c).is_open && not ends) (line_in lines c).is_open
set-open conn c ends true lines same =
    ap (λ n. (line_in lines n).is_open && not ends) (same refl)
set-open conn c ends false lines same = refl

-- an action was taken
pub takes-some : (old new : SwitchState) (conn : ℕ) (action : Action) (mid : Lines) (ends : Bool)
    → new.relay ≡ old.relay
    → new.opened ≡ old.opened
    → TakesFirst old.lines old.added conn (Some action) mid new.added
    → ends ≡ is_drop action
    → SetsLine conn (closed_if ends (line_in mid conn)) mid new.lines
    → Takes old conn (Some action) new
takes-some old new conn action mid ends kept opened first is sets =
    record {
      relay = kept;
      opened = opened;
      first = first.first;
      waiting = λ c.
          ap (λ (l : LineState). l.waiting ++ to_conn c new.added) (sets c)
          ∙ ap (λ w. w ++ to_conn c new.added)
          (set-waiting conn c ends (is_at (nat_cmp conn) c) mid (key-true conn c))
          ∙ first.waiting c;
      is_open = λ c.
          ap (λ (l : LineState). l.is_open) (sets c)
          ∙ set-open conn c ends (is_at (nat_cmp conn) c) mid (key-true conn c)
          ∙ (λ i. cond (key-conn conn c i) (first.is_open c i && not (is i)) (first.is_open c i));
    }

-- ---- lines that are let go

no-first : (xs ys : List Action) → xs ++ ys ≡ [] → xs ≡ []
no-first [] ys is = refl
no-first (x ∷ xs) ys is = cc

-- nothing waits for a connection that is not open: its line is the empty one
pub line-empty : (lines : Lines) (added : List Action) (conn : ℕ)
    → waiting_in lines added conn ≡ []
    → (line_in lines conn).is_open ≡ false
    → line_in lines conn ≡ empty_line
line-empty lines added conn none closed =
    let nothing = no-first (line_in lines conn).waiting (to_conn conn added) none in
    λ i. record { waiting = nothing i; is_open = closed i }

-- ---- a take where nothing waits

nothing-first : (xs : List Action) → None ≡ slice_get xs 0 → xs ≡ []
nothing-first [] is = refl
nothing-first (x ∷ xs) is = cc

nothing-left : (b : Bool) (xs : List Action) → xs ≡ [] → cond b (drop 1 xs) xs ≡ xs
nothing-left true xs is = ap (drop 1) is ∙ sym is
nothing-left false xs is = refl

-- nothing waits after it either
pub none-left : (old new : SwitchState) (conn : ℕ) → Takes old conn None new
    → waiting_in new.lines new.added conn ≡ []
none-left old new conn takes =
    let none = nothing-first (waiting_in old.lines old.added conn) takes.first in
    takes.waiting conn
    ∙ nothing-left (nat_eq conn conn) (waiting_in old.lines old.added conn) none
    ∙ none

left-if : (conn c : ℕ) (b : Bool) (xs : ℕ → List Action) → (b ≡ true → conn ≡ c) → xs conn ≡ []
    → cond b (drop 1 (xs c)) (xs c) ≡ xs c
left-if conn c true xs same none =
    let is : xs c ≡ [] = ap xs (sym (same refl)) ∙ none in ap (drop 1) is ∙ sym is
left-if conn c false xs same none = refl

-- it changes nothing
pub takes-same : (old new : SwitchState) (conn : ℕ) → Takes old conn None new → SameSwitch old new
takes-same old new conn takes =
    record {
      relay = λ es stands. subst (λ kept. relay.Stands kept es) (sym takes.relay) stands;
      waits = record {
        waiting = λ c.
            takes.waiting c
            ∙ left-if conn c (nat_eq conn c) (waiting_in old.lines old.added)
            (eqb-true conn c)
            (nothing-first (waiting_in old.lines old.added conn) takes.first);
        is_open = λ c.
            takes.is_open c ∙ sym (same-if (nat_eq conn c) (line_in old.lines c).is_open);
      };
      opened = λ c. ap (λ (ns : List ℕ). is_among ns c) takes.opened;
    }

pub SameSwitch-then : (a b c : SwitchState) → SameSwitch a b → SameSwitch b c → SameSwitch a c
SameSwitch-then a b c p q =
    record {
      relay = λ es stands. q.relay es (p.relay es stands);
      waits =
          WaitsSame-then a.lines a.added b.lines b.added c.lines c.added p.waits q.waits;
      opened = λ n. q.opened n ∙ p.opened n;
    }

-- what holds where a call failed
pub on-err : {T E : Type 0} {P : Type 0} (r : Result T E) → P → OnErr r P
on-err (Ok x) p = tt
on-err (Err fault) p = p
