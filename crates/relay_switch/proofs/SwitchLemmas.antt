-- The calls of a switch: what it keeps after each follows what it kept.
use Rattle.std.proofs.Common.{◌≡◌, ℕ, Bool, true, false, not, cond, ◌&&◌, ◌||◌, nat_eq, inl, inr, Some, None, List, [], ◌∷◌, ◌++◌, drop, refl, sym, ap, subst, ◌∙◌}
use Rattle.std.specs.List.{IsDistinct, cons_option, list_any, slice_get}
use Rattle.channel_core.specs.Call.{with_earlier}
use Rattle.std.proofs.lemmas.List.Folds.{list_any-append}
use Rattle.relay_core.specs.declared.action.Action.{Action}
use Rattle.relay_core.specs.declared.event.Event.{Event}
use Rattle.relay_core.specs.Forwarding.{AreNew, actions, opening, openings}
use Rattle.relay_core.specs.Kept as relay
use Rattle.relay_core.proofs.TestLemmas.{key-conn}
use Rattle.relay_switch.specs.declared.switch_call.SwitchCall.{SwitchCall}
use Rattle.relay_switch.specs.declared.switch_call.SwitchAnswer.{SwitchAnswer}
use Rattle.relay_switch.specs.Lines.{LineState, Lines, line_in, to_conn, waiting_in}
use Rattle.relay_switch.specs.Steps.{SameSwitch, Steps, StepsOrNot, Takes, added_by, change_of, is_known, lets_in, open_by}
use Rattle.relay_switch.specs.Switching.{StandsForSwitch, Step, SwitchFollows, SwitchState, admitted, answer_by, event_added, events_of, is_among, is_binary, is_drop, is_repeat, line_after, line_of, line_stepped, line_taken, open_after}
use Rattle.relay_switch.proofs.AddedLemmas.{added-admitted}
use Rattle.relay_switch.proofs.HistoryLemmas.{AreNew-push, IsLegalSwitch-push, events_of-push, is-new, line_of-push, openings-push}

pub SameSwitch-refl : (s : SwitchState) → SameSwitch s s
SameSwitch-refl s =
    record {
      relay = λ es stands. stands;
      waits = record { waiting = λ c. refl; is_open = λ c. refl };
      opened = λ c. refl;
    }

-- an entry that changes nothing
stands-still : (old new : SwitchState) (h : List Step) (step : Step)
    → event_added (events_of h) step ≡ events_of h
    → ((conn : ℕ) → line_after conn (events_of h) (line_of h conn) step ≡ line_of h conn)
    → SameSwitch old new
    → StandsForSwitch old h
    → StandsForSwitch new (h ++ step ∷ [])
stands-still old new h step events lines same stands =
    let more = sym (events_of-push h step ∙ events) in
    let line : (conn : ℕ) → line_of h conn ≡ line_of (h ++ step ∷ []) conn =
    λ conn. sym (line_of-push h step conn ∙ lines conn) in
    record {
      new = subst AreNew more stands.new;
      relay = subst (relay.Stands new.relay) more (same.relay (events_of h) stands.relay);
      waiting = λ conn.
          same.waits.waiting conn ∙ stands.waiting conn
          ∙ ap (λ (l : LineState). l.waiting) (line conn);
      is_open = λ conn.
          same.waits.is_open conn ∙ stands.is_open conn
          ∙ ap (λ (l : LineState). l.is_open) (line conn);
      opened = λ conn.
          same.opened conn ∙ stands.opened conn
          ∙ ap (λ (es : List Event). list_any (λ c. nat_eq c conn) (openings es)) more;
    }

-- ---- a take

line-if : (b : Bool) (taken line : LineState)
    → ((cond b taken line).waiting ≡ cond b taken.waiting line.waiting)
    × ((cond b taken line).is_open ≡ cond b taken.is_open line.is_open)
line-if true taken line = (refl, refl)
line-if false taken line = (refl, refl)

stands-taken : (old new : SwitchState) (h : List Step) (conn : ℕ) (action : Action)
    → Takes old conn (Some action) new
    → StandsForSwitch old h
    → StandsForSwitch new (h ++ (SwitchCall.Take conn, SwitchAnswer.Next action) ∷ [])
stands-taken old new h conn action takes stands =
    let step : Step = (SwitchCall.Take conn, SwitchAnswer.Next action) in
    let more = sym (events_of-push h step) in
    let after : (c : ℕ) → LineState = λ c. line_taken (line_of h c) action in
    record {
      new = subst AreNew more stands.new;
      relay =
          subst (λ kept. relay.Stands kept (events_of (h ++ step ∷ []))) (sym takes.relay)
          (subst (relay.Stands old.relay) more stands.relay);
      waiting = λ c.
          takes.waiting c
          ∙ ap (λ (w : List Action). cond (nat_eq conn c) (drop 1 w) w) (stands.waiting c)
          ∙ sym (line-if (nat_eq conn c) (after c) (line_of h c)).0
          ∙ ap (λ (l : LineState). l.waiting) (sym (line_of-push h step c));
      is_open = λ c.
          takes.is_open c
          ∙ ap (λ (o : Bool). cond (nat_eq conn c) (o && not (is_drop action)) o) (stands.is_open c)
          ∙ sym (line-if (nat_eq conn c) (after c) (line_of h c)).1
          ∙ ap (λ (l : LineState). l.is_open) (sym (line_of-push h step c));
      opened = λ c.
          ap (λ (ns : List ℕ). is_among ns c) takes.opened ∙ stands.opened c
          ∙ ap (λ (es : List Event). list_any (λ d. nat_eq d c) (openings es)) more;
    }

answered-next : (waiting : List Action) (is_open : Bool) (action : Action)
    → Some action ≡ slice_get waiting 0
    → SwitchAnswer.Next action ≡ answer_by waiting is_open
answered-next [] is_open action is = cc
answered-next (a ∷ waiting) is_open action is =
    let same : action ≡ a = cc in ap SwitchAnswer.Next same

answered-none : (waiting : List Action) (is_open : Bool) → None ≡ slice_get waiting 0
    → cond is_open SwitchAnswer.Nothing SwitchAnswer.Over ≡ answer_by waiting is_open
answered-none [] is_open is = refl
answered-none (a ∷ waiting) is_open is = cc

-- nothing is the first of nothing
pub none-waits : (waiting : List Action) → None ≡ slice_get waiting 0 → waiting ≡ []
none-waits [] is = refl
none-waits (a ∷ waiting) is = cc

pub goes-next : (old new : SwitchState) (conn : ℕ) (action : Action)
    → Takes old conn (Some action) new
    → SwitchFollows old new (SwitchCall.Take conn) (SwitchAnswer.Next action)
goes-next old new conn action takes h legal stands = (
  IsLegalSwitch-push h (SwitchCall.Take conn, SwitchAnswer.Next action) legal
      (answered-next (line_of h conn).waiting (line_of h conn).is_open action
      (takes.first ∙ ap (λ w. slice_get w 0) (stands.waiting conn))),
  stands-taken old new h conn action takes stands,
)

still-if : (h : List Step) (conn : ℕ) (is_open : Bool) (c : ℕ)
    → line_after c (events_of h) (line_of h c)
    (SwitchCall.Take conn, cond is_open SwitchAnswer.Nothing SwitchAnswer.Over)
    ≡ line_of h c
still-if h conn true c = refl
still-if h conn false c = refl

-- a take where nothing waits
pub goes-idle : (old new : SwitchState) (conn : ℕ) (is_open : Bool)
    → None ≡ slice_get (waiting_in old.lines old.added conn) 0
    → is_open ≡ (line_in old.lines conn).is_open
    → SameSwitch old new
    → SwitchFollows old new (SwitchCall.Take conn)
    (cond is_open SwitchAnswer.Nothing SwitchAnswer.Over)
goes-idle old new conn is_open none is same h legal stands =
    let step : Step =
    (SwitchCall.Take conn, cond is_open SwitchAnswer.Nothing SwitchAnswer.Over) in (
      IsLegalSwitch-push h step legal
          (ap (λ b. cond b SwitchAnswer.Nothing SwitchAnswer.Over) (is ∙ stands.is_open conn)
          ∙ answered-none (line_of h conn).waiting (line_of h conn).is_open
          (none ∙ ap (λ w. slice_get w 0) (stands.waiting conn))),
      stands-still old new h step refl (still-if h conn is_open) same stands,
    )

-- ---- a step

repeat-known : (old : SwitchState) (h : List Step) (e : Event) → StandsForSwitch old h
    → is_repeat (events_of h) e ≡ is_known old.opened e
repeat-known old h (Event.Opened conn session role reply) stands = sym (stands.opened conn)
repeat-known old h (Event.Binary conn bytes) stands = refl
repeat-known old h (Event.Gone conn) stands = refl
repeat-known old h (Event.EndSession session) stands = refl

or-cond : (was b : Bool) → (was || (b || false)) ≡ cond b true was
or-cond true true = refl
or-cond true false = refl
or-cond false true = refl
or-cond false false = refl

or-none : (b : Bool) → (b || false) ≡ b
or-none true = refl
or-none false = refl

-- the connections that were let in, after one event more
opened-told : (c : ℕ) (es : List Event) (e : Event)
    → cond (lets_in (change_of e) c) true (list_any (λ d. nat_eq d c) (openings es))
    ≡ list_any (λ d. nat_eq d c) (openings (es ++ e ∷ []))
opened-told c es e =
    told e
    ∙ sym (list_any-append (λ d. nat_eq d c) (openings es) (cons_option (opening e) []))
    ∙ ap (list_any (λ d. nat_eq d c)) (sym (openings-push es e))
  where
    told : (e : Event)
        → cond (lets_in (change_of e) c) true (list_any (λ d. nat_eq d c) (openings es))
        ≡ (list_any (λ d. nat_eq d c) (openings es)
        || list_any (λ d. nat_eq d c) (cons_option (opening e) []))
    told (Event.Opened conn session role reply) =
        ap (λ (b : Bool). cond b true (list_any (λ d. nat_eq d c) (openings es))) (key-conn conn c)
        ∙ sym (or-cond (list_any (λ d. nat_eq d c) (openings es)) (nat_eq conn c))
    told (Event.Binary conn bytes) = sym (or-none (list_any (λ d. nat_eq d c) (openings es)))
    told (Event.Gone conn) = sym (or-none (list_any (λ d. nat_eq d c) (openings es)))
    told (Event.EndSession session) = sym (or-none (list_any (λ d. nat_eq d c) (openings es)))

-- whether a connection is open after an event
open-told : (c : ℕ) (e : Event) (was : Bool) → open_by (change_of e) c was ≡ open_after c was e
open-told c (Event.Opened conn session role reply) was =
    ap (λ (b : Bool). cond b true was) (key-conn conn c)
open-told c (Event.Binary conn bytes) was = refl
open-told c (Event.Gone conn) was = ap (λ (b : Bool). cond b false was) (key-conn conn c)
open-told c (Event.EndSession session) was = refl

stands-stepped : (old new : SwitchState) (h : List Step) (e : Event) (id : List ℕ) (now : ℕ)
    → is_known old.opened e ≡ false
    → Steps old e id now new
    → StandsForSwitch old h
    → StandsForSwitch new (h ++ (SwitchCall.Step e id now, SwitchAnswer.Done) ∷ [])
stands-stepped old new h e id now unknown steps stands =
    let es = events_of h in
    let step : Step = (SwitchCall.Step e id now, SwitchAnswer.Done) in
    let once : is_repeat es e ≡ false = repeat-known old h e stands ∙ unknown in
    let more : es ++ e ∷ [] ≡ events_of (h ++ step ∷ []) =
    sym (events_of-push h step ∙ ap (λ b. cond b es (es ++ e ∷ [])) once) in
    let follows = steps.follows es stands.relay (is-new es e once) in
    let line : (c : ℕ) → line_stepped c es (line_of h c) e id now
    ≡ line_of (h ++ step ∷ []) c =
    λ c.
    sym (line_of-push h step c
    ∙ ap (λ b. cond b (line_of h c) (line_stepped c es (line_of h c) e id now)) once) in
    record {
      new = subst AreNew more (AreNew-push es e stands.new once);
      relay = subst (relay.Stands new.relay) more follows.1;
      waiting = λ c.
          let waited : List Action = (line_in steps.settled c).waiting in
          steps.waiting c
          ∙ ap (λ told. waited ++ to_conn c (added_by (is_binary e) steps.settled told)) follows.0
          ∙ ap (λ added. waited ++ added) (added-admitted steps.settled c es e id now)
          ∙ ap (λ w. w ++ admitted e w (to_conn c (actions es id now e)))
          (steps.before c ∙ stands.waiting c)
          ∙ ap (λ (l : LineState). l.waiting) (line c);
      is_open = λ c.
          steps.is_open c
          ∙ ap (open_by (change_of e) c) (stands.is_open c)
          ∙ open-told c e (line_of h c).is_open
          ∙ ap (λ (l : LineState). l.is_open) (line c);
      opened = λ c.
          steps.opened c
          ∙ ap (λ (b : Bool). cond (lets_in (change_of e) c) true b) (stands.opened c)
          ∙ opened-told c es e
          ∙ ap (λ (es : List Event). list_any (λ d. nat_eq d c) (openings es)) more;
    }

-- a step that was made
pub goes-done : (old new : SwitchState) (e : Event) (id : List ℕ) (now : ℕ)
    → StepsOrNot old e id now new
    → SwitchFollows old new (SwitchCall.Step e id now) SwitchAnswer.Done
goes-done old new e id now (inl known) h legal stands =
    let step : Step = (SwitchCall.Step e id now, SwitchAnswer.Done) in
    let twice : is_repeat (events_of h) e ≡ true = repeat-known old h e stands ∙ known.0 in (
      IsLegalSwitch-push h step legal (inl refl),
      stands-still old new h step
          (ap (λ b. cond b (events_of h) (events_of h ++ e ∷ [])) twice)
          (λ c. ap
          (λ b. cond b (line_of h c) (line_stepped c (events_of h) (line_of h c) e id now)) twice)
          (subst (SameSwitch old) (sym known.1) (SameSwitch-refl old))
          stands,
    )
goes-done old new e id now (inr done) h legal stands =
    let step : Step = (SwitchCall.Step e id now, SwitchAnswer.Done) in (
      IsLegalSwitch-push h step legal (inl refl),
      stands-stepped old new h e id now done.0 done.1 stands,
    )

-- a step for which there was no memory
pub goes-starved : (old new : SwitchState) (e : Event) (id : List ℕ) (now : ℕ)
    → SameSwitch old new
    → SwitchFollows old new (SwitchCall.Step e id now) SwitchAnswer.NoMemory
goes-starved old new e id now same h legal stands =
    let step : Step = (SwitchCall.Step e id now, SwitchAnswer.NoMemory) in (
      IsLegalSwitch-push h step legal (inr refl),
      stands-still old new h step refl (λ c. refl) same stands,
    )

-- a switch with no connections stands for no calls
pub stands-nil : (switch : SwitchState) → relay.Stands switch.relay [] → switch.lines ≡ []
    → switch.added ≡ []
    → switch.opened ≡ []
    → StandsForSwitch switch []
unfolding events_of line_of with_earlier openings IsDistinct
stands-nil switch relay_nil lines added opened =
    record {
      new = tt;
      relay = relay_nil;
      waiting = λ conn. (λ i. waiting_in (lines i) (added i) conn);
      is_open = λ conn. ap (λ (l : Lines). (line_in l conn).is_open) lines;
      opened = λ conn. ap (λ (ns : List ℕ). is_among ns conn) opened;
    }
