-- The turns of an inlet.
use Rattle.std.proofs.Common.{◌≡◌, ℕ, Bool, true, false, cond, Option, Some, None, Result, Ok, Err, List, [], ◌∷◌, refl, sym, ap, subst, ◌∙◌}
use Rattle.chan_io.specs.Faults.{IfFailed, Rises, UnlessFailed}
use Rattle.chan_io.specs.LinksIn.{Arrivals, Receives}
use Rattle.chan_io.specs.declared.failed.IoFault.{IoFault}
use Rattle.chan_io.specs.declared.got.Got.{Got}
use Rattle.chan_values.specs.declared.side.Side.{Side}
use Rattle.relay_core.specs.declared.event.Event.{Event}
use Rattle.turn_lock.specs.declared.seat.Seat.{Seat}
use Rattle.turn_lock.specs.declared.value.Turn.{Ghosts}
use Rattle.session_run.specs.Adds.{AddsCalls}
use Rattle.session_run.proofs.AddsLemmas.{AddsCalls-none}
use Rattle.relay_switch.specs.Kinds.{done_or_not}
use Rattle.relay_switch.specs.declared.switch_call.SwitchAnswer.{SwitchAnswer}
use Rattle.relay_switch.specs.declared.switch_call.SwitchCall.{SwitchCall}
use Rattle.relay_desk.specs.declared.heard.Heard.{Heard}
use Rattle.relay_desk.specs.declared.inlet.Inlet.{Inlet}
use Rattle.relay_desk.specs.Hearing.{Hearing, MayEnd, MayHear, ends_session, event_due, goes, is_end, is_last_heard, passes, stepping_switch, steps, store_end, unended}
use Rattle.relay_desk.specs.InletTurns.{Hears, Reads, got_in, hears, received, starves}

-- what is done at the end of a session may be done at a text that ends it
pub may-end : (conn : ℕ) (session : List ℕ) (role : Side) (got : Got) (hearing : Hearing)
    → event_due conn session role got ≡ Some (Event.EndSession session)
    → MayEnd session hearing
    → MayHear conn session role got hearing
may-end conn session role got passes due never = absurd never
may-end conn session role got (unended fault) due may = due
may-end conn session role got (goes event closing stepping) due may =
    (due ∙ ap Some (sym may.0), may.1 ∙ sym (ap is_end may.0))

-- a text that ends the session
pub text-due : (conn : ℕ) (session : List ℕ) (role : Side) (text : List ℕ) (b : Bool)
    → b ≡ ends_session role text
    → b ≡ true
    → event_due conn session role (Got.Text text) ≡ Some (Event.EndSession session)
text-due conn session role text b test is =
    ap (λ t. cond t (Some (Event.EndSession session)) None) (sym test ∙ is)

-- another one
pub text-passed : (conn : ℕ) (session : List ℕ) (role : Side) (text : List ℕ) (b : Bool)
    → b ≡ ends_session role text
    → b ≡ false
    → event_due conn session role (Got.Text text) ≡ None
text-passed conn session role text b test is =
    ap (λ t. cond t (Some (Event.EndSession session)) None) (sym test ∙ is)

-- what was done at a text was done at the message that has it
pub text-heard : {N : Type 0} (old : Inlet N) (got : Got) (text seen : List ℕ) (hearing : Hearing)
    (new : Inlet N) (heard : Heard)
    → got ≡ Got.Text text
    → seen ≡ text
    → Hears old (Got.Text seen) hearing new heard
    → Hears old got hearing new heard
text-heard old got text seen hearing new heard is same h =
    subst (λ (g : Got). Hears old g hearing new heard) (ap Got.Text same ∙ sym is) h

-- a failure of the register is the end of the turns
pub store-last : (fault : IoFault) → true ≡ is_last_heard (store_end fault)
store-last IoFault.Failed = refl
store-last IoFault.NoMemory = refl

-- a step, by whether it was made
pub stepped : {V T : Type 0} {g : Ghosts V SwitchCall SwitchAnswer T}
    (a b : Seat V SwitchCall SwitchAnswer T g) (event : Event) (id : List ℕ) (now : ℕ)
    (r done : Bool)
    → r ≡ done
    → AddsCalls a ((SwitchCall.Step event id now, done_or_not r) ∷ []) b
    → AddsCalls a (stepping_switch event (steps id now done)) b
stepped a b event id now r done is adds =
    subst (λ t. AddsCalls a ((SwitchCall.Step event id now, done_or_not t) ∷ []) b) is adds

module _ {N : Type 0} (arrivals : N → Option Arrivals) (faults : N → ℕ) where
  -- a receive, and what was done with what came
  pub Reads-heard : (old new : Inlet N) (mid : N) (r : Result Got IoFault) (came : Option Got)
      (hearing : Hearing) (heard : Heard)
      → r ≡ received (hears came hearing)
      → Hears (record old { input = mid }) (got_in came) hearing new heard
      → Receives r (arrivals old.input) (arrivals mid)
      → UnlessFailed r (faults mid ≡ faults old.input)
      → IfFailed r (Rises (faults old.input) (faults mid))
      → Reads arrivals faults old (hears came hearing) new heard
  Reads-heard old new mid r came hearing heard is h receives steady failed =
      let m = h.makes in
      let same : mid ≡ new.input = sym h.input in
      let to : Result Got IoFault = received (hears came hearing) in
      record {
        may = h.may;
        makes =
            record {
              conn = m.conn;
              session = m.session;
              role = m.role;
              seat = m.seat;
              over = m.over;
            };
        input =
            subst (λ n. Receives to (arrivals old.input) (arrivals n)) same
            (subst (λ (x : Result Got IoFault). Receives x (arrivals old.input) (arrivals mid)) is
            receives);
        steady =
            subst (λ n. UnlessFailed to (faults n ≡ faults old.input)) same
            (subst (λ (x : Result Got IoFault). UnlessFailed x (faults mid ≡ faults old.input)) is
            steady);
        failed =
            subst (λ n. IfFailed to (Rises (faults old.input) (faults n))) same
            (subst (λ (x : Result Got IoFault). IfFailed x (Rises (faults old.input) (faults mid)))
            is failed);
        comes = h.comes;
      }

  -- a receive that wanted memory
  pub Reads-starved : (old : Inlet N) (mid : N) (r : Result Got IoFault)
      → r ≡ Err IoFault.NoMemory
      → Receives r (arrivals old.input) (arrivals mid)
      → UnlessFailed r (faults mid ≡ faults old.input)
      → Reads arrivals faults old starves (record old { input = mid; over = true }) Heard.NoMemory
  Reads-starved old mid r is receives steady =
      record {
        may = tt;
        makes =
            record {
              conn = refl;
              session = refl;
              role = refl;
              seat = AddsCalls-none old.seat;
              over = refl;
            };
        input =
            subst (λ (x : Result Got IoFault). Receives x (arrivals old.input) (arrivals mid)) is
            receives;
        steady =
            subst (λ (x : Result Got IoFault). UnlessFailed x (faults mid ≡ faults old.input)) is
            steady;
        failed = tt;
        comes = refl;
      }
