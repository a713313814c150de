-- The turns of a writing worker, one after another.
use Rattle.std.proofs.Common.{◌≡◌, ℕ, true, false, Bool, Option, Some, None, List, [], ◌∷◌, ◌++◌, map, refl, sym, ap, subst, ◌∙◌, append-nil}
use Rattle.std.specs.Prelude.{option_to_list}
use Rattle.std.specs.List.{All}
use Rattle.std.proofs.lemmas.List.{map-append}
use Rattle.std.proofs.lemmas.List.Elements.{All-nil, All-push}
use Rattle.chan_io.specs.Faults.{Rises}
use Rattle.chan_io.specs.LinksOut.{Departures}
use Rattle.chan_io.specs.declared.got.Got.{Got}
use Rattle.chan_io.specs.declared.link_out.LinkOut.{Ghosts}
use Rattle.relay_core.specs.declared.action.Action.{Action}
use Rattle.session_run.proofs.AddsLemmas.{AddsCalls-none, AddsCalls-then}
use Rattle.session_run.specs.Adds.{AddsCalls}
use Rattle.relay_switch.specs.OutletTurns.{Turns}
use Rattle.relay_switch.specs.Outlets.{EndsTurn, is_last, message_in}
use Rattle.relay_switch.specs.Switching.{Step}
use Rattle.relay_switch.specs.declared.outlet.Outlet.{Outlet}
use Rattle.relay_switch.specs.declared.outlet.Turned.{Turned}
use Rattle.relay_switch.specs.declared.switch_call.SwitchAnswer.{SwitchAnswer}
use Rattle.relay_switch.specs.declared.switch_call.SwitchCall.{SwitchCall}
use Rattle.relay_run.specs.declared.send_end.SendEnd.{SendEnd}
use Rattle.relay_run.specs.Ends.{EndsSending, end_of, is_going}
use Rattle.relay_run.specs.Sending.{SentAll, SentSome, takes_of}

takes-push : (conn : ℕ) (going : List SwitchAnswer) (answer : SwitchAnswer)
    → takes_of conn (going ++ answer ∷ [])
    ≡ takes_of conn going ++ (SwitchCall.Take conn, answer) ∷ []
takes-push conn going answer =
    map-append (λ (a : SwitchAnswer). (SwitchCall.Take conn, a)) going (answer ∷ [])

-- an answer with a message may be followed by another
message-going : (answer : SwitchAnswer) (message : Got) → message_in answer ≡ Some message
    → is_going answer ≡ true
message-going SwitchAnswer.Done message is = cc
message-going SwitchAnswer.NoMemory message is = cc
message-going (SwitchAnswer.Next (Action.Text conn text)) message is = refl
message-going (SwitchAnswer.Next (Action.Send conn bytes)) message is = refl
message-going (SwitchAnswer.Next (Action.Drop conn)) message is = cc
message-going SwitchAnswer.Nothing message is = refl
message-going SwitchAnswer.Over message is = cc

-- the answer of a turn that is not the last
turn-going : (turned : Turned) (answer : SwitchAnswer) (before after : Option Departures)
    (was now : ℕ)
    → EndsTurn turned answer before after was now
    → is_last turned ≡ false
    → is_going answer ≡ true
turn-going Turned.Sent answer before after was now ends on =
    message-going answer ends.0 ends.1
turn-going Turned.Idle answer before after was now ends on = ap is_going ends.0
turn-going Turned.Over answer before after was now ends on = cc
turn-going Turned.Failed answer before after was now ends on = cc
turn-going Turned.NoMemory answer before after was now ends on = cc

-- it left the output's count as it was
turn-steady : (turned : Turned) (answer : SwitchAnswer) (before after : Option Departures)
    (was now : ℕ)
    → EndsTurn turned answer before after was now
    → is_last turned ≡ false
    → now ≡ was
turn-steady Turned.Sent answer before after was now ends on = ends.3
turn-steady Turned.Idle answer before after was now ends on = ends.2
turn-steady Turned.Over answer before after was now ends on = cc
turn-steady Turned.Failed answer before after was now ends on = cc
turn-steady Turned.NoMemory answer before after was now ends on = cc

-- the end behind a last turn
turn-end : (turned : Turned) (answer : SwitchAnswer) (before after : Option Departures)
    (first was now : ℕ)
    → EndsTurn turned answer before after was now
    → is_last turned ≡ true
    → was ≡ first
    → EndsSending (end_of turned) (Some answer) first now
turn-end Turned.Sent answer before after first was now ends last same = cc
turn-end Turned.Idle answer before after first was now ends last same = cc
turn-end Turned.Over answer before after first was now ends last same =
    (answer, refl, ends.0, ends.2 ∙ same)
turn-end Turned.Failed answer before after first was now ends last same =
    (answer, ends.0, refl, ends.1, subst (λ n. Rises n now) same ends.3)
turn-end Turned.NoMemory answer before after first was now ends last same =
    (answer, ends.0, refl, ends.1, ends.3 ∙ same)

module _ {U : Type 0} {g : Ghosts U} where
  -- before the first turn
  pub SentSome-none : (old : Outlet U g) → SentSome old [] old
  SentSome-none old =
      record {
        conn = refl;
        went = All-nil (λ (a : SwitchAnswer). is_going a ≡ true);
        takes = AddsCalls-none old.seat;
        steady = refl;
      }

  -- the take of one turn more
  took : (old mid new : Outlet U g) (going : List SwitchAnswer) (answer : SwitchAnswer)
      (turned : Turned)
      → SentSome old going mid
      → Turns mid answer turned new
      → AddsCalls old.seat (takes_of old.conn (going ++ answer ∷ [])) new.seat
  took old mid new going answer turned some turn =
      subst (λ (calls : List Step). AddsCalls old.seat calls new.seat)
      (sym (takes-push old.conn going answer))
      (AddsCalls-then old.seat mid.seat new.seat _ _ some.takes
      (subst (λ n. AddsCalls mid.seat ((SwitchCall.Take n, answer) ∷ []) new.seat) some.conn
      turn.seat))

  -- one turn more that is not the last
  pub SentSome-more : (old mid new : Outlet U g) (going : List SwitchAnswer)
      (answer : SwitchAnswer) (turned : Turned)
      → SentSome old going mid
      → Turns mid answer turned new
      → new.over ≡ false
      → SentSome old (going ++ answer ∷ []) new
  SentSome-more old mid new going answer turned some turn on =
      let goes : is_last turned ≡ false = sym turn.over ∙ on in
      record {
        conn = turn.conn ∙ some.conn;
        went =
            All-push (λ (a : SwitchAnswer). is_going a ≡ true) going answer some.went
            (turn-going turned answer _ _ _ _ turn.ends goes);
        takes = took old mid new going answer turned some turn;
        steady = turn-steady turned answer _ _ _ _ turn.ends goes ∙ some.steady;
      }

  -- the last turn
  pub SentAll-last : (old mid new : Outlet U g) (going : List SwitchAnswer)
      (answer : SwitchAnswer) (turned : Turned) (end : SendEnd)
      → SentSome old going mid
      → Turns mid answer turned new
      → new.over ≡ true
      → end ≡ end_of turned
      → SentAll old end new
  SentAll-last old mid new going answer turned end some turn over is =
      let last : is_last turned ≡ true = sym turn.over ∙ over in
      record {
        going = going;
        last = Some answer;
        conn = turn.conn ∙ some.conn;
        over = over;
        went = some.went;
        takes = took old mid new going answer turned some turn;
        ends =
            subst (λ e. EndsSending e (Some answer) (g.faults old.output) (g.faults new.output))
            (sym is) (turn-end turned answer _ _ _ _ _ turn.ends last some.steady);
      }

  -- a stop before the last turn
  pub SentAll-stopped : (old mid new : Outlet U g) (going : List SwitchAnswer)
      → SentSome old going mid
      → new.conn ≡ mid.conn
      → new.seat ≡ mid.seat
      → new.over ≡ true
      → g.faults new.output ≡ g.faults mid.output
      → SentAll old SendEnd.Stopped new
  SentAll-stopped old mid new going some conn seat over steady =
      record {
        going = going;
        last = None;
        conn = conn ∙ some.conn;
        over = over;
        went = some.went;
        takes =
            subst (λ s. AddsCalls old.seat (takes_of old.conn (going ++ [])) s) (sym seat)
            (subst (λ l. AddsCalls old.seat (takes_of old.conn l) mid.seat)
            (sym (append-nil going)) some.takes);
        ends = (refl, steady ∙ some.steady);
      }
