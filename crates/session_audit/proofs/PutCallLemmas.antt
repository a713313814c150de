-- The call that puts a message in, as the last or not: it shows nothing, and changes nothing else.
use Rattle.std.proofs.Common.{◌≡◌, ℕ, max, Bool, true, false, cond, Some, None, List, [], ◌∷◌, refl, ap, ◌∙◌}
use Rattle.std.specs.List.{cons_option}
use Rattle.resend_queue.specs.declared.answer.Sent.{Sent}
use Rattle.channel_core.specs.declared.call.EndAnswer.{EndAnswer}
use Rattle.channel_core.specs.declared.call.EndCall.{EndCall}
use Rattle.channel_core.specs.declared.answer.Put.{Put}
use Rattle.channel_core.specs.declared.message.Outgoing.{Outgoing}
use Rattle.channel_core.specs.Call.{Entry}
use Rattle.channel_core.specs.History.{PutMessage, message_put}
use Rattle.channel_core.specs.Legal.{answer_to, answer_to_put}
use Rattle.channel_core.specs.World.{WasEmitted}
use Rattle.session_audit.specs.Acts.{act_of, acts_of}
use Rattle.session_audit.specs.Replay.{entries_of, put_call}
use Rattle.session_audit.proofs.ExplainLemmas.{IsHidden}

-- a call that puts this message in, and does nothing else
pub record PutsIn (call : EndCall) (m : PutMessage) : Type 0 where
  pub answer : (w : ℕ) (h : List Entry)
      → answer_to w h call ≡ EndAnswer.Put (answer_to_put w h m.item)
  pub put : (n : ℕ)
      → message_put (EndAnswer.Put (Put.Seq n)) call
      ≡ Some (record { item = m.item; id = m.id; date = max m.date 1; last = m.last })
  pub shows : (put : Put) → act_of (EndAnswer.Put put) call ≡ None
  pub hides : (put : Put) → IsHidden (EndAnswer.Put put) call
  pub hears : (outs : List Outgoing) → WasEmitted outs call

-- the message that a put of this one puts in
abbrev pub message_in : Sent → PutMessage
message_in m = record { item = m.item; id = m.id; date = m.date; last = m.last }

pub puts_in : (m : Sent) → PutsIn (put_call m) (message_in m)
puts_in m = at m.last
  where
    at : (last : Bool)
        → PutsIn
        (cond last (EndCall.PutLast m.item m.id m.date) (EndCall.Put m.item m.id m.date))
        (record { item = m.item; id = m.id; date = m.date; last = last })
    at true =
        record {
          answer = λ w h. refl;
          put = λ n. refl;
          shows = λ put. refl;
          hides = λ put. record {
            acked = refl;
            out = refl;
            sent = λ l. refl;
            taken = refl;
            owed = λ w l. refl;
            up = λ b. refl;
            paused = λ b. refl;
            closed = refl;
          };
          hears = λ outs. tt;
        }
    at false =
        record {
          answer = λ w h. refl;
          put = λ n. refl;
          shows = λ put. refl;
          hides = λ put. record {
            acked = refl;
            out = refl;
            sent = λ l. refl;
            taken = refl;
            owed = λ w l. refl;
            up = λ b. refl;
            paused = λ b. refl;
            closed = refl;
          };
          hears = λ outs. tt;
        }

-- a put shows nothing
pub put_shows : (w : ℕ) (h : List Entry) (m : Sent)
    → acts_of (entries_of w h (put_call m ∷ [])) ≡ []
unfolding acts_of
put_shows w h m =
    ap
    (λ (a : EndAnswer). cons_option (act_of a (put_call m)) [])
    ((puts_in m).answer w h)
    ∙ ap (λ o. cons_option o []) ((puts_in m).shows (answer_to_put w h m.item))
