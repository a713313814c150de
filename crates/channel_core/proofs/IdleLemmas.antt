-- A pass that is idle, and what goes on behind it.
use Rattle.std.proofs.Common.{◌≡◌, ℕ, ◌<◌, true, false, ◌||◌, Option, Some, None, List, [], ◌∷◌, ◌++◌, inl, inr, ⊎_elim, refl, sym, ap, subst, ◌∙◌, append_assoc, length, slice_get}
use Rattle.std.proofs.lemmas.Bool.{both_ways, cases_Bool, lt-ltb, or_parts}
use Rattle.std.proofs.lemmas.List.{append-nil}
use Rattle.std.proofs.lemmas.Option.{slice_get-get_or}
use Rattle.chan_values.specs.declared.side.Side.{Side}
use Rattle.chan_values.specs.Sides.{other}
use Rattle.channel_core.specs.declared.call.EndAnswer.{EndAnswer}
use Rattle.channel_core.specs.declared.call.EndCall.{EndCall}
use Rattle.channel_core.specs.declared.answer.Pull.{Pull}
use Rattle.channel_core.specs.Call.{Entry}
use Rattle.channel_core.specs.Exchange.{IsPulled}
use Rattle.channel_core.specs.History.{PutMessage, acked_numbers, closes, is_closed, is_paused, is_up, owed_acks, put_messages}
use Rattle.channel_core.specs.Legal.{IsAnswered, answer_to_pull, emit_message, emit_next, emit_number}
use Rattle.channel_core.specs.Numbers.{has_number, least_below}
use Rattle.channel_core.specs.Resending.{is_eligible, sent_since_opened}
use Rattle.channel_core.specs.World.{Event, history_of}
use Rattle.channel_core.proofs.AgreementLemmas.{Agree}
use Rattle.channel_core.proofs.HistoryLemmas.{is_closed-push, is_paused-push, is_up-push, put_messages-push, sent_since_opened-push}
use Rattle.channel_core.proofs.NumberLemmas.{least_below-none, least_below-some}
use Rattle.channel_core.proofs.WorldLemmas.{by_side, cases_side, history_of-here, history_of-there, other-other}
use Rattle.channel_core.proofs.PassLemmas.{HasTaken, IsReady, HasTaken-push, IsPassed, passed}

-- a pull that finds nothing leaves both ends as they are
pub idle_passed : (s r : List Entry) (side : Side) (x : Event)
    → IsPulled side Pull.Idle x
    → IsReady s r
    → IsReady r s
    → IsPassed s r (s ++ x.entry ∷ []) r
idle_passed s r side x is ready back =
    let e = x.entry in
    let sent = sent_since_opened-push s e ∙ rw (is.answer, is.call) refl in
    record {
      ready = record {
        up = is_up-push s e ∙ rw is.call ready.up;
        running = is_paused-push s e ∙ rw (is.answer, is.call) ready.running;
        sent = λ n there. ready.sent n (ap (λ (l : List ℕ). has_number l n) (sym sent) ∙ there);
      };
      back = record {
        up = back.up;
        running = back.running;
        sent = λ n there. HasTaken-push s e n (back.sent n there);
      };
      put_s = put_messages-push s e ∙ rw is.answer (append-nil (put_messages s));
      put_r = refl;
      taken_s = HasTaken-push s e;
      taken_r = λ n there. there;
    }

-- an end that is not paused and emits nothing has no number that may go
idle_next : (h : List Entry) (now : ℕ) (owed : List (ℕ × List ℕ))
    → is_paused h ≡ false
    → emit_next h now owed ≡ Pull.Idle
    → least_below (is_eligible h) (length (put_messages h)) ≡ None
idle_next h now (p ∷ owed) running idle = cc
idle_next h now [] running idle =
    number (least_below (is_eligible h) (length (put_messages h))) refl (rw running at idle)
  where
    message : (n : ℕ) (o : Option PutMessage)
        → n < length (put_messages h)
        → slice_get (put_messages h) n ≡ o
        → emit_message n o ≡ Pull.Idle
        → ⊥
    message n None below is idle =
        let m : PutMessage
        = record { item = record { ptype = 0; payload = [] }; id = []; date = 0; last = false } in
        let value = slice_get-get_or (put_messages h) n m below in
        cc
    message n (Some m) below is idle = cc

    number : (o : Option ℕ)
        → least_below (is_eligible h) (length (put_messages h)) ≡ o
        → emit_number h o ≡ Pull.Idle
        → least_below (is_eligible h) (length (put_messages h)) ≡ None
    number None is idle = is
    number (Some n) is idle =
        let least = least_below-some (is_eligible h) (length (put_messages h)) n is in
        absurd (message n (slice_get (put_messages h) n) least.0 refl idle)

idle_answer : (w now : ℕ) (h : List Entry)
    → is_closed h ≡ false
    → is_up h ≡ true
    → is_paused h ≡ false
    → answer_to_pull w h now ≡ Pull.Idle
    → least_below (is_eligible h) (length (put_messages h)) ≡ None
unfolding answer_to_pull
idle_answer w now h unclosed up running idle =
    idle_next h now (owed_acks w h) running (rw (unclosed, up) at idle)

-- all that was put in was taken
abbrev pub AllTaken : List Entry → List Entry → Type 0
AllTaken s r = (n : ℕ) → n < length (put_messages s) → HasTaken r n

-- an end that has nothing to emit has been heard in full
pub idle_taken : (w now : ℕ) (s r : List Entry)
    → Agree w s r
    → IsReady s r
    → is_closed s ≡ false
    → IsAnswered w s (EndCall.Pull now) (EndAnswer.Pull Pull.Idle)
    → AllTaken s r
idle_taken w now s r agree ready unclosed answered n below =
    let none = least_below-none (is_eligible s) (length (put_messages s))
    (least answered) n below in
    let acked = has_number (acked_numbers s) n in
    let sent = has_number (sent_since_opened s) n in
    ⊎_elim
    (λ (done : acked ≡ true). agree.acked n done)
    (λ (waits : acked ≡ false). ⊎_elim
    (λ (gone : sent ≡ true). ready.sent n gone)
    (λ (fresh : sent ≡ false).
    let goes : is_eligible s n ≡ true
    = rw (lt-ltb n (length (put_messages s)) below, waits, fresh) refl in
    absurd (both_ways (is_eligible s n) none goes))
    (cases_Bool sent))
    (cases_Bool acked)
  where
    least : IsAnswered w s (EndCall.Pull now) (EndAnswer.Pull Pull.Idle)
        → least_below (is_eligible s) (length (put_messages s)) ≡ None
    least (inl is) =
        let idle : answer_to_pull w s now ≡ Pull.Idle = cc in
        idle_answer w now s unclosed ready.up ready.running idle
    least (inr none) =
        let never : EndAnswer.Pull Pull.Idle ≡ EndAnswer.Pull Pull.NoMemory = none.0 in cc

-- both ends are ready to send
abbrev pub BothReady : List Event → Type 0
BothReady world = (z : Side) → IsReady (history_of z world) (history_of (other z) world)

-- neither end is closed
abbrev pub Unclosed : List Event → Type 0
Unclosed world = (z : Side) → is_closed (history_of z world) ≡ false

-- an end that is not closed was not before
is_closed-front : (h : List Entry) (e : Entry)
    → is_closed (h ++ e ∷ []) ≡ false
    → is_closed h ≡ false
is_closed-front h e unclosed =
    let either = closes e.answer e.call || false in
    (or_parts (is_closed h) either (sym (is_closed-push h e) ∙ unclosed)).0

pub Unclosed-front : (world xs : List Event) → Unclosed (world ++ xs) → Unclosed world
Unclosed-front world [] unclosed z = let same : Unclosed world = rw append-nil at unclosed in same z
Unclosed-front world (x ∷ xs) unclosed z =
    let longer : Unclosed ((world ++ x ∷ []) ++ xs) = rw append_assoc unclosed in
    let after = Unclosed-front (world ++ x ∷ []) xs longer z in
    ⊎_elim
    (λ (here : x.side ≡ z).
    let same = history_of-here z world x here in
    is_closed-front (history_of z world) x.entry (ap is_closed (sym same) ∙ after))
    (λ (there : x.side ≡ other z). ap is_closed (sym (history_of-there z world x there)) ∙ after)
    (cases_side z x.side)

-- the world went on without a put, and nothing was lost
pub record GoesOn (world next : List Event) : Type 0 where
  pub ready : BothReady next
  pub put : (z : Side) → put_messages (history_of z next) ≡ put_messages (history_of z world)
  pub taken : (z : Side) (n : ℕ) → HasTaken (history_of z world) n → HasTaken (history_of z next) n

-- what passed between the histories of the ends passed in the world
pub goes_on : (side : Side) (world next : List Event)
    → IsPassed
    (history_of side world) (history_of (other side) world)
    (history_of side next) (history_of (other side) next)
    → GoesOn world next
goes_on side world next passed =
    let Ready : Side → Type 0 = λ z. IsReady (history_of z next) (history_of (other z) next) in
    let Same : Side → Type 0
    = λ z. put_messages (history_of z next) ≡ put_messages (history_of z world) in
    let Keeps : Side → Type 0
    = λ z. (n : ℕ) → HasTaken (history_of z world) n → HasTaken (history_of z next) n in
    let back : Ready (other side)
    = subst
    (λ z. IsReady (history_of (other side) next) (history_of z next))
    (sym (other-other side)) passed.back in
    record {
      ready = by_side Ready side passed.ready back;
      put = by_side Same side passed.put_s passed.put_r;
      taken = by_side Keeps side passed.taken_s passed.taken_r;
    }

-- the other end is ready too
pub ready_back : (side : Side) (world : List Event)
    → BothReady world
    → IsReady (history_of (other side) world) (history_of side world)
ready_back side world ready =
    subst
    (λ z. IsReady (history_of (other side) world) (history_of z world))
    (other-other side) (ready (other side))

-- one step after another
pub goes_on-join : (a b c : List Event) → GoesOn a b → GoesOn b c → GoesOn a c
goes_on-join a b c first second =
    record {
      ready = second.ready;
      put = λ z. second.put z ∙ first.put z;
      taken = λ z n there. second.taken z n (first.taken z n there);
    }
