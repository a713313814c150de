-- Openings, losses and closings from this side: from what an end keeps to the entry that follows.
use Rattle.std.proofs.Common.{◌≡◌, ℕ, ◌+◌, Bool, true, false, ◌||◌, List, [], ◌∷◌, ◌++◌, inl, refl, sym, ap, ◌∙◌, arith, length}
use Rattle.resend_queue.specs.Queue.{Pending, reopened}
use Rattle.channel_core.specs.declared.call.EndAnswer.{EndAnswer}
use Rattle.channel_core.specs.declared.call.EndCall.{EndCall}
use Rattle.channel_core.specs.Call.{Entry}
use Rattle.channel_core.specs.History.{has_ended, lowest_unacked, put_messages}
use Rattle.channel_core.specs.Legal.{IsLegal}
use Rattle.channel_core.specs.Resending.{due_count}
use Rattle.channel_core.specs.Stands.{EndState, Stands}
use Rattle.channel_core.proofs.PendingLemmas.{Sending}
use Rattle.channel_core.proofs.KeptLemmas.{kept_all-unsent}
use Rattle.channel_core.proofs.SendingLemmas.{sending}
use Rattle.channel_core.proofs.StandsLemmas.{Goes, dues-same, or-false, queue_after-is, queue_of, sending-still, step_goes, still_goes, still}

pub or-true : (b : Bool) → (b || true) ≡ true
or-true true = refl
or-true false = refl

-- ---- losses and closings

pub lost_goes : (w : ℕ) (h : List Entry) (old new : EndState)
    → IsLegal w h
    → Stands w old h
    → new ≡ record old { up = false }
    → Goes w h new EndCall.Lost EndAnswer.Done
lost_goes w h old new legal s is =
    still_goes w h old new EndCall.Lost EndAnswer.Done legal s (inl refl) (search still)
    (rw is refl) (rw is refl) (rw is refl) (rw is refl) (rw is refl) (rw is refl)
    (rw is (sym (or-false old.closed)))

pub close_goes : (w : ℕ) (h : List Entry) (old new : EndState)
    → IsLegal w h
    → Stands w old h
    → new ≡ record old { closed = true }
    → Goes w h new EndCall.Close EndAnswer.Done
close_goes w h old new legal s is =
    still_goes w h old new EndCall.Close EndAnswer.Done legal s (inl refl) (search still)
    (rw is refl) (rw is refl) (rw is refl) (rw is refl) (rw is refl) (rw is refl)
    (rw is (sym (or-true old.closed)))

-- ---- an opening

pub opened_goes : (w : ℕ) (h : List Entry) (now : ℕ) (old new : EndState)
    → IsLegal w h
    → Stands w old h
    → new ≡ record old { up = true; paused = false; queue = reopened old.queue }
    → Goes w h new (EndCall.Opened now) EndAnswer.Done
opened_goes w h now old new legal s is =
    let e : Entry = record { call = EndCall.Opened now; answer = EndAnswer.Done } in
    let t = sending h in
    let zero : due_count h (lowest_unacked h) + 0 ≡ due_count h (lowest_unacked h) = omega arith in
    let dues : due_count (h ++ e ∷ []) (lowest_unacked (h ++ e ∷ [])) ≡ due_count h
    (lowest_unacked h) = dues-same h e refl ∙ zero in
    step_goes w h old new (EndCall.Opened now) EndAnswer.Done legal s (inl refl) refl refl
    (rw is (ap reopened (s.queue ∙ queue_after-is w h)
    ∙ ap (λ (ps : List Pending). record {
      window = w;
      next = length (put_messages h);
      pending = ps;
      dues = due_count h (lowest_unacked h);
      ended = has_ended h;
    }) (sym (kept_all-unsent t))
    ∙ ap (λ (n : ℕ). queue_of w (record t { sent = [] }) n) (sym dues)
    ∙ ap (λ (u : Sending). queue_of w u (due_count (h ++ e ∷ []) (lowest_unacked (h ++ e ∷ []))))
    (sym (sending-still (record t { sent = [] })))))
    (rw is refl) (rw is refl) (rw is refl) (rw is refl) (rw is refl)
    (rw is (sym (or-false old.closed)))
