-- What is read off a history by a fold, said by what came last.
use Rattle.std.proofs.Common.{◌≡◌, ◌≢◌, ℕ, Bool, true, List, ◌⊎◌, inl, inr, ⊎_elim, refl, sym, ap, ◌∙◌}
use Rattle.std.specs.List.{Any}
use Rattle.std.proofs.lemmas.Bool.{cases_eq}
use Rattle.std.proofs.lemmas.List.Folds.{Any-from_list_any, list_any-from_Any}
use Rattle.resend_queue.specs.declared.answer.Sent.{Sent}
use Rattle.channel_core.specs.declared.call.EndAnswer.{EndAnswer}
use Rattle.channel_core.specs.declared.call.EndCall.{EndCall}
use Rattle.channel_core.specs.declared.answer.Heard.TheVariants as Heard
use Rattle.channel_core.specs.declared.message.Outgoing.TheVariants as Outgoing
use Rattle.channel_core.specs.declared.answer.Pull.TheVariants as Pull
use Rattle.channel_core.specs.declared.answer.Tick.TheVariants as Tick
use Rattle.channel_core.specs.Call.{Entry}
use Rattle.channel_core.specs.History.{closes, is_closed, is_paused, is_up, paused_after, up_after}
use Rattle.channel_core.specs.Laws.{ClosedIsClosedOnce, MarkedIsDueLast, PausedIsPausedLast, SentIsEmittedSinceOpened, UpIsOpenedLast}
use Rattle.channel_core.specs.Legal.{IsAnswered, IsLegal}
use Rattle.channel_core.specs.Numbers.{has_number}
use Rattle.channel_core.specs.Resending.{marked_after, marked_due, sent_after, sent_since_opened}
use Rattle.channel_core.specs.Since.{IsClosing, IsDueOf, IsEmissionOf, IsLoss, IsOpening, IsPause, IsStart}
use Rattle.channel_core.proofs.HistoryLemmas.{is_paused-push, is_up-push, marked_due-push, sent_since_opened-push}
use Rattle.channel_core.proofs.LegalLemmas.{IsLegal-pushed, answered_cases}
use Rattle.channel_core.proofs.NumberLemmas.{has_number-kept, has_number-last, has_number-other, has_number-without}
use Rattle.channel_core.proofs.SinceLemmas.{Turns, since_is, Any_history}

-- ---- the connection

up_turns : (up : Bool) (call : EndCall)
    → Turns ((now : ℕ) × (call ≡ EndCall.Opened now)) (call ≡ EndCall.Lost) up (up_after up call)
up_turns up (EndCall.Opened now) = inl ((now, refl), refl)
up_turns up EndCall.Lost = inr (inl (λ is. cc, refl, refl))
up_turns up call = inr (inr (λ is. cc, λ is. cc, refl))

pub up_is_opened_last : UpIsOpenedLast
unfolding is_up
up_is_opened_last h =
    since_is Any_history (λ _. IsOpening) IsLoss is_up (λ h e _. tt) refl
    (λ h e _. rw (is_up-push h e) (up_turns (is_up h) e.call))
    h tt

-- ---- the pause

paused_turns : (paused : Bool) (answer : EndAnswer) (call : EndCall)
    → Turns
    (answer ≡ EndAnswer.Heard Heard.Paused)
    ((answer ≡ EndAnswer.Heard Heard.Started) ⊎ ((now : ℕ) × (call ≡ EndCall.Opened now)))
    paused
    (paused_after paused answer call)
paused_turns paused (EndAnswer.Heard Heard.Paused) call = inl (refl, refl)
paused_turns paused (EndAnswer.Heard Heard.Started) call = inr (inl (λ is. cc, inl refl, refl))
paused_turns paused answer (EndCall.Opened now) = inr (inl (λ is. cc, inr (now, refl), refl))
paused_turns paused answer call =
    inr (inr (λ is. cc, λ ends. ⊎_elim (λ is. cc) (λ is. cc) ends, refl))

pub paused_is_paused_last : PausedIsPausedLast
unfolding is_paused
paused_is_paused_last h =
    since_is Any_history (λ _. IsPause) IsStart is_paused (λ h e _. tt) refl
    (λ h e _. rw (is_paused-push h e) (paused_turns (is_paused h) e.answer e.call))
    h tt

-- ---- the closing

closing_of : (answer : EndAnswer) (call : EndCall)
    → closes answer call ≡ true
    → (call ≡ EndCall.Close)
    ⊎ (answer ≡ EndAnswer.Heard Heard.Ended)
    ⊎ ((n : ℕ) × (answer ≡ EndAnswer.Tick (Tick.GaveUp n)))
closing_of answer EndCall.Close is = inl refl
closing_of (EndAnswer.Heard Heard.Ended) call is = inr (inl refl)
closing_of (EndAnswer.Tick (Tick.GaveUp n)) call is = inr (inr (n, refl))
closing_of answer call is = cc

closes-close : (answer : EndAnswer) → closes answer EndCall.Close ≡ true
closes-close answer = refl

closes-ended : (call : EndCall) → closes (EndAnswer.Heard Heard.Ended) call ≡ true
closes-ended EndCall.Close = refl
closes-ended call = refl

closes-gave_up : (n : ℕ) (call : EndCall) → closes (EndAnswer.Tick (Tick.GaveUp n)) call ≡ true
closes-gave_up n EndCall.Close = refl
closes-gave_up n call = refl

closes-closing : (e : Entry) → IsClosing e → closes e.answer e.call ≡ true
closes-closing e (inl is) = rw is (closes-close e.answer)
closes-closing e (inr (inl is)) = rw is (closes-ended e.call)
closes-closing e (inr (inr is)) = rw is.1 (closes-gave_up is.0 e.call)

-- what holds of some element, in other words
any_so : {X : Type 0} (P Q : X → Type 0) (xs : List X)
    → ((x : X) → P x → Q x)
    → Any P xs
    → Any Q xs
any_so P Q xs so any = (any.0, any.1, any.2, any.3, so any.1 any.4)

pub closed_is_closed_once : ClosedIsClosedOnce
unfolding is_closed
closed_is_closed_once h =
    let test : Entry → Bool = λ e. closes e.answer e.call in
    let Closes : Entry → Type 0 = λ e. test e ≡ true in (
      λ is. any_so Closes IsClosing h (λ e. closing_of e.answer e.call)
          (Any-from_list_any test h is),
      λ any. list_any-from_Any test h (any_so IsClosing Closes h closes-closing any),
    )

-- ---- the numbers that were sent

-- an opening gives nothing out
opened_is_quiet : (w : ℕ) (h : List Entry) (now : ℕ) (answer : EndAnswer)
    → IsAnswered w h (EndCall.Opened now) answer
    → answer ≡ EndAnswer.Done
opened_is_quiet w h now answer answered =
    answered_cases w h (EndCall.Opened now) answer answered (λ is. is) (λ never. absurd never)

-- an answer that gives out the message with this number
abbrev Emits : ℕ → EndAnswer → Type 0
Emits n answer =
    (m : Sent) × (answer ≡ EndAnswer.Pull (Pull.Emit (Outgoing.Stream m))) × (m.seq ≡ n)

sent_turns : (w : ℕ) (h : List Entry) (sent : List ℕ) (n : ℕ) (answer : EndAnswer) (call : EndCall)
    → IsAnswered w h call answer
    → Turns
    (Emits n answer)
    ((now : ℕ) × (call ≡ EndCall.Opened now))
    (has_number sent n)
    (has_number (sent_after sent answer call) n)
sent_turns w h sent n answer (EndCall.Opened now) answered =
    let quiet = opened_is_quiet w h now answer answered in
    inr (inl (λ out. let is = out.1 in cc, (now, refl), refl))
sent_turns w h sent n (EndAnswer.Pull (Pull.Emit (Outgoing.Stream m))) call answered =
    ⊎_elim
    (λ (same : m.seq ≡ n).
    inl ((m, refl, same), rw same (has_number-last sent n)))
    (λ (apart : m.seq ≢ n).
    let other : n ≢ m.seq = λ is. apart (sym is) in
    inr
    (inr (
      λ out. let is =
          out.1 in apart (let one : m ≡ out.0 = cc in ap (λ (x : Sent). x.seq) one ∙ out.2),
      λ opened. let is = opened.1 in cc,
      has_number-other sent m.seq n other,
    )))
    (cases_eq m.seq n)
sent_turns w h sent n answer call answered =
    inr (inr (λ out. let is = out.1 in cc, λ opened. let is = opened.1 in cc, refl))

pub sent_is_emitted_since_opened : SentIsEmittedSinceOpened
unfolding sent_since_opened
sent_is_emitted_since_opened w h n =
    since_is (IsLegal w) (λ _. IsEmissionOf n) IsOpening (λ h. has_number (sent_since_opened h) n)
    (λ h e legal. (IsLegal-pushed w h e legal).0) refl
    (λ h e legal.
    rw (sent_since_opened-push h e)
    (sent_turns w h (sent_since_opened h) n e.answer e.call (IsLegal-pushed w h e legal).1))
    h

-- ---- the marks

marked_turns : (marked : List ℕ) (n : ℕ) (answer : EndAnswer)
    → Turns
    (answer ≡ EndAnswer.Tick (Tick.Due n))
    (Emits n answer)
    (has_number marked n)
    (has_number (marked_after marked answer) n)
marked_turns marked n (EndAnswer.Tick (Tick.Due k)) =
    ⊎_elim
    (λ (same : k ≡ n). inl (rw same refl, rw same (has_number-last marked n)))
    (λ (apart : k ≢ n).
    let other : n ≢ k = λ is. apart (sym is) in
    inr (inr (λ is. apart cc, λ out. let is = out.1 in cc, has_number-other marked k n other)))
    (cases_eq k n)
marked_turns marked n (EndAnswer.Pull (Pull.Emit (Outgoing.Stream m))) =
    ⊎_elim
    (λ (same : m.seq ≡ n).
    inr (inl (λ is. cc, (m, refl, same), rw same (has_number-without marked n))))
    (λ (apart : m.seq ≢ n).
    let other : n ≢ m.seq = λ is. apart (sym is) in
    inr
    (inr (
      λ is. cc,
      λ out. let is =
          out.1 in apart (let one : m ≡ out.0 = cc in ap (λ (x : Sent). x.seq) one ∙ out.2),
      has_number-kept marked m.seq n other,
    )))
    (cases_eq m.seq n)
marked_turns marked n answer = inr (inr (λ is. cc, λ out. let is = out.1 in cc, refl))

pub marked_is_due_last : MarkedIsDueLast
unfolding marked_due
marked_is_due_last h n =
    since_is Any_history (λ _. IsDueOf n) (IsEmissionOf n) (λ h. has_number (marked_due h) n)
    (λ h e _. tt) refl
    (λ h e _. rw (marked_due-push h e) (marked_turns (marked_due h) n e.answer))
    h tt
