-- A stream message is given out, and the replay gives it out too.
use Rattle.std.proofs.Common.{ℕ, ◌≡◌, ◌<◌, ◌≤◌, true, false, not, ◌||◌, None, List, [], ◌∷◌, ◌++◌, ⊎_elim, refl, sym, ap, subst, ◌∙◌, arith, append_assoc, length}
use Rattle.std.proofs.lemmas.Bool.{cases_Bool, cases_eq, eq-eqb, ne_eqb, or_cases, not-true, both_ways}
use Rattle.resend_queue.specs.declared.answer.Sent.{Sent}
use Rattle.channel_core.specs.declared.call.EndAnswer.{EndAnswer}
use Rattle.channel_core.specs.declared.call.EndCall.{EndCall}
use Rattle.channel_core.specs.declared.message.Outgoing.TheVariants as Outgoing
use Rattle.channel_core.specs.declared.answer.Pull.{Pull}
use Rattle.channel_core.specs.declared.answer.Put.{Put}
use Rattle.channel_core.specs.declared.answer.Tick.{Tick}
use Rattle.channel_core.specs.Call.{Entry}
use Rattle.channel_core.specs.History.{PutMessage, put_messages}
use Rattle.channel_core.specs.Legal.{IsLegal, answer_to}
use Rattle.channel_core.specs.Numbers.{has_number}
use Rattle.channel_core.specs.Resending.{marked_due, sent_since_opened}
use Rattle.session_audit.specs.declared.act.Act.{Act}
use Rattle.session_audit.specs.Acts.{act_of, acts_of}
use Rattle.session_audit.specs.Replay.{calls_before, entries_of, last_of_all, put_call}
use Rattle.session_audit.proofs.ExplainLemmas.{Explains, IsReady, given_out}
use Rattle.session_audit.proofs.FairLemmas.{fair}
use Rattle.session_audit.proofs.EligibleLemmas.{Gives, gives_answer, least_parts}
use Rattle.session_audit.proofs.ReadyLemmas.{number_place, put_answer, ready_again, ready_gives, ready_put}
use Rattle.session_audit.proofs.PutCallLemmas.{puts_in}
use Rattle.session_audit.proofs.DoesLemmas.{Does, answered_one, answered_two}
use Rattle.session_audit.proofs.TimerLemmas.{ready_due, tick_answer}

-- ---- a stream message is given out

-- the stream message with this number
abbrev sent_as : ℕ → PutMessage → Sent
sent_as n m = record { seq = n; id = m.id; date = m.date; item = m.item; last = m.last }

-- it is given out at this moment
abbrev pulled : ℕ → ℕ → PutMessage → Entry
pulled now n m =
    record {
      call = EndCall.Pull now;
      answer = EndAnswer.Pull (Pull.Emit (Outgoing.Stream (sent_as n m)));
    }

-- the replay gives it out by these calls
abbrev GivesOut : ℕ → List Entry → List Entry → ℕ → ℕ → PutMessage → List EndCall → Type 0
GivesOut w h g now n m calls =
    Does w h g (pulled now n m) (Act.Emits (Outgoing.Stream (sent_as n m))) (entries_of w g calls)

-- where the replay is ready after one call more that shows nothing
ready_two : (w : ℕ) (h g : List Entry) (now n : ℕ) (m : PutMessage) (call : EndCall)
    (answer : EndAnswer)
    → answer_to w g call ≡ answer
    → act_of answer call ≡ None
    → Gives w h n m
    → IsReady w h (g ++ record { call = call; answer = answer } ∷ []) n
    → GivesOut w h g now n m (call ∷ EndCall.Pull 0 ∷ [])
unfolding acts_of
ready_two w h g now n m call answer is shows gives ready =
    let first : Entry = record { call = call; answer = answer } in
    let g1 = g ++ first ∷ [] in
    let out : answer_to w g1 (EndCall.Pull 0) ≡ (pulled 0 n m).answer
    = ap (λ (p : Pull). EndAnswer.Pull p)
    (gives_answer w g1 0 n m (ready_gives w h g1 n m gives ready)) in
    subst
    (Does w h g (pulled now n m) (Act.Emits (Outgoing.Stream (sent_as n m))))
    (sym (answered_two w g call (EndCall.Pull 0) answer (pulled 0 n m).answer is out)) (
      rw shows refl,
      subst (Explains w (h ++ pulled now n m ∷ [])) (append_assoc g (first ∷ []) (pulled 0 n m ∷ []))
          (given_out w h g1 n now m ready),
    )

-- where it is ready as it stands
ready_one : (w : ℕ) (h g : List Entry) (now n : ℕ) (m : PutMessage)
    → Gives w h n m
    → IsReady w h g n
    → GivesOut w h g now n m (EndCall.Pull 0 ∷ [])
unfolding acts_of
ready_one w h g now n m gives ready =
    let out : answer_to w g (EndCall.Pull 0) ≡ (pulled 0 n m).answer
    = ap (λ (p : Pull). EndAnswer.Pull p)
    (gives_answer w g 0 n m (ready_gives w h g n m gives ready)) in
    subst
    (Does w h g (pulled now n m) (Act.Emits (Outgoing.Stream (sent_as n m))))
    (sym (answered_one w g (EndCall.Pull 0) (pulled 0 n m).answer out))
    (refl, given_out w h g n now m ready)

-- a new number
stream_new : (w : ℕ) (h g : List Entry) (now : ℕ) (m : PutMessage)
    → 1 ≤ w
    → IsLegal w h
    → IsLegal w g
    → Explains w h g
    → Gives w h (length (put_messages g)) m
    → GivesOut w h g now (length (put_messages g)) m
    (calls_before g (sent_as (length (put_messages g)) m) ++ EndCall.Pull 0 ∷ [])
stream_new w h g now m some legal legal_g x gives =
    let count = length (put_messages g) in
    let sent = sent_as count m in
    let puts = puts_in sent in
    rw (eq-eqb count count refl)
    (ready_two w h g now count m (put_call sent) (EndAnswer.Put (Put.Seq count))
    (puts.answer w g
    ∙ ap (λ (p : Put). EndAnswer.Put p) (put_answer w h g m some legal legal_g x gives))
    (puts.shows (Put.Seq count))
    gives
    (ready_put w h g m (put_call sent) puts legal x legal_g gives))

-- a number that was given out before
stream_again : (w : ℕ) (h g : List Entry) (now n : ℕ) (m : PutMessage)
    → IsLegal w h
    → Explains w h g
    → Gives w h n m
    → n < length (put_messages g)
    → GivesOut w h g now n m (calls_before g (sent_as n m) ++ EndCall.Pull 0 ∷ [])
stream_again w h g now n m legal x gives there =
    let least = least_parts h n gives.least in
    rw (ne_eqb n (length (put_messages g)) (λ same. omega arith))
    (⊎_elim
    (λ (sent : has_number (sent_since_opened g) n ≡ true).
    let sent_h : has_number (sent_since_opened h) n ≡ true
    = ap (λ (l : List ℕ). has_number l n) (sym x.sent) ∙ sent in
    let marked = marked_for sent_h least.it.goes in
    let low = (fair w h legal).low n marked least.it.unacked in
    rw sent
    (ready_two w h g now n m (EndCall.Tick last_of_all) (EndAnswer.Tick (Tick.Due n))
    (ap (λ (t : Tick). EndAnswer.Tick t)
    (tick_answer w h g n legal x gives.unclosed gives.up there (sym low) sent_h marked))
    refl
    gives
    (ready_due w h g n x there marked)))
    (λ (unsent : has_number (sent_since_opened g) n ≡ false).
    rw unsent (ready_one w h g now n m gives (ready_again w h g n x there unsent)))
    (cases_Bool (has_number (sent_since_opened g) n)))
  where
    marked_for : has_number (sent_since_opened h) n ≡ true
        → (not (has_number (sent_since_opened h) n) || has_number (marked_due h) n) ≡ true
        → has_number (marked_due h) n ≡ true
    marked_for sent goes =
        ⊎_elim
        (λ (unsent : not (has_number (sent_since_opened h) n) ≡ true).
        absurd (both_ways (has_number (sent_since_opened h) n)
        (not-true (has_number (sent_since_opened h) n) unsent) sent))
        (λ (marked : has_number (marked_due h) n ≡ true). marked)
        (or_cases (not (has_number (sent_since_opened h) n)) (has_number (marked_due h) n) goes)

-- a stream message
pub stream_step : (w : ℕ) (h g : List Entry) (now n : ℕ) (m : PutMessage)
    → 1 ≤ w
    → IsLegal w h
    → IsLegal w g
    → Explains w h g
    → Gives w h n m
    → GivesOut w h g now n m (calls_before g (sent_as n m) ++ EndCall.Pull 0 ∷ [])
stream_step w h g now n m some legal legal_g x gives =
    let place = number_place w h g n m legal_g x gives in
    ⊎_elim
    (λ (new : length (put_messages g) ≡ n).
    subst
    (λ (k : ℕ). Gives w h k m
    → GivesOut w h g now k m (calls_before g (sent_as k m) ++ EndCall.Pull 0 ∷ []))
    new
    (stream_new w h g now m some legal legal_g x)
    gives)
    (λ (old : length (put_messages g) ≡ n → ⊥).
    let there : n < length (put_messages g) = omega arith in
    stream_again w h g now n m legal x gives there)
    (cases_eq (length (put_messages g)) n)
