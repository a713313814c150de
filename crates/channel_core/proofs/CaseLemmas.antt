-- The cases of a call with its answer: those that change what is read off a history, and all others.
use Rattle.std.proofs.Common.{◌≡◌, ℕ, ◌<◌, max, Bool, true, false, Some, None, List, [], ◌∷◌, length, rules, slice_get}
use Rattle.std.proofs.lemmas.Bool.{cond_both}
use Rattle.chan_values.specs.declared.item.Item.{Item}
use Rattle.channel_core.specs.declared.call.EndAnswer.{EndAnswer}
use Rattle.channel_core.specs.declared.call.EndCall.{EndCall}
use Rattle.channel_core.specs.declared.answer.Heard.{Heard}
use Rattle.channel_core.specs.declared.message.Incoming.{Incoming}
use Rattle.channel_core.specs.declared.message.Outgoing.{Outgoing}
use Rattle.channel_core.specs.declared.answer.Pull.{Pull}
use Rattle.channel_core.specs.declared.answer.Put.{Put}
use Rattle.channel_core.specs.Call.{Entry}
use Rattle.channel_core.specs.History.{PutMessage, acked_numbers, emitted_numbers, is_closed, is_finished, items_released, message_emitted, message_put, message_taken, number_acked, owed_acks, owed_after, put_messages, taken_items}
use Rattle.channel_core.specs.Legal.{IsAnswered, answer_to_heard, answer_to_incoming, answer_to_pull, answer_to_put, answer_to_tick, emit_message, items_released_by}
use Rattle.channel_core.specs.Numbers.{has_number, numbers_of}
use Rattle.channel_core.specs.Resending.{is_eligible}
use Rattle.channel_core.proofs.LegalLemmas.{HasRoom, IsNew, IsTakenSo, ack_cases, answered_cases, pull_cases, put_cases, stream_cases}

-- an entry that puts, acknowledges, takes, releases, emits and owes nothing
pub record IsQuiet (call : EndCall) (answer : EndAnswer) : Type 0 where
  pub put : message_put answer call ≡ None
  pub acked : number_acked answer ≡ None
  pub taken : message_taken answer call ≡ None
  pub released : items_released answer ≡ []
  pub finished : is_finished answer ≡ false
  pub emitted : message_emitted answer ≡ None
  pub owed : (w : ℕ) (owed : List (ℕ × List ℕ)) → owed_after w owed answer call ≡ owed

-- a fact about a call and its answer: for each answer that changes what is read off a history, and
-- for all others at once
pub record Cases (w : ℕ) (h : List Entry) (P : EndCall → EndAnswer → Type 0) : Type 0 where
  pub quiet : (call : EndCall) (answer : EndAnswer) → IsQuiet call answer → P call answer
  pub seq : (item : Item) (id : List ℕ) (now : ℕ)
      → HasRoom w h
      → P (EndCall.Put item id now) (EndAnswer.Put (Put.Seq (length (put_messages h))))
  pub seq_last : (item : Item) (id : List ℕ) (now : ℕ)
      → HasRoom w h
      → P (EndCall.PutLast item id now) (EndAnswer.Put (Put.Seq (length (put_messages h))))
  pub late : (now n : ℕ) (id : List ℕ) (item : Item) (last : Bool)
      → has_number (numbers_of (taken_items h)) n ≡ true
      → P (EndCall.Heard now (Incoming.Stream n id item last)) (EndAnswer.Heard Heard.Late)
  pub released : (now n : ℕ) (id : List ℕ) (item : Item) (last : Bool)
      → IsNew w h n
      → IsTakenSo h n item last false
      → P
      (EndCall.Heard now (Incoming.Stream n id item last))
      (EndAnswer.Heard (Heard.Released (items_released_by (taken_items h) n item)))
  pub finished : (now n : ℕ) (id : List ℕ) (item : Item) (last : Bool)
      → IsNew w h n
      → IsTakenSo h n item last true
      → P
      (EndCall.Heard now (Incoming.Stream n id item last))
      (EndAnswer.Heard (Heard.Finished (items_released_by (taken_items h) n item)))
  pub acked : (now n : ℕ)
      → has_number (emitted_numbers h) n ≡ true
      → has_number (acked_numbers h) n ≡ false
      → P (EndCall.Heard now (Incoming.Ack n)) (EndAnswer.Heard (Heard.Acked n))
  pub emit_ack : (now : ℕ) (p : ℕ × List ℕ) (owed : List (ℕ × List ℕ))
      → owed_acks w h ≡ p ∷ owed
      → P (EndCall.Pull now) (EndAnswer.Pull (Pull.Emit (Outgoing.Ack p.0 p.1 (max now 1))))
  pub emit_stream : (now n : ℕ) (m : PutMessage)
      → n < length (put_messages h)
      → is_eligible h n ≡ true
      → slice_get (put_messages h) n ≡ Some m
      → P (EndCall.Pull now) (EndAnswer.Pull (emit_message n (Some m)))

-- a call and its answer fall under one of the cases
pub by_cases : (w : ℕ) (h : List Entry) (P : EndCall → EndAnswer → Type 0)
    → Cases w h P
    → (call : EndCall) (answer : EndAnswer)
    → IsAnswered w h call answer
    → P call answer
by_cases w h P cases (EndCall.Put item id now) answer answered =
    answered_cases w h (EndCall.Put item id now) answer answered
    (λ (is : answer ≡ EndAnswer.Put (answer_to_put w h item)). rw is
    (put_cases w h item (λ (put : Put). P (EndCall.Put item id now) (EndAnswer.Put put))
    (cases.quiet _ _ (search rules))
    (cases.quiet _ _ (search rules))
    (cases.quiet _ _ (search rules))
    (cases.quiet _ _ (search rules))
    (cases.seq item id now)))
    (λ never. absurd never)
by_cases w h P cases (EndCall.PutLast item id now) answer answered =
    answered_cases w h (EndCall.PutLast item id now) answer answered
    (λ (is : answer ≡ EndAnswer.Put (answer_to_put w h item)). rw is
    (put_cases w h item (λ (put : Put). P (EndCall.PutLast item id now) (EndAnswer.Put put))
    (cases.quiet _ _ (search rules))
    (cases.quiet _ _ (search rules))
    (cases.quiet _ _ (search rules))
    (cases.quiet _ _ (search rules))
    (cases.seq_last item id now)))
    (λ never. absurd never)
by_cases w h P cases (EndCall.Heard now incoming) answer answered =
    answered_cases w h (EndCall.Heard now incoming) answer answered
    (λ (is : answer ≡ EndAnswer.Heard (answer_to_heard w h incoming)). rw is
    (cond_both (is_closed h) Heard.AfterClose (answer_to_incoming w h incoming)
    (λ (heard : Heard). P (EndCall.Heard now incoming) (EndAnswer.Heard heard))
    (λ _. cases.quiet _ _ (search rules))
    (λ _. heard_cases incoming)))
    (λ (is : answer ≡ EndAnswer.Heard (Heard.NoMemory incoming)). rw is
    (cases.quiet _ _ (search rules)))
  where
    heard_cases : (incoming : Incoming)
        → P (EndCall.Heard now incoming) (EndAnswer.Heard (answer_to_incoming w h incoming))
    heard_cases (Incoming.Stream n id item last) =
        stream_cases w h n item last
        (λ (heard : Heard). P (EndCall.Heard now (Incoming.Stream n id item last))
        (EndAnswer.Heard heard))
        (cases.late now n id item last)
        (λ _. cases.quiet _ _ (search rules))
        (λ m _ _. cases.quiet _ _ (search rules))
        (cases.released now n id item last)
        (cases.finished now n id item last)
    heard_cases (Incoming.Ack n) =
        ack_cases h n
        (λ (heard : Heard). P (EndCall.Heard now (Incoming.Ack n)) (EndAnswer.Heard heard))
        (cases.acked now n)
        (cases.quiet _ _ (search rules))
    heard_cases Incoming.Pause = cases.quiet _ _ (search rules)
    heard_cases Incoming.Start = cases.quiet _ _ (search rules)
    heard_cases (Incoming.Closing output) = cases.quiet _ _ (search rules)
by_cases w h P cases (EndCall.Pull now) answer answered =
    answered_cases w h (EndCall.Pull now) answer answered
    (λ (is : answer ≡ EndAnswer.Pull (answer_to_pull w h now)). rw is
    (pull_cases w h now (λ (pull : Pull). P (EndCall.Pull now) (EndAnswer.Pull pull))
    (cases.quiet _ _ (search rules))
    (cases.emit_ack now)
    (cases.emit_stream now)))
    (λ (is : answer ≡ EndAnswer.Pull Pull.NoMemory). rw is (cases.quiet _ _ (search rules)))
by_cases w h P cases (EndCall.Tick now) answer answered =
    answered_cases w h (EndCall.Tick now) answer answered
    (λ (is : answer ≡ EndAnswer.Tick (answer_to_tick h now)). rw is
    (cases.quiet _ _ (search rules)))
    (λ never. absurd never)
by_cases w h P cases EndCall.Lost answer answered =
    answered_cases w h EndCall.Lost answer answered
    (λ is. rw is (cases.quiet _ _ (search rules))) (λ never. absurd never)
by_cases w h P cases (EndCall.Opened now) answer answered =
    answered_cases w h (EndCall.Opened now) answer answered
    (λ is. rw is (cases.quiet _ _ (search rules))) (λ never. absurd never)
by_cases w h P cases EndCall.Close answer answered =
    answered_cases w h EndCall.Close answer answered
    (λ is. rw is (cases.quiet _ _ (search rules))) (λ never. absurd never)
by_cases w h P cases EndCall.Look answer answered =
    answered_cases w h EndCall.Look answer answered
    (λ is. rw is (cases.quiet _ _ (search rules))) (λ never. absurd never)
