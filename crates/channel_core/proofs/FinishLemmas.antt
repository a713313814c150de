-- The last message of a direction in each legal history: none is above it, and it is released once.
use Rattle.std.proofs.Common.{◌≡◌, ℕ, ◌+◌, ◌≤◌, Bool, true, false, cond, Option, Some, None, List, [], ◌∷◌, ◌++◌, refl, sym, ap, subst, ◌∙◌, append_assoc, arith, ◌||◌}
use Rattle.std.specs.List.{cons_option, list_any}
use Rattle.std.proofs.lemmas.Bool.{both_ways, le-leb, le-ltb}
use Rattle.std.proofs.lemmas.List.{append-nil}
use Rattle.std.proofs.lemmas.List.Elements.{All-contains, All-nil}
use Rattle.receive_window.specs.Window.{is_below, is_last_among, last_with}
use Rattle.chan_values.specs.declared.item.Item.{Item}
use Rattle.channel_core.specs.declared.call.EndAnswer.{EndAnswer}
use Rattle.channel_core.specs.declared.call.EndCall.{EndCall}
use Rattle.channel_core.specs.Call.{Entry}
use Rattle.channel_core.specs.History.{PutMessage, TakenMessage, finished_count, has_ended, is_closed, is_finished, message_put, message_taken, put_messages, released_items, taken_messages}
use Rattle.channel_core.specs.Laws.{DirectionsEndApart, FinishedIsOnce, NothingFollowsTheLast}
use Rattle.channel_core.specs.Legal.{IsAnswered, IsLegal, ends_with}
use Rattle.channel_core.specs.Numbers.{has_number, least_absent, numbers_of}
use Rattle.channel_core.proofs.CaseLemmas.{by_cases}
use Rattle.channel_core.proofs.EndLemmas.{EndsTopmost, last_of, last_of-some, seqs_of}
use Rattle.channel_core.proofs.HistoryLemmas.{by_pushes, finished_count-push, is_closed-push, released_items-push, put_messages-push, taken_items-is, taken_messages-push}
use Rattle.channel_core.proofs.LegalLemmas.{IsLegal-pushed, IsNew, IsTakenSo, message}
use Rattle.channel_core.proofs.NumberLemmas.{least_absent-le}
use Rattle.channel_core.proofs.PastLemmas.{EndsTopmost-push, IsWithin, ends_with-is, last_of-push, past_end-none}

-- a choice that fails leaves the other
or-false : (b : Bool) → (b || false) ≡ b
or-false true = refl
or-false false = refl

-- ---- one message more

-- where the last message is not below the first bound, it is among those from there on where it is
-- below the second
last_among-is : (o : Option ℕ) (from to : ℕ)
    → ((n : ℕ) → o ≡ Some n → from ≤ n)
    → is_last_among o from to ≡ is_below o to
last_among-is None from to high = refl
last_among-is (Some n) from to high = rw (le-leb from n (high n refl)) refl

-- a message is taken only while the last one was not released
still_open : (taken : List TakenMessage) (m : TakenMessage)
    → IsWithin taken m.seq m.last
    → has_number (seqs_of taken) m.seq ≡ false
    → (n : ℕ)
    → last_of taken ≡ Some n
    → least_absent (seqs_of taken) ≤ n
still_open taken m within absent n is =
    let found = last_of-some taken n is in
    let low = All-contains (λ (t : TakenMessage). t.last ≡ true → m.seq ≤ t.seq) taken found.0
    within.below found.1 found.2 in
    let first = least_absent-le (seqs_of taken) m.seq absent in
    let number = found.3 in
    omega arith

-- and it ends the direction where the last one is released then
ends_now : (taken : List TakenMessage) (m : TakenMessage)
    → EndsTopmost taken
    → IsWithin taken m.seq m.last
    → has_number (seqs_of taken) m.seq ≡ false
    → ends_with taken m
    ≡ is_below (last_of (taken ++ m ∷ [])) (least_absent (seqs_of (taken ++ m ∷ [])))
ends_now taken m top within absent =
    let to = least_absent (seqs_of (taken ++ m ∷ [])) in
    ends_with-is taken m top within absent
    ∙ last_among-is (last_with (last_of taken) m.seq m.last) (least_absent (seqs_of taken)) to
    (high m.last)
    ∙ ap (λ (o : Option ℕ). is_below o to) (sym (last_of-push taken m within absent))
  where
    high : (last : Bool) (n : ℕ)
        → last_with (last_of taken) m.seq last ≡ Some n
        → least_absent (seqs_of taken) ≤ n
    high true n is =
        let same : m.seq ≡ n = cc in
        let first = least_absent-le (seqs_of taken) m.seq absent in
        omega arith
    high false n is = still_open taken m within absent n is

-- ---- each legal history

-- how often the last message was released, by the messages that were taken
abbrev ended_count : List TakenMessage → ℕ
ended_count taken = cond (is_below (last_of taken) (least_absent (seqs_of taken))) 1 0

-- what is read off a legal history of the last message
pub record IsEnded (h : List Entry) : Type 0 where
  pub topmost : EndsTopmost (taken_messages h)
  pub finished : finished_count h ≡ ended_count (taken_messages h)

-- a call keeps it
abbrev StaysEnded : List Entry → EndCall → EndAnswer → Type 0
StaysEnded h call answer =
    let taken = taken_messages h ++ cons_option (message_taken answer call) [] in
    EndsTopmost taken × (finished_count h + cond (is_finished answer) 1 0 ≡ ended_count taken)

-- a message that is taken keeps it
taken_stays : (w : ℕ) (h : List Entry) (n : ℕ) (item : Item) (last finished : Bool)
    → IsEnded h
    → IsNew w h n
    → IsTakenSo h n item last finished
    → EndsTopmost (taken_messages h ++ message n item last ∷ [])
    × (finished_count h + cond finished 1 0
    ≡ ended_count (taken_messages h ++ message n item last ∷ []))
taken_stays w h n item last finished ended new so =
    let taken = taken_messages h in
    let m : TakenMessage = message n item last in
    let within : IsWithin taken n last = past_end-none taken n last so.within in
    let absent : has_number (seqs_of taken) n ≡ false
    = subst (λ (l : List (ℕ × Item)). has_number (numbers_of l) n ≡ false) (taken_items-is h)
    new.absent in
    let ends = sym so.ends ∙ ends_now taken m ended.topmost within absent in
    let before : is_below (last_of taken) (least_absent (seqs_of taken)) ≡ false
    = unreleased (last_of taken) (still_open taken m within absent) in
    let none : finished_count h ≡ 0
    = ended.finished ∙ ap (λ (b : Bool). cond b 1 0) before in (
      EndsTopmost-push taken m ended.topmost within,
      ap (λ (k : ℕ). k + cond finished 1 0) none ∙ zero_plus finished
          ∙ ap (λ (b : Bool). cond b 1 0) ends,
    )
  where
    zero_plus : (b : Bool) → 0 + cond b 1 0 ≡ cond b 1 0
    zero_plus b = omega arith

    unreleased : (o : Option ℕ)
        → ((k : ℕ) → o ≡ Some k → least_absent (seqs_of (taken_messages h)) ≤ k)
        → is_below o (least_absent (seqs_of (taken_messages h))) ≡ false
    unreleased None high = refl
    unreleased (Some k) high = le-ltb k (least_absent (seqs_of (taken_messages h))) (high k refl)

stays_ended : (w : ℕ) (h : List Entry) (call : EndCall) (answer : EndAnswer)
    → IsEnded h
    → IsAnswered w h call answer
    → StaysEnded h call answer
stays_ended w h call answer ended answered =
    let taken = taken_messages h in
    let zero : finished_count h + 0 ≡ finished_count h = omega arith in
    let same : EndsTopmost (taken ++ []) × (finished_count h + 0 ≡ ended_count (taken ++ []))
    = rw (append-nil taken) (ended.topmost, zero ∙ ended.finished) in
    by_cases w h (StaysEnded h)
    (record {
      quiet = λ call answer quiet. rw (quiet.taken, quiet.finished) same;
      seq = λ item id now free. same;
      seq_last = λ item id now free. same;
      late = λ now n id item last there. same;
      released = λ now n id item last new so. taken_stays w h n item last false ended new so;
      finished = λ now n id item last new so. taken_stays w h n item last true ended new so;
      acked = λ now n out before. same;
      emit_ack = λ now p owed is. same;
      emit_stream = λ now n m below eligible is. same;
    }) call answer answered

ended_nil : IsEnded []
unfolding taken_messages finished_count least_absent
ended_nil = record { topmost = All-nil _; finished = refl }

pub ended : (w : ℕ) (h : List Entry) → IsLegal w h → IsEnded h
ended w h =
    by_pushes
    (λ h. IsLegal w h → IsEnded h)
    (λ legal. ended_nil)
    (λ h e before legal.
    let parts = IsLegal-pushed w h e legal in
    let after = stays_ended w h e.call e.answer (before parts.0) parts.1 in
    record {
      topmost = rw taken_messages-push after.0;
      finished = rw (finished_count-push, taken_messages-push) after.1;
    })
    h

pub finished_is_once : FinishedIsOnce
finished_is_once w h legal =
    let is = (ended w h legal).finished in
    rw is (at (is_below (last_of (taken_messages h)) (least_absent (seqs_of (taken_messages h)))))
  where
    at : (b : Bool) → cond b 1 0 ≤ 1
    at true = omega arith
    at false = omega arith

-- ---- puts

-- after a last item none is put in
put_none : (w : ℕ) (h : List Entry) (call : EndCall) (answer : EndAnswer)
    → has_ended h ≡ true
    → IsAnswered w h call answer
    → message_put answer call ≡ None
put_none w h call answer over answered =
    by_cases w h (λ call answer. message_put answer call ≡ None)
    (record {
      quiet = λ call answer quiet. quiet.put;
      seq = λ item id now free. absurd (both_ways (has_ended h) free.goes_on over);
      seq_last = λ item id now free. absurd (both_ways (has_ended h) free.goes_on over);
      late = λ now n id item last there. refl;
      released = λ now n id item last new so. refl;
      finished = λ now n id item last new so. refl;
      acked = λ now n out before. refl;
      emit_ack = λ now p owed is. refl;
      emit_stream = λ now n m below eligible is. refl;
    }) call answer answered

pub nothing_follows_the_last : NothingFollowsTheLast
nothing_follows_the_last w h more legal over =
    by_pushes
    (λ more. IsLegal w (h ++ more) → put_messages (h ++ more) ≡ put_messages h)
    (λ _. ap put_messages (append-nil h))
    (λ more e before legal.
    let joined : h ++ (more ++ e ∷ []) ≡ (h ++ more) ++ e ∷ [] = sym (append_assoc h more (e ∷ [])) in
    let parts = IsLegal-pushed w (h ++ more) e (subst (IsLegal w) joined legal) in
    let same = before parts.0 in
    let none = put_none w (h ++ more) e.call e.answer
    (ap (λ (l : List PutMessage). list_any (λ m. m.last) l) same ∙ over) parts.1 in
    ap put_messages joined
    ∙ put_messages-push (h ++ more) e
    ∙ ap (λ (o : Option PutMessage). put_messages (h ++ more) ++ cons_option o []) none
    ∙ append-nil (put_messages (h ++ more))
    ∙ same)
    more legal

-- ---- the other direction

pub directions_end_apart : DirectionsEndApart
directions_end_apart =
    record {
      finished = λ h now incoming items. (
        put_messages-push h _ ∙ append-nil (put_messages h),
        is_closed-push h _ ∙ or-false (is_closed h),
      );
      put_last = λ h item id now put. (
        taken_messages-push h _ ∙ append-nil (taken_messages h),
        released_items-push h _ ∙ append-nil (released_items h),
        is_closed-push h _ ∙ or-false (is_closed h),
      );
    }
