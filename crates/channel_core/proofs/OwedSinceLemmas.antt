-- A number is owed since its message was heard.
use Rattle.std.proofs.Common.{◌≡◌, ◌≢◌, ◌↔◌, ◌⊎◌, ℕ, Bool, true, false, not, ◌||◌, List, [], ◌∷◌, ◌++◌, inl, inr, ⊎_elim, refl, sym, ap, subst, ◌∙◌, arith, drop, eqb, length, ltb, max}
use Rattle.std.specs.List.{All, AllPairs, Contains, list_any}
use Rattle.std.proofs.lemmas.Bool.{both_ways, cond_both, lt-ltb, ltb-true, not-false, or_cases, or_parts}
use Rattle.std.proofs.lemmas.List.Elements.{Contains-append_cases, Contains-append_left, Contains-append_right, Contains-push, Contains-push_cases}
use Rattle.chan_values.specs.declared.item.Item.{Item}
use Rattle.channel_core.specs.declared.call.EndAnswer.{EndAnswer}
use Rattle.channel_core.specs.declared.call.EndCall.{EndCall}
use Rattle.channel_core.specs.declared.answer.Heard.{Heard}
use Rattle.channel_core.specs.declared.message.Incoming.{Incoming}
use Rattle.channel_core.specs.declared.message.Outgoing.{Outgoing}
use Rattle.channel_core.specs.declared.answer.Pull.{Pull}
use Rattle.channel_core.specs.Call.{Entry}
use Rattle.channel_core.specs.History.{message_emitted, owed_acks, owed_after, owed_with, taken_items}
use Rattle.channel_core.specs.Laws.{OwedIsHeardLast}
use Rattle.channel_core.specs.Legal.{IsAnswered, IsLegal, items_released_by}
use Rattle.channel_core.specs.Since.{FindsRoom, IsAckOf, IsTakenOrLate}
use Rattle.channel_core.proofs.HistoryLemmas.{owed_acks-push}
use Rattle.channel_core.proofs.ItemLemmas.{first_apart}
use Rattle.channel_core.proofs.CaseLemmas.{IsQuiet, by_cases}
use Rattle.channel_core.proofs.LegalLemmas.{IsLegal-pushed}
use Rattle.channel_core.proofs.SinceLemmas.{since_holds}
use Rattle.channel_core.proofs.OwedLemmas.{Acks, absent_from, absent_is, each_number_is_owed_once}

-- ---- since its message was heard

-- a message that was taken or came late is owed
owed_after-heard : (w : ℕ) (acks : Acks) (now n : ℕ) (id : List ℕ) (item : Item) (last : Bool)
    (answer : EndAnswer)
    → IsTakenOrLate answer
    → owed_after w acks answer (EndCall.Heard now (Incoming.Stream n id item last))
    ≡ owed_with w acks n id
owed_after-heard w acks now n id item last answer (inl taken) = rw taken.1 refl
owed_after-heard w acks now n id item last answer (inr (inl taken)) = rw taken.1 refl
owed_after-heard w acks now n id item last answer (inr (inr late)) = rw late refl

-- where nothing is added or paid, the same is owed
stays : {Finds Pays : Type 0} (after acks : Acks) (x : ℕ × List ℕ)
    → after ≡ acks
    → ¬ Finds
    → ¬ Pays
    → Contains after x ↔ (Finds ⊎ ((¬ Pays) × Contains acks x))
stays {Finds} {Pays} after acks x same found pays = (
  λ there. inr (pays, subst (λ (l : Acks). Contains l x) same there),
  λ either. ⊎_elim
      (λ (finds : Finds). absurd (found finds))
      (λ (kept : (¬ Pays) × Contains acks x). subst (λ (l : Acks). Contains l x) (sym same) kept.1)
      either,
)

-- how a call and its answer change whether an acknowledgement is owed
abbrev OwedStep : ℕ → ℕ → List ℕ → List Entry → EndCall → EndAnswer → Type 0
OwedStep w n id h call answer =
    let e : Entry = record { call = call; answer = answer } in
    Contains (owed_after w (owed_acks w h) answer call) (n, id)
    ↔ (FindsRoom w n id h e ⊎ ((¬ IsAckOf n e) × Contains (owed_acks w h) (n, id)))

-- a message that was taken or came late
heard_step : (w n : ℕ) (id : List ℕ) (h : List Entry) (now k : ℕ) (id' : List ℕ) (item : Item)
    (last : Bool) (answer : EndAnswer)
    → IsTakenOrLate answer
    → (¬ IsAckOf n
    (record { call = EndCall.Heard now (Incoming.Stream k id' item last); answer = answer }))
    → OwedStep w n id h (EndCall.Heard now (Incoming.Stream k id' item last)) answer
heard_step w n id h now k id' item last answer heard no_ack =
    subst
    (λ (l : Acks). Contains l (n, id) ↔ Rest)
    (sym (owed_after-heard w acks now k id' item last answer heard))
    (cond_both (there || full) acks (acks ++ (k, id') ∷ [])
    (λ (l : Acks). Contains l (n, id) ↔ Rest)
    (λ either. (
      λ owed. inr (no_ack, owed),
      λ rest. ⊎_elim
          (λ (finds : FindsRoom w n id h e). absurd (no_room finds either))
          (λ (kept : (¬ IsAckOf n e) × Contains acks (n, id)). kept.1)
          rest,
    ))
    (λ free. (
      λ owed. ⊎_elim
          (λ (before : Contains acks (n, id)). inr (no_ack, before))
          (λ (new : ◌≡◌ {A = ℕ × List ℕ} (k, id') (n, id)). inl (found new free))
          (Contains-push_cases acks (k, id') (n, id) owed),
      λ rest. ⊎_elim
          (λ (finds : FindsRoom w n id h e).
          let is = finds.call in
          let number : k ≡ n = cc in
          let ids : id' ≡ id = cc in
          rw (number, ids) (Contains-push acks (n, id)))
          (λ (kept : (¬ IsAckOf n e) × Contains acks (n, id)).
          Contains-append_left acks ((k, id') ∷ []) (n, id) kept.1)
          rest,
    )))
  where
    acks : Acks
    acks = owed_acks w h

    e : Entry
    e = record { call = EndCall.Heard now (Incoming.Stream k id' item last); answer = answer }

    Rest : Type 0
    Rest = FindsRoom w n id h e ⊎ ((¬ IsAckOf n e) × Contains acks (n, id))

    there : Bool
    there = list_any (λ (p : ℕ × List ℕ). eqb k p.0) acks

    full : Bool
    full = not (ltb (length acks) w)

    no_room : FindsRoom w n id h e → (there || full) ≡ true → ⊥
    no_room finds either =
        let is = finds.call in
        let number : n ≡ k = cc in
        let absent = absent_is acks k
        (subst (λ (j : ℕ). All (λ (p : ℕ × List ℕ). p.0 ≢ j) acks) number finds.new) in
        let room : full ≡ false = ap not (lt-ltb (length acks) w finds.room) in
        ⊎_elim
        (λ (is : there ≡ true). both_ways there absent is)
        (λ (is : full ≡ true). both_ways full room is)
        (or_cases there full either)

    found : ◌≡◌ {A = ℕ × List ℕ} (k, id') (n, id) → (there || full) ≡ false → FindsRoom w n id h e
    found same free =
        let number : k ≡ n = ap (λ (p : ℕ × List ℕ). p.0) same in
        let ids : id' ≡ id = ap (λ (p : ℕ × List ℕ). p.1) same in
        let parts = or_parts there full free in
        record {
          now = now;
          item = item;
          last = last;
          call = rw (number, ids) refl;
          answer = heard;
          room = ltb-true (length acks) w (not-false (ltb (length acks) w) parts.1);
          new = subst
              (λ (j : ℕ). All (λ (p : ℕ × List ℕ). p.0 ≢ j) acks) number
              (absent_from acks k parts.0);
        }

-- the first that is owed is paid, and no other
paid_step : (w n : ℕ) (id : List ℕ) (h : List Entry) (now : ℕ) (p : ℕ × List ℕ) (rest : Acks)
    → owed_acks w h ≡ p ∷ rest
    → OwedStep w n id h
    (EndCall.Pull now) (EndAnswer.Pull (Pull.Emit (Outgoing.Ack p.0 p.1 (max now 1))))
paid_step w n id h now p rest is = (
  λ owed.
      let behind = subst (λ (l : Acks). Contains (drop 1 l) (n, id)) is owed in
      inr (
        not_paid behind,
        subst (λ (l : Acks). Contains l (n, id)) (sym is)
            (Contains-append_right (p ∷ []) rest (n, id) behind),
      ),
  λ either. subst (λ (l : Acks). Contains (drop 1 l) (n, id)) (sym is) (⊎_elim
      (λ (finds : FindsRoom w n id h e). let never = finds.call in cc)
      (λ (kept : (¬ IsAckOf n e) × Contains (owed_acks w h) (n, id)).
      later kept.0 (subst (λ (l : Acks). Contains l (n, id)) is kept.1))
      either),
)
  where
    e : Entry
    e =
        record {
          call = EndCall.Pull now;
          answer = EndAnswer.Pull (Pull.Emit (Outgoing.Ack p.0 p.1 (max now 1)));
        }

    not_paid : Contains rest (n, id) → ¬ IsAckOf n e
    not_paid behind ack =
        let told = ack.2 in
        let same : p.0 ≡ n = cc in
        first_apart p rest (n, id)
        (subst
        (AllPairs (λ (p q : ℕ × List ℕ). p.0 ≢ q.0)) is (each_number_is_owed_once w h)) behind same

    later : (¬ IsAckOf n e) → Contains (p ∷ rest) (n, id) → Contains rest (n, id)
    later unpaid owed =
        ⊎_elim
        (λ (only : Contains (p ∷ []) (n, id)).
        ⊎_elim
        (λ (never : Contains [] (n, id)). absurd (let inside = never.1 in omega arith))
        (λ (first : p ≡ (n, id)).
        let same : p.0 ≡ n = ap (λ (q : ℕ × List ℕ). q.0) first in
        absurd (unpaid (p.1, max now 1, rw same refl)))
        (Contains-push_cases [] p (n, id) only))
        (λ (behind : Contains rest (n, id)). behind)
        (Contains-append_cases (p ∷ []) rest (n, id) owed)

owed_steps : (w n : ℕ) (id : List ℕ) (h : List Entry) (call : EndCall) (answer : EndAnswer)
    → IsAnswered w h call answer
    → OwedStep w n id h call answer
owed_steps w n id h call answer answered =
    let acks = owed_acks w h in
    by_cases w h (OwedStep w n id h)
    (record {
      quiet = λ call answer quiet.
          stays (owed_after w acks answer call) acks (n, id) (quiet.owed w acks)
          (owes call answer quiet)
          (λ ack. let emitted = quiet.emitted in let is = ap message_emitted ack.2 in cc);
      seq = λ item id' now free.
          stays acks acks (n, id) refl
          (λ finds. let is = finds.call in cc) (λ ack. let is = ack.2 in cc);
      seq_last = λ item id' now free.
          stays acks acks (n, id) refl
          (λ finds. let is = finds.call in cc) (λ ack. let is = ack.2 in cc);
      late = λ now k id' item last there.
          heard_step w n id h now k id' item last (EndAnswer.Heard Heard.Late) (inr (inr refl))
          (λ ack. let is = ack.2 in cc);
      released = λ now k id' item last new so.
          let items = items_released_by (taken_items h) k item in
          heard_step w n id h now k id' item last (EndAnswer.Heard (Heard.Released items))
          (inl (items, refl)) (λ ack. let is = ack.2 in cc);
      finished = λ now k id' item last new so.
          let items = items_released_by (taken_items h) k item in
          heard_step w n id h now k id' item last (EndAnswer.Heard (Heard.Finished items))
          (inr (inl (items, refl))) (λ ack. let is = ack.2 in cc);
      acked = λ now k out before.
          stays acks acks (n, id) refl
          (λ finds. let is = finds.call in cc) (λ ack. let is = ack.2 in cc);
      emit_ack = λ now p rest is. paid_step w n id h now p rest is;
      emit_stream = λ now k m below eligible is.
          stays acks acks (n, id) refl
          (λ finds. let is = finds.call in cc) (λ ack. let is = ack.2 in cc);
    }) call answer answered
  where
    owes : (call : EndCall) (answer : EndAnswer)
        → IsQuiet call answer
        → FindsRoom w n id h (record { call = call; answer = answer })
        → ⊥
    owes call answer quiet finds =
        let none = quiet.owed 1 [] in
        let one = ap (owed_after 1 [] answer) finds.call in
        let is = owed_after-heard 1 [] finds.now n id finds.item finds.last answer finds.answer in
        let never : ◌≡◌ {A = Acks} [] ((n, id) ∷ []) = sym none ∙ one ∙ is in
        cc

pub owed_is_heard_last : OwedIsHeardLast
unfolding owed_acks
owed_is_heard_last w h n id =
    since_holds (IsLegal w) (FindsRoom w n id) (IsAckOf n) (λ h. Contains (owed_acks w h) (n, id))
    (λ h e legal. (IsLegal-pushed w h e legal).0)
    (λ never. let inside = never.1 in omega arith)
    (λ h e legal.
    rw (owed_acks-push w h e)
    (owed_steps w n id h e.call e.answer (IsLegal-pushed w h e legal).1))
    h
