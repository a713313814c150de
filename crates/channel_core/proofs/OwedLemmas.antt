-- What is owed: each number once.
use Rattle.std.proofs.Common.{◌≡◌, ◌≢◌, ℕ, false, not, ◌||◌, List, [], ◌∷◌, ◌++◌, sym, arith, drop, eqb, get_or, length, ltb}
use Rattle.std.specs.List.{All, AllPairs, list_any}
use Rattle.std.proofs.lemmas.Bool.{both_ways, cond_both, eq-eqb, ne_eqb, or_parts}
use Rattle.std.proofs.lemmas.List.Elements.{All-cons, All-nil}
use Rattle.std.proofs.lemmas.List.Folds.{list_any_none}
use Rattle.std.proofs.lemmas.List.Quantifiers.{all_pairs_push}
use Rattle.channel_core.specs.declared.call.EndAnswer.{EndAnswer}
use Rattle.channel_core.specs.declared.call.EndCall.{EndCall}
use Rattle.channel_core.specs.declared.answer.Heard.{Heard}
use Rattle.channel_core.specs.declared.message.Incoming.{Incoming}
use Rattle.channel_core.specs.declared.message.Outgoing.{Outgoing}
use Rattle.channel_core.specs.declared.answer.Pull.{Pull}
use Rattle.channel_core.specs.Call.{Entry}
use Rattle.channel_core.specs.History.{owed_acks, owed_after, owed_with}
use Rattle.channel_core.specs.Laws.{EachNumberIsOwedOnce}
use Rattle.channel_core.proofs.HistoryLemmas.{by_pushes, owed_acks-push}
use Rattle.channel_core.proofs.ItemLemmas.{different_behind}

-- the acknowledgements of an end: number and MessageId
abbrev pub Acks : Type 0
Acks = List (ℕ × List ℕ)

-- ---- each number once

-- a number that is looked for in vain differs from those that are owed
pub absent_from : (acks : Acks) (n : ℕ)
    → list_any (λ p. eqb n p.0) acks ≡ false
    → All (λ p. p.0 ≢ n) acks
absent_from [] n absent = All-nil (λ (p : ℕ × List ℕ). p.0 ≢ n)
absent_from (p ∷ acks) n absent =
    let parts = or_parts (eqb n p.0) (list_any (λ (q : ℕ × List ℕ). eqb n q.0) acks) absent in
    All-cons (λ (q : ℕ × List ℕ). q.0 ≢ n) p acks
    (λ same. both_ways (eqb n p.0) parts.0 (eq-eqb n p.0 (sym same)))
    (absent_from acks n parts.1)

-- and the other way round
pub absent_is : (acks : Acks) (n : ℕ)
    → All (λ p. p.0 ≢ n) acks
    → list_any (λ p. eqb n p.0) acks ≡ false
absent_is acks n apart =
    list_any_none (λ (p : ℕ × List ℕ). eqb n p.0) acks
    (λ i d inside. ne_eqb n (get_or acks i d).0 (λ same. apart i d inside (sym same)))

-- what is owed behind the others is new
different_with : (w : ℕ) (acks : Acks) (n : ℕ) (id : List ℕ)
    → AllPairs (λ p q. p.0 ≢ q.0) acks
    → AllPairs (λ p q. p.0 ≢ q.0) (owed_with w acks n id)
different_with w acks n id different =
    let there = list_any (λ (p : ℕ × List ℕ). eqb n p.0) acks in
    cond_both (there || not (ltb (length acks) w)) acks (acks ++ (n, id) ∷ [])
    (AllPairs (λ (p q : ℕ × List ℕ). p.0 ≢ q.0))
    (λ _. different)
    (λ new. all_pairs_push
    (λ (p q : ℕ × List ℕ). p.0 ≢ q.0) acks (n, id) different
    (absent_from acks n (or_parts there _ new).0))

-- and all others stay different
different_drop : (acks : Acks)
    → AllPairs (λ p q. p.0 ≢ q.0) acks
    → AllPairs (λ p q. p.0 ≢ q.0) (drop 1 acks)
different_drop [] different = different
different_drop (p ∷ acks) different = different_behind p acks different

different_after : (w : ℕ) (acks : Acks) (answer : EndAnswer) (call : EndCall)
    → AllPairs (λ p q. p.0 ≢ q.0) acks
    → AllPairs (λ p q. p.0 ≢ q.0) (owed_after w acks answer call)
different_after w acks
    (EndAnswer.Heard (Heard.Released items))
    (EndCall.Heard now (Incoming.Stream n id item last)) different =
    different_with w acks n id different
different_after w acks
    (EndAnswer.Heard (Heard.Finished items))
    (EndCall.Heard now (Incoming.Stream n id item last)) different =
    different_with w acks n id different
different_after w acks
    (EndAnswer.Heard Heard.Late) (EndCall.Heard now (Incoming.Stream n id item last)) different =
    different_with w acks n id different
different_after w acks (EndAnswer.Pull (Pull.Emit (Outgoing.Ack n id date))) call different =
    different_drop acks different
different_after w acks answer call different = different

pub each_number_is_owed_once : EachNumberIsOwedOnce
unfolding owed_acks
each_number_is_owed_once w =
    by_pushes
    (λ (h : List Entry). AllPairs (λ p q. p.0 ≢ q.0) (owed_acks w h))
    (λ i j d less within. absurd (omega arith))
    (λ h e before. rw owed_acks-push (different_after w (owed_acks w h) e.answer e.call before))
