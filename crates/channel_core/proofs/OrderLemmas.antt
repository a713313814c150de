-- Acknowledgements are given out in the order of hearing.
use Rattle.std.proofs.Common.{◌≡◌, ℕ, not, ◌||◌, List, [], ◌∷◌, ◌++◌, sym, ap, subst, ◌∙◌, append_assoc, drop, eqb, length, ltb}
use Rattle.std.specs.List.{cons_option, filter_map, list_any}
use Rattle.std.proofs.lemmas.Bool.{cond_both}
use Rattle.std.proofs.lemmas.List.{append-nil}
use Rattle.std.proofs.lemmas.List.Elements.{filter_map-append}
use Rattle.channel_core.specs.declared.call.EndAnswer.{EndAnswer}
use Rattle.channel_core.specs.declared.call.EndCall.{EndCall}
use Rattle.channel_core.specs.Call.{Entry}
use Rattle.channel_core.specs.History.{ack_of, emitted_acks, emissions, message_emitted, owed_acks, owed_after, owed_with}
use Rattle.channel_core.specs.Laws.{AcksKeepTheirOrder, IsPrefixOf}
use Rattle.channel_core.specs.Legal.{IsAnswered, IsLegal}
use Rattle.channel_core.proofs.HistoryLemmas.{by_pushes, emissions-push, owed_acks-push}
use Rattle.channel_core.proofs.CaseLemmas.{by_cases}
use Rattle.channel_core.proofs.LegalLemmas.{IsLegal-pushed}
use Rattle.channel_core.proofs.OwedLemmas.{Acks}

-- ---- in the order of hearing

-- what was given out of the acknowledgements, with one entry more
emitted_acks-push : (h : List Entry) (e : Entry)
    → emitted_acks (h ++ e ∷ [])
    ≡ emitted_acks h ++ filter_map ack_of (cons_option (message_emitted e.answer) [])
emitted_acks-push h e =
    ap (filter_map ack_of) (emissions-push h e)
    ∙ filter_map-append ack_of (emissions h) (cons_option (message_emitted e.answer) [])

-- how a call and its answer change what was given out and is owed
abbrev OrderTurns : ℕ → List Entry → EndCall → EndAnswer → Type 0
OrderTurns w h call answer =
    IsPrefixOf
    (emitted_acks h ++ owed_acks w h)
    ((emitted_acks h ++ filter_map ack_of (cons_option (message_emitted answer) []))
    ++ owed_after w (owed_acks w h) answer call)

-- what is owed behind the others stands at the end
order_with : (w : ℕ) (given acks : Acks) (n : ℕ) (id : List ℕ)
    → IsPrefixOf (given ++ acks) ((given ++ []) ++ owed_with w acks n id)
order_with w given acks n id =
    let there = list_any (λ (p : ℕ × List ℕ). eqb n p.0) acks in
    let front = ap (λ (l : Acks). l ++ acks) (sym (append-nil given)) in
    cond_both (there || not (ltb (length acks) w)) acks (acks ++ (n, id) ∷ [])
    (λ (l : Acks). IsPrefixOf (given ++ acks) ((given ++ []) ++ l))
    (λ _. ([], append-nil (given ++ acks) ∙ front))
    (λ _. (
      (n, id) ∷ [],
      ap (λ (l : Acks). l ++ (n, id) ∷ []) front
          ∙ append_assoc (given ++ []) acks ((n, id) ∷ []),
    ))

order_turns : (w : ℕ) (h : List Entry) (call : EndCall) (answer : EndAnswer)
    → IsAnswered w h call answer
    → OrderTurns w h call answer
order_turns w h call answer answered =
    let given = emitted_acks h in
    let acks = owed_acks w h in
    let same : IsPrefixOf (given ++ acks) ((given ++ []) ++ acks)
    = ([], append-nil (given ++ acks) ∙ ap (λ (l : Acks). l ++ acks) (sym (append-nil given))) in
    by_cases w h (OrderTurns w h)
    (record {
      quiet = λ call answer quiet. rw (quiet.emitted, quiet.owed w acks) same;
      seq = λ item id now free. same;
      seq_last = λ item id now free. same;
      late = λ now n id item last there. order_with w given acks n id;
      released = λ now n id item last new so. order_with w given acks n id;
      finished = λ now n id item last new so. order_with w given acks n id;
      acked = λ now n out before. same;
      emit_ack = λ now p rest is. (
        [],
        append-nil (given ++ acks)
            ∙ ap (λ (l : Acks). given ++ l) is
            ∙ sym (append_assoc given (p ∷ []) rest)
            ∙ ap (λ (l : Acks). (given ++ p ∷ []) ++ drop 1 l) (sym is),
      );
      emit_stream = λ now n m below eligible is. same;
    }) call answer answered

pub acks_keep_their_order : AcksKeepTheirOrder
acks_keep_their_order w h =
    by_pushes Ordered
    (λ legal. ([], append-nil (line h) ∙ ap line (sym (append-nil h))))
    (λ more e before legal.
    let joined : h ++ (more ++ e ∷ []) ≡ (h ++ more) ++ e ∷ []
    = sym (append_assoc h more (e ∷ [])) in
    let parts = IsLegal-pushed w (h ++ more) e (subst (IsLegal w) joined legal) in
    let front = before parts.0 in
    let last : IsPrefixOf (line (h ++ more)) (line ((h ++ more) ++ e ∷ []))
    = rw (emitted_acks-push, owed_acks-push) (order_turns w (h ++ more) e.call e.answer parts.1) in
    subst (λ (l : List Entry). IsPrefixOf (line h) (line l)) (sym joined) (
      front.0 ++ last.0,
      sym (append_assoc (line h) front.0 last.0) ∙ ap (λ (l : Acks). l ++ last.0) front.1 ∙ last.1,
    ))
  where
    line : List Entry → Acks
    line h = emitted_acks h ++ owed_acks w h

    Ordered : List Entry → Type 0
    Ordered more = IsLegal w (h ++ more) → IsPrefixOf (line h) (line (h ++ more))
