-- A push keeps the bytes that were put in those that were given out.
use Rattle.std.proofs.Common.{◌≡◌, ◌≢◌, ℕ, ◌+◌, ◌-◌, ◌≤◌, Bool, true, false, cond, ◌⊎◌, inl, inr, ⊎_elim, Option, Some, None, List, [], ◌∷◌, ◌++◌, length, refl, sym, ap, subst, ◌∙◌, append-nil, arith}
use Rattle.std.specs.Prelude.{nat_eq, ◌||◌}
use Rattle.std.specs.List.{cons_option}
use Rattle.std.proofs.lemmas.Bool.{cond_both, eqb-false, eqb-true}
use Rattle.std.proofs.lemmas.List.{length-append}
use Rattle.chan_values.specs.Limits.{max_seq}
use Rattle.chan_values.specs.declared.item.Item.{Item}
use Rattle.chan_values.specs.declared.side.Side.{Side}
use Rattle.chan_values.specs.Sides.{other}
use Rattle.channel_core.specs.declared.answer.Put.{Put}
use Rattle.channel_core.specs.declared.call.EndAnswer.{EndAnswer}
use Rattle.channel_core.specs.declared.call.EndCall.{EndCall}
use Rattle.channel_core.specs.Call.{Entry}
use Rattle.channel_core.specs.History.{PutMessage, has_ended, is_closed, lowest_unacked, message_put, put_items, put_messages}
use Rattle.channel_core.specs.Legal.{IsAnswered, IsLegal, IsNoMemory, answer_to, answer_to_put, look_at}
use Rattle.channel_core.specs.World.{history_of}
use Rattle.channel_core.proofs.HistoryLemmas.{by_pushes, put_messages-push}
use Rattle.channel_core.proofs.LegalLemmas.{HasRoom, IsLegal-pushed, answered_cases, put_cases}
use Rattle.channel_core.proofs.WorldLemmas.{event_of, history_of-here, history_of-there, other-other}
use Rattle.lab_script.specs.declared.command.Action.TheVariants as Action
use Rattle.lab_run.specs.Steps.{events_of, id_of, step_of}
use Rattle.lab_run.proofs.RightLemmas.{IsRight-step}
use Rattle.smux_acts.specs.Each.{IsPrefixOf}
use Rattle.smux_streams.specs.Call.{Outs}
use Rattle.smux_streams.specs.History.{consumed, given}
use Rattle.lab_streams.specs.Outcomes.{outcome_of_no_room}
use Rattle.lab_streams.specs.Steps.{Past, StreamStep, after, arrived, bytes_of, mux_history, outgoing, push_step, put_step, refused_step, stream_item}
use Rattle.lab_streams.proofs.CallLemmas.{after-mux}
use Rattle.lab_streams.proofs.CarriedLemmas.{IsCarried, IsPut, by_side, carried_by, carried_quiet, longer}
use Rattle.lab_streams.proofs.EndLemmas.{arrived-here, arrived-there, bytes_of-none, put_releases, with_events}
use Rattle.lab_streams.proofs.PushLemmas.{after-refused}
use Rattle.lab_streams.proofs.QuietLemmas.{nothing_put, put_bytes, put_bytes-push}

-- a put that gets a number had one left
number_left : (w : ℕ) (h : List Entry) (item : Item) (n : ℕ)
    → Put.Seq n ≡ answer_to_put w h item
    → length (put_messages h) ≢ max_seq + 1
number_left w h item n is =
    put_cases w h item (λ p. Put.Seq n ≡ p → length (put_messages h) ≢ max_seq + 1)
    (λ e. absurd (cc e))
    (λ e. absurd (cc e))
    (λ e. absurd (cc e))
    (λ e. absurd (cc e))
    (λ (room : HasRoom w h) e. room.left)
    is

-- how many were put in after one call more
abbrev counted : List Entry → EndAnswer → EndCall → ℕ
counted h answer call =
    length (put_messages h) + length (cons_option (message_put answer call) [])

none_counted : (h : List Entry) (answer : EndAnswer) (call : EndCall)
    → message_put answer call ≡ None
    → length (put_messages h) ≤ max_seq + 1
    → counted h answer call ≤ max_seq + 1
none_counted h answer call none few =
    let no : length (cons_option (message_put answer call) []) ≡ 0 =
    ap (λ (o : Option PutMessage). length (cons_option o [])) none in
    omega (arith, no, few)

one_counted : (w : ℕ) (h : List Entry) (item : Item) (n : ℕ) (call : EndCall)
    → answer_to w h call ≡ EndAnswer.Put (answer_to_put w h item)
    → IsAnswered w h call (EndAnswer.Put (Put.Seq n))
    → ¬ IsNoMemory call (EndAnswer.Put (Put.Seq n))
    → length (put_messages h) ≤ max_seq + 1
    → length (put_messages h) + 1 ≤ max_seq + 1
one_counted w h item n call due answered memory few =
    let is : EndAnswer.Put (Put.Seq n) ≡ EndAnswer.Put (answer_to_put w h item) =
    answered_cases w h call (EndAnswer.Put (Put.Seq n)) answered
    (λ (e : EndAnswer.Put (Put.Seq n) ≡ answer_to w h call). e ∙ due)
    (λ (no : IsNoMemory call (EndAnswer.Put (Put.Seq n))). absurd (memory no)) in
    let same : Put.Seq n ≡ answer_to_put w h item = cc in
    let left = number_left w h item n same in
    omega (arith, left, few)

all_counted : (w : ℕ) (h : List Entry) (answer : EndAnswer) (call : EndCall)
    → IsAnswered w h call answer
    → length (put_messages h) ≤ max_seq + 1
    → counted h answer call ≤ max_seq + 1
all_counted w h (EndAnswer.Put (Put.Seq n)) (EndCall.Put item id now) answered few =
    one_counted w h item n (EndCall.Put item id now) refl answered (λ no. no) few
all_counted w h (EndAnswer.Put (Put.Seq n)) (EndCall.PutLast item id now) answered few =
    one_counted w h item n (EndCall.PutLast item id now) refl answered (λ no. no) few
all_counted w h answer call answered few = none_counted h answer call refl few

none_put : length (put_messages []) ≡ 0
unfolding put_messages
none_put = refl

-- the numbers of a legal history are bounded
put_count : (w : ℕ) (h : List Entry) → IsLegal w h → length (put_messages h) ≤ max_seq + 1
put_count w = by_pushes (λ h. IsLegal w h → length (put_messages h) ≤ max_seq + 1)
    (λ legal. omega (arith, none_put))
    (λ h e before legal.
    let l = IsLegal-pushed w h e legal in
    let count = length-append (put_messages h) (cons_option (message_put e.answer e.call) []) in
    omega (
      arith,
      count,
      ap length (put_messages-push h e),
      all_counted w h e.answer e.call l.1 (before l.0),
    ))

-- the answer to a put where a look tells room: the next number, unless they are spent
abbrev IsRoomy : List Entry → Item → Put → Type 0
IsRoomy h item put =
    ((put ≡ Put.Spent item) × (length (put_messages h) ≡ max_seq + 1))
    ⊎ ((put ≡ Put.Seq (length (put_messages h))) × (length (put_messages h) ≢ max_seq + 1))

room_answers : (w : ℕ) (h : List Entry) (item : Item)
    → nat_eq (look_at w h).room 0 ≡ false
    → IsRoomy h item (answer_to_put w h item)
unfolding answer_to_put look_at
room_answers w h item some =
    by_tests (is_closed h) (has_ended h) (length (put_messages h) - lowest_unacked h) some
  where
    by_tests : (closed ended : Bool) (gap : ℕ)
        → nat_eq (cond (closed || ended) 0 (w - gap)) 0 ≡ false
        → IsRoomy h item
        (cond closed (Put.Closed item)
        (cond ended (Put.Past item)
        (cond (nat_eq (length (put_messages h)) (max_seq + 1)) (Put.Spent item)
        (cond (nat_eq gap w) (Put.Full item) (Put.Seq (length (put_messages h)))))))
    by_tests true ended gap some = absurd (cc some)
    by_tests false true gap some = absurd (cc some)
    by_tests false false gap some =
        let count = length (put_messages h) in
        let room = cond (nat_eq gap w) (Put.Full item) (Put.Seq count) in
        cond_both (nat_eq count (max_seq + 1)) (Put.Spent item) room (IsRoomy h item)
        (λ spent. inl (refl, eqb-true count (max_seq + 1) spent))
        (λ left. cond_both (nat_eq gap w) (Put.Full item) (Put.Seq count) (IsRoomy h item)
        (λ full.
        let none = eqb-false (w - gap) 0 some in
        absurd (none (omega (arith, eqb-true gap w full))))
        (λ _. inr (refl, eqb-false count (max_seq + 1) left)))

-- an item of the streams carries its bytes
stream_item-bytes : (bytes : List ℕ) → bytes_of (stream_item bytes ∷ []) ≡ bytes
unfolding bytes_of
stream_item-bytes bytes = append-nil bytes

-- what is put in once a Mux gave these bytes out
pushed : (h : List Entry) (g bytes : List ℕ) (call : EndCall) (put : Put)
    → IsRoomy h (stream_item bytes) put
    → length (put_messages h) ≤ max_seq + 1
    → IsPut h g
    → ((n : ℕ) → put_bytes (EndAnswer.Put (Put.Seq n)) call ≡ bytes)
    → IsPut (h ++ (let e : Entry = record { call = call; answer = EndAnswer.Put put } in e) ∷ [])
    (g ++ bytes)
pushed h g bytes call put roomy few is seq =
    let e : Entry = record { call = call; answer = EndAnswer.Put put } in
    let all = put_bytes-push h e in
    let count = length-append (put_messages h) (cons_option (message_put (EndAnswer.Put put) call) [])
    in
    ⊎_elim
    (λ (spent : (put ≡ Put.Spent (stream_item bytes)) × (length (put_messages h) ≡ max_seq + 1)).
    let none : put_bytes (EndAnswer.Put put) call ≡ [] =
    ap (λ (p : Put). put_bytes (EndAnswer.Put p) call) spent.0
    ∙ nothing_put (EndAnswer.Put (Put.Spent (stream_item bytes))) call refl in
    let same : bytes_of (put_items (h ++ e ∷ [])) ≡ bytes_of (put_items h) =
    all ∙ ap (λ (l : List ℕ). bytes_of (put_items h) ++ l) none ∙ append-nil (bytes_of (put_items h))
    in
    let made : IsPut (h ++ e ∷ []) (g ++ bytes) = record {
      prefix =
          subst (λ (l : List ℕ). IsPrefixOf l (g ++ bytes)) (sym same)
          (longer (bytes_of (put_items h)) g bytes is.prefix);
      whole = λ fewer.
          absurd (omega (arith, count, ap length (put_messages-push h e), fewer, spent.1));
    } in
    made)
    (λ (left : (put ≡ Put.Seq (length (put_messages h)))
    × (length (put_messages h) ≢ max_seq + 1)).
    let before : bytes_of (put_items h) ≡ g = is.whole (omega (arith, few, left.1)) in
    let some : put_bytes (EndAnswer.Put put) call ≡ bytes =
    ap (λ (p : Put). put_bytes (EndAnswer.Put p) call) left.0 ∙ seq (length (put_messages h)) in
    let same : bytes_of (put_items (h ++ e ∷ [])) ≡ g ++ bytes =
    all
    ∙ ap (λ (l : List ℕ). bytes_of (put_items h) ++ l) some
    ∙ ap (λ (l : List ℕ). l ++ bytes) before in
    let made : IsPut (h ++ e ∷ []) (g ++ bytes) = record {
      prefix = ([], append-nil (bytes_of (put_items (h ++ e ∷ []))) ∙ same);
      whole = λ fewer. same;
    } in
    made)
    roomy

-- a put releases nothing
quiet_arrival : (w : ℕ) (past : Past) (now line : ℕ) (side : Side) (item : Item) (z : Side)
    → let s = step_of w past.events now line side (Action.Put item) in
    arrived z (with_events past (events_of (s ∷ []))) ≡ arrived z past
quiet_arrival w past now line side item =
    let s = step_of w past.events now line side (Action.Put item) in
    let put = answer_to_put w (history_of side past.events) item in
    by_side (λ z. arrived z (with_events past (events_of (s ∷ []))) ≡ arrived z past) side
    (arrived-here w past now line side (Action.Put item)
    ∙ ap (λ (l : List Item). arrived side past ++ bytes_of l) (put_releases put)
    ∙ ap (λ (l : List ℕ). arrived side past ++ l) bytes_of-none
    ∙ append-nil (arrived side past))
    (arrived-there w past now line side (Action.Put item))

-- what a Mux gave out is put in
carried_put : (w : ℕ) (past : Past) (now line : ℕ) (side : Side) (most : ℕ) (bytes : List ℕ)
    → IsCarried w past
    → nat_eq (look_at w (history_of side past.events)).room 0 ≡ false
    → bytes ≡ outgoing side past most
    → IsCarried w (after past (put_step w past now line side most bytes ∷ []))
carried_put w past now line side most [] is some given_is =
    let e = Outs most (Some []) in
    subst (IsCarried w)
    (sym (after-mux past line side e (put_step w past now line side most []).told))
    (carried_quiet w past side e is (tt, inl (ap (λ (l : List ℕ). Some l) given_is)) refl refl)
carried_put w past now line side most (b ∷ bytes) is some given_is =
    let item = stream_item (b ∷ bytes) in
    let e = Outs most (Some (b ∷ bytes)) in
    let call = EndCall.Put item (id_of line) now in
    let x = event_of w past.events side call in
    let h = history_of side past.events in
    let g = given (mux_history side past) in
    let far = other side in
    let away = history_of-there far past.events x (sym (other-other side)) in
    let fed : IsPrefixOf (consumed (mux_history side past) ++ []) (arrived side past) =
    subst (λ (l : List ℕ). IsPrefixOf l (arrived side past))
    (sym (append-nil (consumed (mux_history side past)))) (is.fed side) in
    carried_by w past (past.events ++ x ∷ []) side e is
    (IsRight-step w past.events now line side (Action.Put item) is.right)
    (tt, inl (ap (λ (l : List ℕ). Some l) given_is))
    (quiet_arrival w past now line side item)
    fed
    (subst (λ (l : List Entry). IsPut l (g ++ (b ∷ bytes)))
    (sym (history_of-here side past.events x refl))
    (pushed h g (b ∷ bytes) call (answer_to_put w h item) (room_answers w h item some)
    (put_count w h (is.right.legal side)) (is.put side)
    (λ n. stream_item-bytes (b ∷ bytes))))
    (ap put_items away)
    (ap put_messages away)

-- a push
pub carried_push : (w : ℕ) (past : Past) (now line : ℕ) (side : Side) (most : ℕ)
    → IsCarried w past
    → IsCarried w (after past (push_step w past now line side most ∷ []))
carried_push w past now line side most is =
    let look = look_at w (history_of side past.events) in
    let refused = refused_step line side (outcome_of_no_room look) in
    let bytes = outgoing side past most in
    cond_both (nat_eq look.room 0) refused (put_step w past now line side most bytes)
    (λ (s : StreamStep). IsCarried w (after past (s ∷ [])))
    (λ none. subst (IsCarried w) (sym (after-refused past line side (outcome_of_no_room look))) is)
    (λ some. carried_put w past now line side most bytes is some refl)
