-- What each Mux consumed is a prefix of what the other gave out, after each step.
use Rattle.std.proofs.Common.{◌≡◌, ℕ, ◌≤◌, true, false, inl, ⊎_elim, Some, List, [], ◌∷◌, ◌++◌, length, take, drop, refl, sym, ap, subst, ◌∙◌, append_assoc, append-nil, arith}
use Rattle.std.specs.List.{cons_option}
use Rattle.std.proofs.lemmas.List.{length-append, take-append-drop}
use Rattle.chan_values.specs.Limits.{max_seq}
use Rattle.chan_values.specs.declared.item.Item.{Item}
use Rattle.chan_values.specs.declared.side.Side.{Side}
use Rattle.chan_values.specs.declared.side.Side.TheVariants.{Plugin, Agent}
use Rattle.chan_values.specs.Sides.{other}
use Rattle.channel_core.specs.Call.{Entry}
use Rattle.channel_core.specs.History.{items_released, message_put, put_items, put_messages, released_items}
use Rattle.channel_core.specs.World.{Event, history_of}
use Rattle.channel_core.proofs.DeliveryLemmas.{released_is_prefix}
use Rattle.channel_core.proofs.HistoryLemmas.{put_messages-push, released_items-push}
use Rattle.channel_core.proofs.WorldLemmas.{IsRight, cases_side, history_of-here, history_of-there}
use Rattle.smux_acts.specs.Each.{IsPrefixOf}
use Rattle.smux_acts.proofs.Eachs.{each_snoc, prefix_trans}
use Rattle.smux_streams.specs.Call.{Entry as MuxEntry, Feeds}
use Rattle.smux_streams.specs.History.{consumed, consumed_in, given, given_in, seen}
use Rattle.smux_streams.specs.Laws.{Step as MuxStep, IsJoined, IsLegalPair, IsLinked}
use Rattle.smux_streams.specs.Legal.{Answers, feed_answer}
use Rattle.smux_streams.proofs.EntryLemmas.{front_is}
use Rattle.smux_streams.proofs.KeepLemmas.{given_push}
use Rattle.smux_streams.proofs.Pairs.{consumed_push}
use Rattle.lab_streams.specs.Steps.{Past, after, arrived, bytes_of, feed_step, is_client, mux_call, mux_history, waiting, with_call}
use Rattle.lab_streams.proofs.CallLemmas.{after-mux}
use Rattle.lab_streams.proofs.EndLemmas.{bytes_of-append, with_events}
use Rattle.lab_streams.proofs.MuxLemmas.{IsLegalPair-call, mux_history-here, mux_history-there}
use Rattle.lab_streams.proofs.QuietLemmas.{PutsNoBytes, put_bytes-push, quiet_put}

-- The bytes of the streams that an end put in are those that its Mux gave out. Once the numbers are
-- spent what it gives out is not put in any more.
pub record IsPut (h : List Entry) (given : List ℕ) : Type 0 where
  pub prefix : IsPrefixOf (bytes_of (put_items h)) given
  pub whole : length (put_messages h) ≤ max_seq → bytes_of (put_items h) ≡ given

-- a prefix of items carries a prefix of the bytes
bytes_of-prefix : (a b : List Item) → IsPrefixOf a b → IsPrefixOf (bytes_of a) (bytes_of b)
bytes_of-prefix a b p = (bytes_of p.0, sym (bytes_of-append a p.0) ∙ ap bytes_of p.1)

-- what goes on
pub longer : (a b c : List ℕ) → IsPrefixOf a b → IsPrefixOf a (b ++ c)
longer a b c p = prefix_trans a b (b ++ c) p (c, refl)

-- what is consumed is carried, and the rest of the ends and Muxes is as it should be
pub record IsCarried (w : ℕ) (past : Past) : Type 0 where
  pub right : IsRight w past.events
  pub legal : IsLegalPair past.calls
  pub linked : IsLinked past.calls
  pub fed : (side : Side) → IsPrefixOf (consumed (mux_history side past)) (arrived side past)
  pub put : (side : Side) → IsPut (history_of side past.events) (given (mux_history side past))

-- what arrived was given out
pub arrived_is_given : (w : ℕ) (past : Past) (side : Side)
    → IsRight w past.events
    → IsPut (history_of (other side) past.events) (given (mux_history (other side) past))
    → IsPrefixOf (arrived side past) (given (mux_history (other side) past))
arrived_is_given w past side right put =
    let far = other side in
    let items = put_items (history_of far past.events) in
    prefix_trans (arrived side past) (bytes_of items) (given (mux_history far past))
    (bytes_of-prefix (released_items (history_of side past.events)) items
    (released_is_prefix w past.events side right.legal right.honest))
    put.prefix

-- so is what was consumed
joined : (w : ℕ) (past : Past)
    → IsRight w past.events
    → ((side : Side) → IsPrefixOf (consumed (mux_history side past)) (arrived side past))
    → ((side : Side) → IsPut (history_of side past.events) (given (mux_history side past)))
    → IsJoined past.calls
joined w past right fed put true =
    prefix_trans (consumed (mux_history Plugin past)) (arrived Plugin past)
    (given (mux_history Agent past)) (fed Plugin)
    (arrived_is_given w past Plugin right (put Agent))
joined w past right fed put false =
    prefix_trans (consumed (mux_history Agent past)) (arrived Agent past)
    (given (mux_history Plugin past)) (fed Agent)
    (arrived_is_given w past Agent right (put Plugin))

-- the link after one call more
linked : (calls : List MuxStep) (x : MuxStep)
    → IsLinked calls → IsJoined (calls ++ x ∷ []) → IsLinked (calls ++ x ∷ [])
linked calls x before now =
    each_snoc (λ (l : List MuxStep) (y : MuxStep). IsJoined (l ++ y ∷ [])) calls x before now

-- ---- one call of a Mux

-- what was consumed and given out at the side of the call, and at the other
consumed-here : (past : Past) (side : Side) (e : MuxEntry)
    → consumed (mux_history side (with_call past side e))
    ≡ consumed (mux_history side past) ++ consumed_in e
consumed-here past side e =
    ap consumed (mux_history-here past side e) ∙ consumed_push (mux_history side past) e

given-here : (past : Past) (side : Side) (e : MuxEntry)
    → given (mux_history side (with_call past side e))
    ≡ given (mux_history side past) ++ given_in e
given-here past side e =
    ap given (mux_history-here past side e) ∙ given_push (mux_history side past) e

-- of each side, by the side of the call and the other
pub by_side : (P : Side → Type 0) (side : Side) → P side → P (other side) → (z : Side) → P z
by_side P Plugin here there Plugin = here
by_side P Plugin here there Agent = there
by_side P Agent here there Plugin = there
by_side P Agent here there Agent = here

-- a call of a Mux beside a call of its end or none: what came stays what came, and what was put in is
-- what was given out
pub carried_by : (w : ℕ) (past : Past) (events : List Event) (side : Side) (e : MuxEntry)
    → IsCarried w past
    → IsRight w events
    → Answers (is_client side) (mux_history side past) e
    → ((z : Side) → arrived z (record { events = events; calls = past.calls }) ≡ arrived z past)
    → IsPrefixOf (consumed (mux_history side past) ++ consumed_in e) (arrived side past)
    → IsPut (history_of side events) (given (mux_history side past) ++ given_in e)
    → put_items (history_of (other side) events)
    ≡ put_items (history_of (other side) past.events)
    → put_messages (history_of (other side) events)
    ≡ put_messages (history_of (other side) past.events)
    → IsCarried w (record {
      events = events;
      calls = (with_call past side e).calls;
    })
carried_by w past events side e is right answers same fed put items messages =
    let far = other side in
    let new : Past = record { events = events; calls = (with_call past side e).calls } in
    let fed_here : IsPrefixOf (consumed (mux_history side new)) (arrived side new) =
    subst (λ (l : List ℕ). IsPrefixOf (consumed (mux_history side new)) l) (sym (same side))
    (subst (λ (l : List ℕ). IsPrefixOf l (arrived side past)) (sym (consumed-here past side e)) fed)
    in
    let fed_there : IsPrefixOf (consumed (mux_history far new)) (arrived far new) =
    subst (λ (l : List ℕ). IsPrefixOf (consumed (mux_history far new)) l) (sym (same far))
    (subst (λ (g : List MuxEntry). IsPrefixOf (consumed g) (arrived far past))
    (sym (mux_history-there past side e)) (is.fed far)) in
    let put_here : IsPut (history_of side events) (given (mux_history side new)) =
    subst (λ (l : List ℕ). IsPut (history_of side events) l) (sym (given-here past side e)) put in
    let put_far : IsPut (history_of far events) (given (mux_history far past)) = record {
      prefix =
          subst (λ (l : List Item). IsPrefixOf (bytes_of l) (given (mux_history far past)))
          (sym items) (is.put far).prefix;
      whole = λ few.
          ap bytes_of items
          ∙ (is.put far).whole (subst (λ m. length m ≤ max_seq) messages few);
    } in
    let put_there : IsPut (history_of far events) (given (mux_history far new)) =
    subst (λ (g : List MuxEntry). IsPut (history_of far events) (given g))
    (sym (mux_history-there past side e)) put_far in
    let all_fed = by_side (λ z. IsPrefixOf (consumed (mux_history z new)) (arrived z new)) side
    fed_here fed_there in
    let all_put = by_side (λ z. IsPut (history_of z events) (given (mux_history z new))) side
    put_here put_there in
    record {
      right = right;
      legal = IsLegalPair-call past side e is.legal answers;
      linked =
          linked past.calls (mux_call side e) is.linked (joined w new right all_fed all_put);
      fed = all_fed;
      put = all_put;
    }

-- a call of a Mux alone, which gives out nothing
pub carried_call : (w : ℕ) (past : Past) (side : Side) (e : MuxEntry)
    → IsCarried w past
    → Answers (is_client side) (mux_history side past) e
    → given_in e ≡ []
    → IsPrefixOf (consumed (mux_history side past) ++ consumed_in e) (arrived side past)
    → IsCarried w (with_call past side e)
carried_call w past side e is answers none fed =
    let g = given (mux_history side past) in
    let same : g ≡ g ++ given_in e =
    sym (append-nil g) ∙ ap (λ (l : List ℕ). g ++ l) (sym none) in
    carried_by w past past.events side e is is.right answers (λ z. refl) fed
    (subst (λ (l : List ℕ). IsPut (history_of side past.events) l) same (is.put side)) refl refl

-- one that also consumes nothing
pub carried_quiet : (w : ℕ) (past : Past) (side : Side) (e : MuxEntry)
    → IsCarried w past
    → Answers (is_client side) (mux_history side past) e
    → given_in e ≡ []
    → consumed_in e ≡ []
    → IsCarried w (with_call past side e)
carried_quiet w past side e is answers none nothing =
    let c = consumed (mux_history side past) in
    let same : c ≡ c ++ consumed_in e =
    sym (append-nil c) ∙ ap (λ (l : List ℕ). c ++ l) (sym nothing) in
    carried_call w past side e is answers none
    (subst (λ (l : List ℕ). IsPrefixOf l (arrived side past)) same (is.fed side))

-- a feed of all that waits
pub carried_feed : (w : ℕ) (past : Past) (line : ℕ) (side : Side)
    → IsCarried w past
    → IsCarried w (after past (feed_step past line side ∷ []))
carried_feed w past line side is =
    let client = is_client side in
    let g = mux_history side past in
    let bytes = waiting side past in
    let fed = feed_answer client (given g) (seen client g) bytes in
    let e = Feeds bytes (Some fed) in
    let rest : (consumed g ++ take fed.consumed bytes) ++ drop fed.consumed bytes
    ≡ arrived side past =
    append_assoc (consumed g) (take fed.consumed bytes) (drop fed.consumed bytes)
    ∙ ap (λ (l : List ℕ). consumed g ++ l) (take-append-drop fed.consumed bytes)
    ∙ front_is (consumed g) (arrived side past) (is.fed side) in
    subst (IsCarried w) (sym (after-mux past line side e (feed_step past line side).told))
    (carried_call w past side e is (tt, inl refl) refl (drop fed.consumed bytes, rest))

-- ---- one call of an end

-- an end that is called releases no less
arrived-more : (past : Past) (x : Event) (z : Side)
    → (more : List ℕ) × (arrived z past ++ more ≡ arrived z (with_events past (x ∷ [])))
arrived-more past x z =
    let h = history_of z past.events in
    ⊎_elim
    (λ (here : x.side ≡ z). (
      bytes_of (items_released x.entry.answer),
      sym
          (ap (λ (l : List Entry). bytes_of (released_items l))
          (history_of-here z past.events x here)
          ∙ ap bytes_of (released_items-push h x.entry)
          ∙ bytes_of-append (released_items h) (items_released x.entry.answer)),
    ))
    (λ (there : x.side ≡ other z). (
      [],
      append-nil (arrived z past)
          ∙ ap (λ (l : List Entry). bytes_of (released_items l))
          (sym (history_of-there z past.events x there)),
    ))
    (cases_side z x.side)

-- what was put in by a call that puts in no bytes of the streams
put-more : (h : List Entry) (e : Entry) (g : List ℕ)
    → PutsNoBytes e.call
    → IsPut h g
    → IsPut (h ++ e ∷ []) g
put-more h e g quiet is =
    let same : bytes_of (put_items (h ++ e ∷ [])) ≡ bytes_of (put_items h) =
    put_bytes-push h e
    ∙ ap (λ (l : List ℕ). bytes_of (put_items h) ++ l) (quiet_put e.answer e.call quiet)
    ∙ append-nil (bytes_of (put_items h)) in
    let count = length-append (put_messages h) (cons_option (message_put e.answer e.call) []) in
    record {
      prefix = subst (λ (l : List ℕ). IsPrefixOf l g) (sym same) is.prefix;
      whole = λ few.
          let fewer : length (put_messages h) ≤ max_seq =
          omega (arith, count, ap length (put_messages-push h e), few) in
          same ∙ is.whole fewer;
    }

put-side : (past : Past) (x : Event) (z : Side) (g : List ℕ)
    → PutsNoBytes x.entry.call
    → IsPut (history_of z past.events) g
    → IsPut (history_of z (past.events ++ x ∷ [])) g
put-side past x z g quiet is =
    ⊎_elim
    (λ (here : x.side ≡ z).
    subst (λ (h : List Entry). IsPut h g) (sym (history_of-here z past.events x here))
    (put-more (history_of z past.events) x.entry g quiet is))
    (λ (there : x.side ≡ other z).
    subst (λ (h : List Entry). IsPut h g) (sym (history_of-there z past.events x there)) is)
    (cases_side z x.side)

-- a call of an end that puts in no bytes of the streams
pub carried_event : (w : ℕ) (past : Past) (x : Event)
    → IsCarried w past
    → IsRight w (past.events ++ x ∷ [])
    → PutsNoBytes x.entry.call
    → IsCarried w (with_events past (x ∷ []))
carried_event w past x is right quiet =
    let new = with_events past (x ∷ []) in
    record {
      right = right;
      legal = is.legal;
      linked = is.linked;
      fed = λ z.
          prefix_trans (consumed (mux_history z past)) (arrived z past) (arrived z new)
          (is.fed z) (arrived-more past x z);
      put = λ z. put-side past x z (given (mux_history z past)) quiet (is.put z);
    }
