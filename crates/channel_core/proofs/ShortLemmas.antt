-- How often an end is pulled in an exchange.
use Rattle.std.proofs.Common.{◌≡◌, ℕ, ◌+◌, ◌*◌, ◌≤◌, suc, Bool, true, false, not, cond, ◌||◌, ◌&&◌, Option, Some, None, List, [], ◌∷◌, ◌++◌, ⊎_elim, refl, sym, ap, subst, ◌∙◌, arith, drop, eqb, length, ltb}
use Rattle.std.specs.List.{cons_option, count_by, filter, filter_map}
use Rattle.std.proofs.lemmas.List.{append-nil}
use Rattle.std.proofs.lemmas.List.Elements.{filter_map-append}
use Rattle.std.proofs.lemmas.List.Sums.{sum_by-append, sum_by-cons}
use Rattle.chan_values.specs.declared.side.Side.{Side}
use Rattle.chan_values.specs.declared.side.Side.TheVariants.{Plugin, Agent}
use Rattle.chan_values.specs.Sides.{other}
use Rattle.channel_core.specs.declared.call.EndAnswer.{EndAnswer}
use Rattle.channel_core.specs.declared.call.EndCall.{EndCall}
use Rattle.channel_core.specs.declared.message.Outgoing.{Outgoing}
use Rattle.channel_core.specs.declared.answer.Pull.TheVariants as Pull
use Rattle.channel_core.specs.Call.{Entry}
use Rattle.channel_core.specs.Exchange.{IsPass, incoming_of, is_pull, opening, pull_count}
use Rattle.channel_core.specs.History.{PutMessage, acked_numbers, lowest_unacked, message_emitted, message_put, number_acked, owed_acks, owed_after, put_messages}
use Rattle.channel_core.specs.Laws.{ExchangeIsShort}
use Rattle.channel_core.specs.Legal.{IsAnswered}
use Rattle.channel_core.specs.Numbers.{has_number}
use Rattle.channel_core.specs.Resending.{is_eligible, marked_after, marked_due, sent_after, sent_since_opened}
use Rattle.channel_core.specs.World.{Event, IsLegalWorld, entry_at, history_of}
use Rattle.channel_core.proofs.ExchangeLemmas.{openings, openings_parts}
use Rattle.channel_core.proofs.HistoryLemmas.{acked_numbers-push, marked_due-push, owed_acks-push, put_messages-push, sent_since_opened-push}
use Rattle.channel_core.proofs.CaseLemmas.{by_cases}
use Rattle.channel_core.proofs.NumberLemmas.{has_number-kept, has_number-last, has_number-other, has_number-without, least_absent-is}
use Rattle.channel_core.proofs.SoundLemmas.{IsConsistent, sound}
use Rattle.channel_core.proofs.WorldLemmas.{append_two, IsLegalWorld-front, IsLegalWorld-pushed, cases_side, entry_at-other, entry_at-same, history_of-here, history_of-there, other-other}
use Rattle.channel_core.proofs.CountLemmas.{count_below, count_below-few, count_below-less}

-- whether a number may go
abbrev may_go : List PutMessage → List ℕ → List ℕ → List ℕ → ℕ → Bool
may_go put acked sent marked n =
    ltb n (length put)
    && (not (has_number acked n) && (not (has_number sent n) || has_number marked n))

-- how much an end has to emit: the acknowledgements owed and the numbers that may go
abbrev backlog_of : List (ℕ × List ℕ) → List PutMessage → List ℕ → List ℕ → List ℕ → ℕ
backlog_of owed put acked sent marked =
    length owed + count_below (may_go put acked sent marked) (length put)

abbrev pub backlog : ℕ → List Entry → ℕ
backlog w h =
    backlog_of (owed_acks w h) (put_messages h) (acked_numbers h) (sent_since_opened h)
    (marked_due h)

-- and after a call with its answer
abbrev backlog_after : ℕ → List Entry → EndCall → EndAnswer → ℕ
backlog_after w h call answer =
    backlog_of
    (owed_after w (owed_acks w h) answer call)
    (put_messages h ++ cons_option (message_put answer call) [])
    (acked_numbers h ++ cons_option (number_acked answer) [])
    (sent_after (sent_since_opened h) answer call)
    (marked_after (marked_due h) answer)

-- equal parts make an equal backlog
backlog_of-same : {owed owed' : List (ℕ × List ℕ)} {put put' : List PutMessage}
    {acked acked' sent sent' marked marked' : List ℕ}
    → owed ≡ owed'
    → put ≡ put'
    → acked ≡ acked'
    → sent ≡ sent'
    → marked ≡ marked'
    → backlog_of owed put acked sent marked ≡ backlog_of owed' put' acked' sent' marked'
backlog_of-same owed put acked sent marked = rw (owed, put, acked, sent, marked) refl

-- no message with a number is emitted twice for one reason
sent_fails : (below acked : Bool) → (below && (not acked && (false || false))) ≡ false
sent_fails true true = refl
sent_fails true false = refl
sent_fails false acked = refl

-- an emission makes the backlog less
abbrev Falls : ℕ → List Entry → Outgoing → EndCall → EndAnswer → Type 0
Falls w h out call answer =
    answer ≡ EndAnswer.Pull (Pull.Emit out) → backlog_after w h call answer + 1 ≡ backlog w h

falls : (w : ℕ) (h : List Entry) (out : Outgoing) (call : EndCall) (answer : EndAnswer)
    → IsAnswered w h call answer
    → Falls w h out call answer
falls w h out call answer answered =
    by_cases w h (Falls w h out)
    (record {
      quiet = λ call answer quiet is.
          let emitted : message_emitted answer ≡ Some out = rw is refl in
          let none = quiet.emitted in
          cc;
      seq = λ item id now free is. cc;
      seq_last = λ item id now free is. cc;
      late = λ now n id item last there is. cc;
      released = λ now n id item last new so is. cc;
      finished = λ now n id item last new so is. cc;
      acked = λ now n emitted before is. cc;
      emit_ack = λ now p owed first is.
          rw (append-nil (put_messages h), append-nil (acked_numbers h))
          (let before : length (owed_acks w h) ≡ suc (length owed) = ap length first in
          let after : length (drop 1 (owed_acks w h)) ≡ length owed
          = ap (λ (l : List (ℕ × List ℕ)). length (drop 1 l)) first in
          omega arith);
      emit_stream = λ now n m below eligible value is.
          rw (append-nil (put_messages h), append-nil (acked_numbers h))
          (let sent = sent_since_opened h ++ n ∷ [] in
          let marked = filter (λ k. not (eqb k n)) (marked_due h) in
          let goes : ℕ → Bool
          = may_go (put_messages h) (acked_numbers h) sent marked in
          let count = count_below-less (is_eligible h) goes
          (length (put_messages h)) n below eligible
          (rw (has_number-last (sent_since_opened h) n, has_number-without (marked_due h) n)
          (sent_fails (ltb n (length (put_messages h))) (has_number (acked_numbers h) n)))
          (λ k apart.
          let same_sent = has_number-other (sent_since_opened h) n k apart in
          let same_marked = has_number-kept (marked_due h) n k apart in
          rw (same_sent, same_marked) refl) in
          omega arith);
    }) call answer answered

pub backlog_falls : (w : ℕ) (h : List Entry) (e : Entry) (out : Outgoing)
    → IsAnswered w h e.call e.answer
    → e.answer ≡ EndAnswer.Pull (Pull.Emit out)
    → backlog w (h ++ e ∷ []) + 1 ≡ backlog w h
backlog_falls w h e out answered is =
    ap
    (λ (n : ℕ). n + 1)
    (backlog_of-same (owed_acks-push w h e) (put_messages-push h e) (acked_numbers-push h e)
    (sent_since_opened-push h e) (marked_due-push h e))
    ∙ falls w h out e.call e.answer answered is

-- an acknowledged number may not go
acked_fails : (below : Bool) → (below && false) ≡ false
acked_fails true = refl
acked_fails false = refl

-- a backlog is at most twice the window
pub backlog-le : (w : ℕ) (h : List Entry) → IsConsistent w h → backlog w h ≤ 2 * w
backlog-le w h sound =
    let few = count_below-few (is_eligible h) (length (put_messages h)) (lowest_unacked h)
    (λ k below.
    let acked = (least_absent-is (acked_numbers h)).1 k below in
    rw acked (acked_fails (ltb k (length (put_messages h))))) in
    let room = sound.room in
    let owed = sound.few_owed in
    omega (arith, few, room, owed)

-- the pulls in an entry that may be there
abbrev pulls_in : Option Entry → ℕ
pulls_in None = 0
pulls_in (Some e) = cond (is_pull e.call) 1 0

pull_count-cons : (side : Side) (x : Event) (xs : List Event)
    → pull_count side (x ∷ xs) ≡ pulls_in (entry_at side x.side x.entry) + pull_count side xs
unfolding history_of
pull_count-cons side x xs = at (entry_at side x.side x.entry)
  where
    rest : List Entry
    rest = filter_map (λ y. entry_at side y.side y.entry) xs

    at : (o : Option Entry)
        → count_by (λ e. is_pull e.call) (cons_option o rest)
        ≡ pulls_in o + count_by (λ e. is_pull e.call) rest
    at None = omega arith
    at (Some e) = sum_by-cons (λ (e : Entry). cond (is_pull e.call) 1 0) e rest

pull_count-nil : (side : Side) → pull_count side [] ≡ 0
unfolding history_of
pull_count-nil side = refl

-- the pulls of two parts
pull_count-append : (side : Side) (xs ys : List Event)
    → pull_count side (xs ++ ys) ≡ pull_count side xs + pull_count side ys
unfolding history_of
pull_count-append side xs ys =
    let at : Event → Option Entry = λ y. entry_at side y.side y.entry in
    ap (count_by (λ (e : Entry). is_pull e.call)) (filter_map-append at xs ys)
    ∙ sum_by-append
    (λ (e : Entry). cond (is_pull e.call) 1 0) (filter_map at xs) (filter_map at ys)

-- an event at this side counts where its call is a pull
pulls_in-here : (side : Side) (x : Event) (call : EndCall)
    → x.side ≡ side
    → x.entry.call ≡ call
    → pulls_in (entry_at side x.side x.entry) ≡ cond (is_pull call) 1 0
pulls_in-here side x call here is = rw (here, entry_at-same, is) refl

-- an event at the other side doesn't
pulls_in-there : (side : Side) (x : Event)
    → x.side ≡ other side
    → pulls_in (entry_at side x.side x.entry) ≡ 0
pulls_in-there side x there = rw (there, entry_at-other) refl

-- a pass has at most one pull more than the end has to emit
pass_pulls : (w : ℕ) (side : Side) (xs world : List Event)
    → IsPass side xs
    → IsLegalWorld w (world ++ xs)
    → pull_count side xs ≤ backlog w (history_of side world) + 1
pass_pulls w side [] world pass legal = absurd pass
pass_pulls w side (x ∷ []) world pass legal =
    let first = pull_count-cons side x [] in
    let here = pulls_in-here side x (EndCall.Pull pass.now) pass.side pass.call in
    let none = pull_count-nil side in
    omega (arith, first, here, none)
pass_pulls w side (x ∷ y ∷ xs) world pass legal =
    let one = world ++ x ∷ [] in
    let two = one ++ y ∷ [] in
    let s = history_of side world in
    let same = append_two world xs x y in
    let legal_two : IsLegalWorld w (two ++ xs) = rw same legal in
    let legal_one = (IsLegalWorld-pushed w one y (IsLegalWorld-front w two xs legal_two)).0 in
    let answered : IsAnswered w s x.entry.call x.entry.answer
    = subst
    (λ z. IsAnswered w (history_of z world) x.entry.call x.entry.answer) pass.1.side
    (IsLegalWorld-pushed w world x legal_one).1 in
    let mine : history_of side two ≡ s ++ x.entry ∷ []
    = history_of-there side one y pass.2.side ∙ history_of-here side world x pass.1.side in
    let less : backlog w (history_of side two) + 1 ≡ backlog w s
    = ap (λ (h : List Entry). backlog w h + 1) mine
    ∙ backlog_falls w s x.entry pass.0 answered pass.1.answer in
    let first = pull_count-cons side x (y ∷ xs) in
    let second = pull_count-cons side y xs in
    let here = pulls_in-here side x (EndCall.Pull pass.1.now) pass.1.side pass.1.call in
    let there = pulls_in-there side y pass.2.side in
    let rest = pass_pulls w side xs two pass.3 legal_two in
    omega (arith, less, first, second, here, there, rest)

-- a pass has no pull of the end that hears
pass_away : (side : Side) (xs : List Event) → IsPass side xs → pull_count (other side) xs ≡ 0
pass_away side [] pass = absurd pass
pass_away side (x ∷ []) pass =
    let first = pull_count-cons (other side) x [] in
    let there = pulls_in-there (other side) x (pass.side ∙ sym (other-other side)) in
    let none = pull_count-nil (other side) in
    omega (arith, first, there, none)
pass_away side (x ∷ y ∷ xs) pass =
    let first = pull_count-cons (other side) x (y ∷ xs) in
    let second = pull_count-cons (other side) y xs in
    let there = pulls_in-there (other side) x (pass.1.side ∙ sym (other-other side)) in
    let call = EndCall.Heard pass.2.now (incoming_of pass.0) in
    let here = pulls_in-here (other side) y call pass.2.side pass.2.call in
    let rest = pass_away side xs pass.3 in
    omega (arith, first, second, there, here, rest)

-- an opening is no pull
opening_pulls : (side z : Side) (now : ℕ) → pulls_in (entry_at side z (opening z now).entry) ≡ 0
opening_pulls Plugin Plugin now = refl
opening_pulls Plugin Agent now = refl
opening_pulls Agent Plugin now = refl
opening_pulls Agent Agent now = refl

-- the backlog of an end in a legal world
pub backlog_within : (w : ℕ) (world : List Event) (side : Side)
    → IsLegalWorld w world
    → backlog w (history_of side world) ≤ 2 * w
backlog_within w world side legal =
    backlog-le w (history_of side world) (sound w (history_of side world) (legal side))

pub exchange_is_short : ExchangeIsShort
exchange_is_short w world xs side legal exchange =
    let start = openings world exchange.plugin_opened exchange.agent_opened in
    let first = exchange.to_agent in
    let second = exchange.to_plugin in
    let plugin = opening Plugin exchange.plugin_opened in
    let agent = opening Agent exchange.agent_opened in
    let same : (start ++ first) ++ second ≡ world ++ xs
    = openings_parts world first second exchange.plugin_opened exchange.agent_opened
    ∙ ap (λ (l : List Event). world ++ l) (sym exchange.parts) in
    let legal_end : IsLegalWorld w ((start ++ first) ++ second) = rw same legal in
    let legal_middle = IsLegalWorld-front w (start ++ first) second legal_end in
    let to_agent = pass_pulls w Plugin first start exchange.first legal_middle in
    let to_plugin = pass_pulls w Agent second (start ++ first) exchange.second legal_end in
    let few_plugin
    = backlog_within w start Plugin (IsLegalWorld-front w start first legal_middle) in
    let few_agent = backlog_within w (start ++ first) Agent legal_middle in
    let away_agent = pass_away Plugin first exchange.first in
    let away_plugin = pass_away Agent second exchange.second in
    let whole : pull_count side xs ≡ pull_count side first + pull_count side second
    = ap (pull_count side) exchange.parts
    ∙ pull_count-cons side plugin (agent ∷ (first ++ second))
    ∙ ap
    (λ (n : ℕ). n + pull_count side (agent ∷ (first ++ second)))
    (opening_pulls side Plugin exchange.plugin_opened)
    ∙ zero_add (pull_count side (agent ∷ (first ++ second)))
    ∙ pull_count-cons side agent (first ++ second)
    ∙ ap
    (λ (n : ℕ). n + pull_count side (first ++ second))
    (opening_pulls side Agent exchange.agent_opened)
    ∙ zero_add (pull_count side (first ++ second))
    ∙ pull_count-append side first second in
    ⊎_elim
    (λ (here : side ≡ Plugin).
    let own : pull_count side first ≤ 2 * w + 1 = rw here (omega (arith, to_agent, few_plugin)) in
    let heard : pull_count side second ≡ 0 = rw here away_plugin in
    omega (arith, whole, own, heard))
    (λ (there : side ≡ Agent).
    let own : pull_count side second ≤ 2 * w + 1 = rw there (omega (arith, to_plugin, few_agent)) in
    let heard : pull_count side first ≡ 0 = rw there away_agent in
    omega (arith, whole, own, heard))
    (cases_side Plugin side)
  where
    zero_add : (n : ℕ) → 0 + n ≡ n
    zero_add n = omega arith
