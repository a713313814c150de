-- In a legal and honest world no message is past the end of its direction.
use Rattle.std.proofs.Common.{◌≡◌, ◌≢◌, ℕ, ◌+◌, ◌<◌, Bool, true, Some, List, [], ◌∷◌, ◌++◌, ⊎_elim, sym, subst, ◌∙◌, arith, slice_get}
use Rattle.std.specs.List.{All, Contains}
use Rattle.std.proofs.lemmas.Bool.{cond_both}
use Rattle.std.proofs.lemmas.List.Elements.{All-contains, All-nil, All-push}
use Rattle.std.proofs.lemmas.Option.{slice_get_within}
use Rattle.channel_core.specs.declared.call.EndAnswer.{EndAnswer}
use Rattle.channel_core.specs.declared.call.EndCall.{EndCall}
use Rattle.channel_core.specs.declared.answer.Heard.{Heard}
use Rattle.channel_core.specs.declared.message.Incoming.{Incoming}
use Rattle.channel_core.specs.declared.message.Outgoing.{Outgoing}
use Rattle.channel_core.specs.Call.{Entry}
use Rattle.channel_core.specs.History.{TakenMessage, emissions, is_closed, lowest_unacked, put_items, taken_messages}
use Rattle.channel_core.specs.Laws.{NothingIsPastTheEnd}
use Rattle.channel_core.specs.Legal.{IsAnswered, IsNoMemory, answer_to, answer_to_heard, answer_to_incoming, past_end}
use Rattle.channel_core.specs.Numbers.{has_number}
use Rattle.channel_core.specs.World.{Event, IsHonest, IsLegalWorld, WasEmitted, history_of}
use Rattle.chan_values.specs.Sides.{other}
use Rattle.channel_core.proofs.AgreementLemmas.{Agree, EndsAs, IsHeardOf, IsSentFrom, put_lasts}
use Rattle.channel_core.proofs.DeliveryLemmas.{agree_from}
use Rattle.channel_core.proofs.EndLemmas.{message_with, seqs_of}
use Rattle.channel_core.proofs.HistoryLemmas.{by_pushes}
use Rattle.channel_core.proofs.LegalLemmas.{ack_cases, answered_cases, stream_cases}
use Rattle.channel_core.proofs.PastLemmas.{past_end-some}
use Rattle.channel_core.proofs.WorldLemmas.{IsHonest-pushed, IsLegalWorld-pushed}

-- a message that was emitted is not past the end of what was taken
within_end : (w : ℕ) (s r : List Entry) (n m : ℕ) (last : Bool)
    → Agree w s r
    → slice_get (put_lasts s) n ≡ Some last
    → past_end (taken_messages r) n last ≡ Some m
    → ⊥
within_end w s r n m last agree sent past =
    let taken = taken_messages r in
    let lasts = put_lasts s in
    let inside = slice_get_within lasts n last sent in
    ⊎_elim
    (λ (below : (t : TakenMessage) × Contains taken t × (t.last ≡ true) × (t.seq ≡ m) × (m < n)).
    let t = below.0 in
    let as_put = All-contains (EndsAs lasts) taken t agree.ends below.1 in
    let end = agree.ended t.seq (subst (λ (b : Bool). slice_get lasts t.seq ≡ Some b) below.2 as_put) in
    let number = below.3 in
    let less = below.4 in
    omega arith)
    (λ (over : (last ≡ true) × (n < m) × (has_number (seqs_of taken) m ≡ true)).
    let found = message_with taken m over.2 in
    let t = found.0 in
    let as_put = All-contains (EndsAs lasts) taken t agree.ends found.1 in
    let there = slice_get_within lasts t.seq t.last as_put in
    let end = agree.ended n (subst (λ (b : Bool). slice_get lasts n ≡ Some b) over.0 sent) in
    let number = found.2 in
    let more = over.1 in
    omega arith)
    (past_end-some taken n m last past)

-- what an end hears of the other is not past the end
pub not_past : (w now m : ℕ) (s r : List Entry) (incoming : Incoming)
    → Agree w s r
    → WasEmitted (emissions s) (EndCall.Heard now incoming)
    → answer_to_heard w r incoming ≢ Heard.PastEnd m
not_past w now m s r incoming agree emitted =
    cond_both (is_closed r) Heard.AfterClose (answer_to_incoming w r incoming)
    (λ heard. heard ≢ Heard.PastEnd m)
    (λ _ is. cc)
    (λ _. inside incoming emitted)
  where
    inside : (incoming : Incoming)
        → WasEmitted (emissions s) (EndCall.Heard now incoming)
        → answer_to_incoming w r incoming ≢ Heard.PastEnd m
    inside (Incoming.Stream n id item last) emitted =
        let out = Outgoing.Stream
        (record { seq = n; id = id; date = emitted.0; item = item; last = last }) in
        let bound = lowest_unacked s + w in
        let sent = All-contains (IsSentFrom (put_items s) (put_lasts s) bound)
        (emissions s) out agree.sent emitted.1 in
        stream_cases w r n item last (λ heard. heard ≢ Heard.PastEnd m)
        (λ there is. cc)
        (λ far is. cc)
        (λ k new past is. within_end w s r n k last agree sent.2 past)
        (λ new so is. cc)
        (λ new so is. cc)
    inside (Incoming.Ack n) emitted =
        ack_cases r n (λ heard. heard ≢ Heard.PastEnd m) (λ out before is. cc) (λ is. cc)
    inside Incoming.Pause emitted = λ is. cc
    inside Incoming.Start emitted = λ is. cc
    inside (Incoming.Closing output) emitted = λ is. cc

-- the answer to what was emitted is not that it is past the end
answer_not_past : (w m : ℕ) (s r : List Entry) (call : EndCall) (answer : EndAnswer)
    → Agree w s r
    → IsHeardOf (emissions s) call answer
    → IsAnswered w r call answer
    → answer ≢ EndAnswer.Heard (Heard.PastEnd m)
answer_not_past w m s r call answer agree emitted answered past =
    let none : IsNoMemory call answer → ⊥
    = λ wants. never call (subst (IsNoMemory call) past wants) in
    let was : WasEmitted (emissions s) call = emitted none in
    answered_cases w r call answer answered (λ is. at call was (sym past ∙ is)) none
  where
    -- no call tells want of memory so
    never : (call : EndCall) → IsNoMemory call (EndAnswer.Heard (Heard.PastEnd m)) → ⊥
    never (EndCall.Heard now incoming) is = cc
    never (EndCall.Pull now) is = cc
    never call none = none

    at : (call : EndCall)
        → WasEmitted (emissions s) call
        → EndAnswer.Heard (Heard.PastEnd m) ≡ answer_to w r call
        → ⊥
    at (EndCall.Heard now incoming) was is =
        let heard : answer_to_heard w r incoming ≡ Heard.PastEnd m = cc in
        not_past w now m s r incoming agree was heard
    at (EndCall.Put item id now) was is = cc
    at (EndCall.PutLast item id now) was is = cc
    at (EndCall.Tick now) was is = cc
    at (EndCall.Pull now) was is = cc
    at EndCall.Lost was is = cc
    at (EndCall.Opened now) was is = cc
    at EndCall.Close was is = cc
    at EndCall.Look was is = cc

-- the last event is not past the end
event_not_past : (w m : ℕ) (world : List Event) (x : Event)
    → IsLegalWorld w (world ++ x ∷ [])
    → IsHonest (world ++ x ∷ [])
    → x.entry.answer ≢ EndAnswer.Heard (Heard.PastEnd m)
event_not_past w m world x legal honest =
    let legal_parts = IsLegalWorld-pushed w world x legal in
    let honest_parts = IsHonest-pushed world x honest in
    answer_not_past w m (history_of (other x.side) world) (history_of x.side world)
    x.entry.call x.entry.answer
    (agree_from w world x.side legal_parts.0 honest_parts.0) honest_parts.1 legal_parts.1

pub nothing_is_past_the_end : NothingIsPastTheEnd
nothing_is_past_the_end w world m =
    let Within : Event → Type 0 = λ x. x.entry.answer ≢ EndAnswer.Heard (Heard.PastEnd m) in
    by_pushes
    (λ world. IsLegalWorld w world → IsHonest world → All Within world)
    (λ legal honest. All-nil Within)
    (λ world x before legal honest.
    All-push Within world x
    (before (IsLegalWorld-pushed w world x legal).0 (IsHonest-pushed world x honest).0)
    (event_not_past w m world x legal honest))
    world
