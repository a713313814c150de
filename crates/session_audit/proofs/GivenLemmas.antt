-- What the marks of an end tell of what it gave out.
use Rattle.std.proofs.Common.{◌≡◌, ℕ, Bool, false, Some, None, List, [], ◌++◌, refl, sym, ap, subst, ◌∙◌, slice_get}
use Rattle.std.specs.Bool.{Decides}
use Rattle.std.specs.List.{All, Contains, cons_option}
use Rattle.std.proofs.lemmas.List.{append-nil}
use Rattle.std.proofs.lemmas.List.Elements.{All-append, All-contains, All-cons, All-nil, All-weaker}
use Rattle.std.proofs.lemmas.Option.{MatchOption-at_none, MatchOption-at_some, same_Some, slice_get_within}
use Rattle.chan_values.specs.declared.item.Item.{Item}
use Rattle.resend_queue.specs.declared.answer.Sent.{Sent}
use Rattle.channel_core.specs.declared.message.Incoming.{Incoming}
use Rattle.channel_core.specs.declared.message.Outgoing.{Outgoing}
use Rattle.channel_core.specs.Call.{Entry}
use Rattle.channel_core.specs.History.{PutMessage, emissions, message_emitted, message_put, put_messages}
use Rattle.channel_core.specs.Legal.{IsAnswered, IsLegal}
use Rattle.channel_core.specs.Stands.{EndState}
use Rattle.channel_core.proofs.CaseLemmas.{by_cases}
use Rattle.channel_core.proofs.HistoryLemmas.{by_pushes, emissions-push, put_messages-push}
use Rattle.channel_core.proofs.LegalLemmas.{IsLegal-pushed}
use Rattle.session_audit.specs.declared.act.Act.{Act}
use Rattle.session_audit.specs.declared.reading.Saying.{Saying}
use Rattle.session_audit.specs.Acts.{outs_of}
use Rattle.session_audit.specs.Looking.{GivesOut}
use Rattle.session_audit.specs.Marks.{AreMarks, AreOne, IsPlaceOf, MarksState, Streams, mark_of}
use Rattle.session_audit.specs.Moves.{IsHeardOf}
use Rattle.session_audit.specs.Replay.{replay}
use Rattle.session_audit.specs.Seats.{IsSeat}
use Rattle.session_audit.proofs.LookLemmas.{acts-contains, outs_of-contains, stream_known}
use Rattle.session_audit.proofs.PutCallLemmas.{message_in}
use Rattle.session_audit.proofs.ReadyLemmas.{slice_get-front_of}
use Rattle.session_audit.proofs.ReplayLemmas.{emissions-seen}

-- ---- a number goes out with one message

-- what is given out is what was put in with its number
abbrev IsPut : List PutMessage → Outgoing → Type 0
IsPut put (Outgoing.Stream m) = slice_get put m.seq ≡ Some (message_in m)
IsPut put (Outgoing.Ack n id date) = Unit {0}

-- it stays so
put_later : (put more : List PutMessage) (out : Outgoing) → IsPut put out → IsPut (put ++ more) out
put_later put more (Outgoing.Stream m) is =
    slice_get-front_of put more m.seq (slice_get_within put m.seq (message_in m) is) ∙ is
put_later put more (Outgoing.Ack n id date) is = tt

-- what an entry gives out was put in
put_before : (w : ℕ) (h : List Entry) (e : Entry)
    → IsAnswered w h e.call e.answer
    → All (IsPut (put_messages h ++ cons_option (message_put e.answer e.call) []))
    (cons_option (message_emitted e.answer) [])
put_before w h e answered =
    by_cases w h
    (λ call answer.
    All (IsPut (put_messages h ++ cons_option (message_put answer call) []))
    (cons_option (message_emitted answer) []))
    (record {
      quiet = λ call answer quiet. rw quiet.emitted (All-nil _);
      seq = λ item id now room. All-nil _;
      seq_last = λ item id now room. All-nil _;
      late = λ now n id item last there. All-nil _;
      released = λ now n id item last new so. All-nil _;
      finished = λ now n id item last new so. All-nil _;
      acked = λ now n out before. All-nil _;
      emit_ack = λ now p owed is.
          All-cons (IsPut (put_messages h ++ [])) _ [] tt (All-nil (IsPut (put_messages h ++ [])));
      emit_stream = λ now n m below eligible is.
          All-cons (IsPut (put_messages h ++ [])) _ []
          (ap (λ (l : List PutMessage). slice_get l n) (append-nil (put_messages h)) ∙ is)
          (All-nil (IsPut (put_messages h ++ [])));
    }) e.call e.answer answered

given_nothing : All (IsPut (put_messages [])) (emissions [])
unfolding emissions
given_nothing = All-nil (IsPut (put_messages []))

given_as_put : (w : ℕ) (h : List Entry) → IsLegal w h → All (IsPut (put_messages h)) (emissions h)
given_as_put w h =
    by_pushes (λ h. IsLegal w h → All (IsPut (put_messages h)) (emissions h))
    (λ legal. given_nothing)
    (λ h e before legal.
    let parts = IsLegal-pushed w h e legal in
    let more = cons_option (message_put e.answer e.call) [] in
    let old = All-weaker (IsPut (put_messages h)) (IsPut (put_messages h ++ more))
    (put_later (put_messages h) more) (emissions h) (before parts.0) in
    rw (put_messages-push h e, emissions-push h e)
    (All-append (IsPut (put_messages h ++ more)) (emissions h)
    (cons_option (message_emitted e.answer) []) old (put_before w h e parts.1)))
    h

-- a message is what its fields are
same_sent : (a b : Sent) → a.seq ≡ b.seq → message_in a ≡ message_in b → a ≡ b
same_sent a b seq_is is =
    ap
    (λ (n : ℕ). record { seq = n; id = a.id; date = a.date; item = a.item; last = a.last })
    seq_is
    ∙ ap
    (λ (m : PutMessage).
    record { seq = b.seq; id = m.id; date = m.date; item = m.item; last = m.last })
    is

-- a seat gives out each number with one message
pub seat_one : (w : ℕ) (end : EndState) (acts : List Act) → IsSeat w end acts → AreOne acts
seat_one w end acts seat a b there too seq_is =
    let h = replay w acts in
    let all = given_as_put w h seat.stands.0 in
    let outs : emissions h ≡ outs_of acts = emissions-seen h ∙ ap outs_of seat.shown in
    let put : (m : Sent) → Streams acts m → slice_get (put_messages h) m.seq ≡ Some (message_in m)
    = λ m has.
    All-contains (IsPut (put_messages h)) (emissions h) (Outgoing.Stream m) all
    (subst (λ (l : List Outgoing). Contains l (Outgoing.Stream m)) (sym outs)
    (outs_of-contains acts (Outgoing.Stream m) has)) in
    let same : Some (message_in a) ≡ Some (message_in b)
    = sym (put a there)
    ∙ ap (λ (n : ℕ). slice_get (put_messages h) n) seq_is
    ∙ put b too in
    same_sent a b seq_is (same_Some (message_in a) (message_in b) same)

-- ---- what is heard

-- an act that gives out a stream message
gives_stream : (n : ℕ) (id : List ℕ) (item : Item) (last : Bool) (act : Act)
    → GivesOut (Incoming.Stream n id item last) act
    → (m : Sent) × (act ≡ Act.Emits (Outgoing.Stream m)) × (m.seq ≡ n)
gives_stream n id item last (Act.Emits (Outgoing.Stream m)) gives = (m, refl, gives.0)
gives_stream n id item last (Act.Emits (Outgoing.Ack k ack_id date)) gives = absurd gives
gives_stream n id item last (Act.Hears incoming) gives = absurd gives
gives_stream n id item last Act.Opens gives = absurd gives
gives_stream n id item last Act.Loses gives = absurd gives
gives_stream n id item last Act.Closes gives = absurd gives

-- where the number has a place, the saying there decides
pub stream_decided : (s : MarksState) (sayings : List Saying) (acts : List Act) (before n : ℕ)
    (id : List ℕ) (item : Item) (last : Bool) (place : ℕ) (known : Bool)
    → AreMarks s sayings acts before
    → AreOne acts
    → (mark_of s n).place ≡ Some place
    → ((saying : Saying) (act : Act)
    → slice_get sayings place ≡ Some saying
    → saying.act ≡ Some act
    → Decides known (GivesOut (Incoming.Stream n id item last) act))
    → Decides known (IsHeardOf (outs_of acts) (Act.Hears (Incoming.Stream n id item last)))
stream_decided s sayings acts before n id item last place known marks one is decides =
    stream_known acts n id item last known (
      λ yes. (Act.Emits (Outgoing.Stream m), there, said.0 yes),
      λ found.
          let other = gives_stream n id item last found.0 found.2 in
          let too : Streams acts other.0 = subst (Contains acts) other.1 found.1 in
          let same : m ≡ other.0 = one m other.0 there too (seq ∙ sym other.2) in
          let act_is : found.0 ≡ Act.Emits (Outgoing.Stream m)
          = other.1 ∙ ap (λ (k : Sent). Act.Emits (Outgoing.Stream k)) (sym same) in
          said.1 (subst (GivesOut (Incoming.Stream n id item last)) act_is found.2),
    )
  where
    at : IsPlaceOf sayings acts n place
    at = MatchOption-at_some _ (IsPlaceOf sayings acts n) place is (marks.each n).stream

    m : Sent
    m = at.1

    seq : m.seq ≡ n
    seq = at.4

    there : Streams acts m
    there = at.5

    said : Decides known (GivesOut (Incoming.Stream n id item last) (Act.Emits (Outgoing.Stream m)))
    said = decides at.0 (Act.Emits (Outgoing.Stream m)) at.2 at.3

-- where it has none, it was not given out
pub stream_unknown : (s : MarksState) (sayings : List Saying) (acts : List Act) (before n : ℕ)
    (id : List ℕ) (item : Item) (last : Bool)
    → AreMarks s sayings acts before
    → (mark_of s n).place ≡ None
    → Decides false (IsHeardOf (outs_of acts) (Act.Hears (Incoming.Stream n id item last)))
stream_unknown s sayings acts before n id item last marks is =
    stream_known acts n id item last false (
      λ yes. absurd (cc),
      λ found.
          let none : (m : Sent) → Streams acts m → m.seq ≡ n → ⊥
          = MatchOption-at_none _ (IsPlaceOf sayings acts n) is (marks.each n).stream in
          let other = gives_stream n id item last found.0 found.2 in
          absurd (none other.0 (subst (Contains acts) other.1 found.1) other.2),
    )

-- an acknowledgement was given out where its mark says so
pub ack_decided : (s : MarksState) (sayings : List Saying) (acts : List Act) (before n : ℕ)
    (known : Bool)
    → AreMarks s sayings acts before
    → known ≡ (mark_of s n).acked
    → Decides known (IsHeardOf (outs_of acts) (Act.Hears (Incoming.Ack n)))
ack_decided s sayings acts before n known marks is = (
  λ yes.
      let found = (marks.each n).acked.0 (sym is ∙ yes) in
      (found.0, found.1, outs_of-contains acts (Outgoing.Ack n found.0 found.1) found.2),
  λ heard.
      is
      ∙ (marks.each n).acked.1
      (heard.0, heard.1, acts-contains acts (Outgoing.Ack n heard.0 heard.1) heard.2),
)
