-- What the acts of an end tell, and what its history tells.
use Rattle.std.proofs.Common.{ℕ, ◌≡◌, ◌+◌, zero, suc, Bool, Option, Some, None, List, [], ◌∷◌, ◌++◌, refl, sym, ap, subst, ◌∙◌, arith}
use Rattle.std.specs.Bool.{Decides}
use Rattle.std.specs.List.{Contains, cons_option}
use Rattle.std.proofs.lemmas.Grind.{fold-append}
use Rattle.std.proofs.lemmas.List.{append-nil}
use Rattle.chan_values.specs.declared.item.Item.{Item}
use Rattle.channel_core.specs.declared.call.EndAnswer.{EndAnswer}
use Rattle.channel_core.specs.declared.call.EndCall.{EndCall}
use Rattle.channel_core.specs.declared.message.Incoming.{Incoming}
use Rattle.channel_core.specs.declared.message.Outgoing.{Outgoing}
use Rattle.channel_core.specs.declared.answer.Pull.TheVariants as Pull
use Rattle.channel_core.specs.declared.answer.Tick.TheVariants as Tick
use Rattle.channel_core.specs.Call.{Entry}
use Rattle.channel_core.specs.Legal.{IsAnswered, IsLegal, IsNoMemory, answer_to}
use Rattle.channel_core.specs.Stands.{EndState}
use Rattle.channel_core.proofs.LegalLemmas.{IsLegal-pushed, answered_cases}
use Rattle.resend_queue.specs.declared.answer.Sent.{Sent}
use Rattle.channel_core.specs.Resending.{sent_after, sent_since_opened}
use Rattle.channel_core.specs.World.{WasEmitted}
use Rattle.channel_core.proofs.HistoryLemmas.{by_pushes, sent_since_opened-push}
use Rattle.session_audit.specs.declared.act.Act.{Act}
use Rattle.session_audit.specs.Acts.{act_of, acts_of, out_of, outs_of}
use Rattle.session_audit.specs.Looking.{AnyGives, GivesOut, sent_in, sent_with}
use Rattle.session_audit.specs.Ends.{IsAgain, Replays}
use Rattle.session_audit.specs.Replay.{CanReplay, replay, replay_of}
use Rattle.session_audit.specs.Seats.{IsSeat}
use Rattle.session_audit.proofs.ReplayLemmas.{acts_of-append, acts_of-push, replay-push}

pub sent_in-push : (acts : List Act) (act : Act)
    → sent_in (acts ++ act ∷ []) ≡ sent_with (sent_in acts) act
unfolding sent_in
sent_in-push acts act = fold-append sent_with [] acts (act ∷ [])

pub sent_in-nil : sent_in [] ≡ []
unfolding sent_in
sent_in-nil = refl

-- what was sent is what is seen to be sent, where a pull alone gives out, and a tick alone gives up
sent_one : (sent : List ℕ) (acts : List Act) (answer : EndAnswer) (call : EndCall)
    → sent ≡ sent_in acts
    → ((out : Outgoing) → answer ≡ EndAnswer.Pull (Pull.Emit out) → (now : ℕ) × (call ≡ EndCall.Pull now))
    → ((n : ℕ) → answer ≡ EndAnswer.Tick (Tick.GaveUp n) → (now : ℕ) × (call ≡ EndCall.Tick now))
    → sent_after sent answer call ≡ sent_in (acts ++ cons_option (act_of answer call) [])
sent_one sent acts (EndAnswer.Pull (Pull.Emit (Outgoing.Stream m))) call is pulls gives_up =
    let called = pulls (Outgoing.Stream m) refl in
    rw called.1
    (ap (λ (l : List ℕ). l ++ m.seq ∷ []) is
    ∙ sym (sent_in-push acts (Act.Emits (Outgoing.Stream m))))
sent_one sent acts (EndAnswer.Pull (Pull.Emit (Outgoing.Ack n id date))) call is pulls gives_up =
    let called = pulls (Outgoing.Ack n id date) refl in
    rw called.1 (is ∙ sym (sent_in-push acts (Act.Emits (Outgoing.Ack n id date))))
sent_one sent acts (EndAnswer.Tick (Tick.GaveUp n)) call is pulls gives_up =
    let called = gives_up n refl in
    rw called.1 (is ∙ sym (sent_in-push acts Act.Closes))
sent_one sent acts answer (EndCall.Heard now incoming) is pulls gives_up =
    is ∙ sym (sent_in-push acts (Act.Hears incoming))
sent_one sent acts answer (EndCall.Opened now) is pulls gives_up =
    sym (sent_in-push acts Act.Opens)
sent_one sent acts answer EndCall.Lost is pulls gives_up = is ∙ sym (sent_in-push acts Act.Loses)
sent_one sent acts answer EndCall.Close is pulls gives_up = is ∙ sym (sent_in-push acts Act.Closes)
sent_one sent acts answer call is pulls gives_up = is ∙ ap sent_in (sym (append-nil acts))

-- ---- giving out, as the world says it

-- an element of a list stands in what is made of the list
pub outs_of-contains : (acts : List Act) (out : Outgoing)
    → Contains acts (Act.Emits out)
    → Contains (outs_of acts) out
unfolding outs_of
outs_of-contains [] out (k, below, is) = absurd (omega arith)
outs_of-contains (act ∷ acts) out (zero, below, is) =
    rw is (0, omega arith, refl)
outs_of-contains (act ∷ acts) out (suc k, below, is) =
    later (out_of act) (outs_of-contains acts out (k, omega arith, is))
  where
    later : (o : Option Outgoing) → Contains (outs_of acts) out → Contains (cons_option o (outs_of acts)) out
    later None there = there
    later (Some x) (j, within, found) = (suc j, omega arith, found)

-- and back
pub acts-contains : (acts : List Act) (out : Outgoing)
    → Contains (outs_of acts) out
    → Contains acts (Act.Emits out)
unfolding outs_of
acts-contains [] out (k, below, is) = absurd (omega arith)
acts-contains (Act.Emits first ∷ acts) out (zero, below, is) =
    (0, omega arith, ap (λ (o : Outgoing). Act.Emits o) is)
acts-contains (Act.Emits first ∷ acts) out (suc k, below, is) =
    let found = acts-contains acts out (k, omega arith, is) in
    (suc found.0, omega (arith, found.1), found.2)
acts-contains (Act.Hears incoming ∷ acts) out there =
    let found = acts-contains acts out there in (suc found.0, omega (arith, found.1), found.2)
acts-contains (Act.Opens ∷ acts) out there =
    let found = acts-contains acts out there in (suc found.0, omega (arith, found.1), found.2)
acts-contains (Act.Loses ∷ acts) out there =
    let found = acts-contains acts out there in (suc found.0, omega (arith, found.1), found.2)
acts-contains (Act.Closes ∷ acts) out there =
    let found = acts-contains acts out there in (suc found.0, omega (arith, found.1), found.2)

-- a message is what its fields are
same_message : (m : Sent) (n : ℕ) (id : List ℕ) (item : Item) (last : Bool)
    → m.seq ≡ n
    → m.id ≡ id
    → m.item ≡ item
    → m.last ≡ last
    → Outgoing.Stream m
    ≡ Outgoing.Stream (record { seq = n; id = id; date = m.date; item = item; last = last })
same_message m n id item last seq_is id_is item_is last_is =
    ap
    (λ (k : ℕ). Outgoing.Stream
    (record { seq = k; id = m.id; date = m.date; item = m.item; last = m.last }))
    seq_is
    ∙ ap
    (λ (i : List ℕ). Outgoing.Stream
    (record { seq = n; id = i; date = m.date; item = m.item; last = m.last }))
    id_is
    ∙ ap
    (λ (x : Item). Outgoing.Stream
    (record { seq = n; id = id; date = m.date; item = x; last = m.last }))
    item_is
    ∙ ap
    (λ (b : Bool). Outgoing.Stream
    (record { seq = n; id = id; date = m.date; item = item; last = b }))
    last_is

-- what one of the acts gives out was given out
given_emitted : (acts : List Act) (incoming : Incoming) (act : Act)
    → Contains acts act
    → GivesOut incoming act
    → WasEmitted (outs_of acts) (EndCall.Heard 0 incoming)
given_emitted acts (Incoming.Stream n id item last) (Act.Emits (Outgoing.Stream m)) there gives =
    let same : Outgoing.Stream m
    ≡ Outgoing.Stream (record { seq = n; id = id; date = m.date; item = item; last = last })
    = same_message m n id item last gives.0 gives.1 gives.2 gives.3 in
    (m.date, subst (Contains (outs_of acts)) same (outs_of-contains acts (Outgoing.Stream m) there))
given_emitted acts (Incoming.Ack n) (Act.Emits (Outgoing.Ack k id date)) there gives = (
  id,
  date,
  subst
      (λ (j : ℕ). Contains (outs_of acts) (Outgoing.Ack j id date))
      gives (outs_of-contains acts (Outgoing.Ack k id date) there),
)
given_emitted acts incoming act there gives = absurd gives

-- and back, for a stream message
pub stream_known : (acts : List Act) (n : ℕ) (id : List ℕ) (item : Item) (last known : Bool)
    → Decides known (AnyGives (Incoming.Stream n id item last) acts)
    → Decides known (WasEmitted (outs_of acts) (EndCall.Heard 0 (Incoming.Stream n id item last)))
stream_known acts n id item last known is = (
  λ yes.
      let found = is.0 yes in
      given_emitted acts (Incoming.Stream n id item last) found.0 found.1 found.2,
  λ emitted.
      let out = Outgoing.Stream (record { seq = n; id = id; date = emitted.0; item = item; last = last }) in
      is.1 (Act.Emits out, acts-contains acts out emitted.1, (refl, refl, refl, refl)),
)

-- ---- what was sent, in a legal history

-- only a pull gives out
pub emit_answered : (w : ℕ) (h : List Entry) (call : EndCall) (out : Outgoing)
    → IsAnswered w h call (EndAnswer.Pull (Pull.Emit out))
    → (now : ℕ) × (call ≡ EndCall.Pull now)
emit_answered w h call out answered =
    answered_cases w h call _ answered (at call) (λ none. absurd (no call none))
  where
    no : (call : EndCall) → IsNoMemory call (EndAnswer.Pull (Pull.Emit out)) → ⊥
    no (EndCall.Heard now incoming) is = cc
    no (EndCall.Pull now) is = cc
    no call never = never

    at : (call : EndCall)
        → EndAnswer.Pull (Pull.Emit out) ≡ answer_to w h call
        → (now : ℕ) × (call ≡ EndCall.Pull now)
    at (EndCall.Pull now) is = (now, refl)
    at (EndCall.Tick now) is = cc
    at (EndCall.Put item id now) is = cc
    at (EndCall.PutLast item id now) is = cc
    at (EndCall.Heard now incoming) is = cc
    at EndCall.Lost is = cc
    at (EndCall.Opened now) is = cc
    at EndCall.Close is = cc
    at EndCall.Look is = cc

-- only a tick gives up
pub gave_up_answered : (w : ℕ) (h : List Entry) (call : EndCall) (n : ℕ)
    → IsAnswered w h call (EndAnswer.Tick (Tick.GaveUp n))
    → (now : ℕ) × (call ≡ EndCall.Tick now)
gave_up_answered w h call n answered =
    answered_cases w h call _ answered (at call) (λ none. absurd (no call none))
  where
    no : (call : EndCall) → IsNoMemory call (EndAnswer.Tick (Tick.GaveUp n)) → ⊥
    no (EndCall.Heard now incoming) is = cc
    no (EndCall.Pull now) is = cc
    no call never = never

    at : (call : EndCall)
        → EndAnswer.Tick (Tick.GaveUp n) ≡ answer_to w h call
        → (now : ℕ) × (call ≡ EndCall.Tick now)
    at (EndCall.Tick now) is = (now, refl)
    at (EndCall.Pull now) is = cc
    at (EndCall.Put item id now) is = cc
    at (EndCall.PutLast item id now) is = cc
    at (EndCall.Heard now incoming) is = cc
    at EndCall.Lost is = cc
    at (EndCall.Opened now) is = cc
    at EndCall.Close is = cc
    at EndCall.Look is = cc

sent_nothing : sent_since_opened [] ≡ sent_in (acts_of [])
unfolding sent_since_opened sent_in acts_of
sent_nothing = refl

-- what was sent since the last opening can be seen
pub sent_seen : (w : ℕ) (h : List Entry)
    → IsLegal w h
    → sent_since_opened h ≡ sent_in (acts_of h)
sent_seen w h =
    by_pushes (λ h. IsLegal w h → sent_since_opened h ≡ sent_in (acts_of h))
    (λ legal. sent_nothing)
    (λ h e before legal.
    let parts = IsLegal-pushed w h e legal in
    sent_since_opened-push h e
    ∙ sent_one (sent_since_opened h) (acts_of h) e.answer e.call (before parts.0)
    (λ out is. emit_answered w h e.call out (subst (IsAnswered w h e.call) is parts.1))
    (λ n is. gave_up_answered w h e.call n (subst (IsAnswered w h e.call) is parts.1))
    ∙ ap sent_in (sym (acts_of-push h e)))
    h

-- ---- one act more at one end

-- what the replay of an act tells, at an end that did those before it
pub advanced : (w : ℕ) (old new : EndState) (mine : List Act) (act : Act) (again done : Bool)
    → Replays old new act again done
    → ((h : List Entry) → sent_since_opened h ≡ sent_in mine → IsAgain again h act)
    → IsSeat w old mine
    → Decides done (CanReplay w mine act)
    × (CanReplay w mine act → IsSeat w new (mine ++ act ∷ []))
advanced w old new mine act again done replays is_again seat =
    let h = replay w mine in
    let sent : sent_since_opened h ≡ sent_in mine
    = sent_seen w h seat.stands.0 ∙ ap sent_in seat.shown in
    let all = replays w h seat.stands (is_again h sent) in (
      all.1,
      λ can. record {
        stands = rw (replay-push w mine act) all.0;
        shown = ap acts_of (replay-push w mine act)
            ∙ acts_of-append h (replay_of w h act)
            ∙ ap (λ (l : List Act). l ++ acts_of (replay_of w h act)) seat.shown
            ∙ ap (λ (l : List Act). mine ++ l) can;
      },
    )
