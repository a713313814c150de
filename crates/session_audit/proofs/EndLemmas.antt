-- Calls of an end of the core as calls of the replay.
use Rattle.std.proofs.Common.{ℕ, ◌≡◌, ◌≢◌, Bool, true, false, cond, Some, List, [], ◌∷◌, ◌++◌, ◌⊎◌, inl, inr, ⊎_elim, refl, sym, ap, subst, ◌∙◌, append_assoc, eqb, length, Result, Ok, Err}
use Rattle.std.specs.Bool.{Decides}
use Rattle.std.specs.Result.{IfOk, OnOk}
use Rattle.chan_values.specs.declared.no_memory.NoMemory.{NoMemory}
use Rattle.std.proofs.lemmas.Bool.{eq-eqb, ne_eqb}
use Rattle.std.proofs.lemmas.List.{append-nil}
use Rattle.resend_queue.specs.declared.answer.Sent.{Sent}
use Rattle.channel_core.specs.declared.call.EndAnswer.{EndAnswer}
use Rattle.channel_core.specs.declared.call.EndCall.{EndCall}
use Rattle.channel_core.specs.declared.answer.Look.{Look}
use Rattle.channel_core.specs.declared.message.Outgoing.{Outgoing}
use Rattle.channel_core.specs.declared.answer.Pull.{Pull}
use Rattle.channel_core.specs.declared.answer.Tick.{Tick}
use Rattle.channel_core.specs.Call.{Entry}
use Rattle.channel_core.specs.History.{is_closed, put_messages}
use Rattle.channel_core.specs.Legal.{IsNoMemory, answer_to, answer_to_pull, answer_to_tick, look_at}
use Rattle.channel_core.specs.Numbers.{has_number}
use Rattle.channel_core.specs.Resending.{sent_since_opened}
use Rattle.channel_core.specs.Stands.{EndState, Follows}
use Rattle.channel_core.proofs.HistoryLemmas.{is_closed-push}
use Rattle.channel_core.proofs.LegalLemmas.{answer_to-known}
use Rattle.session_audit.specs.declared.act.Act.{Act}
use Rattle.session_audit.specs.Acts.{act_of, acts_of}
use Rattle.session_audit.specs.Ends.{IsAt, Makes, Replays}
use Rattle.session_audit.specs.Replay.{calls_before, calls_for, entries_of, entry_of, last_of_all, put_call, replay_of}
use Rattle.channel_core.proofs.OpenedLemmas.{or-true}
use Rattle.session_audit.proofs.PutCallLemmas.{put_shows}
use Rattle.session_audit.proofs.ReplayLemmas.{acts_of-append}

-- a call that found memory got its answer
pub answered : (w : ℕ) (h : List Entry) (old new : EndState) (call : EndCall) (answer : EndAnswer)
    → Follows old new call answer
    → (IsNoMemory call answer → ⊥)
    → IsAt w old h
    → answer ≡ answer_to w h call
answered w h old new call answer follows memory at =
    answer_to-known w h (record { call = call; answer = answer }) (follows w h at.0 at.1).0 memory

-- and the end stands for the entries with it
pub made : (old new : EndState) (call : EndCall) (answer : EndAnswer)
    → Follows old new call answer
    → (IsNoMemory call answer → ⊥)
    → Makes old new (call ∷ [])
made old new call answer follows memory w h at =
    subst
    (λ (a : EndAnswer). IsAt w new (h ++ record { call = call; answer = a } ∷ []))
    (answered w h old new call answer follows memory at)
    (follows w h at.0 at.1)

-- no calls
pub made_none : (end : EndState) → Makes end end []
made_none end w h at = rw append-nil at

-- calls, and calls after them
pub entries_of-append : (w : ℕ) (h : List Entry) (calls more : List EndCall)
    → entries_of w h (calls ++ more)
    ≡ entries_of w h calls ++ entries_of w (h ++ entries_of w h calls) more
entries_of-append w h [] more =
    ap (λ (g : List Entry). entries_of w g more) (sym (append-nil h))
entries_of-append w h (call ∷ calls) more =
    let e = entry_of w h call in
    ap (λ (l : List Entry). e ∷ l)
    (entries_of-append w (h ++ e ∷ []) calls more
    ∙ ap
    (λ (g : List Entry). entries_of w (h ++ e ∷ []) calls ++ entries_of w g more)
    (append_assoc h (e ∷ []) (entries_of w (h ++ e ∷ []) calls)))

-- what a look tells
pub look_told : (w : ℕ) (h : List Entry) (end : EndState) (look : Look)
    → Follows end end EndCall.Look (EndAnswer.Look look)
    → IsAt w end h
    → look.next ≡ length (put_messages h)
unfolding look_at
look_told w h end look follows at =
    let is = answered w h end end EndCall.Look (EndAnswer.Look look) follows (λ never. never) at in
    let same : look ≡ look_at w h = cc in
    ap (λ (l : Look). l.next) same

-- one call that shows an act and nothing else
pub lone : (old new : EndState) (call : EndCall) (answer : EndAnswer) (act : Act) (again : Bool)
    → Follows old new call answer
    → (IsNoMemory call answer → ⊥)
    → ((h : List Entry) → calls_for h act ≡ call ∷ [])
    → act_of answer call ≡ Some act
    → Replays old new act again true
unfolding acts_of
lone old new call answer act again follows memory calls shows w h at is_again =
    let known = answered w h old new call answer follows memory at in
    let shown : acts_of (entries_of w h (call ∷ [])) ≡ act ∷ []
    = subst
    (λ (a : EndAnswer). acts_of (record { call = call; answer = a } ∷ []) ≡ act ∷ [])
    known
    (rw shows refl) in
    rw (calls h) (made old new call answer follows memory w h at, (λ _. shown, λ _. refl))

-- ---- what is called before a stream message goes out

-- it shows nothing, or that the end gives up, which closes it
BeforeShows : ℕ → List Entry → List EndCall → Type 0
BeforeShows w h calls =
    (acts_of (entries_of w h calls) ≡ [])
    ⊎ (acts_of (entries_of w h calls) ≡ Act.Closes ∷ [])
    × (is_closed (h ++ entries_of w h calls) ≡ true)

-- a tick at which the end gives up closes it
gave_up_closes : (h : List Entry) (n : ℕ)
    → is_closed
    (h
    ++ record { call = EndCall.Tick last_of_all; answer = EndAnswer.Tick (Tick.GaveUp n) }
    ∷ [])
    ≡ true
gave_up_closes h n = is_closed-push h _ ∙ or-true (is_closed h)

before_shows : (w : ℕ) (h : List Entry) (m : Sent) → BeforeShows w h (calls_before h m)
unfolding acts_of BeforeShows
before_shows w h m =
    at (eqb m.seq (length (put_messages h))) (has_number (sent_since_opened h) m.seq)
  where
    ticked : Tick → Entry
    ticked answer = record { call = EndCall.Tick last_of_all; answer = EndAnswer.Tick answer }

    tick : (answer : Tick)
        → (acts_of (ticked answer ∷ []) ≡ [])
        ⊎ (acts_of (ticked answer ∷ []) ≡ Act.Closes ∷ [])
        × (is_closed (h ++ ticked answer ∷ []) ≡ true)
    tick Tick.Nothing = inl refl
    tick (Tick.Due n) = inl refl
    tick (Tick.GaveUp n) = inr (refl, gave_up_closes h n)

    at : (new sent : Bool)
        → BeforeShows w h
        (cond new (put_call m ∷ []) (cond sent (EndCall.Tick last_of_all ∷ []) []))
    at true sent = inl (put_shows w h m)
    at false true = tick (answer_to_tick h last_of_all)
    at false false = inl refl

-- the calls before a new number
pub before_new : (h : List Entry) (m : Sent)
    → m.seq ≡ length (put_messages h)
    → calls_before h m ≡ put_call m ∷ []
before_new h m same = rw (eq-eqb m.seq (length (put_messages h)) same) refl

-- the calls before another number
pub before_old : (h : List Entry) (m : Sent) (again : Bool)
    → m.seq ≢ length (put_messages h)
    → again ≡ has_number (sent_since_opened h) m.seq
    → calls_before h m ≡ cond again (EndCall.Tick last_of_all ∷ []) []
before_old h m again apart is =
    rw (ne_eqb m.seq (length (put_messages h)) apart, ← is) refl

-- ---- what a pull shows

pub pull_told : (w : ℕ) (h : List Entry) (old new : EndState) (now : ℕ) (given out : Outgoing)
    (same : Bool)
    → Follows old new (EndCall.Pull now) (EndAnswer.Pull (Pull.Emit given))
    → IsAt w old h
    → Decides same (given ≡ out)
    → Decides same (acts_of (entries_of w h (EndCall.Pull now ∷ [])) ≡ Act.Emits out ∷ [])
unfolding acts_of
pull_told w h old new now given out same follows at decides =
    let known = answered w h old new (EndCall.Pull now) (EndAnswer.Pull (Pull.Emit given))
    follows (λ is. cc) at in
    subst
    (λ (a : EndAnswer). Decides same
    (acts_of (record { call = EndCall.Pull now; answer = a } ∷ []) ≡ Act.Emits out ∷ []))
    known (
      λ is. ap (λ (o : Outgoing). Act.Emits o ∷ []) (decides.0 is),
      λ shown. let it : given ≡ out = cc in decides.1 it,
    )

pub idle_told : (w : ℕ) (h : List Entry) (old new : EndState) (now : ℕ) (out : Outgoing)
    → Follows old new (EndCall.Pull now) (EndAnswer.Pull Pull.Idle)
    → IsAt w old h
    → Decides false (acts_of (entries_of w h (EndCall.Pull now ∷ [])) ≡ Act.Emits out ∷ [])
unfolding acts_of
idle_told w h old new now out follows at =
    let known = answered w h old new (EndCall.Pull now) (EndAnswer.Pull Pull.Idle)
    follows (λ is. cc) at in
    subst
    (λ (a : EndAnswer). Decides false
    (acts_of (record { call = EndCall.Pull now; answer = a } ∷ []) ≡ Act.Emits out ∷ []))
    known
    (λ is. cc, λ shown. cc)

-- an end that is closed shows nothing at a pull
closed_shows : (w : ℕ) (h : List Entry)
    → is_closed h ≡ true
    → acts_of (entries_of w h (EndCall.Pull 0 ∷ [])) ≡ []
unfolding acts_of answer_to_pull
closed_shows w h closed = rw closed refl

-- ---- a stream message as a whole

pub stream_told : (w : ℕ) (h : List Entry) (m : Sent) (done : Bool)
    → (let g = h ++ entries_of w h (calls_before h m) in
    let act = Act.Emits (Outgoing.Stream m) in
    Decides done (acts_of (entries_of w g (EndCall.Pull 0 ∷ [])) ≡ act ∷ [])
    → Decides done (acts_of (replay_of w h act) ≡ act ∷ []))
unfolding BeforeShows
stream_told w h m done decides =
    ⊎_elim
    (λ (none : acts_of before ≡ []). (
      λ is. all ∙ ap (λ (l : List Act). l ++ acts_of last) none ∙ decides.0 is,
      λ shown.
          decides.1 (ap (λ (l : List Act). l ++ acts_of last) (sym none) ∙ sym all ∙ shown),
    ))
    (λ (gone : (acts_of before ≡ Act.Closes ∷ []) × (is_closed (h ++ before) ≡ true)). (
      λ is.
          let shows : act ∷ [] ≡ [] = sym (decides.0 is) ∙ closed_shows w (h ++ before) gone.1 in
          absurd (cc),
      λ shown.
          let never : Act.Closes ∷ acts_of last ≡ act ∷ []
          = ap (λ (l : List Act). l ++ acts_of last) (sym gone.0) ∙ sym all ∙ shown in
          absurd (cc),
    ))
    (before_shows w h m)
  where
    act : Act
    act = Act.Emits (Outgoing.Stream m)

    before : List Entry
    before = entries_of w h (calls_before h m)

    last : List Entry
    last = entries_of w (h ++ before) (EndCall.Pull 0 ∷ [])

    all : acts_of (replay_of w h act) ≡ acts_of before ++ acts_of last
    all =
        ap acts_of (entries_of-append w h (calls_before h m) (EndCall.Pull 0 ∷ []))
        ∙ acts_of-append before last

-- the calls before it, and the pull
pub stream_made : (w : ℕ) (h : List Entry) (m : Sent) (new : EndState)
    → (let before = entries_of w h (calls_before h m) in
    IsAt w new ((h ++ before) ++ entries_of w (h ++ before) (EndCall.Pull 0 ∷ []))
    → IsAt w new (h ++ replay_of w h (Act.Emits (Outgoing.Stream m))))
stream_made w h m new at =
    let before = entries_of w h (calls_before h m) in
    let last = entries_of w (h ++ before) (EndCall.Pull 0 ∷ []) in
    subst (λ (l : List Entry). IsAt w new (h ++ l))
    (sym (entries_of-append w h (calls_before h m) (EndCall.Pull 0 ∷ [])))
    (subst (IsAt w new) (append_assoc h before last) at)

-- ---- the results of the functions

-- what follows from a value, if there is one
pub on_ok : {T E : Type 0} (r : Result T E) (P Q : Type 0) → OnOk r P → (P → Q) → OnOk r Q
on_ok (Ok x) P Q is then = then is
on_ok (Err e) P Q is then = tt

pub if_ok : {T E : Type 0} (r : Result T E) (P Q : T → Type 0)
    → IfOk r P
    → ((x : T) → P x → Q x)
    → IfOk r Q
if_ok (Ok x) P Q is then = then x is
if_ok (Err e) P Q is then = tt

-- a stream message is replayed by its calls before, and the pull
pub stream_replays : (r : Result Bool NoMemory) (old mid new : EndState) (m : Sent) (again : Bool)
    → ((w : ℕ) (h : List Entry)
    → IsAt w old h
    → again ≡ has_number (sent_since_opened h) m.seq
    → IsAt w mid (h ++ entries_of w h (calls_before h m)))
    → OnOk r (Makes mid new (EndCall.Pull 0 ∷ []))
    → IfOk r (λ done. (w : ℕ) (h : List Entry)
    → IsAt w mid h
    → Decides done
    (acts_of (entries_of w h (EndCall.Pull 0 ∷ [])) ≡ Act.Emits (Outgoing.Stream m) ∷ []))
    → IfOk r (Replays old new (Act.Emits (Outgoing.Stream m)) again)
stream_replays (Ok done) old mid new m again prepared pulls told =
    λ w h at is_again.
    let g = h ++ entries_of w h (calls_before h m) in
    let ready = prepared w h at is_again in
    (stream_made w h m new (pulls w g ready), stream_told w h m done (told w g ready))
stream_replays (Err e) old mid new m again prepared pulls told = tt
