-- The replay of one end: it is legal, and it follows what a legal history shows.
use Rattle.std.proofs.Common.{ℕ, ◌≡◌, ◌≤◌, Option, Some, None, List, [], ◌∷◌, ◌++◌, inl, refl, sym, ap, subst, arith, append_assoc}
use Rattle.std.specs.List.{cons_option}
use Rattle.std.proofs.lemmas.Grind.{fold-append}
use Rattle.std.proofs.lemmas.List.{append-nil}
use Rattle.std.proofs.lemmas.List.Elements.{filter_map-append}
use Rattle.channel_core.specs.declared.call.EndAnswer.{EndAnswer}
use Rattle.channel_core.specs.declared.call.EndCall.{EndCall}
use Rattle.channel_core.specs.declared.answer.Heard.{Heard}
use Rattle.channel_core.specs.declared.message.Incoming.{Incoming}
use Rattle.channel_core.specs.declared.message.Outgoing.{Outgoing}
use Rattle.channel_core.specs.declared.answer.Pull.{Pull}
use Rattle.channel_core.specs.declared.answer.Tick.{Tick}
use Rattle.channel_core.specs.Call.{Entry}
use Rattle.channel_core.specs.History.{acked_numbers, emissions, is_closed, is_paused, is_up, message_emitted, owed_acks, put_messages, taken_messages}
use Rattle.channel_core.specs.Legal.{IsLegal, IsNoMemory, answer_to, answer_to_incoming}
use Rattle.channel_core.specs.Resending.{marked_due, sent_since_opened, transmissions}
use Rattle.channel_core.proofs.HistoryLemmas.{by_pushes}
use Rattle.channel_core.proofs.LegalLemmas.{All-pushed, IsLegal-nil, IsLegal-push, IsLegal-pushed, answer_to-known, ack_cases, pull_cases, stream_cases}
use Rattle.std.proofs.lemmas.Bool.{cond_both}
use Rattle.session_audit.specs.declared.act.Act.{Act}
use Rattle.session_audit.specs.Acts.{IsRemembered, act_of, acts_of, outs_of}
use Rattle.session_audit.specs.Laws.{ReplayFollows}
use Rattle.session_audit.specs.Replay.{calls_for, entries_of, entry_of, replay, replay_of}
use Rattle.session_audit.proofs.ExplainLemmas.{Explains}
use Rattle.session_audit.proofs.DoesLemmas.{Steps}
use Rattle.session_audit.proofs.StepLemmas.{step}

pub acts_of-append : (h l : List Entry) → acts_of (h ++ l) ≡ acts_of h ++ acts_of l
unfolding acts_of
acts_of-append h l = filter_map-append (λ (e : Entry). act_of e.answer e.call) h l

pub acts_of-push : (h : List Entry) (e : Entry)
    → acts_of (h ++ e ∷ []) ≡ acts_of h ++ cons_option (act_of e.answer e.call) []
unfolding acts_of
acts_of-push h e = filter_map-append (λ (x : Entry). act_of x.answer x.call) h (e ∷ [])

pub replay-nil : (w : ℕ) → replay w [] ≡ []
unfolding replay
replay-nil w = refl

pub replay-push : (w : ℕ) (acts : List Act) (act : Act)
    → replay w (acts ++ act ∷ []) ≡ replay w acts ++ replay_of w (replay w acts) act
unfolding replay
replay-push w acts act =
    fold-append (λ (h : List Entry) (a : Act). h ++ replay_of w h a) [] acts (act ∷ [])

-- calls with their answers keep a history legal
pub IsLegal-entries : (w : ℕ) (h : List Entry) (calls : List EndCall)
    → IsLegal w h
    → IsLegal w (h ++ entries_of w h calls)
IsLegal-entries w h [] legal = rw append-nil legal
IsLegal-entries w h (call ∷ calls) legal =
    let e = entry_of w h call in
    subst (IsLegal w) (append_assoc h (e ∷ []) (entries_of w (h ++ e ∷ []) calls))
    (IsLegal-entries w (h ++ e ∷ []) calls (IsLegal-push w h e legal (inl refl)))

-- the replay is legal, whatever it is a replay of
pub replay-legal : (w : ℕ) (acts : List Act) → IsLegal w (replay w acts)
replay-legal w acts =
    by_pushes (λ acts. IsLegal w (replay w acts))
    (rw (replay-nil w) (IsLegal-nil w))
    (λ acts act legal. rw replay-push
    (IsLegal-entries w (replay w acts) (calls_for (replay w acts) act) legal))
    acts

-- what is given out is what is seen to be given out
pub emissions-seen : (h : List Entry) → emissions h ≡ outs_of (acts_of h)
unfolding emissions acts_of outs_of
emissions-seen [] = refl
emissions-seen (e ∷ h) = one e.answer e.call (emissions-seen h)
  where
    one : (answer : EndAnswer) (call : EndCall)
        → emissions h ≡ outs_of (acts_of h)
        → cons_option (message_emitted answer) (emissions h)
        ≡ outs_of (cons_option (act_of answer call) (acts_of h))
    one (EndAnswer.Pull (Pull.Emit out)) call rest = ap (λ (l : List Outgoing). out ∷ l) rest
    one (EndAnswer.Tick (Tick.GaveUp n)) call rest = rest
    one answer (EndCall.Heard now incoming) rest = rest
    one answer (EndCall.Opened now) rest = rest
    one answer EndCall.Lost rest = rest
    one answer EndCall.Close rest = rest
    one answer call rest = rest

-- ---- no answer of the definitions is a want of memory

pub never_wants : (w : ℕ) (h : List Entry) (call : EndCall) → IsNoMemory call (answer_to w h call) → ⊥
never_wants w h (EndCall.Put item id now) = λ never. never
never_wants w h (EndCall.PutLast item id now) = λ never. never
never_wants w h (EndCall.Heard now incoming) =
    cond_both (is_closed h) Heard.AfterClose (answer_to_incoming w h incoming)
    (λ (heard : Heard). EndAnswer.Heard heard ≡ EndAnswer.Heard (Heard.NoMemory incoming) → ⊥)
    (λ _ is. cc)
    (λ _. heard incoming)
  where
    heard : (incoming : Incoming)
        → EndAnswer.Heard (answer_to_incoming w h incoming)
        ≡ EndAnswer.Heard (Heard.NoMemory incoming)
        → ⊥
    heard (Incoming.Stream n id item last) =
        stream_cases w h n item last
        (λ (a : Heard). EndAnswer.Heard a
        ≡ EndAnswer.Heard (Heard.NoMemory (Incoming.Stream n id item last)) → ⊥)
        (λ _ is. cc)
        (λ _ is. cc)
        (λ m _ _ is. cc)
        (λ _ _ is. cc)
        (λ _ _ is. cc)
    heard (Incoming.Ack n) =
        ack_cases h n
        (λ (a : Heard). EndAnswer.Heard a ≡ EndAnswer.Heard (Heard.NoMemory (Incoming.Ack n)) → ⊥)
        (λ _ _ is. cc)
        (λ is. cc)
    heard Incoming.Pause = λ is. cc
    heard Incoming.Start = λ is. cc
    heard (Incoming.Closing output) = λ is. cc
never_wants w h (EndCall.Pull now) =
    pull_cases w h now
    (λ (pull : Pull). EndAnswer.Pull pull ≡ EndAnswer.Pull Pull.NoMemory → ⊥)
    (λ is. cc)
    (λ p owed _ is. cc)
    (λ n m _ _ _ is. cc)
never_wants w h (EndCall.Tick now) = λ never. never
never_wants w h EndCall.Lost = λ never. never
never_wants w h (EndCall.Opened now) = λ never. never
never_wants w h EndCall.Close = λ never. never
never_wants w h EndCall.Look = λ never. never

-- ---- the replay stands for each legal history

nothing_explained : (w : ℕ) → Explains w [] (replay w (acts_of []))
unfolding replay acts_of put_messages acked_numbers emissions sent_since_opened taken_messages owed_acks is_up is_paused is_closed marked_due transmissions
nothing_explained w =
    record {
      rest = [];
      put = refl;
      acked = refl;
      emitted = refl;
      known = λ n below. absurd (omega arith);
      sent = refl;
      taken = refl;
      owed = refl;
      up = refl;
      paused = refl;
      closed = refl;
      unmarked = λ n. refl;
      dues = λ n. omega arith;
      moments = λ n. refl;
    }

-- one entry more
explained_after : (w : ℕ) (h : List Entry) (e : Entry) (o : Option Act)
    → act_of e.answer e.call ≡ o
    → Steps w h (replay w (acts_of h)) e o
    → Explains w (h ++ e ∷ []) (replay w (acts_of (h ++ e ∷ [])))
explained_after w h e None is steps =
    rw (acts_of-push h e, is, append-nil (acts_of h)) steps
explained_after w h e (Some act) is steps =
    rw (acts_of-push h e, is, replay-push w (acts_of h) act) steps.1

-- the replay of what an entry shows, where it stands for the history before it
follows : (w : ℕ) (h : List Entry) (e : Entry)
    → 1 ≤ w
    → IsLegal w (h ++ e ∷ [])
    → IsRemembered (h ++ e ∷ [])
    → Explains w h (replay w (acts_of h))
    → Steps w h (replay w (acts_of h)) e (act_of e.answer e.call)
follows w h e some legal memory x =
    let before = IsLegal-pushed w h e legal in
    let known = answer_to-known w h e legal
    (All-pushed (λ (x : Entry). ¬ IsNoMemory x.call x.answer) h e memory).1 in
    subst
    (λ (a : EndAnswer). Steps w h (replay w (acts_of h))
    (record { call = e.call; answer = a }) (act_of a e.call))
    (sym known)
    (step w h (replay w (acts_of h)) e.call some before.0 (replay-legal w (acts_of h)) x)

-- the replay of what a legal history shows stands for it
pub explained : (w : ℕ) (h : List Entry)
    → 1 ≤ w
    → IsLegal w h
    → IsRemembered h
    → Explains w h (replay w (acts_of h))
explained w h some =
    by_pushes (λ h. IsLegal w h → IsRemembered h → Explains w h (replay w (acts_of h)))
    (λ legal memory. nothing_explained w)
    (λ h e before legal memory.
    let x = before (IsLegal-pushed w h e legal).0
    (All-pushed (λ (x : Entry). ¬ IsNoMemory x.call x.answer) h e memory).0 in
    explained_after w h e (act_of e.answer e.call) refl (follows w h e some legal memory x))
    h

-- what a legal history shows next can be replayed
pub replay_follows : ReplayFollows
replay_follows w h e act some legal memory is =
    let x = explained w h some (IsLegal-pushed w h e legal).0
    (All-pushed (λ (x : Entry). ¬ IsNoMemory x.call x.answer) h e memory).0 in
    (subst (Steps w h (replay w (acts_of h)) e) is (follows w h e some legal memory x)).0
