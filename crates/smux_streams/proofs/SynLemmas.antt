-- What the last byte of a SYN does.
use Rattle.std.proofs.Common.{◌≡◌, ◌≢◌, ℕ, ◌+◌, ◌-◌, ◌<◌, ◌≤◌, Bool, true, false, eqb, ltb, leb, cond, not, ◌&&◌, Option, Some, None, List, [], ◌∷◌, ◌++◌, ◌⊎◌, inl, inr, ⊎_elim, refl, sym, ap, subst, ◌∙◌, arith, length, take, drop, is_some}
use Rattle.std.specs.Prelude.{option_to_list}
use Rattle.std.specs.List.{list_all}
use Rattle.std.specs.Option.{option_map}
use Rattle.std.proofs.lemmas.List.{append-nil, length-append}
use Rattle.std.proofs.lemmas.Bool.{cases_Bool, both_ways, ne_eqb, eq-eqb, cases_eq, lt-ltb, le-ltb}
use Rattle.smux_frames.specs.declared.frame.Frame.{Frame}
use Rattle.smux_frames.specs.declared.frame.Cmd.{Cmd}
use Rattle.smux_frames.specs.declared.frame.Cmd.TheVariants as cmds
use Rattle.smux_frames.specs.declared.fault.FrameFault.{FrameFault}
use Rattle.smux_frames.specs.declared.coming.Coming.{Coming}
use Rattle.smux_frames.specs.Coming.{coming_of}
use Rattle.smux_frames.specs.Reading.{Pending, frame_now, fault_now, pending_now}
use Rattle.smux_acts.specs.declared.event.Event.{Event}
use Rattle.smux_acts.specs.declared.event.Event.TheVariants as events
use Rattle.smux_acts.specs.Signals.{Signal, Syn, Fin, Psh, Nop}
use Rattle.smux_acts.specs.Acts as acts
use Rattle.smux_acts.specs.Acts.{Came, called, delivered, ended, event_of, finished, got, live, living, opened, over, streams}
use Rattle.smux_store.specs.declared.stream.Stream.{Stream}
use Rattle.smux_store.specs.declared.trail.Step.{Step}
use Rattle.smux_store.specs.declared.trail.Step.TheVariants as steps
use Rattle.smux_streams.specs.History.{Seen, come, signal_by, signal_of, with_fault}
use Rattle.smux_store.specs.Kept.{holding, untaken, WasPassed, is_above}
use Rattle.smux_streams.specs.Legal.{waits_by}
use Rattle.smux_store.specs.Streams.{fresh, stream_with, takes_data, undo_at, undone, with_data, with_end, without_last}
use Rattle.smux_streams.specs.Stands.{Keeps, MuxState}
use Rattle.smux_streams.specs.Steps.{IsWhole, LeadsBack, PartGoes, Passes, PassesFrom, come_event, moved}
use Rattle.smux_store.proofs.ShowLemmas.{Found, some_found}
use Rattle.smux_store.proofs.KindLemmas.{IsTaken, IsTold, called_test}
use Rattle.smux_store.proofs.ViewLemmas.{drop_front, view}
use Rattle.smux_streams.proofs.KeepLemmas.{after, begin_goes, quiet_goes, touch_goes}
use Rattle.smux_streams.proofs.CloseLemmas.{fin_frame}
use Rattle.smux_streams.proofs.CallLemmas.{room_is, same_begun, same_last}
use Rattle.smux_store.proofs.ActLemmas.{shows_by, take_all, quiet_came, opens_here, refused_quiet, ended_touches, ended_view, ready_touches, ready_view, undone_push, old_last, new_last}
use Rattle.smux_streams.proofs.ByteLemmas.{frame_at, moved_keeps, pending_at, signal_at, waited, went}

syn_last : (client : Bool) (m : MuxState) (given : List ℕ) (s : Seen) (sid : ℕ) (e : Option Event)
    → Keeps client m given s
    → client ≡ false
    → (q : ℕ)
    → list_all (λ t. ltb t q) (called (s.acts ++ Came (Syn sid) e ∷ []))
    ≡ (is_above m.last q && (ltb sid q && true))
syn_last client m given s sid e k r q =
    called_test s.acts (Came (Syn sid) e) q
    ∙ ap (λ (b : Bool). b && (ltb sid q && true)) (k.last r q)

pub syn_passed_over : (m n : MuxState) (b sid : ℕ) (f : Frame) (before : List Event)
    → IsWhole m b f cmds.Syn sid (length f.payload)
    → (m.client ≡ true) ⊎ (is_above m.last sid ≡ false)
    → n ≡ moved m b
    → Passes m n b before before true
syn_passed_over m n b sid f before w h e = rw e (λ client given s k.
    went client (moved m b) given s b f (Syn sid) None before before
    (frame_at client m given s b f k w.frame) (signal_at f cmds.Syn sid w.command w.stream)
    (no_event client given s k (cases_Bool client)) refl
    (moved_keeps client m given s b (Syn sid) k (λ r q. syn_last client m given s sid None k r q
    ∙ old_last m.last sid q (is_old client given s k r h))) (sym (append-nil before)))
  where
    is_old : (client : Bool) (given : List ℕ) (s : Seen)
        → Keeps client m given s
        → client ≡ false
        → (m.client ≡ true) ⊎ (is_above m.last sid ≡ false)
        → is_above m.last sid ≡ false
    is_old client given s k r (inl c) = absurd (both_ways client r (sym k.client ∙ c))
    is_old client given s k r (inr o) = o

    no_event : (client : Bool) (given : List ℕ) (s : Seen)
        → Keeps client m given s
        → (client ≡ true) ⊎ (client ≡ false)
        → event_of client s.acts (Syn sid) ≡ None
    no_event client given s k (inl c) = rw c refl
    no_event client given s k (inr c) =
        let o = k.last c sid ∙ is_old client given s k c h in rw (c, o) refl

-- a SYN that is new to a server
new_syn : (client : Bool) (m : MuxState) (given : List ℕ) (s : Seen) (sid : ℕ)
    → Keeps client m given s
    → m.client ≡ false
    → is_above m.last sid ≡ true
    → (client ≡ false) × (list_all (λ t. ltb t sid) (called s.acts) ≡ true)
new_syn client m given s sid k c o =
    let r : client ≡ false = sym k.client ∙ c in (r, k.last r sid ∙ o)

pub not_opened : (client : Bool) (m : MuxState) (given : List ℕ) (s : Seen) (sid : ℕ)
    → Keeps client m given s
    → m.client ≡ false
    → is_above m.last sid ≡ true
    → opened sid s.acts ≡ false
not_opened client m given s sid k c o = ⊎_elim
    (λ (h : opened sid s.acts ≡ true). absurd (let n = new_syn client m given s sid k c o in
    let w : WasPassed false s.acts sid =
    subst (λ (r : Bool). WasPassed r s.acts sid) n.0 (k.orderly.passed sid h) in
    both_ways (list_all (λ t. ltb t sid) (called s.acts)) w n.1))
    (λ (h : opened sid s.acts ≡ false). h)
    (cases_Bool (opened sid s.acts))

pub syn_opens : (m n : MuxState) (b sid : ℕ) (f : Frame) (before after' : List Event)
    → IsWhole m b f cmds.Syn sid (length f.payload)
    → m.client ≡ false
    → is_above m.last sid ≡ true
    → m.living < 1024
    → n ≡ record m {
      pending = pending_now m.pending b;
      last = Some sid;
      streams =
          n.streams;
      living =
          m.living + 1;
    }
    → ((q : ℕ) → stream_with n.streams q
    ≡ cond (eqb q sid) (Some fresh) (stream_with m.streams q))
    → after' ≡ before ++ events.Opened sid ∷ [] → Passes m n b before after' true
syn_opens m n b sid f before after' w c o l e g h client given s k =
    let x = Came (Syn sid) (Some (events.Opened sid)) in
    let y = new_syn client m given s sid k c o in
    let v : ltb (living s.acts) 1024 ≡ true =
    ap (λ (z : ℕ). ltb z 1024) (sym k.living) ∙ lt-ltb m.living 1024 l in
    let r = y.0 in let t = y.1 in
    let self : ltb sid sid ≡ false = le-ltb sid sid (omega arith) in
    let passed : WasPassed false (s.acts ++ x ∷ []) sid =
    called_test s.acts x sid ∙ (rw (t, self) refl) in
    went client n given s b f (Syn sid) (Some (events.Opened sid)) before after'
    (frame_at client m given s b f k w.frame) (signal_at f cmds.Syn sid w.command w.stream)
    (rw (r, t, v) refl) refl
    (begin_goes client m n given s (pending_now s.pending b) x sid (opens_here sid)
    (not_opened client m given s sid k c o)
    (subst (λ (z : Bool). WasPassed z (s.acts ++ x ∷ []) sid) (sym r) passed) k (record {
      client = ap (λ (z : MuxState). z.client) e;
      pending = ap (λ (z : MuxState). z.pending) e ∙ pending_at client m given s b k;
      out = ap (λ (z : MuxState). z.out) e ∙ sym (append-nil m.out);
      begun = λ i. absurd (both_ways client r i);
      last = λ i q. syn_last client m given s sid (Some (events.Opened sid)) k i q
          ∙ new_last m.last sid q o ∙ ap (λ (z : MuxState). is_above z.last q) (sym e);
    }) g (ap (λ (z : MuxState). z.living) e) (ap (λ (z : MuxState). z.held) e)) h

refusal : (client : Bool) (m : MuxState) (given : List ℕ) (s : Seen) (sid : ℕ)
    → Keeps client m given s
    → m.client ≡ false
    → is_above m.last sid ≡ true
    → 1024 ≤ m.living
    → event_of client s.acts (Syn sid) ≡ Some (events.Refused sid)
refusal client m given s sid k c o l =
    let y = new_syn client m given s sid k c o in
    let v : ltb (living s.acts) 1024 ≡ false =
    ap (λ (z : ℕ). ltb z 1024) (sym k.living) ∙ le-ltb m.living 1024 l in
    let r = y.0 in let t = y.1 in
    rw (r, t, v) refl

pub syn_refused : (m n : MuxState) (b sid : ℕ) (f : Frame) (before after' : List Event)
    → IsWhole m b f cmds.Syn sid (length f.payload)
    → m.client ≡ false
    → is_above m.last sid ≡ true
    → 1024 ≤ m.living
    → leb (length m.out + (8 + 0)) 1048576 ≡ true
    → n ≡ record m {
      pending = pending_now m.pending b;
      last = Some sid;
      out =
          m.out ++ fin_frame sid;
    } → after' ≡ before ++ events.Refused sid ∷ []
    → Passes m n b before after' true
syn_refused m n b sid f before after' w c o l room e h client given s k =
    let x = Came (Syn sid) (Some (events.Refused sid)) in
    let r = (new_syn client m given s sid k c o).0 in
    let v = room_is client m given s 8 true k room in
    went client n given s b f (Syn sid) (Some (events.Refused sid)) before after'
    (frame_at client m given s b f k w.frame) (signal_at f cmds.Syn sid w.command w.stream)
    (refusal client m given s sid k c o l) (rw v refl)
    (quiet_goes client m n given s (pending_now s.pending b) x (refused_quiet sid) k (record {
      client = ap (λ (z : MuxState). z.client) e;
      pending = ap (λ (z : MuxState). z.pending) e ∙ pending_at client m given s b k;
      out = ap (λ (z : MuxState). z.out) e;
      begun = λ i. absurd (both_ways client r i);
      last = λ i q. syn_last client m given s sid (Some (events.Refused sid)) k i q
          ∙ new_last m.last sid q o ∙ ap (λ (z : MuxState). is_above z.last q) (sym e);
    }) (ap (λ (z : MuxState). z.streams) e) (ap (λ (z : MuxState). z.living) e)
    (ap (λ (z : MuxState). z.held) e)) h

pub syn_waits : (m : MuxState) (b sid : ℕ) (f : Frame) (before : List Event)
    → IsWhole m b f cmds.Syn sid (length f.payload)
    → m.client ≡ false
    → is_above m.last sid ≡ true
    → 1024 ≤ m.living
    → leb (length m.out + (8 + 0)) 1048576 ≡ false
    → Passes m m b before before false
syn_waits m b sid f before w c o l room client given s k =
    let v = room_is client m given s 8 false k room in
    waited client m given s b f (Syn sid) (Some (events.Refused sid)) before k
    (frame_at client m given s b f k w.frame) (signal_at f cmds.Syn sid w.command w.stream)
    (refusal client m given s sid k c o l) (rw v refl)
