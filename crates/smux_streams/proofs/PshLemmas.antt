-- What the last byte of a PSH does.
use Rattle.std.proofs.Common.{◌≡◌, ◌≢◌, ℕ, ◌+◌, ◌-◌, ◌<◌, ◌≤◌, Bool, true, false, eqb, ltb, leb, cond, not, ◌&&◌, Option, Some, None, List, [], ◌∷◌, ◌++◌, ◌⊎◌, inl, inr, ⊎_elim, refl, sym, ap, subst, ◌∙◌, arith, length, take, drop, is_some}
use Rattle.std.specs.Prelude.{option_to_list}
use Rattle.std.specs.List.{list_all}
use Rattle.std.specs.Option.{option_map}
use Rattle.std.proofs.lemmas.List.{append-nil, length-append}
use Rattle.std.proofs.lemmas.Bool.{cases_Bool, both_ways, ne_eqb, eq-eqb, cases_eq, lt-ltb, le-ltb}
use Rattle.smux_frames.specs.declared.frame.Frame.{Frame}
use Rattle.smux_frames.specs.declared.frame.Cmd.{Cmd}
use Rattle.smux_frames.specs.declared.frame.Cmd.TheVariants as cmds
use Rattle.smux_frames.specs.declared.fault.FrameFault.{FrameFault}
use Rattle.smux_frames.specs.declared.coming.Coming.{Coming}
use Rattle.smux_frames.specs.Coming.{coming_of}
use Rattle.smux_frames.specs.Reading.{Pending, frame_now, fault_now, pending_now}
use Rattle.smux_acts.specs.declared.event.Event.{Event}
use Rattle.smux_acts.specs.declared.event.Event.TheVariants as events
use Rattle.smux_acts.specs.Signals.{Signal, Syn, Fin, Psh, Nop}
use Rattle.smux_acts.specs.Acts as acts
use Rattle.smux_acts.specs.Acts.{Came, called, delivered, ended, event_of, finished, got, live, living, opened, over, streams}
use Rattle.smux_store.specs.declared.stream.Stream.{Stream}
use Rattle.smux_store.specs.declared.trail.Step.{Step}
use Rattle.smux_store.specs.declared.trail.Step.TheVariants as steps
use Rattle.smux_streams.specs.History.{Seen, come, signal_by, signal_of, with_fault}
use Rattle.smux_store.specs.Kept.{holding, untaken, WasPassed, is_above}
use Rattle.smux_streams.specs.Legal.{waits_by}
use Rattle.smux_store.specs.Streams.{fresh, stream_with, takes_data, undo_at, undone, with_data, with_end, without_last}
use Rattle.smux_streams.specs.Stands.{Keeps, MuxState}
use Rattle.smux_streams.specs.Steps.{IsWhole, LeadsBack, PartGoes, Passes, PassesFrom, come_event, moved}
use Rattle.smux_store.proofs.ShowLemmas.{Found, some_found}
use Rattle.smux_store.proofs.KindLemmas.{IsTaken, IsTold, called_test}
use Rattle.smux_store.proofs.ViewLemmas.{drop_front, view}
use Rattle.smux_streams.proofs.KeepLemmas.{after, begin_goes, quiet_goes, touch_goes}
use Rattle.smux_streams.proofs.CloseLemmas.{fin_frame}
use Rattle.smux_streams.proofs.CallLemmas.{room_is, same_begun, same_last}
use Rattle.smux_store.proofs.ActLemmas.{shows_by, take_all, quiet_came, opens_here, refused_quiet, ended_touches, ended_view, ready_touches, ready_view, undone_push, old_last, new_last}
use Rattle.smux_streams.proofs.ByteLemmas.{frame_at, moved_keeps, pending_at, signal_at, waited, went}
use Rattle.smux_streams.proofs.DataLemmas.{alive, changed, data_is, open_at}

-- data
pub psh_passed_over : (m n : MuxState) (b sid size : ℕ) (f : Frame) (before : List Event)
    → IsWhole m b f cmds.Psh sid size
    → (size ≡ 0) ⊎ (takes_data (stream_with m.streams sid) ≡ false)
    → n ≡ moved m b
    → Passes m n b before before true
psh_passed_over m n b sid size f before w h e = rw e (λ client given s k.
    went client (moved m b) given s b f (Psh sid f.payload) None before before
    (frame_at client m given s b f k w.frame) (signal_at f cmds.Psh sid w.command w.stream)
    (no_event client given s k f.payload w.sized h) refl
    (moved_keeps client m given s b (Psh sid f.payload) k
    (same_last client m m given s (Came (Psh sid f.payload) None) k refl refl))
    (sym (append-nil before)))
  where
    no_event : (client : Bool) (given : List ℕ) (s : Seen)
        → Keeps client m given s
        → (bytes : List ℕ)
        → length bytes ≡ size
        → (size ≡ 0) ⊎ (takes_data (stream_with m.streams sid) ≡ false)
        → event_of client s.acts (Psh sid bytes) ≡ None
    no_event client given s k [] l h = refl
    no_event client given s k (y ∷ bytes) l (inl z) = absurd (omega (arith, l, z))
    no_event client given s k (y ∷ bytes) l (inr d) =
        let q = data_is client m given s sid k ∙ d in rw q refl

ready : (client : Bool) (s : Seen) (sid size : ℕ) (bytes : List ℕ)
    → acts.takes_data sid s.acts ≡ true
    → length bytes ≡ size
    → 0 < size
    → event_of client s.acts (Psh sid bytes) ≡ Some (events.Ready sid)
ready client s sid size [] d l p = absurd (omega (arith, l, p))
ready client s sid size (y ∷ bytes) d l p = rw d refl

fits_is : (client : Bool) (m : MuxState) (given : List ℕ) (s : Seen) (size : ℕ) (bytes : List ℕ)
    (b : Bool)
    → Keeps client m given s
    → length bytes ≡ size
    → leb (m.held + size) 4194304 ≡ b
    → leb (holding s.acts + length bytes) 4194304 ≡ b
fits_is client m given s size bytes b k l h =
    ap (λ (n : ℕ). leb (n + length bytes) 4194304) (sym k.held)
    ∙ ap (λ (n : ℕ). leb (m.held + n) 4194304) l ∙ h

pub psh_waits : (m : MuxState) (b sid size : ℕ) (f : Frame) (before : List Event)
    → IsWhole m b f cmds.Psh sid size
    → 0 < size
    → takes_data (stream_with m.streams sid) ≡ true
    → leb (m.held + size) 4194304 ≡ false
    → Passes m m b before before false
psh_waits m b sid size f before w p h l client given s k =
    let o = open_at client m given s sid k h in
    let v = fits_is client m given s size f.payload false k w.sized l in
    waited client m given s b f (Psh sid f.payload) (Some (events.Ready sid)) before k
    (frame_at client m given s b f k w.frame) (signal_at f cmds.Psh sid w.command w.stream)
    (ready client s sid size f.payload o.kept w.sized p) (rw v refl)

pub psh_ready : (m n : MuxState) (b sid size : ℕ) (f : Frame) (before after' : List Event)
    → IsWhole m b f cmds.Psh sid size
    → 0 < size
    → takes_data (stream_with m.streams sid) ≡ true
    → leb (m.held + size) 4194304 ≡ true
    → n ≡ record m { pending = pending_now m.pending b; streams = n.streams; held = m.held + size }
    → ((q : ℕ) → stream_with n.streams q
    ≡ cond (eqb q sid) (option_map (with_data f.payload) (stream_with m.streams q))
    (stream_with m.streams q))
    → after' ≡ before ++ events.Ready sid ∷ [] → Passes m n b before after' true
psh_ready m n b sid size f before after' w p h l e g v client given s k =
    let bytes = f.payload in
    let x = Came (Psh sid bytes) (Some (events.Ready sid)) in
    let o = open_at client m given s sid k h in
    let t = o.stream in let u = with_data bytes t in
    let z = alive t sid s o.found in
    let fit = fits_is client m given s size bytes true k w.sized l in
    let tk = k.orderly.taken sid in
    let queue : u.queue ≡ drop (length (delivered sid s.acts)) (got sid s.acts ++ bytes) =
    ap (λ (l : List ℕ). l ++ bytes) o.found.shows.queue
    ∙ sym (drop_front (length (delivered sid s.acts)) (got sid s.acts) bytes tk) in
    let len = length-append t.queue bytes in
    went client n given s b f (Psh sid bytes) (Some (events.Ready sid)) before after'
    (frame_at client m given s b f k w.frame) (signal_at f cmds.Psh sid w.command w.stream)
    (ready client s sid size bytes o.kept w.sized p) (rw fit refl)
    (touch_goes client m n given s (pending_now s.pending b) x sid t u (ready_touches sid bytes) k
    (record {
      client = ap (λ (z : MuxState). z.client) e;
      pending = ap (λ (z : MuxState). z.pending) e ∙ pending_at client m given s b k;
      out = ap (λ (z : MuxState). z.out) e ∙ sym (append-nil m.out);
      begun = same_begun client m n given s x k (ap (λ (z : MuxState). z.begun) e) refl;
      last = same_last client m n given s x k (ap (λ (z : MuxState). z.last) e) refl;
    }) o.found (shows_by u sid s.acts (s.acts ++ x ∷ [])
    (record (view sid s.acts) { got = got sid s.acts ++ bytes })
    (ready_view sid bytes s.acts) o.found.shows.opened queue o.found.shows.over
    o.found.shows.shut o.found.shows.done)
    (subst IsTold (sym (ready_view sid bytes s.acts)) (k.orderly.told sid))
    (subst IsTaken (sym (ready_view sid bytes s.acts)) (let a =
    length-append (got sid s.acts) bytes in omega (arith, a, tk)))
    (λ q. g q ∙ changed m sid t u (with_data bytes) o.is refl z q)
    (ap (λ (z : MuxState). z.living) e ∙ (rw z (omega arith))) (λ i. let y =
    ap (λ (z : MuxState). z.held) e in let sz = w.sized in omega (arith, i, y, len, sz))) v
