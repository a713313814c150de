-- What the last byte of a FIN does.
use Rattle.std.proofs.Common.{◌≡◌, ◌≢◌, ℕ, ◌+◌, ◌-◌, ◌<◌, ◌≤◌, Bool, true, false, eqb, ltb, leb, cond, not, ◌&&◌, Option, Some, None, List, [], ◌∷◌, ◌++◌, ◌⊎◌, inl, inr, ⊎_elim, refl, sym, ap, subst, ◌∙◌, arith, length, take, drop, is_some}
use Rattle.std.specs.Prelude.{option_to_list}
use Rattle.std.specs.List.{list_all}
use Rattle.std.specs.Option.{option_map}
use Rattle.std.proofs.lemmas.List.{append-nil, length-append}
use Rattle.std.proofs.lemmas.Bool.{cases_Bool, both_ways, ne_eqb, eq-eqb, cases_eq, lt-ltb, le-ltb}
use Rattle.smux_frames.specs.declared.frame.Frame.{Frame}
use Rattle.smux_frames.specs.declared.frame.Cmd.{Cmd}
use Rattle.smux_frames.specs.declared.frame.Cmd.TheVariants as cmds
use Rattle.smux_frames.specs.declared.fault.FrameFault.{FrameFault}
use Rattle.smux_frames.specs.declared.coming.Coming.{Coming}
use Rattle.smux_frames.specs.Coming.{coming_of}
use Rattle.smux_frames.specs.Reading.{Pending, frame_now, fault_now, pending_now}
use Rattle.smux_acts.specs.declared.event.Event.{Event}
use Rattle.smux_acts.specs.declared.event.Event.TheVariants as events
use Rattle.smux_acts.specs.Signals.{Signal, Syn, Fin, Psh, Nop}
use Rattle.smux_acts.specs.Acts as acts
use Rattle.smux_acts.specs.Acts.{Came, called, delivered, ended, event_of, finished, got, live, living, opened, over, streams}
use Rattle.smux_store.specs.declared.stream.Stream.{Stream}
use Rattle.smux_store.specs.declared.trail.Step.{Step}
use Rattle.smux_store.specs.declared.trail.Step.TheVariants as steps
use Rattle.smux_streams.specs.History.{Seen, come, signal_by, signal_of, with_fault}
use Rattle.smux_store.specs.Kept.{holding, untaken, WasPassed, is_above}
use Rattle.smux_streams.specs.Legal.{waits_by}
use Rattle.smux_store.specs.Streams.{fresh, stream_with, takes_data, undo_at, undone, with_data, with_end, without_last}
use Rattle.smux_streams.specs.Stands.{Keeps, MuxState}
use Rattle.smux_streams.specs.Steps.{IsWhole, LeadsBack, PartGoes, Passes, PassesFrom, come_event, moved}
use Rattle.smux_store.proofs.ShowLemmas.{Found, some_found}
use Rattle.smux_store.proofs.KindLemmas.{IsTaken, IsTold, called_test}
use Rattle.smux_store.proofs.ViewLemmas.{drop_front, view}
use Rattle.smux_streams.proofs.KeepLemmas.{after, begin_goes, quiet_goes, touch_goes}
use Rattle.smux_streams.proofs.CloseLemmas.{fin_frame}
use Rattle.smux_streams.proofs.CallLemmas.{room_is, same_begun, same_last}
use Rattle.smux_store.proofs.ActLemmas.{shows_by, take_all, quiet_came, opens_here, refused_quiet, ended_touches, ended_view, ready_touches, ready_view, undone_push, old_last, new_last}
use Rattle.smux_streams.proofs.ByteLemmas.{frame_at, moved_keeps, pending_at, signal_at, went}
use Rattle.smux_streams.proofs.DataLemmas.{alive, changed, data_is, open_at}

pub fin_passed_over : (m n : MuxState) (b sid : ℕ) (f : Frame) (before : List Event)
    → IsWhole m b f cmds.Fin sid (length f.payload)
    → takes_data (stream_with m.streams sid) ≡ false
    → n ≡ moved m b
    → Passes m n b before before true
fin_passed_over m n b sid f before w h e = rw e (λ client given s k.
    let d = data_is client m given s sid k ∙ h in
    went client (moved m b) given s b f (Fin sid) None before before
    (frame_at client m given s b f k w.frame) (signal_at f cmds.Fin sid w.command w.stream)
    (rw d refl) refl
    (moved_keeps client m given s b (Fin sid) k
    (same_last client m m given s (Came (Fin sid) None) k refl refl)) (sym (append-nil before)))

pub fin_ends : (m n : MuxState) (b sid : ℕ) (f : Frame) (before after' : List Event)
    → IsWhole m b f cmds.Fin sid (length f.payload)
    → takes_data (stream_with m.streams sid) ≡ true
    → n ≡ record m { pending = pending_now m.pending b; streams = n.streams }
    → ((q : ℕ) → stream_with n.streams q
    ≡ cond (eqb q sid) (option_map (with_end true) (stream_with m.streams q))
    (stream_with m.streams q))
    → after' ≡ before ++ events.Ended sid ∷ [] → Passes m n b before after' true
fin_ends m n b sid f before after' w h e g v client given s k =
    let x = Came (Fin sid) (Some (events.Ended sid)) in
    let o = open_at client m given s sid k h in
    let t = o.stream in let u = with_end true t in
    let d = o.kept in
    let z = alive t sid s o.found in
    went client n given s b f (Fin sid) (Some (events.Ended sid)) before after'
    (frame_at client m given s b f k w.frame) (signal_at f cmds.Fin sid w.command w.stream)
    (rw d refl) refl
    (touch_goes client m n given s (pending_now s.pending b) x sid t u (ended_touches sid) k
    (record {
      client = ap (λ (z : MuxState). z.client) e;
      pending = ap (λ (z : MuxState). z.pending) e ∙ pending_at client m given s b k;
      out = ap (λ (z : MuxState). z.out) e ∙ sym (append-nil m.out);
      begun = same_begun client m n given s x k (ap (λ (z : MuxState). z.begun) e) refl;
      last = same_last client m n given s x k (ap (λ (z : MuxState). z.last) e) refl;
    }) o.found (shows_by u sid s.acts (s.acts ++ x ∷ []) (record (view sid s.acts) { over = true })
    (ended_view sid s.acts) o.found.shows.opened o.found.shows.queue refl o.found.shows.shut
    o.found.shows.done)
    (subst IsTold (sym (ended_view sid s.acts)) (λ i. refl))
    (subst IsTaken (sym (ended_view sid s.acts)) (k.orderly.taken sid))
    (λ q. g q ∙ changed m sid t u (with_end true) o.is refl z q) (ap (λ (z : MuxState). z.living) e
    ∙ (rw z (omega arith))) (λ i. let y =
    ap (λ (z : MuxState). z.held) e in omega (arith, i, y))) v
