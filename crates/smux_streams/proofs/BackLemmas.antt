-- How what one byte changed is taken back.
use Rattle.std.proofs.Common.{◌≡◌, ◌≢◌, ℕ, ◌+◌, ◌-◌, ◌<◌, ◌≤◌, Bool, true, false, eqb, ltb, leb, cond, not, ◌&&◌, Option, Some, None, List, [], ◌∷◌, ◌++◌, ◌⊎◌, inl, inr, ⊎_elim, refl, sym, ap, subst, ◌∙◌, arith, length, take, drop, is_some}
use Rattle.std.specs.Prelude.{option_to_list}
use Rattle.std.specs.List.{list_all}
use Rattle.std.specs.Option.{option_map}
use Rattle.std.proofs.lemmas.List.{append-nil, length-append}
use Rattle.std.proofs.lemmas.Bool.{cases_Bool, both_ways, ne_eqb, eq-eqb, cases_eq, lt-ltb, le-ltb}
use Rattle.smux_frames.specs.declared.frame.Frame.{Frame}
use Rattle.smux_frames.specs.declared.frame.Cmd.{Cmd}
use Rattle.smux_frames.specs.declared.frame.Cmd.TheVariants as cmds
use Rattle.smux_frames.specs.declared.fault.FrameFault.{FrameFault}
use Rattle.smux_frames.specs.declared.coming.Coming.{Coming}
use Rattle.smux_frames.specs.Coming.{coming_of}
use Rattle.smux_frames.specs.Reading.{Pending, frame_now, fault_now, pending_now}
use Rattle.smux_acts.specs.declared.event.Event.{Event}
use Rattle.smux_acts.specs.declared.event.Event.TheVariants as events
use Rattle.smux_acts.specs.Signals.{Signal, Syn, Fin, Psh, Nop}
use Rattle.smux_acts.specs.Acts as acts
use Rattle.smux_acts.specs.Acts.{Came, called, delivered, ended, event_of, finished, got, live, living, opened, over, streams}
use Rattle.smux_store.specs.declared.stream.Stream.{Stream}
use Rattle.smux_store.specs.declared.trail.Step.{Step}
use Rattle.smux_store.specs.declared.trail.Step.TheVariants as steps
use Rattle.smux_streams.specs.History.{Seen, come, signal_by, signal_of, with_fault}
use Rattle.smux_store.specs.Kept.{holding, untaken, WasPassed, is_above}
use Rattle.smux_streams.specs.Legal.{waits_by}
use Rattle.smux_store.specs.Streams.{fresh, stream_with, takes_data, undo_at, undone, with_data, with_end, without_last}
use Rattle.smux_streams.specs.Stands.{Keeps, MuxState}
use Rattle.smux_streams.specs.Steps.{IsWhole, LeadsBack, PartGoes, Passes, PassesFrom, come_event, moved}
use Rattle.smux_store.proofs.ShowLemmas.{Found, some_found}
use Rattle.smux_store.proofs.KindLemmas.{IsTaken, IsTold, called_test}
use Rattle.smux_store.proofs.ViewLemmas.{drop_front, view}
use Rattle.smux_streams.proofs.KeepLemmas.{after, begin_goes, quiet_goes, touch_goes}
use Rattle.smux_streams.proofs.CloseLemmas.{fin_frame}
use Rattle.smux_streams.proofs.CallLemmas.{room_is, same_begun, same_last}
use Rattle.smux_store.proofs.ActLemmas.{shows_by, take_all, quiet_came, opens_here, refused_quiet, ended_touches, ended_view, ready_touches, ready_view, undone_push, old_last, new_last}
use Rattle.smux_streams.proofs.DataLemmas.{Open, open_at}
use Rattle.smux_streams.proofs.SynLemmas.{not_opened}

pub back_same : (m n : MuxState) (before : List Step)
    → n.client ≡ m.client
    → n.begun ≡ m.begun
    → n.out ≡ m.out
    → ((q : ℕ) → stream_with n.streams q ≡ stream_with m.streams q)
    → LeadsBack m n before before
back_same m n before c g o e client given s k =
    record {
      client = c;
      begun = g;
      out = ([], o ∙ sym (append-nil m.out));
      streams =
          λ q. ap (undone before q) (e q);
    }

pub back_began : (m n : MuxState) (sid : ℕ) (before after' : List Step)
    → m.client ≡ false
    → is_above m.last sid ≡ true
    → n.client ≡ m.client
    → n.begun ≡ m.begun
    → n.out ≡ m.out
    → ((q : ℕ) → stream_with n.streams q ≡ cond (eqb q sid) (Some fresh) (stream_with m.streams q))
    → after' ≡ before ++ steps.Began sid ∷ [] → LeadsBack m n before after'
back_began m n sid before after' c a c' g o e h client given s k = record {
  client = c';
  begun = g;
  out = ([], o ∙ sym (append-nil m.out));
  streams = λ q. ap (λ (l : List Step). undone l q (stream_with n.streams q)) h
      ∙ undone_push before (steps.Began sid) q (stream_with n.streams q)
      ∙ ap (undone before q) (one' q);
}
  where
    none : stream_with m.streams sid ≡ None
    none = k.found sid ∙ (let z = not_opened client m given s sid k c a in rw z refl)

    one' : (q : ℕ) → undo_at (steps.Began sid) q (stream_with n.streams q) ≡ stream_with m.streams q
    one' q = ⊎_elim
        (λ (i : q ≡ sid). let b = eq-eqb q sid i in let w : stream_with m.streams q ≡ None =
        ap (stream_with m.streams) i ∙ none in rw (b, w) refl)
        (λ (ne : q ≢ sid). let b = ne_eqb q sid ne in let z = e q in rw (b, z, b) refl)
        (cases_eq q sid)

pub back_ended : (m n : MuxState) (sid : ℕ) (before after' : List Step)
    → takes_data (stream_with m.streams sid) ≡ true
    → n.client ≡ m.client
    → n.begun ≡ m.begun
    → n.out ≡ m.out
    → ((q : ℕ) → stream_with n.streams q
    ≡ cond (eqb q sid) (option_map (with_end true) (stream_with m.streams q))
    (stream_with m.streams q)) → after' ≡ before ++ steps.Ended sid ∷ []
    → LeadsBack m n before after'
back_ended m n sid before after' d c' g o e h client given s k = record {
  client = c';
  begun = g;
  out = ([], o ∙ sym (append-nil m.out));
  streams = λ q. ap (λ (l : List Step). undone l q (stream_with n.streams q)) h
      ∙ undone_push before (steps.Ended sid) q (stream_with n.streams q)
      ∙ ap (undone before q) (one' q);
}
  where
    op : Open client s (stream_with m.streams sid) sid
    op = open_at client m given s sid k d

    back : with_end false op.stream ≡ op.stream
    back = ap (λ (b : Bool). with_end b op.stream) (sym op.going)

    one' : (q : ℕ) → undo_at (steps.Ended sid) q (stream_with n.streams q) ≡ stream_with m.streams q
    one' q = ⊎_elim
        (λ (i : q ≡ sid). let b = eq-eqb q sid i in
        let w : stream_with m.streams q ≡ Some op.stream =
        ap (stream_with m.streams) i ∙ op.is in let z =
        e q in rw (b, z, b, w) (ap Some back))
        (λ (ne : q ≢ sid). let b = ne_eqb q sid ne in let z = e q in rw (b, z, b) refl)
        (cases_eq q sid)

pub back_got : (m n : MuxState) (sid size : ℕ) (bytes : List ℕ) (before after' : List Step)
    → takes_data (stream_with m.streams sid) ≡ true
    → length bytes ≡ size
    → n.client ≡ m.client
    → n.begun ≡ m.begun
    → n.out ≡ m.out
    → ((q : ℕ) → stream_with n.streams q
    ≡ cond (eqb q sid) (option_map (with_data bytes) (stream_with m.streams q))
    (stream_with m.streams q)) → after' ≡ before ++ steps.Got sid size ∷ []
    → LeadsBack m n before after'
back_got m n sid size bytes before after' d l c' g o e h client given s k = record {
  client = c';
  begun = g;
  out = ([], o ∙ sym (append-nil m.out));
  streams = λ q. ap (λ (l : List Step). undone l q (stream_with n.streams q)) h
      ∙ undone_push before (steps.Got sid size) q (stream_with n.streams q)
      ∙ ap (undone before q) (one' q);
}
  where
    op : Open client s (stream_with m.streams sid) sid
    op = open_at client m given s sid k d

    back : without_last size (with_data bytes op.stream) ≡ op.stream
    back =
        let t = op.stream in
        let len : length (t.queue ++ bytes) - size ≡ length t.queue =
        let a = length-append t.queue bytes in omega (arith, a, l) in
        ap (λ (n : ℕ). record t { queue = take n (t.queue ++ bytes) }) len
        ∙ ap (λ (q : List ℕ). record t { queue = q }) (take_all t.queue bytes)

    one' : (q : ℕ)
        → undo_at (steps.Got sid size) q (stream_with n.streams q) ≡ stream_with m.streams q
    one' q = ⊎_elim
        (λ (i : q ≡ sid). let b = eq-eqb q sid i in
        let w : stream_with m.streams q ≡ Some op.stream =
        ap (stream_with m.streams) i ∙ op.is in let z =
        e q in rw (b, z, b, w) (ap Some back))
        (λ (ne : q ≢ sid). let b = ne_eqb q sid ne in let z = e q in rw (b, z, b) refl)
        (cases_eq q sid)
