-- What holds at each place of the loop over a piece.
use Rattle.std.proofs.Common.{Result, Ok, Err, suc, ◌≡◌, ℕ, ◌+◌, ◌-◌, ◌<◌, ◌≤◌, Bool, true, false, Option, Some, None, List, [], ◌∷◌, ◌++◌, inl, inr, refl, sym, ap, subst, ◌∙◌, append_assoc, arith, length, take, drop, get_or, add-one}
use Rattle.std.specs.Prelude.{option_to_list}
use Rattle.std.specs.Result.{OnErr}
use Rattle.std.specs.List.{cons_option, fold}
use Rattle.std.proofs.Math.Seq.{drop-cons}
use Rattle.std.proofs.lemmas.List.{append-nil, at_drop_all, drop-drop, length-take-le, take-append-drop}
use Rattle.std.proofs.lemmas.List.Elements.{filter_map-append}
use Rattle.smux_frames.specs.declared.frame.Frame.{Frame}
use Rattle.smux_frames.specs.declared.fault.FrameFault.{FrameFault}
use Rattle.smux_frames.specs.Coming.{absorbed, missing}
use Rattle.smux_frames.specs.Reading.{Pending, fault_now, fault_of, frame_now, or_else, pending_now}
use Rattle.smux_frames.proofs.DataLemmas.{absorbed_more, absorbed_none, is_data}
use Rattle.smux_acts.specs.declared.event.Event.{Event}
use Rattle.smux_acts.specs.Acts.{Act, Came, event_of}
use Rattle.smux_streams.specs.declared.answers.Fed.{Fed}
use Rattle.smux_streams.specs.declared.mux.feed.Mark.{Mark}
use Rattle.smux_store.specs.declared.trail.Step.{Step}
use Rattle.smux_streams.specs.Call.{Feeds}
use Rattle.smux_streams.specs.History.{Seen, byte_seen, come, signal_of, with_fault}
use Rattle.smux_store.specs.Kept.{event_in, events_of, is_above}
use Rattle.smux_streams.specs.Legal.{Run, feed_answer, halted, one_more, run, run_by, waits}
use Rattle.smux_store.specs.Streams.{stream_with, undone}
use Rattle.smux_streams.specs.Stands.{Follows, Keeps, MuxState}
use Rattle.smux_streams.specs.Steps.{Absorbs, IsBack, LeadsBack, Passes, Restores, Runs, come_event}
use Rattle.smux_streams.proofs.KeepLemmas.{follows}
use Rattle.smux_store.proofs.ActLemmas.{take_all, take_fits}
use Rattle.smux_streams.proofs.AbsorbLemmas.{absorbing, further, keeps_absorbed, run_over}

-- what holds at a place of the loop
pub record At (old now : MuxState) (bytes : List ℕ) (events : List Event) (steps : List Step)
    (i : ℕ) (client : Bool) (given : List ℕ) (s : Seen) : Type 0 where
  pub seen : Seen
  pub keeps : Keeps client now given seen
  pub rest : run client given s bytes
      ≡ record {
        consumed = (run client given seen (drop i bytes)).consumed + i;
        seen =
            (run client given seen (drop i bytes)).seen;
      }
  pub told : events_of seen.acts ≡ events_of s.acts ++ events
  pub back : IsBack old now [] steps

abbrev pub Far : MuxState → MuxState → List ℕ → List Event → List Step → ℕ → Type 0
Far old now bytes events steps i =
    (client : Bool) (given : List ℕ) (s : Seen) → Keeps client old given s
    → At old now bytes events steps i client given s

come_events : (client : Bool) (a : List Act) (o : Option Frame)
    → events_of (come client a o) ≡ events_of a ++ option_to_list (come_event client a o)
come_events client a None = sym (append-nil (events_of a))
come_events client a (Some f) =
    filter_map-append event_in a (Came (signal_of f) (event_of client a (signal_of f)) ∷ [])
    ∙ ap (λ (l : List Event). events_of a ++ l) (one (event_of client a (signal_of f)))
  where
    one : (o : Option Event) → cons_option o [] ≡ option_to_list o
    one None = refl
    one (Some e) = refl

run_at : (client : Bool) (given : List ℕ) (t : Seen) (bytes : List ℕ) (i : ℕ) → i < length bytes
    → run client given t (drop i bytes)
    ≡ run_by (fault_now t.pending (get_or bytes i 0))
    (waits client given t.acts (frame_now t.pending (get_or bytes i 0))) t
    (run client given (byte_seen client t (get_or bytes i 0)) (drop (suc i) bytes))
run_at client given t bytes i l = ap (run client given t) (drop-cons bytes i 0 l)

-- at the beginning
pub far_begins : (m : MuxState) (bytes : List ℕ) (events : List Event) (steps : List Step)
    → events ≡ []
    → steps ≡ []
    → Far m m bytes events steps 0
far_begins m bytes events steps e h client given s k = record {
  seen = s;
  keeps = k;
  rest = ap (λ (n : ℕ). record { consumed = n; seen = (run client given s bytes).seen })
      (omega arith);
  told = sym (append-nil (events_of s.acts))
      ∙ ap (λ (l : List Event). events_of s.acts ++ l) (sym e);
  back = record {
    client = refl;
    begun = refl;
    out = ([], sym (append-nil m.out));
    streams =
        λ q. ap (λ (l : List Step). undone l q (stream_with m.streams q)) h;
  };
}

back_on : (a b c : MuxState) (r s t : List Step) → IsBack a b r s → IsBack b c s t → IsBack a c r t
back_on a b c r s t x y = record {
  client = y.client ∙ x.client;
  begun = y.begun ∙ x.begun;
  out = (
    x.out.0 ++ y.out.0,
    y.out.1 ∙ ap (λ (l : List ℕ). l ++ y.out.0) x.out.1
        ∙ append_assoc a.out x.out.0 y.out.0,
  );
  streams = λ q. y.streams q ∙ x.streams q;
}

pub far_more : (old now new : MuxState) (bytes : List ℕ) (before after : List Event)
    (steps more : List Step) (i : ℕ)
    → i < length bytes
    → Far old now bytes before steps i
    → Passes now new (get_or bytes i 0) before after true
    → LeadsBack now new steps more
    → Far old new bytes after more (i + 1)
far_more old now new bytes before after steps more i l far go back client given s k =
    let f = far client given s k in let t = f.seen in
    let p = go client given t f.keeps in
    let b = get_or bytes i 0 in
    let next = byte_seen client t b in
    let r : run client given t (drop i bytes)
    ≡ one_more (run client given next (drop (suc i) bytes)) =
    run_at client given t bytes i l ∙ p.0 (run client given next (drop (suc i) bytes)) in
    let n : (run client given next (drop (suc i) bytes)).consumed + 1 + i
    ≡ (run client given next (drop (suc i) bytes)).consumed + suc i = omega arith in
    record {
      seen = next;
      keeps = p.1.0;
      rest = rw add-one (f.rest
          ∙ ap (λ (x : Run). record { consumed = x.consumed + i; seen = x.seen }) r
          ∙ ap (λ (x : ℕ). record {
            consumed = x;
            seen =
                (run client given next (drop (suc i) bytes)).seen;
          }) n);
      told = come_events client t.acts (frame_now t.pending b)
          ∙ ap (λ (l : List Event). l
          ++ option_to_list (come_event client t.acts (frame_now t.pending b))) f.told
          ∙ append_assoc (events_of s.acts) before
          (option_to_list (come_event client t.acts (frame_now t.pending b)))
          ∙ ap (λ (l : List Event). events_of s.acts ++ l) (sym p.1.1);
      back = back_on old now new [] steps more f.back (back client given t f.keeps);
    }

pub far_stop : (old now new : MuxState) (bytes : List ℕ) (before after : List Event)
    (steps : List Step) (i : ℕ)
    → i < length bytes
    → Far old now bytes before steps i
    → Passes now new (get_or bytes i 0) before after false
    → Runs old new bytes after i
far_stop old now new bytes before after steps i l far go client given s k =
    let f = far client given s k in let t = f.seen in
    let p = go client given t f.keeps in
    let b = get_or bytes i 0 in
    let r : run client given t (drop i bytes) ≡ halted p.0 =
    run_at client given t bytes i l
    ∙ p.1.0 (run client given (byte_seen client t b) (drop (suc i) bytes)) in
    let n : 0 + i ≡ i = omega arith in (
      p.0,
      (
        f.rest ∙ ap (λ (x : Run). record { consumed = x.consumed + i; seen = x.seen }) r
            ∙ ap (λ (x : ℕ). record { consumed = x; seen = p.0 }) n,
        (
          p.1.1.0,
          p.1.1.1.0 ∙ f.told
              ∙ ap (λ (l : List Event). events_of s.acts ++ l) (sym p.1.1.1.1),
        ),
      ),
    )

pub far_end : (old now : MuxState) (bytes : List ℕ) (events : List Event) (steps : List Step)
    (i : ℕ)
    → i ≡ length bytes
    → Far old now bytes events steps i
    → Runs old now bytes events (length bytes)
far_end old now bytes events steps i l far client given s k =
    let f = far client given s k in let t = f.seen in
    let r : run client given t (drop i bytes) ≡ halted t =
    at_drop_all (run client given t) bytes i (omega arith) in
    let n : 0 + i ≡ length bytes = omega arith in (
      t,
      (
        f.rest ∙ ap (λ (x : Run). record { consumed = x.consumed + i; seen = x.seen }) r
            ∙ ap (λ (x : ℕ). record { consumed = x; seen = t }) n,
        (f.keeps, f.told),
      ),
    )

pub far_back : (old now new : MuxState) (bytes : List ℕ) (events : List Event)
    (steps more : List Step) (i : ℕ)
    → Far old now bytes events steps i
    → LeadsBack now new steps more
    → LeadsBack old new [] more
far_back old now new bytes events steps more i far back client given s k =
    let f = far client given s k in
    back_on old now new [] steps more f.back (back client given f.seen f.keeps)

-- the loop goes on over data of the coming frame
pub far_absorbs : (old now new : MuxState) (bytes piece : List ℕ) (events : List Event)
    (steps : List Step) (i count : ℕ)
    → piece ≡ drop i bytes
    → Far old now bytes events steps i
    → Absorbs now new piece count
    → Far old new bytes events steps (i + count)
far_absorbs old now new bytes piece events steps i count p far a client given s k =
    let f = far client given s k in
    let t = f.seen in
    let front = take count piece in
    let size : length front ≡ count = length-take-le count piece (omega (arith, a.inside)) in
    let few : length front ≤ missing t.pending - 1 =
    subst (λ (q : Pending). length front ≤ missing q - 1) f.keeps.pending
    (omega (arith, a.lacks, size)) in
    let split : drop i bytes ≡ front ++ drop (i + count) bytes =
    sym p ∙ sym (take-append-drop count piece)
    ∙ ap (λ (l : List ℕ). front ++ l) (ap (drop count) p ∙ drop-drop count i bytes) in
    let over = run_over client given t front (drop (i + count) bytes) few in
    let later = run client given (absorbing t front) (drop (i + count) bytes) in
    let r : run client given t (drop i bytes) ≡ further count later =
    ap (run client given t) split ∙ over ∙ ap (λ (n : ℕ). further n later) size in
    let sum : later.consumed + count + i ≡ later.consumed + (i + count) = omega arith in
    record {
      seen = absorbing t front;
      keeps = keeps_absorbed client now new given t front a.taken f.keeps;
      rest = f.rest ∙ ap (further i) r
          ∙ ap (λ (n : ℕ). record { consumed = n; seen = later.seen }) sum;
      told = f.told;
      back = back_on old now new [] steps steps f.back (absorbs_back now new front a.taken steps);
    }
  where
    absorbs_back : (m n : MuxState) (front : List ℕ)
        → n ≡ record m { pending = absorbed m.pending front }
        → (steps : List Step)
        → IsBack m n steps steps
    absorbs_back m n front e steps = rw e (record {
      client = refl;
      begun = refl;
      out = ([], sym (append-nil m.out));
      streams = λ q. refl;
    })

-- where memory is wanted at such data, what was changed before leads back
pub far_kept : (old now new : MuxState) (bytes : List ℕ) (events : List Event) (steps : List Step)
    (i : ℕ)
    → Far old now bytes events steps i
    → new ≡ now
    → LeadsBack old new [] steps
far_kept old now new bytes events steps i far e client given s k =
    subst (λ (m : MuxState). IsBack old m [] steps) (sym e) (far client given s k).back
