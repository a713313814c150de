-- A run over data of the coming frame.
use Rattle.std.proofs.Common.{Result, Ok, Err, suc, ◌≡◌, ℕ, ◌+◌, ◌-◌, ◌<◌, ◌≤◌, Bool, true, false, Option, Some, None, List, [], ◌∷◌, ◌++◌, inl, inr, refl, sym, ap, subst, ◌∙◌, append_assoc, arith, length, take, drop, get_or, add-one}
use Rattle.std.specs.Prelude.{option_to_list}
use Rattle.std.specs.Result.{OnErr}
use Rattle.std.specs.List.{cons_option, fold}
use Rattle.std.proofs.Math.Seq.{drop-cons}
use Rattle.std.proofs.lemmas.List.{append-nil, at_drop_all, drop-drop, length-take-le, take-append-drop}
use Rattle.std.proofs.lemmas.List.Elements.{filter_map-append}
use Rattle.smux_frames.specs.declared.frame.Frame.{Frame}
use Rattle.smux_frames.specs.declared.fault.FrameFault.{FrameFault}
use Rattle.smux_frames.specs.Coming.{absorbed, missing}
use Rattle.smux_frames.specs.Reading.{Pending, fault_now, fault_of, frame_now, or_else, pending_now}
use Rattle.smux_frames.proofs.DataLemmas.{absorbed_more, absorbed_none, is_data}
use Rattle.smux_acts.specs.declared.event.Event.{Event}
use Rattle.smux_acts.specs.Acts.{Act, Came, event_of}
use Rattle.smux_streams.specs.declared.answers.Fed.{Fed}
use Rattle.smux_streams.specs.declared.mux.feed.Mark.{Mark}
use Rattle.smux_store.specs.declared.trail.Step.{Step}
use Rattle.smux_streams.specs.Call.{Feeds}
use Rattle.smux_streams.specs.History.{Seen, byte_seen, come, signal_of, with_fault}
use Rattle.smux_store.specs.Kept.{event_in, events_of, is_above}
use Rattle.smux_streams.specs.Legal.{Run, feed_answer, halted, one_more, run, run_by, waits}
use Rattle.smux_store.specs.Streams.{stream_with, undone}
use Rattle.smux_streams.specs.Stands.{Follows, Keeps, MuxState}
use Rattle.smux_streams.specs.Steps.{Absorbs, IsBack, LeadsBack, Passes, Restores, Runs, come_event}
use Rattle.smux_streams.proofs.KeepLemmas.{follows}
use Rattle.smux_store.proofs.ActLemmas.{take_all, take_fits}

-- what is seen where data of the coming frame was absorbed
abbrev pub absorbing : Seen → List ℕ → Seen
absorbing s piece = record { pending = absorbed s.pending piece; acts = s.acts }

-- so many bytes were consumed before
abbrev pub further : ℕ → Run → Run
further n r = record { consumed = r.consumed + n; seen = r.seen }

-- a run goes over data of the coming frame without an act
pub run_over : (client : Bool) (given : List ℕ) (s : Seen) (piece more : List ℕ)
    → length piece ≤ missing s.pending - 1
    → run client given s (piece ++ more)
    ≡ further (length piece) (run client given (absorbing s piece) more)
run_over client given s [] more l =
    let none : (r : Run) → r ≡ further 0 r =
    λ r. ap (λ (n : ℕ). record { consumed = n; seen = r.seen }) (omega arith) in
    let same : s ≡ absorbing s [] =
    ap (λ (p : Pending). record { pending = p; acts = s.acts }) (sym (absorbed_none s.pending)) in
    none (run client given s more)
    ∙ ap (λ (t : Seen). further 0 (run client given t more)) same
run_over client given s (b ∷ piece) more l =
    let d = is_data s.pending b (omega (arith, l)) in
    let next : Seen = absorbing s (b ∷ []) in
    let later = run client given next (piece ++ more) in
    let step : run client given s (b ∷ (piece ++ more)) ≡ one_more later =
    ap (λ (o : Option Frame). run_by (fault_now s.pending b) (waits client given s.acts o) s
    (run client given (record { pending = pending_now s.pending b; acts = come client s.acts o })
    (piece ++ more))) d.frame
    ∙ ap (λ (o : Option FrameFault). run_by o false s
    (run client given (record { pending = pending_now s.pending b; acts = s.acts })
    (piece ++ more))) d.fault
    ∙ ap (λ (p : Pending). one_more
    (run client given (record { pending = p; acts = s.acts }) (piece ++ more))) d.pending in
    let rest = run_over client given next piece more (omega (arith, l, d.lacks)) in
    let same : absorbing next piece ≡ absorbing s (b ∷ piece) =
    ap (λ (p : Pending). record { pending = p; acts = s.acts }) (absorbed_more s.pending b piece) in
    step ∙ ap one_more rest
    ∙ ap (λ (t : Seen). one_more (further (length piece) (run client given t more))) same
    ∙ count (length piece) (run client given (absorbing s (b ∷ piece)) more)
  where
    count : (n : ℕ) (r : Run) → one_more (further n r) ≡ further (suc n) r
    count n r = ap (λ (x : ℕ). record { consumed = x; seen = r.seen }) (omega arith)

-- bytes with which no frame is whole
pub data_run : (client : Bool) (given : List ℕ) (s : Seen) (bytes : List ℕ)
    → length bytes < missing s.pending
    → run client given s bytes ≡ record { consumed = length bytes; seen = absorbing s bytes }
data_run client given s bytes l =
    ap (run client given s) (sym (append-nil bytes))
    ∙ run_over client given s bytes [] (omega (arith, l))
    ∙ ap (λ (n : ℕ). record { consumed = n; seen = absorbing s bytes }) (omega arith)

-- what is kept where data of the coming frame is absorbed
pub keeps_absorbed : (client : Bool) (m n : MuxState) (given : List ℕ) (s : Seen) (piece : List ℕ)
    → n ≡ record m { pending = absorbed m.pending piece }
    → Keeps client m given s
    → Keeps client n given (absorbing s piece)
keeps_absorbed client m n given s piece e k = rw e (record {
  client = k.client;
  pending = ap (λ (x : Pending). absorbed x piece) k.pending;
  begun = k.begun;
  last = k.last;
  within = k.within;
  out = k.out;
  found = k.found;
  living = k.living;
  held = k.held;
  orderly = k.orderly;
})
