-- The signals that version 1 can spell, and the frames that their bytes are read as.
use Rattle.std.proofs.Common.{zero, suc, ◌≡◌, ◌≢◌, ℕ, ◌+◌, ◌*◌, ◌<◌, ◌^◌, Bool, true, false, ltb, cond, not, Option, Some, None, List, [], ◌∷◌, ◌++◌, inl, inr, refl, sym, ap, subst, ◌∙◌, append_assoc, arith, length, take, drop, map}
use Rattle.std.specs.Prelude.{option_to_list}
use Rattle.std.specs.List.{filter_map, fold, cons_option, All, AllByRecursion}
use Rattle.std.proofs.lemmas.List.{append-nil, take-append-drop}
use Rattle.std.proofs.lemmas.List.Elements.{All-nil, All-cons, All-push, All-append, recursion_from_All}
use Rattle.std.proofs.lemmas.Bool.{ltb-true}
use Rattle.smux_frames.specs.declared.frame.Frame.{Frame}
use Rattle.smux_frames.specs.declared.fault.FrameFault.{FrameFault}
use Rattle.smux_frames.specs.Spelling.{IsFrame}
use Rattle.smux_frames.specs.Reading.{Pending, Reading, read, read_byte, frame_now, pending_now}
use Rattle.smux_frames.proofs.Readings.{read_push}
use Rattle.smux_frames.proofs.SpelledReadings.{no_fault, front_law}
use Rattle.smux_store.specs.declared.answers.Open.TheVariants as opens
use Rattle.smux_streams.specs.declared.answers.Write.TheVariants as writes
use Rattle.smux_store.specs.declared.answers.Taken.TheVariants as takes
use Rattle.smux_acts.specs.Each.{IsPrefixOf}
use Rattle.smux_acts.specs.Signals.{Signal, Syn, Fin, Psh, Nop, Upd}
use Rattle.smux_acts.specs.Acts.{Act, Began, Wrote, Shut, Took, Finished, Came, sent, sent_in, came, came_in, streams, ended, over, got, delivered, live, living, event_of, May}
use Rattle.smux_streams.specs.declared.answers.Fed.{Fed}
use Rattle.smux_streams.specs.Call.{Entry, Opens, Writes, Closes, Outs, Feeds, Takes, Holds, IsCall}
use Rattle.smux_streams.specs.History.{Seen, entry_seen, byte_seen, come, acted, with_fault, given, consumed, consumed_in, outbytes, signal_of, frame_of}
use Rattle.smux_store.specs.Kept.{untaken}
use Rattle.smux_streams.specs.Legal.{has_room, take_by, IsAnswered, feed_answer}
use Rattle.smux_acts.proofs.Pushes.{sent_push, came_push}
use Rattle.smux_acts.proofs.Rows as rows
use Rattle.smux_acts.proofs.Rows.{Row, row}
use Rattle.smux_acts.proofs.Worlds.{End, end_goes}

-- a signal that version 1 can spelling
abbrev pub Valid : Signal → Type 0
Valid (Syn s) = s < 2 ^ 32
Valid (Fin s) = s < 2 ^ 32
Valid (Psh s bytes) = (s < 2 ^ 32) × (length bytes < 2 ^ 16)
Valid (Nop s) = s < 2 ^ 32
Valid (Upd s consumed window) = ⊥

valid_signals : (xs : List Signal)
    → AllByRecursion Valid xs
    → map signal_of (filter_map frame_of xs) ≡ xs
valid_signals [] h = refl
valid_signals (Syn s ∷ xs) h = ap (λ (l : List Signal). Syn s ∷ l) (valid_signals xs h.1)
valid_signals (Fin s ∷ xs) h = ap (λ (l : List Signal). Fin s ∷ l) (valid_signals xs h.1)
valid_signals (Psh s bytes ∷ xs) h =
    ap (λ (l : List Signal). Psh s bytes ∷ l) (valid_signals xs h.1)
valid_signals (Nop s ∷ xs) h = ap (λ (l : List Signal). Nop s ∷ l) (valid_signals xs h.1)
valid_signals (Upd s c w ∷ xs) h = absurd h.0

valid_frames : (xs : List Signal) → AllByRecursion Valid xs → All IsFrame (filter_map frame_of xs)
valid_frames [] h = All-nil IsFrame
valid_frames (Syn s ∷ xs) h =
    All-cons IsFrame _ _ (record { stream = h.0; small = omega arith; control = λ n. refl })
    (valid_frames xs h.1)
valid_frames (Fin s ∷ xs) h =
    All-cons IsFrame _ _ (record { stream = h.0; small = omega arith; control = λ n. refl })
    (valid_frames xs h.1)
valid_frames (Psh s bytes ∷ xs) h =
    All-cons IsFrame _ _ (record { stream = h.0.0; small = h.0.1; control = λ n. absurd (n refl) })
    (valid_frames xs h.1)
valid_frames (Nop s ∷ xs) h =
    All-cons IsFrame _ _ (record { stream = h.0; small = omega arith; control = λ n. refl })
    (valid_frames xs h.1)
valid_frames (Upd s c w ∷ xs) h = absurd h.0

pub map_append : (xs ys : List Frame)
    → map signal_of (xs ++ ys) ≡ map signal_of xs ++ map signal_of ys
map_append [] ys = refl
map_append (x ∷ xs) ys = ap (λ (l : List Signal). signal_of x ∷ l) (map_append xs ys)

-- what is read of the first bytes of signals are the first of these signals
pub signals_front : (bytes : List ℕ) (b : List Act)
    → All Valid (sent b)
    → IsPrefixOf bytes (outbytes b)
    → IsPrefixOf (map signal_of (read bytes).frames) (sent b)
unfolding outbytes
signals_front bytes b v p =
    let r = recursion_from_All Valid (sent b) v in
    let f = front_law (filter_map frame_of (sent b)) bytes p.0 (valid_frames (sent b) r) p.1 in (
      map signal_of f.0,
      sym (map_append (read bytes).frames f.0) ∙ ap (map signal_of) f.1
          ∙ valid_signals (sent b) r,
    )

pub signals_sound : (bytes : List ℕ) (b : List Act)
    → All Valid (sent b)
    → IsPrefixOf bytes (outbytes b)
    → (read bytes).pending.fault ≡ None
unfolding outbytes
signals_sound bytes b v p =
    no_fault (filter_map frame_of (sent b)) bytes p.0
    (valid_frames (sent b) (recursion_from_All Valid (sent b) v)) p.1
