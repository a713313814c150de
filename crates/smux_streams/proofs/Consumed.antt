-- What the consumed bytes of a legal history are: the frames that came, and less than a frame.
use Rattle.std.proofs.Common.{suc, ◌≡◌, ℕ, ◌+◌, ◌<◌, Bool, true, false, Option, Some, None, List, [], ◌∷◌, ◌++◌, inl, inr, refl, sym, ap, subst, ◌∙◌, append_assoc, arith, map, take}
use Rattle.std.specs.Prelude.{option_to_list}
use Rattle.std.specs.List.{fold, All}
use Rattle.std.proofs.lemmas.List.{append-nil}
use Rattle.smux_frames.specs.declared.frame.Frame.{Frame}
use Rattle.smux_frames.specs.declared.fault.FrameFault.{FrameFault}
use Rattle.smux_frames.specs.Laws.{IsPartial}
use Rattle.smux_frames.specs.Reading.{Pending, Reading, fault_now, fault_of, frame_now, or_else, pending_by, pending_now, read, read_byte, read_frame}
use Rattle.smux_frames.proofs.Meanings.{meaning_law}
use Rattle.smux_frames.proofs.Readings.{read_on_none, read_push}
use Rattle.smux_acts.specs.Signals.{Signal}
use Rattle.smux_acts.specs.Acts.{Act, Began, Wrote, Shut, Took, Finished, came, came_in}
use Rattle.smux_acts.proofs.Eachs.{by_pushes}
use Rattle.smux_acts.proofs.Pushes.{came_push}
use Rattle.smux_store.specs.declared.answers.Open.TheVariants as opens
use Rattle.smux_store.specs.declared.answers.Taken.TheVariants as takes
use Rattle.smux_streams.specs.declared.answers.Fed.{Fed}
use Rattle.smux_streams.specs.declared.answers.Write.TheVariants as writes
use Rattle.smux_streams.specs.Call.{Entry, Opens, Writes, Closes, Outs, Feeds, Takes, Holds}
use Rattle.smux_streams.specs.History.{Seen, acted, byte_seen, come, consumed, consumed_in, entry_seen, given, seen, signal_of, with_fault}
use Rattle.smux_streams.specs.Laws.{FramesAreThoseConsumed}
use Rattle.smux_streams.specs.Legal.{IsAnswered, IsLegal, Run, one_more, run, run_by, waits}
use Rattle.smux_streams.proofs.KeepLemmas.{seen_push}
use Rattle.smux_streams.proofs.FeedLemmas.{run_seen}
use Rattle.smux_streams.proofs.Readers.{come_reads}
use Rattle.smux_streams.proofs.ValidLemmas.{map_append}
use Rattle.smux_streams.proofs.Pairs.{consumed_push, legal_push}

-- what was seen is what is read of these bytes, unless a fault was shown after them
pub record Reads (s : Seen) (bytes : List ℕ) : Type 0 where
  pub came : came s.acts ≡ map signal_of (read bytes).frames
  pub pending : s.pending.fault ≡ None → s.pending ≡ (read bytes).pending
  pub sound : (read bytes).pending.fault ≡ None

-- a fault that was shown is there with every byte
no_fault_yet : (p : Pending) (b : ℕ) → fault_now p b ≡ None → p.fault ≡ None
no_fault_yet p b h = at p.fault refl
  where
    at : (o : Option FrameFault) → p.fault ≡ o → p.fault ≡ None
    at None e = e
    at (Some f) e = absurd (let q : Some f ≡ None = rw e at h in cc)

still_none : (p : Pending) (b : ℕ) → fault_now p b ≡ None → (pending_now p b).fault ≡ None
still_none p b h = ap (λ (o : Option FrameFault). (pending_by p b o whole).fault) h ∙ at whole
  where
    whole : Option Frame
    whole = read_frame (p.rest ++ b ∷ [])

    at : (o : Option Frame) → (pending_by p b None o).fault ≡ None
    at None = refl
    at (Some f) = refl

-- one byte that shows no fault
byte_reads : (client : Bool) (s : Seen) (bytes : List ℕ) (b : ℕ)
    → fault_now s.pending b ≡ None
    → Reads s bytes
    → Reads (byte_seen client s b) (bytes ++ b ∷ [])
byte_reads client s bytes b none r =
    let same : s.pending ≡ (read bytes).pending = r.pending (no_fault_yet s.pending b none) in
    let more : read (bytes ++ b ∷ []) ≡ read_byte (read bytes) b = read_push bytes b in
    let frame = option_to_list (frame_now s.pending b) in
    let now : pending_now s.pending b ≡ (read (bytes ++ b ∷ [])).pending =
    ap (λ (p : Pending). pending_now p b) same ∙ ap (λ (x : Reading). x.pending) (sym more) in
    record {
      came = come_reads client s.acts (frame_now s.pending b)
          ∙ ap (λ (l : List Signal). l ++ map signal_of frame) r.came
          ∙ sym (map_append (read bytes).frames frame)
          ∙ ap (λ (p : Pending).
          map signal_of ((read bytes).frames ++ option_to_list (frame_now p b))) same
          ∙ ap (λ (x : Reading). map signal_of x.frames) (sym more);
      pending = λ h. now;
      sound = ap (λ (p : Pending). p.fault) (sym now) ∙ still_none s.pending b none;
    }

-- the bytes of a piece that a run consumes
run_reads : (client : Bool) (given : List ℕ) (s : Seen) (bytes piece : List ℕ)
    → Reads s bytes
    → Reads (run client given s piece).seen
    (bytes ++ take (run client given s piece).consumed piece)
run_reads client given s bytes [] r = rw append-nil r
run_reads client given s bytes (b ∷ piece) r =
    at (fault_now s.pending b) (waits client given s.acts (frame_now s.pending b)) refl
    (λ k. run_reads client given (byte_seen client s b) (bytes ++ b ∷ []) piece k)
  where
    later : Run
    later = run client given (byte_seen client s b) piece

    count : later.consumed + 1 ≡ suc later.consumed
    count = omega arith

    at : (o : Option FrameFault) (w : Bool)
        → fault_now s.pending b ≡ o
        → (Reads (byte_seen client s b) (bytes ++ b ∷ [])
        → Reads later.seen ((bytes ++ b ∷ []) ++ take later.consumed piece))
        → Reads (run_by o w s later).seen (bytes ++ take (run_by o w s later).consumed (b ∷ piece))
    at (Some f) w e go = rw append-nil (record {
      came = r.came;
      pending = λ h. absurd (let q : Some f ≡ None = h in cc);
      sound = r.sound;
    })
    at None true e go = rw append-nil r
    at None false e go = subst (Reads later.seen)
        (append_assoc bytes (b ∷ []) (take later.consumed piece)
        ∙ ap (λ (n : ℕ). bytes ++ take n (b ∷ piece)) (sym count))
        (go (byte_reads client s bytes b e r))

-- an act that is no frame
act_reads : (s : Seen) (bytes : List ℕ) (x : Act)
    → came_in x ≡ None
    → Reads s bytes
    → Reads (acted s x) (bytes ++ [])
act_reads s bytes x none r = rw append-nil (record {
  came = came_push s.acts x ∙ (rw (none, append-nil) refl) ∙ r.came;
  pending = r.pending;
  sound = r.sound;
})

same_reads : (s : Seen) (bytes : List ℕ) → Reads s bytes → Reads s (bytes ++ [])
same_reads s bytes r = rw append-nil r

-- one call more
entry_reads : (client : Bool) (given : List ℕ) (s : Seen) (bytes : List ℕ) (e : Entry)
    → IsAnswered client given s e
    → Reads s bytes
    → Reads (entry_seen client s e) (bytes ++ consumed_in e)
entry_reads client given s bytes (Opens (opens.Sid n)) a r = act_reads s bytes (Began n) refl r
entry_reads client given s bytes (Opens opens.IdsSpent) a r = same_reads s bytes r
entry_reads client given s bytes (Opens opens.TooMany) a r = same_reads s bytes r
entry_reads client given s bytes (Opens opens.Full) a r = same_reads s bytes r
entry_reads client given s bytes (Opens opens.NoMemory) a r = same_reads s bytes r
entry_reads client given s bytes (Writes sid sent writes.Done) a r =
    act_reads s bytes (Wrote sid sent) refl r
entry_reads client given s bytes (Writes sid sent writes.Unknown) a r = same_reads s bytes r
entry_reads client given s bytes (Writes sid sent writes.Closed) a r = same_reads s bytes r
entry_reads client given s bytes (Writes sid sent writes.Full) a r = same_reads s bytes r
entry_reads client given s bytes (Writes sid sent writes.NoMemory) a r = same_reads s bytes r
entry_reads client given s bytes (Closes sid writes.Done) a r = act_reads s bytes (Shut sid) refl r
entry_reads client given s bytes (Closes sid writes.Unknown) a r = same_reads s bytes r
entry_reads client given s bytes (Closes sid writes.Closed) a r = same_reads s bytes r
entry_reads client given s bytes (Closes sid writes.Full) a r = same_reads s bytes r
entry_reads client given s bytes (Closes sid writes.NoMemory) a r = same_reads s bytes r
entry_reads client given s bytes (Outs max answer) a r = same_reads s bytes r
entry_reads client given s bytes (Holds answer) a r = same_reads s bytes r
entry_reads client given s bytes (Takes sid max (takes.Bytes taken)) a r =
    act_reads s bytes (Took sid taken) refl r
entry_reads client given s bytes (Takes sid max takes.End) a r =
    act_reads s bytes (Finished sid) refl r
entry_reads client given s bytes (Takes sid max takes.Nothing) a r = same_reads s bytes r
entry_reads client given s bytes (Takes sid max takes.Unknown) a r = same_reads s bytes r
entry_reads client given s bytes (Takes sid max takes.NoMemory) a r = same_reads s bytes r
entry_reads client given s bytes (Feeds piece None) a r = same_reads s bytes r
entry_reads client given s bytes (Feeds piece (Some fed)) (inr h) r = cc
entry_reads client given s bytes (Feeds piece (Some fed)) (inl h) r =
    let x = run client given s piece in
    let count : fed.consumed ≡ x.consumed = cc in
    let fault : fed.fault ≡ x.seen.pending.fault = cc in
    let now : with_fault (fold (byte_seen client) s (take fed.consumed piece)) fed.fault ≡ x.seen =
    ap (λ (n : ℕ). with_fault (fold (byte_seen client) s (take n piece)) fed.fault) count
    ∙ ap (with_fault (fold (byte_seen client) s (take x.consumed piece))) fault
    ∙ run_seen client given s piece in
    rw (now, count) (run_reads client given s bytes piece r)

none_read : (client : Bool) → Reads (seen client []) (consumed [])
unfolding seen consumed came
none_read client = record {
  came = rw read_on_none refl;
  pending = λ h. rw read_on_none refl;
  sound = rw read_on_none refl;
}

pub reads : (client : Bool) (g : List Entry) → IsLegal client g → Reads (seen client g) (consumed g)
reads client g = by_pushes (λ g. IsLegal client g → Reads (seen client g) (consumed g))
    (λ l. none_read client)
    (λ g e before l.
    let p = legal_push client g e l in
    rw (seen_push, consumed_push)
    (entry_reads client (given g) (seen client g) (consumed g) e p.1.1 (before p.0)))
    g

pub consumed_law : FramesAreThoseConsumed
consumed_law client g l small =
    let r = reads client g l in
    let m = meaning_law (consumed g) small in (
      (read (consumed g)).frames,
      (
        m.rest,
        record {
          spelled = m.frames;
          partial = subst IsPartial (sym (m.sound r.sound)) m.partial;
          came = r.came;
        },
      ),
    )
