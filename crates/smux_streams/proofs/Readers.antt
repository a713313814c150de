-- What one end of a linked pair keeps of the bytes that it consumed.
use Rattle.std.proofs.Common.{zero, suc, ◌≡◌, ◌≢◌, ℕ, ◌+◌, ◌*◌, ◌<◌, ◌^◌, Bool, true, false, ltb, cond, not, Option, Some, None, List, [], ◌∷◌, ◌++◌, inl, inr, refl, sym, ap, subst, ◌∙◌, append_assoc, arith, length, take, drop, map}
use Rattle.std.specs.Prelude.{option_to_list}
use Rattle.std.specs.List.{filter_map, fold, cons_option, All, AllByRecursion}
use Rattle.std.proofs.lemmas.List.{append-nil, take-append-drop}
use Rattle.std.proofs.lemmas.List.Elements.{All-nil, All-cons, All-push, All-append, recursion_from_All}
use Rattle.std.proofs.lemmas.Bool.{ltb-true}
use Rattle.smux_frames.specs.declared.frame.Frame.{Frame}
use Rattle.smux_frames.specs.declared.fault.FrameFault.{FrameFault}
use Rattle.smux_frames.specs.Spelling.{IsFrame}
use Rattle.smux_frames.specs.Reading.{Pending, Reading, read, read_byte, frame_now, pending_now}
use Rattle.smux_frames.proofs.Readings.{read_push}
use Rattle.smux_frames.proofs.SpelledReadings.{no_fault, front_law}
use Rattle.smux_store.specs.declared.answers.Open.TheVariants as opens
use Rattle.smux_streams.specs.declared.answers.Write.TheVariants as writes
use Rattle.smux_store.specs.declared.answers.Taken.TheVariants as takes
use Rattle.smux_acts.specs.Each.{IsPrefixOf}
use Rattle.smux_acts.specs.Signals.{Signal, Syn, Fin, Psh, Nop, Upd}
use Rattle.smux_acts.specs.Acts.{Act, Began, Wrote, Shut, Took, Finished, Came, sent, sent_in, came, came_in, streams, ended, over, got, delivered, live, living, event_of, May}
use Rattle.smux_streams.specs.declared.answers.Fed.{Fed}
use Rattle.smux_streams.specs.Call.{Entry, Opens, Writes, Closes, Outs, Feeds, Takes, Holds, IsCall}
use Rattle.smux_streams.specs.History.{Seen, entry_seen, byte_seen, come, acted, with_fault, given, consumed, consumed_in, outbytes, signal_of, frame_of}
use Rattle.smux_store.specs.Kept.{untaken}
use Rattle.smux_streams.specs.Legal.{has_room, take_by, IsAnswered, feed_answer}
use Rattle.smux_acts.proofs.Pushes.{sent_push, came_push}
use Rattle.smux_acts.proofs.Rows as rows
use Rattle.smux_acts.proofs.Rows.{Row, row}
use Rattle.smux_acts.proofs.Worlds.{End, end_goes}
use Rattle.smux_streams.proofs.ValidLemmas.{Valid, map_append, signals_front, signals_sound}

-- one end, with the bytes that it consumed
pub record Reader (client : Bool) (s : Seen) (bytes : List ℕ) : Type 0 where
  pub end : End client s.acts
  pub reads : came s.acts ≡ map signal_of (read bytes).frames
  pub pending : s.pending.fault ≡ None → s.pending ≡ (read bytes).pending
  pub valid : All Valid (sent s.acts)

-- what the frame that is whole with a byte adds
pub come_reads : (client : Bool) (a : List Act) (o : Option Frame)
    → came (come client a o) ≡ came a ++ map signal_of (option_to_list o)
come_reads client a None = sym (append-nil (came a))
come_reads client a (Some f) = came_push a (Came (signal_of f) (event_of client a (signal_of f)))

prefix_front : {X : Type 0} (xs ys zs : List X) → IsPrefixOf (xs ++ ys) zs → IsPrefixOf xs zs
prefix_front {X} xs ys zs p = (ys ++ p.0, sym (append_assoc xs ys p.0) ∙ p.1)

came_valid : (x : Signal) (before after all : List Signal)
    → (before ++ x ∷ []) ++ after ≡ all
    → All Valid all
    → Valid x
came_valid x before after all e v =
    last before after
    (recursion_from_All Valid ((before ++ x ∷ []) ++ after) (subst (All Valid) (sym e) v))
  where
    last : (before after : List Signal)
        → AllByRecursion Valid ((before ++ x ∷ []) ++ after)
        → Valid x
    last [] after h = h.0
    last (y ∷ before) after h = last before after h.1

refusal_valid : (client : Bool) (a : List Act) (y : Act) (x : Signal)
    → Row client a y
    → came_in y ≡ Some x
    → Valid x
    → All Valid (sent a)
    → All Valid (sent a ++ cons_option (sent_in y) [])
refusal_valid client a y x (rows.refuses _ s f) e v h =
    All-push Valid (sent a) (Fin s) h (at x (let q : Some (Syn s) ≡ Some x = e in cc) v)
  where
    at : (x : Signal) → Syn s ≡ x → Valid x → s < 2 ^ 32
    at x q v = let P : Signal → Type 0 = Valid in subst P (sym q) v
refusal_valid client a y x (rows.opens _ s f) e v h = rw append-nil h
refusal_valid client a y x (rows.syn _ _ s) e v h = rw append-nil h
refusal_valid client a y x (rows.ready _ _ s bytes o f) e v h = rw append-nil h
refusal_valid client a y x (rows.empty _ _ s) e v h = rw append-nil h
refusal_valid client a y x (rows.passed _ _ s bytes f) e v h = rw append-nil h
refusal_valid client a y x (rows.ends _ _ s o f) e v h = rw append-nil h
refusal_valid client a y x (rows.fin _ _ s f) e v h = rw append-nil h
refusal_valid client a y x (rows.nop _ _ s) e v h = rw append-nil h
refusal_valid client a y x (rows.upd _ _ s c w) e v h = rw append-nil h
refusal_valid client a y x r e v h = absurd (let q : None ≡ Some x = e in cc)

-- one byte that the other end gave
byte_goes : (client : Bool) (s : Seen) (b : List Act) (bytes : List ℕ) (x : ℕ)
    → End (not client) b
    → All Valid (sent b)
    → IsPrefixOf (came b) (sent s.acts)
    → IsPrefixOf (bytes ++ x ∷ []) (outbytes b)
    → s.pending.fault ≡ None → Reader client s bytes
    → Reader client (byte_seen client s x) (bytes ++ x ∷ [])
byte_goes client s b bytes x o v q p none r =
    let same : s.pending ≡ (read bytes).pending = r.pending none in
    let more : read (bytes ++ x ∷ []) ≡ read_byte (read bytes) x = read_push bytes x in
    let j : IsPrefixOf (map signal_of (read (bytes ++ x ∷ [])).frames) (sent b) =
    signals_front (bytes ++ x ∷ []) b v p in
    let old : IsPrefixOf (came s.acts) (sent b) =
    subst (λ (l : List Signal). IsPrefixOf l (sent b)) (sym r.reads)
    (signals_front bytes b v (prefix_front bytes (x ∷ []) (outbytes b) p)) in
    let reads : came (come client s.acts (frame_now s.pending x))
    ≡ map signal_of (read (bytes ++ x ∷ [])).frames =
    come_reads client s.acts (frame_now s.pending x)
    ∙ ap (λ (l : List Signal). l ++ map signal_of (option_to_list (frame_now s.pending x)))
    r.reads
    ∙ sym (map_append (read bytes).frames (option_to_list (frame_now s.pending x)))
    ∙ ap (λ (p : Pending). map signal_of ((read bytes).frames ++ option_to_list (frame_now p x)))
    same ∙ ap (λ (r : Reading). map signal_of r.frames) (sym more) in
    let k = at (frame_now s.pending x)
    (subst (λ (l : List Signal). IsPrefixOf l (sent b)) (sym reads) j) old in
    record {
      end = k.0;
      reads = reads;
      pending = λ f. ap (λ (p : Pending). pending_now p x) same
          ∙ ap (λ (r : Reading). r.pending) (sym more);
      valid = k.1;
    }
  where
    at : (f : Option Frame)
        → IsPrefixOf (came (come client s.acts f)) (sent b)
        → IsPrefixOf (came s.acts) (sent b)
        → End client (come client s.acts f) × All Valid (sent (come client s.acts f))
    at None j old = (r.end, r.valid)
    at (Some f) j old =
        let sig = signal_of f in let act = Came sig (event_of client s.acts sig) in
        let e : (came s.acts ++ sig ∷ []) ++ j.0 ≡ sent b =
        ap (λ (l : List Signal). l ++ j.0) (sym (came_push s.acts act)) ∙ j.1 in (
          end_goes client s.acts b act refl r.end o old q j,
          rw sent_push
              (refusal_valid client s.acts act sig
              (row {client = client} {a = s.acts} {x = act} refl) refl
              (came_valid sig (came s.acts) j.0 (sent b) e v) r.valid),
        )

-- what is pending after a byte
pending_goes : (client : Bool) (s : Seen) (bytes : List ℕ) (x : ℕ)
    → s.pending.fault ≡ None
    → Reader client s bytes
    → (byte_seen client s x).pending ≡ (read (bytes ++ x ∷ [])).pending
pending_goes client s bytes x none r =
    ap (λ (p : Pending). pending_now p x) (r.pending none)
    ∙ ap (λ (r : Reading). r.pending) (sym (read_push bytes x))

pub sent_grows : (xs : List Signal) (a : List Act) (x : Act)
    → IsPrefixOf xs (sent a)
    → IsPrefixOf xs (sent (a ++ x ∷ []))
sent_grows xs a x p = (
  p.0 ++ cons_option (sent_in x) [],
  rw sent_push
      (sym (append_assoc xs p.0 (cons_option (sent_in x) []))
      ∙ ap (λ (l : List Signal). l ++ cons_option (sent_in x) []) p.1),
)

-- the bytes that a feed consumed
pub bytes_go : (client : Bool) (s : Seen) (b : List Act) (bytes more : List ℕ)
    → End (not client) b
    → All Valid (sent b)
    → IsPrefixOf (came b) (sent s.acts)
    → IsPrefixOf (bytes ++ more) (outbytes b)
    → s.pending.fault ≡ None → Reader client s bytes
    → Reader client (fold (byte_seen client) s more) (bytes ++ more)
bytes_go client s b bytes [] o v q p none r = rw append-nil r
bytes_go client s b bytes (x ∷ more) o v q p none r =
    let e : bytes ++ (x ∷ more) ≡ (bytes ++ x ∷ []) ++ more =
    sym (append_assoc bytes (x ∷ []) more) in
    let p' : IsPrefixOf ((bytes ++ x ∷ []) ++ more) (outbytes b) =
    subst (λ (l : List ℕ). IsPrefixOf l (outbytes b)) e p in
    let p'' : IsPrefixOf (bytes ++ x ∷ []) (outbytes b) =
    prefix_front (bytes ++ x ∷ []) more (outbytes b) p' in
    let one = byte_goes client s b bytes x o v q p'' none r in
    let still : (byte_seen client s x).pending.fault ≡ None =
    ap (λ (z : Pending). z.fault) (pending_goes client s bytes x none r)
    ∙ signals_sound (bytes ++ x ∷ []) b v p'' in
    subst (Reader client (fold (byte_seen client) (byte_seen client s x) more)) (sym e)
    (bytes_go client (byte_seen client s x) b (bytes ++ x ∷ []) more o v
    (more_sent (frame_now s.pending x)) p' still one)
  where
    more_sent : (f : Option Frame) → IsPrefixOf (came b) (sent (come client s.acts f))
    more_sent None = q
    more_sent (Some f) =
        sent_grows (came b) s.acts (Came (signal_of f) (event_of client s.acts (signal_of f))) q

pub bytes_pending : (client : Bool) (s : Seen) (b : List Act) (bytes more : List ℕ)
    → End (not client) b
    → All Valid (sent b)
    → IsPrefixOf (came b) (sent s.acts)
    → IsPrefixOf (bytes ++ more) (outbytes b)
    → s.pending.fault ≡ None → Reader client s bytes
    → (fold (byte_seen client) s more).pending ≡ (read (bytes ++ more)).pending
bytes_pending client s b bytes [] o v q p none r = rw append-nil (r.pending none)
bytes_pending client s b bytes (x ∷ more) o v q p none r =
    let e : bytes ++ (x ∷ more) ≡ (bytes ++ x ∷ []) ++ more =
    sym (append_assoc bytes (x ∷ []) more) in
    let p' : IsPrefixOf ((bytes ++ x ∷ []) ++ more) (outbytes b) =
    subst (λ (l : List ℕ). IsPrefixOf l (outbytes b)) e p in
    let p'' : IsPrefixOf (bytes ++ x ∷ []) (outbytes b) =
    prefix_front (bytes ++ x ∷ []) more (outbytes b) p' in
    let one = byte_goes client s b bytes x o v q p'' none r in
    let still : (byte_seen client s x).pending.fault ≡ None =
    ap (λ (z : Pending). z.fault) (pending_goes client s bytes x none r)
    ∙ signals_sound (bytes ++ x ∷ []) b v p'' in
    bytes_pending client (byte_seen client s x) b (bytes ++ x ∷ []) more o v
    (more_sent (frame_now s.pending x)) p' still one
    ∙ ap (λ (l : List ℕ). (read l).pending) (sym e)
  where
    more_sent : (f : Option Frame) → IsPrefixOf (came b) (sent (come client s.acts f))
    more_sent None = q
    more_sent (Some f) =
        sent_grows (came b) s.acts (Came (signal_of f) (event_of client s.acts (signal_of f))) q

pub same_pending : (p : Pending) (f : Option FrameFault)
    → f ≡ p.fault
    → record { rest = p.rest; start = p.start; fault = f } ≡ p
same_pending p f e = rw e refl

-- a fault that is kept lets nothing be consumed
pub halted_feed : (client : Bool) (given : List ℕ) (s : Seen) (bytes : List ℕ) (f : FrameFault)
    → s.pending.fault ≡ Some f
    → ((feed_answer client given s bytes).consumed ≡ 0)
    × ((feed_answer client given s bytes).fault ≡ Some f)
halted_feed client given s [] f e = (refl, e)
halted_feed client given s (b ∷ bytes) f e = rw e (refl, refl)

-- an act of one end that is no frame
pub act_goes : (client : Bool) (s : Seen) (b : List Act) (bytes : List ℕ) (x : Act)
    → came_in x ≡ None
    → May client s.acts x
    → All Valid (cons_option (sent_in x) [])
    → End (not client) b
    → All Valid (sent b)
    → IsPrefixOf (came b) (sent s.acts)
    → IsPrefixOf bytes (outbytes b)
    → Reader client s bytes → Reader client (acted s x) bytes
act_goes client s b bytes x c m w o v q p r =
    let same : came (s.acts ++ x ∷ []) ≡ came s.acts =
    came_push s.acts x ∙ (rw (c, append-nil) refl) in
    let old : IsPrefixOf (came s.acts) (sent b) =
    subst (λ (l : List Signal). IsPrefixOf l (sent b)) (sym r.reads)
    (signals_front bytes b v p) in
    record {
      end = end_goes client s.acts b x m r.end o old q
          (subst (λ (l : List Signal). IsPrefixOf l (sent b)) (sym same) old);
      reads = same ∙ r.reads;
      pending = r.pending;
      valid = rw sent_push (All-append Valid (sent s.acts) (cons_option (sent_in x) []) r.valid w);
    }
