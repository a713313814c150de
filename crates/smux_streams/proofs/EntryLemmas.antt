-- One call more at one end of a linked pair.
use Rattle.std.proofs.Common.{zero, suc, ◌≡◌, ◌≢◌, ℕ, ◌+◌, ◌*◌, ◌<◌, ◌^◌, Bool, true, false, ltb, cond, not, Option, Some, None, List, [], ◌∷◌, ◌++◌, inl, inr, refl, sym, ap, subst, ◌∙◌, append_assoc, arith, length, take, drop, map}
use Rattle.std.specs.Prelude.{option_to_list}
use Rattle.std.specs.List.{filter_map, fold, cons_option, All, AllByRecursion}
use Rattle.std.proofs.lemmas.List.{append-nil, take-append-drop}
use Rattle.std.proofs.lemmas.List.Elements.{All-nil, All-cons, All-push, All-append, recursion_from_All}
use Rattle.std.proofs.lemmas.Bool.{ltb-true}
use Rattle.smux_frames.specs.declared.frame.Frame.{Frame}
use Rattle.smux_frames.specs.declared.fault.FrameFault.{FrameFault}
use Rattle.smux_frames.specs.Spelling.{IsFrame}
use Rattle.smux_frames.specs.Reading.{Pending, Reading, read, read_byte, frame_now, pending_now}
use Rattle.smux_frames.proofs.Readings.{read_push}
use Rattle.smux_frames.proofs.SpelledReadings.{no_fault, front_law}
use Rattle.smux_store.specs.declared.answers.Open.TheVariants as opens
use Rattle.smux_streams.specs.declared.answers.Write.TheVariants as writes
use Rattle.smux_store.specs.declared.answers.Taken.TheVariants as takes
use Rattle.smux_acts.specs.Each.{IsPrefixOf}
use Rattle.smux_acts.specs.Signals.{Signal, Syn, Fin, Psh, Nop, Upd}
use Rattle.smux_acts.specs.Acts.{Act, Began, Wrote, Shut, Took, Finished, Came, sent, sent_in, came, came_in, streams, ended, over, got, delivered, live, living, event_of, May}
use Rattle.smux_streams.specs.declared.answers.Fed.{Fed}
use Rattle.smux_streams.specs.Call.{Entry, Opens, Writes, Closes, Outs, Feeds, Takes, Holds, IsCall}
use Rattle.smux_streams.specs.History.{Seen, entry_seen, byte_seen, come, acted, with_fault, given, consumed, consumed_in, outbytes, signal_of, frame_of}
use Rattle.smux_store.specs.Kept.{untaken}
use Rattle.smux_streams.specs.Legal.{has_room, take_by, IsAnswered, feed_answer}
use Rattle.smux_acts.proofs.Pushes.{sent_push, came_push}
use Rattle.smux_acts.proofs.Rows as rows
use Rattle.smux_acts.proofs.Rows.{Row, row}
use Rattle.smux_acts.proofs.Worlds.{End, end_goes}
use Rattle.smux_streams.proofs.Readers.{Reader, act_goes, bytes_go, bytes_pending, halted_feed, same_pending}
use Rattle.smux_streams.proofs.ValidLemmas.{Valid, signals_sound}

-- which of three tests decided
open_inv : (one two three : Bool) (n m : ℕ)
    → opens.Sid n
    ≡ cond (not one) opens.IdsSpent (cond two opens.TooMany (cond three opens.Full (opens.Sid m)))
    → (one ≡ true) × (n ≡ m)
open_inv false two three n m e = cc
open_inv true true three n m e = cc
open_inv true false true n m e = cc
open_inv true false false n m e = (refl, cc)

write_inv : (one two three : Bool)
    → writes.Done
    ≡ cond (not one) writes.Unknown (cond two writes.Closed (cond three writes.Full writes.Done))
    → (one ≡ true) × (two ≡ false)
write_inv false two three e = cc
write_inv true true three e = cc
write_inv true false true e = cc
write_inv true false false e = (refl, refl)

pub took_inv : (live over : Bool) (rest bytes : List ℕ) (max : ℕ)
    → 0 < max
    → takes.Bytes bytes ≡ cond live (take_by over rest max) takes.Unknown
    → (live ≡ true) × ((bytes ≡ take max rest) × (bytes ≢ []))
took_inv false over rest bytes max l e = cc
took_inv true true [] bytes max l e = cc
took_inv true false [] bytes max l e = cc
took_inv true over (x ∷ rest) bytes zero l e = absurd (omega arith)
took_inv true over (x ∷ rest) bytes (suc max) l e =
    let q : bytes ≡ x ∷ take max rest = cc in (refl, (q, λ z. cc))

pub end_inv : (live over : Bool) (rest : List ℕ) (max : ℕ)
    → takes.End ≡ cond live (take_by over rest max) takes.Unknown
    → (live ≡ true) × ((over ≡ true) × (rest ≡ []))
end_inv false over rest max e = cc
end_inv true true [] max e = (refl, (refl, refl))
end_inv true false [] max e = cc
end_inv true over (x ∷ rest) max e = cc

pub take_drop : (max : ℕ) (xs : List ℕ) → take max xs ++ drop max xs ≡ xs
take_drop max xs = take-append-drop max xs

-- the first part of a list, and what is dropped
pub front_is : (xs ys : List ℕ) → IsPrefixOf xs ys → xs ++ drop (length xs) ys ≡ ys
front_is [] ys p = refl
front_is (x ∷ xs) [] p = let e : (x ∷ xs) ++ p.0 ≡ [] = p.1 in cc
front_is (x ∷ xs) (y ∷ ys) p =
    let e : x ∷ (xs ++ p.0) ≡ y ∷ ys = p.1 in
    let q : xs ++ p.0 ≡ ys = cc in let h : x ≡ y = cc in
    let r = front_is xs ys (p.0, q) in cc

pub took_may : (a : List Act) (sid max : ℕ) (bytes : List ℕ)
    → IsPrefixOf (delivered sid a) (got sid a)
    → bytes ≡ take max (untaken sid a)
    → (delivered sid a ++ bytes) ++ drop max (untaken sid a) ≡ got sid a
took_may a sid max bytes p e =
    rw e (append_assoc (delivered sid a) (take max (untaken sid a)) (drop max (untaken sid a))
    ∙ ap (λ (l : List ℕ). delivered sid a ++ l) (take_drop max (untaken sid a))
    ∙ front_is (delivered sid a) (got sid a) p)

pub end_may : (a : List Act) (sid : ℕ)
    → IsPrefixOf (delivered sid a) (got sid a)
    → untaken sid a ≡ []
    → delivered sid a ≡ got sid a
end_may a sid p e =
    sym (append-nil (delivered sid a)) ∙ ap (λ (l : List ℕ). delivered sid a ++ l) (sym e)
    ∙ front_is (delivered sid a) (got sid a) p

no_signals : All Valid []
no_signals = All-nil Valid

-- one call more
pub entry_goes : (client : Bool) (given : List ℕ) (s : Seen) (b : List Act) (bytes : List ℕ)
    (e : Entry)
    → IsCall e
    → IsAnswered client given s e
    → End (not client) b
    → All Valid (sent b)
    → IsPrefixOf (came b) (sent s.acts)
    → IsPrefixOf (bytes ++ consumed_in e) (outbytes b)
    → Reader client s bytes → Reader client (entry_seen client s e) (bytes ++ consumed_in e)
entry_goes client given s b bytes (Opens (opens.Sid n)) c (k, inl h) o v q p r =
    let i = open_inv (ltb (length (streams s.acts)) 2147483647) (not (ltb (living s.acts) 1024))
    (not (has_room given s.acts 8)) n (2 * length (streams s.acts) + 3) h in
    let l = ltb-true (length (streams s.acts)) 2147483647 i.0 in
    rw append-nil
    (act_goes client s b bytes (Began n) refl (k, i.1)
    (All-cons Valid (Syn n) [] (omega arith) no_signals) o v q (rw append-nil at p) r)
entry_goes client given s b bytes (Opens (opens.Sid n)) c (k, inr h) o v q p r = cc
entry_goes client given s b bytes (Opens opens.IdsSpent) c a o v q p r = rw append-nil r
entry_goes client given s b bytes (Opens opens.TooMany) c a o v q p r = rw append-nil r
entry_goes client given s b bytes (Opens opens.Full) c a o v q p r = rw append-nil r
entry_goes client given s b bytes (Opens opens.NoMemory) c a o v q p r = rw append-nil r
entry_goes client given s b bytes (Writes sid data' writes.Done) c (inl h) o v q p r =
    let i = write_inv (live sid s.acts) (ended sid s.acts)
    (not (has_room given s.acts (8 + length data'))) h in
    rw append-nil
    (act_goes client s b bytes (Wrote sid data') refl i
    (All-cons Valid (Psh sid data') [] (c.0, omega arith) no_signals) o v q
    (rw append-nil at p) r)
entry_goes client given s b bytes (Writes sid data' writes.Done) c (inr h) o v q p r = cc
entry_goes client given s b bytes (Writes sid data' writes.Unknown) c a o v q p r = rw append-nil r
entry_goes client given s b bytes (Writes sid data' writes.Closed) c a o v q p r = rw append-nil r
entry_goes client given s b bytes (Writes sid data' writes.Full) c a o v q p r = rw append-nil r
entry_goes client given s b bytes (Writes sid data' writes.NoMemory) c a o v q p r = rw append-nil r
entry_goes client given s b bytes (Closes sid writes.Done) c (inl h) o v q p r =
    let i = write_inv (live sid s.acts) (ended sid s.acts) (not (has_room given s.acts 8)) h in
    rw append-nil
    (act_goes client s b bytes (Shut sid) refl i
    (All-cons Valid (Fin sid) [] c no_signals) o v q (rw append-nil at p) r)
entry_goes client given s b bytes (Closes sid writes.Done) c (inr h) o v q p r = cc
entry_goes client given s b bytes (Closes sid writes.Unknown) c a o v q p r = rw append-nil r
entry_goes client given s b bytes (Closes sid writes.Closed) c a o v q p r = rw append-nil r
entry_goes client given s b bytes (Closes sid writes.Full) c a o v q p r = rw append-nil r
entry_goes client given s b bytes (Closes sid writes.NoMemory) c a o v q p r = rw append-nil r
entry_goes client given s b bytes (Outs max answer) c a o v q p r = rw append-nil r
entry_goes client given s b bytes (Holds answer) c a o v q p r = rw append-nil r
entry_goes client given s b bytes (Takes sid max (takes.Bytes taken)) c (inl h) o v q p r =
    let i = took_inv (live sid s.acts) (over sid s.acts) (untaken sid s.acts) taken max c h in
    rw append-nil
    (act_goes client s b bytes (Took sid taken) refl (
      i.0,
      (
        i.1.1,
        (
          drop max (untaken sid s.acts),
          took_may s.acts sid max taken
              (r.end.taker.part sid) i.1.0,
        ),
      ),
    ) no_signals o v q (rw append-nil at p) r)
entry_goes client given s b bytes (Takes sid max (takes.Bytes taken)) c (inr h) o v q p r = cc
entry_goes client given s b bytes (Takes sid max takes.End) c (inl h) o v q p r =
    let i = end_inv (live sid s.acts) (over sid s.acts) (untaken sid s.acts) max h in
    rw append-nil
    (act_goes client s b bytes (Finished sid) refl
    (i.0, (i.1.0, end_may s.acts sid (r.end.taker.part sid) i.1.1)) no_signals o v q
    (rw append-nil at p) r)
entry_goes client given s b bytes (Takes sid max takes.End) c (inr h) o v q p r = cc
entry_goes client given s b bytes (Takes sid max takes.Nothing) c a o v q p r = rw append-nil r
entry_goes client given s b bytes (Takes sid max takes.Unknown) c a o v q p r = rw append-nil r
entry_goes client given s b bytes (Takes sid max takes.NoMemory) c a o v q p r = rw append-nil r
entry_goes client given s b bytes (Feeds piece None) c a o v q p r = rw append-nil r
entry_goes client given s b bytes (Feeds piece (Some fed)) c (inr h) o v q p r = cc
entry_goes client given s b bytes (Feeds piece (Some fed)) c (inl h) o v q p r =
    at s.pending.fault refl
  where
    same : fed ≡ feed_answer client given s piece
    same = cc

    at : (f : Option FrameFault)
        → s.pending.fault ≡ f
        → Reader client (with_fault (fold (byte_seen client) s (take fed.consumed piece)) fed.fault)
        (bytes ++ take fed.consumed piece)
    at (Some f) e =
        let k = halted_feed client given s piece f e in
        let z : fed.consumed ≡ 0 = ap (λ (x : Fed). x.consumed) same ∙ k.0 in
        let y : fed.fault ≡ Some f = ap (λ (x : Fed). x.fault) same ∙ k.1 in
        rw (z, append-nil)
        (record {
          end = r.end;
          reads = r.reads;
          pending =
              λ n. absurd (let w : Some f ≡ None = sym y ∙ n in cc);
          valid = r.valid;
        })
    at None e =
        let t = bytes_go client s b bytes (take fed.consumed piece) o v q p e r in
        let w = bytes_pending client s b bytes (take fed.consumed piece) o v q p e r in
        let z : (fold (byte_seen client) s (take fed.consumed piece)).pending.fault ≡ None =
        ap (λ (x : Pending). x.fault) w
        ∙ signals_sound (bytes ++ take fed.consumed piece) b v p in
        record {
          end = t.end;
          reads = t.reads;
          pending =
              λ n. same_pending
              (fold (byte_seen client) s (take fed.consumed piece)).pending fed.fault (n ∙ sym z)
              ∙ w;
          valid = t.valid;
        }
