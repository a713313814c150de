-- The bounds over every call of a legal history.
use Rattle.std.proofs.Common.{◌≡◌, ◌≢◌, ℕ, ◌+◌, ◌*◌, ◌<◌, ◌≤◌, Bool, true, false, eqb, leb, ltb, cond, not, ◌||◌, Option, Some, None, List, [], ◌∷◌, ◌++◌, inl, inr, ⊎_elim, refl, sym, ap, subst, ◌∙◌, arith, length, take, drop}
use Rattle.std.specs.List.{fold, list_any}
use Rattle.std.proofs.Math.Seq.{drop-length, take-nil}
use Rattle.std.proofs.lemmas.List.{append-nil, length-append, length-drop, length-take}
use Rattle.std.proofs.lemmas.List.Folds.{list_any-append}
use Rattle.std.proofs.lemmas.Bool.{cases_Bool, eqb-true, leb-true, ltb-true, not-false}
use Rattle.smux_frames.specs.declared.frame.Frame.{Frame}
use Rattle.smux_frames.specs.declared.fault.FrameFault.{FrameFault}
use Rattle.smux_frames.specs.Reading.{Pending, fault_now, frame_now, pending_now}
use Rattle.smux_acts.specs.declared.event.Event.{Event}
use Rattle.smux_acts.specs.declared.event.Event.TheVariants as events
use Rattle.smux_acts.specs.Each.{Each}
use Rattle.smux_acts.specs.Signals.{Signal, Syn, Fin, Psh, Nop}
use Rattle.smux_acts.specs.Acts.{Act, Began, Wrote, Shut, Took, Finished, Came, called, delivered, ended, event_of, finished, finishes, got, live, living, May, opened_in, over, sent, sent_in, streams}
use Rattle.smux_acts.proofs.Eachs.{by_pushes, each_push, each_snoc}
use Rattle.smux_acts.proofs.Pushes.{finished_push}
use Rattle.smux_acts.proofs.Takers.{Taker, taker_goes, taker_start}
use Rattle.smux_acts.proofs.Rows as rows
use Rattle.smux_acts.proofs.Rows.{Row, row}
use Rattle.smux_store.specs.declared.answers.Open.TheVariants as opens
use Rattle.smux_store.specs.declared.answers.Taken.TheVariants as takes
use Rattle.smux_store.specs.Kept.{holding, untaken, IsOrderly}
use Rattle.smux_store.proofs.OrderLemmas.{act_goes, count_in, gained, holding_start, living_start, opened_inv, orderly_start}
use Rattle.smux_streams.specs.declared.answers.Fed.{Fed}
use Rattle.smux_streams.specs.declared.answers.Write.TheVariants as writes
use Rattle.smux_streams.specs.Call.{Entry, Opens, Writes, Closes, Outs, Feeds, Takes, Holds, IsCall}
use Rattle.smux_streams.specs.History.{Seen, acted, acts_of, byte_seen, come, entry_seen, given, given_in, left, outbytes, seen, signal_of, with_fault}
use Rattle.smux_streams.specs.Laws.{BoundsHold, NothingAfterEnd, taken_in, tells_end}
use Rattle.smux_streams.specs.Legal.{IsAnswered, Answers, IsLegal, Run, has_room, run, run_by, take_answer, waits, waits_by}
use Rattle.smux_streams.proofs.OutLemmas.{bytes_opt, left_push, outbytes_push}
use Rattle.smux_streams.proofs.KeepLemmas.{given_push, seen_push}
use Rattle.smux_streams.proofs.FeedLemmas.{run_seen}
use Rattle.smux_streams.proofs.EntryLemmas.{end_inv, end_may, took_inv, took_may}
use Rattle.smux_streams.proofs.Pairs.{legal_push}
use Rattle.smux_streams.proofs.Lone.{Lone, act_lone, lone_start, run_lone}

-- which tests let a stream open, and bytes be written
open_tests : (ids few room : Bool) (n m : ℕ)
    → opens.Sid n
    ≡ cond (not ids) opens.IdsSpent
    (cond (not few) opens.TooMany (cond (not room) opens.Full (opens.Sid m)))
    → (n ≡ m) × ((few ≡ true) × (room ≡ true))
open_tests true true true n m e = (cc, (refl, refl))
open_tests true true false n m e = cc
open_tests true false room n m e = cc
open_tests false few room n m e = cc

write_tests : (lives shut room : Bool)
    → writes.Done
    ≡ cond (not lives) writes.Unknown
    (cond shut writes.Closed (cond (not room) writes.Full writes.Done))
    → (lives ≡ true) × ((shut ≡ false) × (room ≡ true))
write_tests true false true e = (refl, (refl, refl))
write_tests true false false e = cc
write_tests true true room e = cc
write_tests false shut room e = cc

-- a call that does nothing
same_lone : (client : Bool) (given : List ℕ) (s : Seen)
    → Lone client given s
    → Lone client (given ++ []) s
same_lone client given s k = rw append-nil k

-- a call that sends a frame
sent_lone : (client : Bool) (given : List ℕ) (s : Seen) (x : Act) (n : ℕ)
    → May client s.acts x
    → length (bytes_opt (sent_in x)) ≡ n
    → has_room given s.acts n ≡ true
    → living s.acts + count_in (opened_in x) ≤ 1024
    → length (gained x) ≡ 0
    → Lone client given s
    → Lone client (given ++ []) (acted s x)
sent_lone client given s x n m size room few none k =
    let l = leb-true (length (left given s.acts) + n) 1048576 room in
    rw append-nil (act_lone client given s s.pending x m (record {
      outgoing = omega (arith, l, size);
      few = few;
      held = omega (arith, k.held, none);
    }) k)

-- a take
taken_lone : (client : Bool) (given : List ℕ) (s : Seen) (x : Act)
    → May client s.acts x
    → length (bytes_opt (sent_in x)) ≡ 0
    → count_in (opened_in x) ≡ 0
    → length (gained x) ≡ 0
    → Lone client given s
    → Lone client (given ++ []) (acted s x)
taken_lone client given s x m none same nothing k =
    rw append-nil (act_lone client given s s.pending x m (record {
      outgoing = omega (arith, k.outgoing, none);
      few = omega (arith, k.few, same);
      held = omega (arith, k.held, nothing);
    }) k)

-- bytes that are given out
out_lone : (client : Bool) (given : List ℕ) (s : Seen) (max : ℕ)
    → Lone client given s
    → Lone client (given ++ take max (left given s.acts)) s
out_lone client given s max k =
    let front = take max (left given s.acts) in
    let sum = length-append given front in
    let part = length-take max (left given s.acts) in
    let all = length-drop (length given) (outbytes s.acts) in
    let rest = length-drop (length (given ++ front)) (outbytes s.acts) in
    let before = k.within in
    let bound = k.outgoing in
    record {
      orderly = k.orderly;
      taker = k.taker;
      within = omega (arith, sum, part, all, before);
      outgoing = omega (arith, rest, all, sum, bound);
      few = k.few;
      held = k.held;
    }

-- one call more
entry_lone : (client : Bool) (given : List ℕ) (s : Seen) (e : Entry)
    → IsCall e
    → IsAnswered client given s e
    → Lone client given s
    → Lone client (given ++ given_in e) (entry_seen client s e)
entry_lone client given s (Opens (opens.Sid n)) c (r, inl h) k =
    let i = open_tests (ltb (length (streams s.acts)) 2147483647) (ltb (living s.acts) 1024)
    (has_room given s.acts 8) n _ h in
    let l = ltb-true (living s.acts) 1024 i.1.0 in
    sent_lone client given s (Began n) 8 (r, i.0) refl i.1.1 (omega (arith, l)) refl k
entry_lone client given s (Opens (opens.Sid n)) c (r, inr h) k = cc
entry_lone client given s (Opens opens.IdsSpent) c a k = same_lone client given s k
entry_lone client given s (Opens opens.TooMany) c a k = same_lone client given s k
entry_lone client given s (Opens opens.Full) c a k = same_lone client given s k
entry_lone client given s (Opens opens.NoMemory) c a k = same_lone client given s k
entry_lone client given s (Writes sid bytes writes.Done) c (inl h) k =
    let i = write_tests (live sid s.acts) (ended sid s.acts)
    (has_room given s.acts (8 + length bytes)) h in
    sent_lone client given s (Wrote sid bytes) (8 + length bytes) (i.0, i.1.0) (omega arith) i.1.1
    (omega (arith, k.few)) refl k
entry_lone client given s (Writes sid bytes writes.Done) c (inr h) k = cc
entry_lone client given s (Writes sid bytes writes.Unknown) c a k = same_lone client given s k
entry_lone client given s (Writes sid bytes writes.Closed) c a k = same_lone client given s k
entry_lone client given s (Writes sid bytes writes.Full) c a k = same_lone client given s k
entry_lone client given s (Writes sid bytes writes.NoMemory) c a k = same_lone client given s k
entry_lone client given s (Closes sid writes.Done) c (inl h) k =
    let i = write_tests (live sid s.acts) (ended sid s.acts) (has_room given s.acts 8) h in
    sent_lone client given s (Shut sid) 8 (i.0, i.1.0) refl i.1.1 (omega (arith, k.few)) refl k
entry_lone client given s (Closes sid writes.Done) c (inr h) k = cc
entry_lone client given s (Closes sid writes.Unknown) c a k = same_lone client given s k
entry_lone client given s (Closes sid writes.Closed) c a k = same_lone client given s k
entry_lone client given s (Closes sid writes.Full) c a k = same_lone client given s k
entry_lone client given s (Closes sid writes.NoMemory) c a k = same_lone client given s k
entry_lone client given s (Outs max None) c a k = same_lone client given s k
entry_lone client given s (Outs max (Some bytes)) c (inl h) k =
    let same : bytes ≡ take max (left given s.acts) = cc in rw same (out_lone client given s max k)
entry_lone client given s (Outs max (Some bytes)) c (inr h) k = cc
entry_lone client given s (Holds answer) c a k = same_lone client given s k
entry_lone client given s (Takes sid max (takes.Bytes bytes)) c (inl h) k =
    let i = took_inv (live sid s.acts) (over sid s.acts) (untaken sid s.acts) bytes max c h in
    taken_lone client given s (Took sid bytes) (
      i.0,
      (
        i.1.1,
        (drop max (untaken sid s.acts), took_may s.acts sid max bytes (k.taker.part sid) i.1.0),
      ),
    )
    refl refl refl k
entry_lone client given s (Takes sid max (takes.Bytes bytes)) c (inr h) k = cc
entry_lone client given s (Takes sid max takes.End) c (inl h) k =
    let i = end_inv (live sid s.acts) (over sid s.acts) (untaken sid s.acts) max h in
    taken_lone client given s (Finished sid)
    (i.0, (i.1.0, end_may s.acts sid (k.taker.part sid) i.1.1)) refl refl refl k
entry_lone client given s (Takes sid max takes.End) c (inr h) k = cc
entry_lone client given s (Takes sid max takes.Nothing) c a k = same_lone client given s k
entry_lone client given s (Takes sid max takes.Unknown) c a k = same_lone client given s k
entry_lone client given s (Takes sid max takes.NoMemory) c a k = same_lone client given s k
entry_lone client given s (Feeds piece None) c a k = same_lone client given s k
entry_lone client given s (Feeds piece (Some fed)) c (inr h) k = cc
entry_lone client given s (Feeds piece (Some fed)) c (inl h) k =
    let r = run client given s piece in
    let same : fed
    ≡ record { consumed = r.consumed; events = fed.events; fault = r.seen.pending.fault } =
    cc in
    let now : with_fault (fold (byte_seen client) s (take fed.consumed piece)) fed.fault ≡ r.seen =
    ap (λ (f : Fed). with_fault (fold (byte_seen client) s (take f.consumed piece)) f.fault) same
    ∙ run_seen client given s piece in
    rw append-nil (subst (Lone client given) (sym now) (run_lone client given s piece k))

pub lone : (client : Bool) (g : List Entry)
    → IsLegal client g
    → Lone client (given g) (seen client g)
unfolding given
lone client g = by_pushes (λ g. IsLegal client g → Lone client (given g) (seen client g))
    (λ l. lone_start client)
    (λ g e before l.
    let p = legal_push client g e l in
    rw (given_push, seen_push)
    (entry_lone client (given g) (seen client g) e p.1.0 p.1.1 (before p.0)))
    g

pub bounds_law : BoundsHold
bounds_law client g l =
    let k = lone client g l in record { outgoing = k.outgoing; held = k.held; live = k.few }
