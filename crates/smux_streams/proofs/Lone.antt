-- What every legal history of one end keeps, whatever the other end is.
use Rattle.std.proofs.Common.{◌≡◌, ◌≢◌, ℕ, ◌+◌, ◌*◌, ◌<◌, ◌≤◌, Bool, true, false, eqb, leb, ltb, cond, not, ◌||◌, Option, Some, None, List, [], ◌∷◌, ◌++◌, inl, inr, ⊎_elim, refl, sym, ap, subst, ◌∙◌, arith, length, take, drop}
use Rattle.std.specs.List.{fold, list_any}
use Rattle.std.proofs.Math.Seq.{drop-length, take-nil}
use Rattle.std.proofs.lemmas.List.{append-nil, length-append, length-drop, length-take}
use Rattle.std.proofs.lemmas.List.Folds.{list_any-append}
use Rattle.std.proofs.lemmas.Bool.{cases_Bool, eqb-true, leb-true, ltb-true, not-false}
use Rattle.smux_frames.specs.declared.frame.Frame.{Frame}
use Rattle.smux_frames.specs.declared.fault.FrameFault.{FrameFault}
use Rattle.smux_frames.specs.Reading.{Pending, fault_now, frame_now, pending_now}
use Rattle.smux_acts.specs.declared.event.Event.{Event}
use Rattle.smux_acts.specs.declared.event.Event.TheVariants as events
use Rattle.smux_acts.specs.Each.{Each}
use Rattle.smux_acts.specs.Signals.{Signal, Syn, Fin, Psh, Nop}
use Rattle.smux_acts.specs.Acts.{Act, Began, Wrote, Shut, Took, Finished, Came, called, delivered, ended, event_of, finished, finishes, got, live, living, May, opened_in, over, sent, sent_in, streams}
use Rattle.smux_acts.proofs.Eachs.{by_pushes, each_push, each_snoc}
use Rattle.smux_acts.proofs.Pushes.{finished_push}
use Rattle.smux_acts.proofs.Takers.{Taker, taker_goes, taker_start}
use Rattle.smux_acts.proofs.Rows as rows
use Rattle.smux_acts.proofs.Rows.{Row, row}
use Rattle.smux_store.specs.declared.answers.Open.TheVariants as opens
use Rattle.smux_store.specs.declared.answers.Taken.TheVariants as takes
use Rattle.smux_store.specs.Kept.{holding, untaken, IsOrderly}
use Rattle.smux_store.proofs.OrderLemmas.{act_goes, count_in, gained, holding_start, living_start, opened_inv, orderly_start}
use Rattle.smux_streams.specs.declared.answers.Fed.{Fed}
use Rattle.smux_streams.specs.declared.answers.Write.TheVariants as writes
use Rattle.smux_streams.specs.Call.{Entry, Opens, Writes, Closes, Outs, Feeds, Takes, Holds, IsCall}
use Rattle.smux_streams.specs.History.{Seen, acted, acts_of, byte_seen, come, entry_seen, given, given_in, left, outbytes, seen, signal_of, with_fault}
use Rattle.smux_streams.specs.Laws.{BoundsHold, NothingAfterEnd, taken_in, tells_end}
use Rattle.smux_streams.specs.Legal.{IsAnswered, Answers, IsLegal, Run, has_room, run, run_by, take_answer, waits, waits_by}
use Rattle.smux_streams.proofs.OutLemmas.{bytes_opt, left_push, outbytes_push}
use Rattle.smux_streams.proofs.KeepLemmas.{given_push, seen_push}
use Rattle.smux_streams.proofs.FeedLemmas.{run_seen}
use Rattle.smux_streams.proofs.EntryLemmas.{end_inv, end_may, took_inv, took_may}
use Rattle.smux_streams.proofs.Pairs.{legal_push}

-- what is kept of one history
pub record Lone (client : Bool) (given : List ℕ) (s : Seen) : Type 0 where
  pub orderly : IsOrderly client s.acts
  pub taker : Taker s.acts
  pub within : length given ≤ length (outbytes s.acts)
  pub outgoing : length (left given s.acts) ≤ 1048576
  pub few : living s.acts ≤ 1024
  pub held : holding s.acts ≤ 4194304

pub lone_start : (client : Bool) → Lone client [] (seen client [])
unfolding seen outbytes sent
lone_start client =
    let few = living_start in
    let held = holding_start in
    record {
      orderly = orderly_start client;
      taker = taker_start;
      within = omega arith;
      outgoing = omega arith;
      few = omega (arith, few);
      held = omega (arith, held);
    }

-- an act keeps the bounds
pub record Fits (given : List ℕ) (a : List Act) (x : Act) : Type 0 where
  pub outgoing : length (left given a) + length (bytes_opt (sent_in x)) ≤ 1048576
  pub few : living a + count_in (opened_in x) ≤ 1024
  pub held : holding a + length (gained x) ≤ 4194304

-- one act more, and whatever is pending then
pub act_lone : (client : Bool) (given : List ℕ) (s : Seen) (p : Pending) (x : Act)
    → May client s.acts x
    → Fits given s.acts x
    → Lone client given s
    → Lone client given (record { pending = p; acts = s.acts ++ x ∷ [] })
act_lone client given s p x m f k =
    let g = act_goes client s.acts x (row m) m k.orderly in
    let all = ap length (outbytes_push s.acts x)
    ∙ length-append (outbytes s.acts) (bytes_opt (sent_in x)) in
    let rest = ap length (left_push given s.acts x k.within)
    ∙ length-append (left given s.acts) (bytes_opt (sent_in x)) in
    let before = k.within in
    record {
      orderly = g.orderly;
      taker = taker_goes client s.acts x (row m) k.taker;
      within = omega (arith, all, before);
      outgoing = omega (arith, rest, f.outgoing);
      few = omega (arith, g.living, f.few);
      held = omega (arith, g.holding, f.held);
    }

-- whatever is pending
pending_lone : (client : Bool) (given : List ℕ) (s : Seen) (p : Pending)
    → Lone client given s
    → Lone client given (record { pending = p; acts = s.acts })
pending_lone client given s p k = record {
  orderly = k.orderly;
  taker = k.taker;
  within = k.within;
  outgoing = k.outgoing;
  few = k.few;
  held = k.held;
}

-- a frame that need not wait keeps the bounds
came_fits : (client : Bool) (given : List ℕ) (s : Seen) (x : Signal) (e : Option Event)
    → Row client s.acts (Came x e)
    → May client s.acts (Came x e)
    → waits_by given s.acts x e ≡ false
    → Lone client given s
    → Fits given s.acts (Came x e)
came_fits client given s x e (rows.opens _ t f) m w k =
    let i = opened_inv _ (ltb (living s.acts) 1024) t m in
    let l = ltb-true (living s.acts) 1024 i.1 in
    record {
      outgoing = omega (arith, k.outgoing);
      few = omega (arith, l);
      held =
          omega (arith, k.held);
    }
came_fits client given s x e (rows.refuses _ t f) m w k =
    let l = leb-true _ 1048576 (not-false (has_room given s.acts 8) w) in
    record { outgoing = omega (arith, l); few = omega (arith, k.few); held = omega (arith, k.held) }
came_fits client given s x e (rows.ready _ _ t bytes o f) m w k =
    let l = leb-true _ 4194304 (not-false (leb (holding s.acts + length bytes) 4194304) w) in
    record {
      outgoing = omega (arith, k.outgoing);
      few = omega (arith, k.few);
      held =
          omega (arith, l);
    }
came_fits client given s x e (rows.syn _ _ t) m w k =
    record {
      outgoing = omega (arith, k.outgoing);
      few = omega (arith, k.few);
      held =
          omega (arith, k.held);
    }
came_fits client given s x e (rows.empty _ _ t) m w k =
    record {
      outgoing = omega (arith, k.outgoing);
      few = omega (arith, k.few);
      held =
          omega (arith, k.held);
    }
came_fits client given s x e (rows.passed _ _ t bytes f) m w k =
    record {
      outgoing = omega (arith, k.outgoing);
      few = omega (arith, k.few);
      held =
          omega (arith, k.held);
    }
came_fits client given s x e (rows.ends _ _ t o f) m w k =
    record {
      outgoing = omega (arith, k.outgoing);
      few = omega (arith, k.few);
      held =
          omega (arith, k.held);
    }
came_fits client given s x e (rows.fin _ _ t f) m w k =
    record {
      outgoing = omega (arith, k.outgoing);
      few = omega (arith, k.few);
      held =
          omega (arith, k.held);
    }
came_fits client given s x e (rows.nop _ _ t) m w k =
    record {
      outgoing = omega (arith, k.outgoing);
      few = omega (arith, k.few);
      held =
          omega (arith, k.held);
    }
came_fits client given s x e (rows.upd _ _ t c v) m w k =
    record {
      outgoing = omega (arith, k.outgoing);
      few = omega (arith, k.few);
      held =
          omega (arith, k.held);
    }

-- one byte of a feed
byte_lone : (client : Bool) (given : List ℕ) (s : Seen) (p : Pending) (o : Option Frame)
    → waits client given s.acts o ≡ false
    → Lone client given s
    → Lone client given (record { pending = p; acts = come client s.acts o })
byte_lone client given s p None w k = pending_lone client given s p k
byte_lone client given s p (Some f) w k =
    let x = signal_of f in
    let e = event_of client s.acts x in
    act_lone client given s p (Came x e) refl
    (came_fits client given s x e (row {client = client} {a = s.acts} {x = Came x e} refl) refl w k)
    k

-- the bytes of a feed
pub run_lone : (client : Bool) (given : List ℕ) (s : Seen) (bytes : List ℕ)
    → Lone client given s
    → Lone client given (run client given s bytes).seen
run_lone client given s [] k = k
run_lone client given s (b ∷ bytes) k =
    at (fault_now s.pending b) (waits client given s.acts (frame_now s.pending b)) refl
    (λ t. run_lone client given (byte_seen client s b) bytes t)
  where
    at : (o : Option FrameFault) (w : Bool)
        → waits client given s.acts (frame_now s.pending b) ≡ w
        → (Lone client given (byte_seen client s b)
        → Lone client given (run client given (byte_seen client s b) bytes).seen)
        → Lone client given (run_by o w s (run client given (byte_seen client s b) bytes)).seen
    at (Some f) w e go = pending_lone client given s (record s.pending { fault = Some f }) k
    at None true e go = k
    at None false e go = go
        (byte_lone client given s (pending_now s.pending b) (frame_now s.pending b) e k)
