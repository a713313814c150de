-- No bytes of a stream are taken once its end was told.
use Rattle.std.proofs.Common.{◌≡◌, ◌≢◌, ℕ, ◌+◌, ◌*◌, ◌<◌, ◌≤◌, Bool, true, false, eqb, leb, ltb, cond, not, ◌||◌, Option, Some, None, List, [], ◌∷◌, ◌++◌, inl, inr, ⊎_elim, refl, sym, ap, subst, ◌∙◌, arith, length, take, drop}
use Rattle.std.specs.List.{fold, list_any}
use Rattle.std.proofs.Math.Seq.{drop-length, take-nil}
use Rattle.std.proofs.lemmas.List.{append-nil, length-append, length-drop, length-take}
use Rattle.std.proofs.lemmas.List.Folds.{list_any-append}
use Rattle.std.proofs.lemmas.Bool.{cases_Bool, eqb-true, leb-true, ltb-true, not-false}
use Rattle.smux_frames.specs.declared.frame.Frame.{Frame}
use Rattle.smux_frames.specs.declared.fault.FrameFault.{FrameFault}
use Rattle.smux_frames.specs.Reading.{Pending, fault_now, frame_now, pending_now}
use Rattle.smux_acts.specs.declared.event.Event.{Event}
use Rattle.smux_acts.specs.declared.event.Event.TheVariants as events
use Rattle.smux_acts.specs.Each.{Each}
use Rattle.smux_acts.specs.Signals.{Signal, Syn, Fin, Psh, Nop}
use Rattle.smux_acts.specs.Acts.{Act, Began, Wrote, Shut, Took, Finished, Came, called, delivered, ended, event_of, finished, finishes, got, live, living, May, opened_in, over, sent, sent_in, streams}
use Rattle.smux_acts.proofs.Eachs.{by_pushes, each_push, each_snoc}
use Rattle.smux_acts.proofs.Pushes.{finished_push}
use Rattle.smux_acts.proofs.Takers.{Taker, taker_goes, taker_start}
use Rattle.smux_acts.proofs.Rows as rows
use Rattle.smux_acts.proofs.Rows.{Row, row}
use Rattle.smux_store.specs.declared.answers.Open.TheVariants as opens
use Rattle.smux_store.specs.declared.answers.Taken.TheVariants as takes
use Rattle.smux_store.specs.Kept.{holding, untaken, IsOrderly}
use Rattle.smux_store.proofs.OrderLemmas.{act_goes, count_in, gained, holding_start, living_start, opened_inv, orderly_start}
use Rattle.smux_streams.specs.declared.answers.Fed.{Fed}
use Rattle.smux_streams.specs.declared.answers.Write.TheVariants as writes
use Rattle.smux_streams.specs.Call.{Entry, Opens, Writes, Closes, Outs, Feeds, Takes, Holds, IsCall}
use Rattle.smux_streams.specs.History.{Seen, acted, acts_of, byte_seen, come, entry_seen, given, given_in, left, outbytes, seen, signal_of, with_fault}
use Rattle.smux_streams.specs.Laws.{BoundsHold, NothingAfterEnd, taken_in, tells_end}
use Rattle.smux_streams.specs.Legal.{IsAnswered, Answers, IsLegal, Run, has_room, run, run_by, take_answer, waits, waits_by}
use Rattle.smux_streams.proofs.OutLemmas.{bytes_opt, left_push, outbytes_push}
use Rattle.smux_streams.proofs.KeepLemmas.{given_push, seen_push}
use Rattle.smux_streams.proofs.FeedLemmas.{run_seen}
use Rattle.smux_streams.proofs.EntryLemmas.{end_inv, end_may, took_inv, took_may}
use Rattle.smux_streams.proofs.Pairs.{legal_push}
use Rattle.smux_streams.proofs.Bounds.{lone}

or_false : (b : Bool) → (b || false) ≡ b
or_false true = refl
or_false false = refl

-- no byte of a feed tells an end
bytes_told : (client : Bool) (s : ℕ) (t : Seen) (bytes : List ℕ)
    → finished s (fold (byte_seen client) t bytes).acts ≡ finished s t.acts
bytes_told client s t [] = refl
bytes_told client s t (b ∷ bytes) =
    bytes_told client s (byte_seen client t b) bytes ∙ one (frame_now t.pending b)
  where
    one : (o : Option Frame) → finished s (come client t.acts o) ≡ finished s t.acts
    one None = refl
    one (Some f) =
        finished_push s t.acts (Came (signal_of f) (event_of client t.acts (signal_of f)))
        ∙ or_false _

-- one call more tells the end of a stream, or doesn't
entry_told : (client : Bool) (s : ℕ) (t : Seen) (e : Entry)
    → finished s (entry_seen client t e).acts ≡ (finished s t.acts || tells_end s e)
entry_told client s t (Opens (opens.Sid n)) = finished_push s t.acts (Began n)
entry_told client s t (Writes sid bytes writes.Done) = finished_push s t.acts (Wrote sid bytes)
entry_told client s t (Closes sid writes.Done) = finished_push s t.acts (Shut sid)
entry_told client s t (Takes sid max (takes.Bytes bytes)) = finished_push s t.acts (Took sid bytes)
entry_told client s t (Takes sid max takes.End) = finished_push s t.acts (Finished sid)
entry_told client s t (Feeds bytes (Some fed)) =
    bytes_told client s t (take fed.consumed bytes) ∙ sym (or_false (finished s t.acts))
entry_told client s t (Opens opens.IdsSpent) = sym (or_false (finished s t.acts))
entry_told client s t (Opens opens.TooMany) = sym (or_false (finished s t.acts))
entry_told client s t (Opens opens.Full) = sym (or_false (finished s t.acts))
entry_told client s t (Opens opens.NoMemory) = sym (or_false (finished s t.acts))
entry_told client s t (Writes sid bytes writes.Unknown) = sym (or_false (finished s t.acts))
entry_told client s t (Writes sid bytes writes.Closed) = sym (or_false (finished s t.acts))
entry_told client s t (Writes sid bytes writes.Full) = sym (or_false (finished s t.acts))
entry_told client s t (Writes sid bytes writes.NoMemory) = sym (or_false (finished s t.acts))
entry_told client s t (Closes sid writes.Unknown) = sym (or_false (finished s t.acts))
entry_told client s t (Closes sid writes.Closed) = sym (or_false (finished s t.acts))
entry_told client s t (Closes sid writes.Full) = sym (or_false (finished s t.acts))
entry_told client s t (Closes sid writes.NoMemory) = sym (or_false (finished s t.acts))
entry_told client s t (Outs max answer) = sym (or_false (finished s t.acts))
entry_told client s t (Holds answer) = sym (or_false (finished s t.acts))
entry_told client s t (Takes sid max takes.Nothing) = sym (or_false (finished s t.acts))
entry_told client s t (Takes sid max takes.Unknown) = sym (or_false (finished s t.acts))
entry_told client s t (Takes sid max takes.NoMemory) = sym (or_false (finished s t.acts))
entry_told client s t (Feeds bytes None) = sym (or_false (finished s t.acts))

none_told : (client : Bool) (s : ℕ) → false ≡ finished s (acts_of client [])
unfolding seen finished
none_told client s = refl

-- an end was told exactly where a take was answered End
told_is : (client : Bool) (s : ℕ) (g : List Entry)
    → list_any (tells_end s) g ≡ finished s (acts_of client g)
told_is client s g = by_pushes
    (λ g. list_any (tells_end s) g ≡ finished s (acts_of client g))
    (none_told client s)
    (λ g e before.
    list_any-append (tells_end s) g (e ∷ [])
    ∙ ap (λ (b : Bool). list_any (tells_end s) g || b) (or_false (tells_end s e))
    ∙ ap (λ (b : Bool). b || tells_end s e) before
    ∙ sym (entry_told client s (seen client g) e)
    ∙ ap (λ (t : Seen). finished s t.acts) (sym (seen_push client g e)))
    g

-- where the end was told, no take gives bytes
nothing_more : (client : Bool) (given : List ℕ) (t : Seen) (s : ℕ) (e : Entry)
    → IsCall e
    → IsAnswered client given t e
    → Taker t.acts
    → finished s t.acts ≡ true
    → taken_in s e ≡ []
nothing_more client given t s (Takes sid max (takes.Bytes bytes)) c (inr h) k f = cc
nothing_more client given t s (Takes sid max (takes.Bytes bytes)) c (inl h) k f =
    at (eqb s sid) refl
  where
    at : (b : Bool) → eqb s sid ≡ b → cond (eqb s sid) bytes [] ≡ []
    at false q = rw q refl
    at true q =
        let told : finished sid t.acts ≡ true =
        subst (λ (n : ℕ). finished n t.acts ≡ true) (eqb-true s sid q) f in
        let all : delivered sid t.acts ≡ got sid t.acts = (k.done sid told).1 in
        let none : untaken sid t.acts ≡ [] =
        ap (λ (l : List ℕ). drop (length l) (got sid t.acts)) all ∙ drop-length (got sid t.acts) in
        let i = took_inv (live sid t.acts) (over sid t.acts) (untaken sid t.acts) bytes max c h in
        absurd (i.1.1 (i.1.0 ∙ ap (take max) none ∙ take-nil max))
nothing_more client given t s e c a k f = refl

pub end_law : NothingAfterEnd
end_law client g l s = by_pushes
    (λ g. IsLegal client g
    → Each (λ before e. list_any (tells_end s) before ≡ true → taken_in s e ≡ []) g)
    (λ z. tt)
    (λ g e before z.
    let p = legal_push client g e z in
    each_snoc (λ before e. list_any (tells_end s) before ≡ true
    → taken_in s e ≡ []) g e (before p.0)
    (λ h. nothing_more client (given g) (seen client g) s e p.1.0 p.1.1 (lone client g p.0).taker
    (sym (told_is client s g) ∙ h)))
    g l
