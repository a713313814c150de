-- The laws on every linked pair of ends.
use Rattle.std.proofs.Common.{◌≡◌, ℕ, Bool, true, false, eqb, not, ◌||◌, Some, None, List, [], ◌∷◌, ◌++◌, ⊎_elim, refl, sym, ap, subst, ◌∙◌}
use Rattle.std.specs.List.{cons_option, filter_map, flat_map, list_any}
use Rattle.std.proofs.lemmas.List.{append-nil}
use Rattle.std.proofs.lemmas.List.Elements.{filter_map-append}
use Rattle.std.proofs.lemmas.Bool.{cases_Bool, both_ways, eqb-true, or_cases, or_left, or_right, false_from_ne_true}
use Rattle.smux_acts.specs.declared.event.Event.TheVariants as events
use Rattle.smux_acts.specs.Each.{EachAfter, Each, IsPrefixOf}
use Rattle.smux_acts.specs.Signals.{Signal, Syn, Fin, Psh, Nop, Upd, mentions, names, finned, synned, syns, data_of, data_in}
use Rattle.smux_acts.specs.Acts.{Act, Began, Wrote, Shut, Took, Finished, Told, Came, sent, sent_in, came, opened, got, over, written, written_in, delivered, delivered_in, ended, finished, refused, May, IsSound}
use Rattle.smux_acts.specs.Laws.{Happening, act_at, acts, IsJoined, IsLinked, DeliversInOrder, EndIsWhole, IsWhole, NothingAfterEnd}
use Rattle.smux_acts.proofs.Eachs.{each_push, each_snoc, each_split, by_pushes, prefix_trans}
use Rattle.smux_acts.proofs.Pushes.{came_push, data_of_append, mentions_append, finned_append, synned_append}
use Rattle.smux_acts.proofs.Rows as rows
use Rattle.smux_acts.proofs.Rows.{Row, row}
use Rattle.smux_acts.proofs.Senders.{MayFollow, Sender, sender_start, sender_goes, new_id}
use Rattle.smux_acts.proofs.Receivers.{Receiver, Fits, receiver_start, receiver_goes}
use Rattle.smux_acts.proofs.Takers.{Taker, taker_start, taker_goes, still}
use Rattle.smux_acts.proofs.Worlds.{End, both, finned_more, sides, sound_push}

-- what was written is the data of what was sent
pub written_sent : (s : ℕ) (a : List Act) → written s a ≡ data_of s (sent a)
unfolding written data_of sent
written_sent s a = go a
  where
    go : (a : List Act) → flat_map (written_in s) a ≡ flat_map (data_in s) (filter_map sent_in a)
    go [] = refl
    go (Began t ∷ a) = go a
    go (Wrote t bytes ∷ a) = ap (λ (l : List ℕ). data_in s (Psh t bytes) ++ l) (go a)
    go (Shut t ∷ a) = go a
    go (Took t bytes ∷ a) = go a
    go (Finished t ∷ a) = go a
    go (Told t c w ∷ a) = go a
    go (Came signal None ∷ a) = go a
    go (Came signal (Some (events.Opened t)) ∷ a) = go a
    go (Came signal (Some (events.Ready t)) ∷ a) = go a
    go (Came signal (Some (events.Ended t)) ∷ a) = go a
    go (Came signal (Some (events.Refused t)) ∷ a) = go a

data_more : (s : ℕ) (xs ys : List Signal)
    → IsPrefixOf xs ys
    → IsPrefixOf (data_of s xs) (data_of s ys)
data_more s xs ys p = (data_of s p.0, sym (data_of_append s xs p.0) ∙ ap (data_of s) p.1)

-- what was got is the first of what the other end wrote
pub got_written : (client : Bool) (a b : List Act)
    → End client a
    → IsPrefixOf (came a) (sent b)
    → (s : ℕ)
    → IsPrefixOf (got s a) (written s b)
got_written client a b e p s = ⊎_elim
    (λ (o : opened s a ≡ true).
    rw (e.receiver.carried s o, written_sent) (data_more s (came a) (sent b) p))
    (λ (o : opened s a ≡ false). rw ((e.receiver.none s o).0) (written s b, refl))
    (cases_Bool (opened s a))

pub stream_law : DeliversInOrder
stream_law world v l side s =
    let b = both world (sides (λ side. IsSound side (acts side world)) true v.0 v.1) l in
    prefix_trans (delivered s (acts side world)) (got s (acts side world))
    (written s (acts (not side) world))
    ((b.ends side).taker.part s)
    (got_written side (acts side world) (acts (not side) world) (b.ends side) (b.joined side) s)

-- after a FIN no data of the stream follows
no_more : (s : ℕ) (xs ys : List Signal)
    → finned s xs ≡ true
    → EachAfter MayFollow xs ys
    → data_of s ys ≡ []
unfolding data_of
no_more s xs ys f e = go xs ys f e
  where
    go : (xs ys : List Signal)
        → finned s xs ≡ true
        → EachAfter MayFollow xs ys
        → flat_map (data_in s) ys ≡ []
    go xs [] f e = refl
    go xs (Psh t bytes ∷ ys) f e = ⊎_elim
        (λ (q : eqb s t ≡ true).
        absurd (both_ways (finned s xs)
        (subst (λ (k : ℕ). finned k xs ≡ false) (sym (eqb-true s t q)) e.0) f))
        (λ (q : eqb s t ≡ false).
        rw q (go (xs ++ Psh t bytes ∷ []) ys
        (rw finned_append (or_left (finned s xs) (finned s (Psh t bytes ∷ [])) f)) e.1))
        (cases_Bool (eqb s t))
    go xs (Syn t ∷ ys) f e =
        go (xs ++ Syn t ∷ []) ys
        (rw finned_append (or_left (finned s xs) (finned s (Syn t ∷ [])) f)) e.1
    go xs (Fin t ∷ ys) f e =
        go (xs ++ Fin t ∷ []) ys
        (rw finned_append (or_left (finned s xs) (finned s (Fin t ∷ [])) f)) e.1
    go xs (Nop t ∷ ys) f e =
        go (xs ++ Nop t ∷ []) ys
        (rw finned_append (or_left (finned s xs) (finned s (Nop t ∷ [])) f)) e.1
    go xs (Upd t c w ∷ ys) f e =
        go (xs ++ Upd t c w ∷ []) ys
        (rw finned_append (or_left (finned s xs) (finned s (Upd t c w ∷ [])) f)) e.1

same_data : (s : ℕ) (xs ys : List Signal)
    → IsPrefixOf xs ys
    → finned s xs ≡ true
    → Each MayFollow ys
    → data_of s xs ≡ data_of s ys
same_data s xs ys p f e =
    let k = each_split MayFollow xs p.0 (subst (Each MayFollow) (sym p.1) e) in
    sym (append-nil (data_of s xs))
    ∙ ap (λ (l : List ℕ). data_of s xs ++ l) (sym (no_more s xs p.0 f k.1))
    ∙ sym (data_of_append s xs p.0) ∙ ap (data_of s) p.1

pub whole : (client : Bool) (a b : List Act)
    → End client a
    → End (not client) b
    → IsPrefixOf (came a) (sent b)
    → (s : ℕ)
    → finished s a ≡ true
    → IsWhole s a b
whole client a b e o p s h =
    let d = e.taker.done s h in
    let f : finned s (came a) ≡ true = e.receiver.caught s d.0 in
    let op : opened s a ≡ true = ⊎_elim
    (λ (z : opened s a ≡ true). z)
    (λ (z : opened s a ≡ false). absurd (both_ways (over s a) (e.receiver.none s z).1 d.0))
    (cases_Bool (opened s a)) in
    record {
      delivered = d.1 ∙ e.receiver.carried s op ∙ same_data s (came a) (sent b) p f o.sender.ordered
          ∙ sym (written_sent s b);
      closed = ⊎_elim
          (λ (z : (opened s b ≡ true) × (ended s b ≡ true)). or_left (ended s b) (refused s b) z.1)
          (λ (z : refused s b ≡ true). or_right (ended s b) (refused s b) z)
          (o.sender.fin s (finned_more s (came a) (sent b) p f));
    }

pub end_law : EndIsWhole
end_law world v l side s h =
    let b = both world (sides (λ side. IsSound side (acts side world)) true v.0 v.1) l in
    whole side (acts side world) (acts (not side) world) (b.ends side) (b.ends (not side))
    (b.joined side) s h

taker_of : (client : Bool) (a : List Act) → IsSound client a → Taker a
taker_of client a =
    by_pushes (λ a. IsSound client a → Taker a) (λ s. taker_start) (λ xs x before s. let p =
    sound_push client xs x s in taker_goes client xs x (row p.1) (before p.0)) a

pub after_law : NothingAfterEnd
after_law client a sound s =
    by_pushes (λ a. IsSound client a
    → Each (λ before x. finished s before ≡ true → delivered_in s x ≡ []) a) (λ z. tt)
    (λ xs x before z.
    let p = sound_push client xs x z in let t = taker_of client xs p.0 in
    each_snoc (λ before x. finished s before ≡ true
    → delivered_in s x ≡ []) xs x (before p.0) (λ f. let d =
    t.done s f in (still client xs x (row p.1) s d.0 d.1).0))
    a sound
