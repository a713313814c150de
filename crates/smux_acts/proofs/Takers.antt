-- What one end keeps of what was taken.
use Rattle.std.proofs.Common.{◌≡◌, ℕ, Bool, true, false, eqb, cond, not, ◌&&◌, ◌||◌, Option, Some, None, List, [], ◌∷◌, ◌++◌, ⊎_elim, refl, sym, ap, subst, ◌∙◌, append_assoc}
use Rattle.std.specs.List.{cons_option, flat_map, list_any}
use Rattle.std.proofs.lemmas.List.{append-nil}
use Rattle.std.proofs.lemmas.Bool.{cases_Bool, both_ways, eqb-true, or_cases, or_left, or_right, or_from, or_parts, false_from_ne_true, and_cases, not-false}
use Rattle.smux_acts.specs.declared.event.Event.TheVariants as events
use Rattle.smux_acts.specs.Each.{IsPrefixOf}
use Rattle.smux_acts.specs.Signals.{Signal, Syn, Fin, Psh, Nop, Upd, mentions, names, finned, fins, data_of, data_in}
use Rattle.smux_acts.specs.Acts.{Act, Began, Took, Came, came, came_in, streams, opened_in, opened, got, got_in, over, ends, delivered, delivered_in, finished, finishes}
use Rattle.smux_acts.proofs.Pushes.{holds, came_push, finned_came, opened_push, got_push, over_push, delivered_push, finished_push, data_of_push}
use Rattle.smux_acts.proofs.Rows as rows
use Rattle.smux_acts.proofs.Rows.{Row}
use Rattle.smux_acts.proofs.Senders.{MayFollow}
use Rattle.smux_acts.proofs.Receivers.{other_id}

-- what is taken is what was got, and after the end nothing
pub record Taker (a : List Act) : Type 0 where
  pub part : (s : ℕ) → IsPrefixOf (delivered s a) (got s a)
  pub done : (s : ℕ) → finished s a ≡ true → (over s a ≡ true) × (delivered s a ≡ got s a)

empty_front : (xs ys : List ℕ) → xs ++ ys ≡ [] → xs ≡ []
empty_front [] ys h = refl
empty_front (x ∷ xs) ys h = cc

cancel : (a xs : List ℕ) → a ++ xs ≡ a → xs ≡ []
cancel [] xs h = h
cancel (y ∷ a) xs h = let q : a ++ xs ≡ a = cc in cancel a xs q

got_more : (s : ℕ) (a : List Act) (x : Act)
    → IsPrefixOf (delivered s a) (got s a)
    → IsPrefixOf (delivered s a) (got s (a ++ x ∷ []))
got_more s a x p = (
  p.0 ++ got_in s x,
  rw got_push (sym (append_assoc (delivered s a) p.0 (got_in s x))
      ∙ ap (λ (l : List ℕ). l ++ got_in s x) p.1),
)

part_goes : (client : Bool) (a : List Act) (x : Act)
    → Row client a x
    → Taker a
    → (s : ℕ)
    → IsPrefixOf (delivered s a ++ delivered_in s x) (got s (a ++ x ∷ []))
part_goes client a x (rows.took _ _ t bytes rest n e) k s = at (eqb s t) refl
  where
    at : (b : Bool)
        → eqb s t ≡ b
        → IsPrefixOf (delivered s a ++ cond (eqb s t) bytes []) (got s (a ++ Took t bytes ∷ []))
    at true q = rw (q, got_push, append-nil)
        (rest, other_id (λ k. (delivered k a ++ bytes) ++ rest ≡ got k a) s t q e)
    at false q = rw (q, append-nil) (got_more s a (Took t bytes) (k.part s))
part_goes client a x r k s = rw append-nil (got_more s a x (k.part s))

-- nothing is got or taken once the end was taken
pub still : (client : Bool) (a : List Act) (x : Act)
    → Row client a x
    → (s : ℕ)
    → over s a ≡ true
    → delivered s a ≡ got s a
    → (delivered_in s x ≡ []) × (got_in s x ≡ [])
still client a x (rows.took _ _ t bytes rest n e) s o d = at (eqb s t) refl
  where
    at : (b : Bool)
        → eqb s t ≡ b
        → (delivered_in s (Took t bytes) ≡ []) × (got_in s (Took t bytes) ≡ [])
    at true q =
        let e' = other_id (λ k. (delivered k a ++ bytes) ++ rest ≡ got k a) s t q e in
        let z : bytes ++ rest ≡ [] =
        cancel (delivered s a) (bytes ++ rest) (sym (append_assoc (delivered s a) bytes rest)
        ∙ e' ∙ sym d) in
        absurd (n (empty_front bytes rest z))
    at false q = (rw q refl, refl)
still client a x (rows.ready _ _ t bytes h e) s o d = at (eqb s t) refl
  where
    at : (b : Bool)
        → eqb s t ≡ b
        → (delivered_in s (Came (Psh t bytes) (Some (events.Ready t))) ≡ [])
        × (got_in s (Came (Psh t bytes) (Some (events.Ready t))) ≡ [])
    at true q = absurd (both_ways (over s a) (other_id (λ k. over k a ≡ false) s t q e) o)
    at false q = (refl, rw q refl)
still client a x r s o d = (refl, refl)

done_goes : (client : Bool) (a : List Act) (x : Act)
    → Row client a x
    → (s : ℕ)
    → finishes s x ≡ true
    → (over s a ≡ true) × (delivered s a ≡ got s a)
done_goes client a x (rows.finishes _ _ t o d) s h =
    (other_id (λ k. over k a ≡ true) s t h o, other_id (λ k. delivered k a ≡ got k a) s t h d)
done_goes client a x r s h = cc

pub taker_goes : (client : Bool) (a : List Act) (x : Act)
    → Row client a x
    → Taker a
    → Taker (a ++ x ∷ [])
taker_goes client a x row k = record {
  part = λ s. rw delivered_push (part_goes client a x row k s);
  done = λ s h.
      let p = ⊎_elim (λ (f : finished s a ≡ true). k.done s f)
      (λ (f : finishes s x ≡ true). done_goes client a x row s f)
      (or_cases (finished s a) (finishes s x) (sym (finished_push s a x) ∙ h)) in
      let q = still client a x row s p.0 p.1 in
      rw (over_push, delivered_push, got_push)
      (or_left (over s a) (ends s x) p.0, rw (q.0, q.1, append-nil, append-nil) p.1);
}

pub taker_start : Taker []
unfolding delivered got finished over
taker_start = record { part = λ s. ([], refl); done = λ s h. cc }
