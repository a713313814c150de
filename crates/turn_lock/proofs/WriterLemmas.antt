-- What a history has of one writer.
use Rattle.std.proofs.Common.{◌≡◌, ℕ, Bool, true, false, cond, eq-eqb, ne_eqb, ◌≢◌, List, [], ◌∷◌, sym, refl, ap, ◌∙◌}
use mathlib.Core.Logic.{dite}
use native.Mathlib.Decide.{ℕ_discrete}
use Rattle.std.specs.List.{filter}
use Rattle.turn_lock.specs.declared.view.Entry.{Entry}
use Rattle.turn_lock.specs.Histories.{entries_of}

module _ {C A : Type 0} where
  keeps_head : (q : ℕ) (e : Entry C A) (h : List (Entry C A)) → e.number ≡ q
      → entries_of q (e ∷ h) ≡ e ∷ entries_of q h
  keeps_head q e h is = ap (λ (b : Bool). cond b (e ∷ entries_of q h) (entries_of q h)) (eq-eqb e.number q is)

  drops_head : (q : ℕ) (e : Entry C A) (h : List (Entry C A)) → e.number ≢ q
      → entries_of q (e ∷ h) ≡ entries_of q h
  drops_head q e h ne = ap (λ (b : Bool). cond b (e ∷ entries_of q h) (entries_of q h)) (ne_eqb e.number q ne)

module _ {C A : Type 0} (p : Entry C A → Bool) where
  abbrev Entries : Type 0
  Entries = List (Entry C A)

  -- where none of a list passes, its head does not, nor does any of its tail
  head_fails : (e : Entry C A) (l : Entries) (b : Bool) → p e ≡ b → filter p (e ∷ l) ≡ [] → (b ≡ false)
      × (filter p l ≡ [])
  head_fails e l true is no_pass =
      let all : e ∷ filter p l ≡ [] = sym (ap (λ (c : Bool). cond c (e ∷ filter p l) (filter p l)) is)
      ∙ no_pass in absurd (cc)
  head_fails e l false is no_pass =
      (refl, sym (ap (λ (c : Bool). cond c (e ∷ filter p l) (filter p l)) is) ∙ no_pass)

  -- where all entries that pass are of one seat, those of the history are those of that seat
  one_writer : (r : ℕ) (h : Entries) → ((q : ℕ) → q ≢ r → filter p (entries_of q h) ≡ [])
      → filter p h ≡ filter p (entries_of r h)
  one_writer r [] no_other = refl
  one_writer r (e ∷ h) no_other =
      let more : (q : ℕ) → q ≢ r → filter p (entries_of q h) ≡ [] = λ q ne. dite (ℕ_discrete e.number q)
      (λ is. (head_fails e (entries_of q h) (p e) refl
      (ap (filter p) (sym (keeps_head q e h is)) ∙ no_other q ne)).1)
      (λ other. ap (filter p) (sym (drops_head q e h other)) ∙ no_other q ne) in
      let rest = one_writer r h more in
      dite (ℕ_discrete e.number r)
      (λ is. ap (λ (l : Entries). cond (p e) (e ∷ l) l) rest ∙ ap (filter p) (sym (keeps_head r e h is)))
      (λ other.
      let fails = head_fails e (entries_of e.number h) (p e) refl
      (ap (filter p) (sym (keeps_head e.number e h refl)) ∙ no_other e.number other) in
      ap (λ (b : Bool). cond b (e ∷ filter p h) (filter p h)) fails.0 ∙ rest
      ∙ ap (filter p) (sym (drops_head r e h other)))

  -- of a complete history, the entries of a kind are those in the list, where one seat alone made such calls
  pub same_writer : (r : ℕ) (h mine : Entries) → ((q : ℕ) → entries_of q h ≡ entries_of q mine)
      → ((q : ℕ) → q ≢ r → filter p (entries_of q mine) ≡ []) → filter p h ≡ filter p mine
  same_writer r h mine all no_other =
      one_writer r h (λ q ne. ap (filter p) (all q) ∙ no_other q ne) ∙ ap (filter p) (all r)
      ∙ sym (one_writer r mine no_other)
