-- What a seat adds in several steps.
use Rattle.std.proofs.Common.{◌≡◌, ℕ, List, [], ◌++◌, refl, sym, ap, ◌∙◌, append_assoc}
use Rattle.std.proofs.lemmas.List.{append-nil, map-append}
use Rattle.turn_lock.specs.declared.value.Turn.{Ghosts}
use Rattle.turn_lock.specs.declared.seat.Seat.{Seat}
use Rattle.turn_lock.specs.declared.view.Entry.{Entry}
use Rattle.turn_lock.specs.Histories.{entry}
use Rattle.turn_lock.specs.Seats.{IsSameSeat, mine_of, number_of}
use Rattle.session_run.specs.Adds.{AddsCalls, entries_by}

pub entries_by-append : {C A : Type 0} (number : ℕ) (xs ys : List (C × A))
    → entries_by number (xs ++ ys) ≡ entries_by number xs ++ entries_by number ys
entries_by-append {C} {A} number xs ys =
    map-append (λ (c : C × A). entry number c.0 c.1) xs ys

module _ {V C A T : Type 0} {g : Ghosts V C A T} where
  pub IsSameSeat-refl : (a : Seat V C A T g) → IsSameSeat a a
  IsSameSeat-refl a =
      record { same_lock = refl; same_number = refl; same_setting = refl; same_share = refl }

  pub IsSameSeat-then : (a b c : Seat V C A T g)
      → IsSameSeat a b
      → IsSameSeat b c
      → IsSameSeat a c
  IsSameSeat-then a b c x y = record {
    same_lock = y.same_lock ∙ x.same_lock;
    same_number = y.same_number ∙ x.same_number;
    same_setting = y.same_setting ∙ x.same_setting;
    same_share = y.same_share ∙ x.same_share;
  }

  -- no calls
  pub AddsCalls-none : (a : Seat V C A T g) → AddsCalls a [] a
  AddsCalls-none a =
      record { same_seat = IsSameSeat-refl a; mine = sym (append-nil (mine_of a)) }

  -- some calls and then others
  pub AddsCalls-then : (a b c : Seat V C A T g) (xs ys : List (C × A))
      → AddsCalls a xs b
      → AddsCalls b ys c
      → AddsCalls a (xs ++ ys) c
  AddsCalls-then a b c xs ys x y =
      let first : List (Entry C A) = entries_by (number_of a) xs in
      let second : List (Entry C A) = entries_by (number_of a) ys in
      record {
        same_seat = IsSameSeat-then a b c x.same_seat y.same_seat;
        mine =
            y.mine
            ∙ ap (λ (n : ℕ). mine_of b ++ entries_by n ys) x.same_seat.same_number
            ∙ ap (λ l. l ++ second) x.mine
            ∙ append_assoc (mine_of a) first second
            ∙ ap (λ l. mine_of a ++ l) (sym (entries_by-append (number_of a) xs ys));
      }

  -- the calls of a seat that had none, and whose number is known
  pub first_entries : (old new : Seat V C A T g) (n : ℕ) (calls : List (C × A))
      → mine_of old ≡ []
      → number_of old ≡ n
      → AddsCalls old calls new
      → mine_of new ≡ entries_by n calls
  first_entries old new n calls none is adds =
      adds.mine
      ∙ ap (λ l. l ++ entries_by (number_of old) calls) none
      ∙ ap (λ m. entries_by m calls) is

  -- the calls of a seat whose number is known
  pub more_entries : (old new : Seat V C A T g) (n : ℕ) (calls : List (C × A))
      → number_of old ≡ n
      → AddsCalls old calls new
      → mine_of new ≡ mine_of old ++ entries_by n calls
  more_entries old new n calls is adds =
      adds.mine ∙ ap (λ m. mine_of old ++ entries_by m calls) is
