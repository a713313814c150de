-- Histories: lists of calls with their answers, with or without the number of the calling seat.
use Rattle.std.specs.Prelude.{ℕ, List, [], ◌∷◌, ◌++◌, map, length, ◌==◌, nat_le, if◌then◌else◌}
use Rattle.std.specs.List.{filter}
use Rattle.turn_lock.specs.declared.view.Entry.{Entry}

-- the new value stands for each legal history of the old one with one more call, and that is legal
abbrev pub Continues : {V C A T : Type 0} → (T → List (C × A) → Type 0) → (V → T)
    → (V → List (C × A) → Type 0) → V → C → A → V → Type 0
Continues {V} {C} {A} {T} legal setting stands old call answer new = (h : List (C × A))
    → legal (setting old) h → stands old h
    → legal (setting old) (h ++ (call, answer) ∷ []) × stands new (h ++ (call, answer) ∷ [])

-- the longer of two lists
abbrev pub longer_of : {X : Type 0} → List X → List X → List X
longer_of xs ys = if nat_le (length ys) (length xs) then xs else ys

module _ {C A : Type 0} where
  -- one entry
  abbrev pub entry : ℕ → C → A → Entry C A
  entry number call answer = record { number = number; call = call; answer = answer }

  -- the calls and their answers, without the numbers of the seats
  abbrev pub calls_of : List (Entry C A) → List (C × A)
  calls_of h = map (λ e. (e.call, e.answer)) h

  -- the entries with this number, in order
  abbrev pub entries_of : ℕ → List (Entry C A) → List (Entry C A)
  entries_of number h = filter (λ e. e.number == number) h
