-- No session has two of the rows that a keeper tells.
use Rattle.std.proofs.Common.{◌≡◌, inl, inr, ℕ, Bool, true, false, not, cond, Option, Some, None, is_some, find, filter, List, [], ◌∷◌, ◌++◌, map, refl, sym, ap, ◌∙◌, subst, arith}
use Rattle.std.specs.List.{AllByRecursion, IsDistinct, filter_map}
use Rattle.std.specs.List.Sorted.{IsStrictlySortedBy}
use Rattle.std.specs.Map.{keys_of}
use Rattle.std.specs.Ordering.{nat_cmp}
use Rattle.std.specs.Cmp.Lexicographic.{slice_cmp}
use Rattle.std.proofs.lemmas.Bool.{cases_Bool}
use Rattle.std.proofs.lemmas.Map.Keys.{IsDistinct-from_sorted}
use Rattle.sqlite.specs.Store.{Ghosts}
use Rattle.sqlite.specs.Held.{Held, state}
use Rattle.sqlite.specs.Tree.{IsAscending}
use Rattle.sqlite.specs.Effect.{Database}
use Rattle.register_sql.specs.declared.row.RawRow.{RawRow}
use Rattle.register_sql.specs.declared.row.RawOldRow.{RawOldRow}
use Rattle.register_sql.specs.RawRows.{new_rows, old_rows, new_row_of, same_text}
use Rattle.register_sql.specs.Stores.{IsAtRest, NewDiffer, OldDiffer}
use Rattle.register_sql.specs.Tables.{HasSome}
use Rattle.register_sql.proofs.LawLemmas.{sessions_differ}
use Rattle.session_register.specs.declared.row.Row.{Row}
use Rattle.session_register.specs.MapRows.{AreNamed, IsRows, rows_in}
use Rattle.session_register.specs.Names.{same_name}
use Rattle.session_register.specs.Sessions.{HaveDifferentSessions}
use Rattle.session_register.specs.Stored.{read_row, told_rows}
use Rattle.session_register.proofs.NameLemmas.{same_name-key}
use Rattle.session_register.proofs.ToldLemmas.{differ_kept, is_left, new_keeps, old_keeps, read_upgraded}

abbrev names : List Row → List (List ℕ)
names rows = map (λ (row : Row). row.session) rows

-- none of the names is this one
abbrev Lacks : List ℕ → List (List ℕ) → Type 0
Lacks session found = AllByRecursion (λ name. same_name session name ≡ false) found

pub none_differ : HaveDifferentSessions []
unfolding IsDistinct
none_differ = tt

more_differ : (row : Row) (rows : List Row) → Lacks row.session (names rows)
    → HaveDifferentSessions rows → HaveDifferentSessions (row ∷ rows)
unfolding IsDistinct
more_differ row rows lacks differ = (lacks, differ)

lacks_both : (session : List ℕ) (rows more : List Row) → Lacks session (names rows)
    → Lacks session (names more) → Lacks session (names (rows ++ more))
lacks_both session [] more first second = second
lacks_both session (row ∷ rows) more first second =
    (first.0, lacks_both session rows more first.1 second)

-- ---- rows that are read

module _ {X : Type 0} (session_of : X → List ℕ) (read : X → Option Row)
    (keeps : (x : X) (row : Row) → read x ≡ Some row → row.session ≡ session_of x) where
  lacks_read : (session : List ℕ) (xs : List X)
      → AllByRecursion (λ x. same_text session (session_of x) ≡ false) xs
      → Lacks session (names (filter_map read xs))
  lacks_read session [] apart = tt
  lacks_read session (x ∷ xs) apart = go (read x) refl (lacks_read session xs apart.1)
    where
      go : (o : Option Row) → read x ≡ o → Lacks session (names (filter_map read xs))
          → Lacks session (names (filter_map read (x ∷ xs)))
      go None e later = rw e later
      go (Some row) e later = rw e (ap (same_name session) (keeps x row e) ∙ apart.0, later)

  differ_read : (xs : List X)
      → IsAscending (λ a b. same_text (session_of a) (session_of b) ≡ false) xs
      → HaveDifferentSessions (filter_map read xs)
  differ_read [] apart = none_differ
  differ_read (x ∷ xs) apart = go (read x) refl (differ_read xs apart.1)
    where
      go : (o : Option Row) → read x ≡ o → HaveDifferentSessions (filter_map read xs)
          → HaveDifferentSessions (filter_map read (x ∷ xs))
      go None e later = rw e later
      go (Some row) e later =
          rw e (more_differ row (filter_map read xs)
          (subst (λ s. Lacks s (names (filter_map read xs))) (sym (keeps x row e))
          (lacks_read (session_of x) xs apart.0))
          later)

-- ---- the rows of both tables

abbrev Other : RawRow → RawOldRow → Type 0
Other raw old = same_text raw.session old.session ≡ false

none_is : (session : List ℕ) (rows : List RawRow) → new_row_of session rows ≡ None
    → AllByRecursion (λ (raw : RawRow). same_text raw.session session ≡ false) rows
none_is session [] none = tt
none_is session (raw ∷ rows) none = elim (cases_Bool (same_text raw.session session)) [
  | inl same ↦ absurd (let e = rw same at none in cc)
  | inr other ↦ (other, none_is session rows (rw other at none))
]

is_none : (row : Option RawRow) → not (is_some row) ≡ true → row ≡ None
is_none None left = refl
is_none (Some raw) left = absurd (cc)

left_apart : (rows : List RawRow) (olds : List RawOldRow)
    → AllByRecursion (λ (old : RawOldRow). AllByRecursion (λ (raw : RawRow). Other raw old) rows)
    (filter (λ (old : RawOldRow). is_left rows old.session) olds)
left_apart rows [] = tt
left_apart rows (old ∷ olds) = elim (cases_Bool (is_left rows old.session)) [
  | inl left ↦
      rw left (
        none_is old.session rows (is_none (new_row_of old.session rows) left),
        left_apart rows olds,
      )
  | inr gone ↦ rw gone (left_apart rows olds)
]

firsts : (raw : RawRow) (rows : List RawRow) (olds : List RawOldRow)
    → AllByRecursion (λ (old : RawOldRow). AllByRecursion (λ (r : RawRow). Other r old) (raw ∷ rows))
    olds
    → AllByRecursion (λ (old : RawOldRow). Other raw old) olds
firsts raw rows [] apart = tt
firsts raw rows (old ∷ olds) apart = (apart.0.0, firsts raw rows olds apart.1)

rests : (raw : RawRow) (rows : List RawRow) (olds : List RawOldRow)
    → AllByRecursion (λ (old : RawOldRow). AllByRecursion (λ (r : RawRow). Other r old) (raw ∷ rows))
    olds
    → AllByRecursion (λ (old : RawOldRow). AllByRecursion (λ (r : RawRow). Other r old) rows) olds
rests raw rows [] apart = tt
rests raw rows (old ∷ olds) apart = (apart.0.1, rests raw rows olds apart.1)

-- the rows that both tables tell
abbrev both : List RawRow → List RawOldRow → List Row
both rows olds = filter_map read_row rows ++ filter_map read_upgraded olds

both_differ : (rows : List RawRow) (olds : List RawOldRow) → NewDiffer rows → OldDiffer olds
    → AllByRecursion (λ (old : RawOldRow). AllByRecursion (λ (r : RawRow). Other r old) rows) olds
    → HaveDifferentSessions (both rows olds)
both_differ [] olds new_apart old_apart apart =
    differ_read (λ (old : RawOldRow). old.session) read_upgraded old_keeps olds old_apart
both_differ (raw ∷ rows) olds new_apart old_apart apart =
    go (read_row raw) refl
    (both_differ rows olds new_apart.1 old_apart (rests raw rows olds apart))
  where
    lacks : Lacks raw.session (names (both rows olds))
    lacks = lacks_both raw.session (filter_map read_row rows) (filter_map read_upgraded olds)
        (lacks_read (λ (r : RawRow). r.session) read_row new_keeps raw.session rows new_apart.0)
        (lacks_read (λ (old : RawOldRow). old.session) read_upgraded old_keeps raw.session olds
        (firsts raw rows olds apart))

    go : (o : Option Row) → read_row raw ≡ o → HaveDifferentSessions (both rows olds)
        → HaveDifferentSessions (both (raw ∷ rows) olds)
    go None e later = rw e later
    go (Some row) e later =
        rw e (more_differ row (both rows olds)
        (subst (λ s. Lacks s (names (both rows olds))) (sym (new_keeps raw row e)) lacks) later)

-- those that a store tells
pub told_differ : {S : Type 0} (g : Ghosts S) (held : Held S) → IsAtRest (state g held)
    → HasSome (state g held).now.schema → HaveDifferentSessions (told_rows (state g held).now)
told_differ g held rest some =
    let db : Database = (state g held).now in
    let differ = sessions_differ db rest.sound rest.rising some in
    both_differ (new_rows db) _ differ.0
    (differ_kept (λ (old : RawOldRow). old.session) read_upgraded old_keeps
    (λ (old : RawOldRow). is_left (new_rows db) old.session) (old_rows db) differ.1)
    (left_apart (new_rows db) (old_rows db))

-- ---- rows in a map

pub nothing_kept : AreNamed [] × IsRows [] × HaveDifferentSessions (rows_in [])
nothing_kept = (tt, λ k d within. absurd (omega (arith, within)), none_differ)

named_keys : (es : List (List ℕ × Row)) → AreNamed es → keys_of es ≡ names (rows_in es)
named_keys [] named = refl
named_keys (e ∷ es) named = λ i. named.0 i ∷ named_keys es named.1 i

pub named_differ : (es : List (List ℕ × Row)) → AreNamed es
    → IsStrictlySortedBy (slice_cmp nat_cmp) (keys_of es) → HaveDifferentSessions (rows_in es)
named_differ es named sorted =
    subst (IsDistinct same_name) (named_keys es named)
    (subst (λ (test : List ℕ → List ℕ → Bool). IsDistinct test (keys_of es))
    (λ i a b. same_name-key a b i)
    (IsDistinct-from_sorted (slice_cmp nat_cmp) (keys_of es) sorted))
