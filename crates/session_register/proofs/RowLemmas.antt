-- The row of a session among rows.
use Rattle.std.proofs.Common.{◌≡◌, ℕ, Bool, true, false, cond, Option, Some, None, List, [], ◌∷◌, sym, ap, ◌∙◌, refl, subst}
use Rattle.std.specs.Ordering.{nat_cmp, match_ordering}
use Rattle.std.specs.declared.cmp.Ordering.{Ordering}
use Rattle.std.specs.declared.cmp.Ordering.TheVariants.{Less, Equal, Greater}
use Rattle.std.specs.Cmp.Lexicographic.{slice_cmp}
use Rattle.std.specs.List.{All, AllByRecursion}
use Rattle.std.specs.Option.{IfSome}
use Rattle.std.specs.Map.{lookup}
use Rattle.std.specs.BTreeMap.{BTreeMap, Updates, insert_entry, is_at}
use Rattle.std.proofs.lemmas.Map.Lookups.{exact_bytes}
use Rattle.chan_values.specs.declared.side.Side.{Side}
use Rattle.chan_values.specs.declared.side.Side.TheVariants.{Plugin, Agent}
use Rattle.session_register.specs.declared.answer.Open.{Open}
use Rattle.session_register.specs.declared.row.Row.{Row}
use Rattle.session_register.specs.Names.{same_name}
use Rattle.session_register.specs.Rows.{Changes, Entry, Finds, IsAnswered, Meets, IsRow, Puts, opened_row, row_after, row_of, session_of}
use Rattle.session_register.specs.MapRows.{AreNamed, rows_in}
use Rattle.session_register.proofs.NameLemmas.{same_name-key, same_name-true}

named-by : (b : Bool) (session : List ℕ) (first row : Row) (found : Option Row)
    → (b ≡ true → session ≡ first.session)
    → (found ≡ Some row → session ≡ row.session)
    → cond b (Some first) found ≡ Some row → session ≡ row.session
named-by true session first row found here later is =
    let same : first ≡ row = cc in here refl ∙ ap (λ (r : Row). r.session) same
named-by false session first row found here later is = later is

-- the row that is found is the session's
pub row_of-named : (rows : List Row) (session : List ℕ) (row : Row)
    → row_of rows session ≡ Some row → session ≡ row.session
row_of-named [] session row is = cc
row_of-named (first ∷ rows) session row is =
    named-by (same_name session first.session) session first row (row_of rows session)
    (same_name-true session first.session) (row_of-named rows session row) is

-- an opening leaves the session of a row
pub opened-named : (answer : Open) (role : Side) (row : Row) → (opened_row answer role row).session
    ≡ row.session
opened-named answer Plugin row = refl
opened-named answer Agent row = refl

-- a call that found a row and put another in its place
pub meets-put : (entry : Entry) (before mid after : Option (List Row)) (found : Option Row)
    (row : Row)
    → Finds before (session_of entry) found → mid ≡ before → Puts row mid after
    → (((rows : List Row) → found ≡ row_of rows (session_of entry)
    → row.session ≡ session_of entry))
    → IsAnswered found entry → row_after entry found ≡ Some row
    → Meets entry before after
meets-put entry None mid after found row finds same puts named answered becomes =
    subst (λ m. Puts row m after) same puts
meets-put entry (Some rows) mid after found row finds same puts named answered becomes =
    let put : Puts row (Some rows) after = subst (λ m. Puts row m after) same puts in
    let is_named = named rows finds in
    let after_is : row_after entry (row_of rows (session_of entry)) ≡ Some row =
    ap (row_after entry) (sym finds) ∙ becomes in (
      subst (λ (f : Option Row). IsAnswered f entry) finds answered,
      (
        put.0,
        put.1,
        λ session. put.2 session
            ∙ (λ i. cond (same_name (is_named i) session) (sym after_is i) (row_of rows session)),
      ),
    )

stays-by : (b : Bool) (rows : List Row) (asked session : List ℕ) (after : Option Row)
    → (b ≡ true → asked ≡ session) → after ≡ row_of rows asked
    → row_of rows session ≡ cond b after (row_of rows session)
stays-by true rows asked session after same is = ap (row_of rows) (sym (same refl)) ∙ sym is
stays-by false rows asked session after same is = refl

-- a call that changed nothing
pub meets-stay : (entry : Entry) (before mid : Option (List Row)) (found : Option Row)
    → Finds before (session_of entry) found → mid ≡ before
    → IsAnswered found entry → row_after entry found ≡ found
    → Meets entry before mid
meets-stay entry None mid found finds same answered becomes = same
meets-stay entry (Some rows) mid found finds same answered becomes = (
  subst (λ (f : Option Row). IsAnswered f entry) finds answered,
  (
    rows,
    same,
    λ session. stays-by (same_name (session_of entry) session) rows (session_of entry) session
        (row_after entry (row_of rows (session_of entry)))
        (same_name-true (session_of entry) session)
        (ap (row_after entry) (sym finds) ∙ becomes ∙ finds),
  ),
)

-- ---- rows in a map

-- the row of a session is what its map has there
pub row_of-lookup : (es : List (List ℕ × Row)) (session : List ℕ) → AreNamed es
    → row_of (rows_in es) session ≡ lookup (is_at (slice_cmp nat_cmp session)) es
row_of-lookup [] session named = refl
row_of-lookup (e ∷ es) session named =
    λ i. cond
    ((ap (same_name session) (sym named.0) ∙ sym (same_name-key session e.0)) i)
    (Some e.1) (row_of-lookup es session named.1 i)

-- a value that the map has is one of its rows
pub lookup-kept : (test : List ℕ → Bool) (es : List (List ℕ × Row))
    → AllByRecursion IsRow (rows_in es)
    → IfSome (lookup test es) IsRow
lookup-kept test [] all = tt
lookup-kept test (e ∷ es) all = kept (test e.0) e.1 (lookup test es) all.0
    (lookup-kept test es all.1)
  where
    kept : (b : Bool) (row : Row) (found : Option Row) → IsRow row → IfSome found IsRow
        → IfSome (cond b (Some row) found) IsRow
    kept true row found here later = here
    kept false row found here later = later

named-step : (order : Ordering) (row : Row) (e : List ℕ × Row) (es more : List (List ℕ × Row))
    → (order ≡ Equal → row.session ≡ e.0) → e.0 ≡ e.1.session → AreNamed es → AreNamed more
    → AreNamed (match_ordering order ((row.session, row) ∷ e ∷ es) ((e.0, row) ∷ es) (e ∷ more))
named-step Less row e es more same here named later = (refl, (here, named))
named-step Equal row e es more same here named later = (sym (same refl), named)
named-step Greater row e es more same here named later = (here, later)

-- a row is put under its session
pub named-insert : (es : List (List ℕ × Row)) (row : Row) → AreNamed es
    → AreNamed (insert_entry (slice_cmp nat_cmp) es row.session row)
named-insert [] row named = (refl, tt)
named-insert (e ∷ es) row named =
    named-step (slice_cmp nat_cmp row.session e.0) row e es
    (insert_entry (slice_cmp nat_cmp) es row.session row)
    (exact_bytes row.session e.0) named.0 named.1 (named-insert es row named.1)

-- the rows after an insertion
pub row_of-insert : (old new : BTreeMap (List ℕ) Row) (row : Row) → AreNamed old.entries
    → AreNamed new.entries → Updates (slice_cmp nat_cmp) old new row.session (Some row)
    → (session : List ℕ) → row_of (rows_in new.entries) session
    ≡ cond (same_name row.session session) (Some row) (row_of (rows_in old.entries) session)
row_of-insert old new row was is updates session =
    row_of-lookup new.entries session is
    ∙ updates.0 session
    ∙ (λ i. cond (same_name-key row.session session i) (Some row)
    (sym (row_of-lookup old.entries session was) i))
