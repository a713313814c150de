-- What the statement that writes a row leaves, one row at a time.
use Rattle.std.proofs.Common.{◌≡◌, ◌≢◌, inl, inr, ℕ, ◌&&◌, not, ℤ, List, [], ◌∷◌, Bool, true, false, Option, Some, None, Ok, Err, refl, sym, ap, subst, ◌∙◌}
use Rattle.std.specs.List.{AllByRecursion}
use Rattle.sqlite_value.specs.declared.value.Value.TheVariants.{Null, Int}
use Rattle.sqlite_schema.specs.declared.schema.Keys.TheVariants.{Enforced}
use Rattle.sqlite_schema.specs.declared.command.Conflict.TheVariants.{Replace}
use Rattle.sqlite_rules.specs.Keys.{AreConflicts}
use Rattle.sqlite_rules.specs.Action.{works}
use Rattle.sqlite_rules.specs.Calls.{ids_of}
use Rattle.sqlite_rules.specs.Edit.{edit_of, is_taken, taken_by, next_rowid, without_all}
use Rattle.sqlite_rules.specs.declared.error.Rowids.TheVariants.{Given}
use Rattle.sqlite_trees.specs.Tree.{Trees, put_row}
use Rattle.sqlite.specs.Order.{Row}
use Rattle.sqlite.specs.Schema.{Schema}
use Rattle.sqlite.specs.Rows.{Task, Written, Puts, Clears, Tries, Judged, TriesEach, InsertsOr, nothing, count_of, stamped}
use Rattle.sqlite.specs.Effect.{Database, edit_error, value_rows}
use Rattle.sqlite.specs.Does.{Tally, OnRows}
use Rattle.sqlite.specs.declared.run.Mode.{Mode}
use Rattle.sqlite.specs.Command.TheVariants.{InsertOr}
use Rattle.sqlite.specs.Source.TheVariants.{Values}
use Rattle.register_sql.proofs.TextLemmas.{upsert_terms}
use Rattle.sqlite.proofs.Callers.{one_step}
use Rattle.sqlite_rules.specs.declared.error.Refusal.{Refusal}
use Rattle.register_sql.specs.Stores.{values_of}
use Rattle.register_sql.specs.declared.row.RawRow.{RawRow}
use Rattle.register_sql.proofs.TableLemmas.{went, same_value}
use Rattle.register_sql.proofs.UpsertLemmas.{table_at, cast_stored, stored_is}

-- ---- one row at a time

-- what became of the trees: these rows were taken out, and one was put in
pub record Became (schema : Schema) (tree : ℕ) (db next : Trees) (stored : Row) : Type 0 where
  pub found : List Row
  pub are : AreConflicts None schema.indexes (table_at tree) (db tree) stored found
  pub rows : next tree ≡ put_row stored (without_all (db tree) (ids_of found))
  pub free : is_taken (without_all (db tree) (ids_of found)) stored ≡ false
  pub tables : AllByRecursion (λ t. t.tree ≢ tree → next t.tree ≡ db t.tree) schema.tables

both_all : {X : Type 0} (P Q R : X → Type 0) → ((x : X) → P x → Q x → R x) → (xs : List X)
    → AllByRecursion P xs → AllByRecursion Q xs → AllByRecursion R xs
both_all P Q R both [] p q = tt
both_all P Q R both (x ∷ xs) p q = (both x p.0 q.0, both_all P Q R both xs p.1 q.1)

not_free : (taken : Bool) → (not taken && true) ≡ true → taken ≡ false
not_free true h = absurd (cc)
not_free false h = refl

module _ (limit : Option ℕ) (schema : Schema) (tree : ℕ) (params : Row)
    (idle : (olds news : List Row) → works schema Enforced 0 tree olds news ≡ []) where
  abbrev task : Task
  task = record {
    limit = limit;
    keys = Enforced;
    schema = schema;
    table = table_at tree;
    params =
        params;
  }

  -- the row is put among the rows that are left
  puts : (row : RawRow) (n : ℤ) (mid : Trees) (w : Written) → Puts task (Int n ∷ values_of row) mid
      (Ok w)
      → (w.trees tree ≡ put_row (Int n ∷ values_of row) (mid tree))
      × (is_taken (mid tree) (Int n ∷ values_of row) ≡ false)
      × AllByRecursion (λ t. t.tree ≢ tree → w.trees t.tree ≡ mid t.tree) schema.tables
  puts row n mid w h =
      let p = went h in
      let edit = edit_of mid (table_at tree) [] Given 0 ((Int n ∷ values_of row) ∷ []) in
      let applied = one_step schema Enforced mid p.0 edit (idle (taken_by mid edit) edit.news) p.1
      in
      let trees : w.trees ≡ p.0 = ap (λ (it : Written). it.trees) (same_value p.2) in (
        ap (λ (t : Trees). t tree) trees ∙ applied.rows ∙ ap (λ r. put_row r (mid tree))
            (cast_stored n row tree),
        ap (is_taken (mid tree)) (sym (cast_stored n row tree)) ∙ not_free _ applied.fresh,
        subst (λ (x : Trees). AllByRecursion (λ t. t.tree ≢ tree → x t.tree ≡ mid t.tree)
            schema.tables) (sym trees) applied.tables,
      )

  clears : (row : RawRow) (n : ℤ) (db : Trees) (w : Written) (found : List Row)
      → AreConflicts None schema.indexes (table_at tree) (db tree) (Int n ∷ values_of row) found
      → Clears task Replace (Int n ∷ values_of row) db found (Ok w) → Became schema tree db w.trees
      (Int n ∷ values_of row)
  clears row n db w [] are h =
      let p = puts row n db w h in record {
        found = [];
        are = are;
        rows = p.0;
        free = p.1;
        tables =
            p.2;
      }
  clears row n db w (x ∷ more) are h =
      let first = went h in
      let edit = edit_of db (table_at tree) (ids_of (x ∷ more)) Given 0 [] in
      let applied = one_step schema Enforced db first.0 edit (idle (taken_by db edit) edit.news)
      first.1 in
      let p = puts row n first.0 w first.2 in
      record {
        found = x ∷ more;
        are = are;
        rows = p.0 ∙ ap (put_row (Int n ∷ values_of row)) applied.rows;
        free = ap (λ rows. is_taken rows (Int n ∷ values_of row)) (sym applied.rows) ∙ p.1;
        tables = both_all _ _ _ (λ t a b other. a other ∙ b other) schema.tables p.2 applied.tables;
      }

  tries : (row : RawRow) (n : ℤ) (db : Trees) (w : Written)
      → Tries task Replace [] (Int n ∷ values_of row) db (Ok w) → Became schema tree db w.trees
      (Int n ∷ values_of row)
  tries row n db w (inl refused) = absurd (let e = refused.1 in cc)
  tries row n db w (inr tried) = judged tried.0 tried.2
    where
      judged : (verdict : Option Refusal) → Judged task Replace [] (Int n ∷ values_of row) db
          verdict (Ok w) → Became schema tree db w.trees (Int n ∷ values_of row)
      judged None h = clears row n db w h.0 h.1 h.2
      judged (Some why) h = absurd (let e : Ok w ≡ Err (Some (edit_error why)) = h in cc)

  abbrev pub stored_in : Trees → RawRow → Row
  stored_in db row = Int (next_rowid (db tree)) ∷ values_of row

  each : (row : RawRow) (db : Trees) (top : ℤ) (done : Written × ℤ)
      → TriesEach task Replace [] ((Null ∷ values_of row) ∷ []) top (nothing db) (Ok done)
      → Became schema tree db done.0.trees (stored_in db row)
  each row db top done h =
      let one = went h in
      let tried = subst (λ new. Tries task Replace [] new db (Ok one.0))
      (stored_is (db tree) row tree) one.1 in
      let trees : done.0.trees ≡ one.0.trees = ap (λ (d : Written × ℤ). d.0.trees)
      (same_value one.2) in
      subst (λ x. Became schema tree db x (stored_in db row)) (sym trees)
      (tries row (next_rowid (db tree)) db one.0 tried)

  inserts : (row : RawRow) (db : Trees) (w : Written) → params ≡ values_of row
      → InsertsOr task Replace [] (Values upsert_terms 9) db (Ok w) → Became schema tree db w.trees
      (stored_in db row)
  inserts row db w is h =
      let given = went h in
      let counter = went given.2 in
      let tried = went counter.2 in
      let counted = went tried.2 in
      let rows : given.0 ≡ (Null ∷ values_of row) ∷ [] = given.1.1
      ∙ ap (λ p. value_rows (stamped (table_at tree) p) 9 1 upsert_terms) is in
      let all =
      subst (λ r. TriesEach task Replace [] r (count_of counter.0) (nothing db) (Ok tried.0))
      rows tried.1 in
      let trees : w.trees ≡ tried.0.0.trees = ap (λ (it : Written). it.trees) (same_value counted.2)
      ∙ same_value counted.1 in
      subst (λ x. Became schema tree db x (stored_in db row)) (sym trees)
      (each row db (count_of counter.0) tried.0 all)

  pub on_rows : (row : RawRow) (mode : Mode) (db : Trees) (tally : Tally) (after : Database)
      → params ≡ values_of row
      → OnRows task mode None (InsertOr 0 Replace (Values upsert_terms 9) []) db (Ok (tally, after))
      → (after.schema ≡ schema) × Became schema tree db after.trees (stored_in db row)
  on_rows row mode db tally after is h =
      let done = went h in
      let now = ap (λ (p : Tally × Database). p.1) (same_value (went (went done.2).2).2) in (
        ap (λ (d : Database). d.schema) now,
        subst (λ (d : Database). Became schema tree db d.trees (stored_in db row)) (sym now)
            (inserts row db done.0 is done.1),
      )
