-- A keeper over a SQL store: its rows are what its statements find and put.
use Rattle.std.proofs.Common.{◌≡◌, Result, Ok, Err, ℕ, not, cond, Bool, true, false, Option, Some, None, is_some, filter, List, [], ◌++◌, option_map, refl, sym, ap, ◌∙◌, subst}
use Rattle.std.specs.List.{filter_map}
use Rattle.std.specs.Option.{IfSome}
use Rattle.std.specs.Result.{IfOk, OnOk, OnErr}
use Rattle.chan_io.specs.declared.failed.IoFault.{IoFault}
use Rattle.sqlite.specs.Store.{Ghosts}
use Rattle.sqlite.specs.Held.{Held, state}
use Rattle.sqlite.specs.Effect.{Database}
use Rattle.register_sql.specs.declared.row.RawOldRow.{RawOldRow}
use Rattle.register_sql.specs.RawRows.{new_row_of}
use Rattle.register_sql.specs.Stores.{HasSameRows, IsAtRest}
use Rattle.register_sql.specs.Tables.{HasSome}
use Rattle.register_sql.proofs.LawLemmas.{sessions_differ}
use Rattle.session_register.specs.declared.row.Row.{Row}
use Rattle.session_register.specs.Names.{same_name}
use Rattle.session_register.specs.Rows.{Puts, row_of, upgraded}
use Rattle.session_register.specs.Stored.{PutsRow, read_at, read_old_row, read_row, told_rows}
use Rattle.session_register.specs.Kept.{IsReady, SaysRow, rows_in}
use Rattle.session_register.proofs.ToldLemmas.{row_in, row_of-told}

told_same : (a b : Database) → HasSameRows a b → told_rows b ≡ told_rows a
told_same a b h = λ i.
    filter_map read_row (h.0 i)
    ++ filter_map (λ (raw : RawOldRow). option_map upgraded (read_old_row raw))
    (filter (λ (raw : RawOldRow). not (is_some (new_row_of raw.session (h.0 i)))) (h.1 i))

row_in-cond : (b : Bool) (row : Row) (said : Option (Option Row))
    → row_in (cond b (Some (Some row)) said) ≡ cond b (Some row) (row_in said)
row_in-cond true row said = refl
row_in-cond false row said = refl

module _ {S : Type 0} (g : Ghosts S) (before : Option (Held S)) (old new : Held S)
    (is : before ≡ Some old) where
  pub rows_same : HasSameRows (state g old).now (state g new).now
      → told_rows (state g new).now ≡ rows_in g before
  rows_same h = told_same (state g old).now (state g new).now h ∙ ap (rows_in g) (sym is)

  pub was_ready : IsReady g before → IsAtRest (state g old) × HasSome (state g old).now.schema
  was_ready ready = rw is at ready

  at_old : (session : List ℕ) → IsReady g before
      → row_in (read_at session (state g old).now) ≡ row_of (rows_in g before) session
  at_old session ready =
      let rest = was_ready ready in
      let differ = sessions_differ (state g old).now rest.0.sound rest.0.rising rest.1 in
      sym (row_of-told session (state g old).now differ.0 differ.1)
      ∙ ap (λ b. row_of (rows_in g b) session) (sym is)

  pub answer_found : (result : Result (Option Row) IoFault) (session : List ℕ) → IsReady g before
      → IfOk result (λ row. read_at session (state g old).now ≡ Some row)
      → IfOk result (λ row. row ≡ row_of (rows_in g before) session)
  answer_found (Ok row) session ready found = sym (ap row_in found) ∙ at_old session ready
  answer_found (Err fault) session ready found = tt

  pub answer_said : (result : Result (Option Row) IoFault) (session : List ℕ)
      → IfOk result (λ row. read_at session (state g old).now ≡ Some row)
      → IfOk result (SaysRow g before session)
  answer_said (Ok row) session found = subst (λ b. SaysRow g b session row) (sym is) found
  answer_said (Err fault) session found = tt

  row_put : (row : Row) → IsReady g before → IsAtRest (state g new)
      → HasSome (state g new).now.schema → PutsRow row (state g old).now (state g new).now
      → Puts row (Some (rows_in g before)) (Some (told_rows (state g new).now))
  row_put row ready rest some puts = (
    told_rows (state g new).now,
    refl,
    λ session.
        let differ = sessions_differ (state g new).now rest.sound rest.rising some in
        row_of-told session (state g new).now differ.0 differ.1 ∙ ap row_in (puts session)
        ∙ row_in-cond (same_name row.session session) row (read_at session (state g old).now)
        ∙ ap (cond (same_name row.session session) (Some row)) (at_old session ready),
  )

  pub answer_put : (result : Result (Unit {0}) IoFault) (row : Row) → IsReady g before
      → IsAtRest (state g new) → HasSome (state g new).now.schema
      → OnOk result (PutsRow row (state g old).now (state g new).now)
      → OnOk result (Puts row (Some (rows_in g before)) (Some (told_rows (state g new).now)))
  answer_put (Ok done) row ready rest some puts = row_put row ready rest some puts
  answer_put (Err fault) row ready rest some puts = tt

  pub answer_same : (result : Result (Unit {0}) IoFault)
      → OnErr result (HasSameRows (state g old).now (state g new).now)
      → OnErr result (told_rows (state g new).now ≡ rows_in g before)
  answer_same (Ok done) h = tt
  answer_same (Err fault) h = rows_same h
