-- The table is there where a row was shown.
use Rattle.std.proofs.Common.{◌≡◌, ◌<◌, List, [], ◌∷◌, length, refl, sym, subst, arith, ◌∙◌}
use Rattle.sqlite.specs.Held.{state}
use Rattle.sqlite.specs.State.{Shown}
use Rattle.sqlite_value.specs.Order.{Row}
use Rattle.digest_sqlite.specs.DigestStatements.{find_table_text, name_values}
use Rattle.digest_sqlite.proofs.statements.has_table.Goals as goal

no_rows : (rows : List Row) → length rows < 1 → rows ≡ []
no_rows [] few = refl
no_rows (row ∷ rows) few = absurd (omega arith)

pub returns-in-empty-clause-shown : goal.returns-in-empty-clause-shown
returns-in-empty-clause-shown g c clean = record {
  rows = c.in_ok-rows.rows.items;
  shown = subst (λ name. Shown find_table_text (name_values name) (state g.S.Store c.args.connection.now) (state g.S.Store c.answer.new.connection) c.in_ok-rows.rows.items) c.as_bytes.ensures.value
      (c.in_ok-rows.ensures.shown clean);
  is = sym c.as_slice.ensures.value ∙ no_rows c.as_slice.result.now c.in-empty.len_below;
}

pub returns-clause-shown : goal.returns-clause-shown
returns-clause-shown g c clean = record {
  rows = c.in_ok-rows.rows.items;
  shown = subst (λ name. Shown find_table_text (name_values name) (state g.S.Store c.args.connection.now) (state g.S.Store c.answer.new.connection) c.in_ok-rows.rows.items) c.as_bytes.ensures.value
      (c.in_ok-rows.ensures.shown clean);
  is = tt;
}
