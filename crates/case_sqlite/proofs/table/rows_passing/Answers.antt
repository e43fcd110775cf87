-- The values that are bound are the symbol and the mark of the filter.
use Rattle.std.proofs.Common.{subst}
use Rattle.std.specs.Prelude.{IfOk}
use Rattle.sqlite.specs.Held.{state}
use Rattle.sqlite.specs.State.{Shown}
use Rattle.case_sqlite.specs.Statements.{list_text}
use Rattle.case_sqlite.proofs.RunLemmas.{bound_filter}
use Rattle.case_sqlite.proofs.table.rows_passing.Goals as goal

pub returns-clause-shown : goal.returns-clause-shown
returns-clause-shown g c clean =
    subst (λ values. IfOk c.answer.result (λ rows. Shown list_text values (state g.S.Store c.args.connection.now) (state g.S.Store c.answer.new.connection) rows.items))
    (bound_filter c.symbol_value.result c.property_value.result c.args.filter.now c.symbol_value.ensures c.property_value.ensures) (c.answer.ensures.shown clean)
