use Rattle.std.proofs.lemmas.Result.{IfOk-weaker}
use Rattle.day_page.specs.Rows.{symbol_heading}
use Rattle.day_page.proofs.RowLemmas.{cells-behind}
use Rattle.day_page.proofs.rows.accepted_cells.Goals as goal

pub returns : goal.returns
returns c =
    IfOk-weaker c.with_totals.result _ _
    (λ more is. cells-behind (symbol_heading c.args.symbol.now) c.in_ok-row.row c.in_ok-row-2.row c.in_ok-row-3.row more _ _ _
    c.in_ok-row.ensures c.in_ok-row-2.ensures c.in_ok-row-3.ensures is) c.with_totals.ensures
