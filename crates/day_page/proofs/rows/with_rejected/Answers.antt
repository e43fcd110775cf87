use Rattle.std.proofs.lemmas.Result.{IfOk-weaker}
use Rattle.day_page.specs.DayLines.{field_at}
use Rattle.day_page.specs.Links.{has_page}
use Rattle.day_page.specs.Rows.{rejected_cells}
use Rattle.day_page.proofs.RowLemmas.{row-behind}
use Rattle.day_page.proofs.rows.with_rejected.Goals as goal

pub returns : goal.returns
returns c =
    let line = c.args.line.now in
    let cells = rw (c.has_page-linked.ensures, c.field_at-symbol.ensures, c.field_at-property.ensures, c.field_at-log.ensures, c.field_at.ensures) at c.in_ok-cells.ensures in
    IfOk-weaker c.with_element.result _ _
    (λ more is. row-behind c.args.rows c.in_ok-cells.cells (rejected_cells (has_page c.args.asked.now (field_at 0 line) (field_at 2 line)) (field_at 0 line) (field_at 2 line) (field_at 3 line) (field_at 4 line)) more cells is) c.with_element.ensures
