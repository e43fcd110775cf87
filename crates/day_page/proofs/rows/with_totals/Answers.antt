use Rattle.std.proofs.lemmas.Result.{IfOk-weaker}
use Rattle.day_page.proofs.RowLemmas.{three-behind}
use Rattle.day_page.proofs.rows.with_totals.Goals as goal

pub returns : goal.returns
returns c =
    IfOk-weaker c.with_digits-3.result _ _
    (λ more is. three-behind c.args.row c.in_ok-row.row c.in_ok-row-2.row more _ _ _ c.in_ok-row.ensures c.in_ok-row-2.ensures is) c.with_digits-3.ensures
