-- The one row is that of its case.
use Rattle.std.proofs.Common.{sym, ◌∙◌, arith}
use Rattle.case_sqlite.proofs.AnswerLemmas.{one_told, one_row}
use Rattle.case_sqlite.proofs.answers.one_with_label.Goals as goal

pub returns-in-Some-clause-rows : goal.returns-in-Some-clause-rows
returns-in-Some-clause-rows c =
    one_row c.args.rows.now c.row-item.result (omega (arith, c.in-len1.len_at_least)) (omega (arith, c.in-len1.len_below)) c.row-item.is
    ∙ (one_told c.args.label.now c.row-item.result c.in-Some.case (sym c.in-Some.is ∙ c.case_with_label.ensures)).0

pub returns-in-Some-clause-labelled : goal.returns-in-Some-clause-labelled
returns-in-Some-clause-labelled c = (one_told c.args.label.now c.row-item.result c.in-Some.case (sym c.in-Some.is ∙ c.case_with_label.ensures)).1
