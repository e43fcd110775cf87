-- Row by row: a row with no passing case ends it, and else its case is taken.
use Rattle.std.proofs.Common.{Some, sym, ap, ◌∙◌}
use Rattle.case_keeper.specs.Cases.{passes_filter}
use Rattle.case_sqlite.proofs.AnswerLemmas.{cases_none, cases_more}
use Rattle.case_sqlite.proofs.answers.all_passing.Goals as goal

pub returns-in_default : goal.returns-in_default
returns-in_default c =
    sym (cases_none (passes_filter c.args.filter.now) c.args.rows.now c.loop-row.row-index c.row-item.result c.loop-row-test.true c.row-item.is
    (sym c.case_passing.ensures ∙ c.in_default.is))

pub loop-row-preserved : goal.loop-row-preserved
loop-row-preserved c =
    let more = cases_more (passes_filter c.args.filter.now) c.args.rows.now c.loop-row.row-index c.row-item.result c.loop-row.cases.items c.in-Some.case
    c.loop-row-test.true c.row-item.is c.loop-row.invariant (sym c.case_passing.ensures ∙ c.in-Some.is) in
    more ∙ ap Some (sym c.in_ok-push.ensures.items)
