use Rattle.std.proofs.Common.{arith}
use Rattle.day_page.proofs.RowLemmas.{all-rows, one-row-more}
use Rattle.day_page.proofs.rows.rows_of_text.Goals as goal

pub loop-rest-preserved : goal.loop-rest-preserved
loop-rest-preserved c =
    one-row-more c.args.asked.now c.args.text.now c.loop-rest.rest.now c.behind_line-rest.result.now c.first_line.result.now c.loop-rest.rows c.in_ok-rows.rows c.loop-rest.invariant
    c.first_line.ensures c.behind_line-rest.ensures.same c.in_ok-rows.ensures

pub returns : goal.returns
returns c = all-rows c.args.asked.now c.args.text.now c.loop-rest.rest.now c.loop-rest.rows c.loop-rest.invariant (grind (arith, c.loop-rest-test.false, c.loop-rest-test.ensures))
