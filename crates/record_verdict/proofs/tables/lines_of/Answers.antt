use Rattle.std.proofs.Common.{◌∙◌, sym}
use Rattle.record_verdict.proofs.JudgeLemmas.{ok-then}
use Rattle.record_verdict.proofs.RuleLemmas.{lines-are}
use Rattle.record_verdict.proofs.tables.lines_of.Goals as goal

pub returns-in-Some : goal.returns-in-Some
returns-in-Some c =
    rw (sym c.call_rule.ensures ∙ c.in-Some.is)
    (ok-then c.order_lines.result _ _ (λ lines is. is ∙ lines-are c.args.orders.now c.args.deals.now c.args.traded.now c.requires.totals) c.order_lines.ensures)
