use Rattle.std.proofs.Common.{◌∙◌, ap, length}
use Rattle.audit_run.proofs.GenerateLemmas.{on-then, uniform-adds}
use Rattle.audit_run.proofs.generating.append_uniform.Goals as goal

pub returns : goal.returns
returns c =
    on-then c.append_call_line.result
    (uniform-adds c.args.orders.now c.in_ok-deals.deals.items c.in_ok-most.most c.requires c.in_ok-most.ensures.numbers c.uniform_optimum.ensures.reached c.uniform_trades_are_expected.ensures
    c.in_ok-most.ensures.best c.in_ok-deals.ensures.expected c.count_of.result (c.count_of.ensures ∙ ap length c.deref.ensures.value) _ _)
    c.append_call_line.ensures
