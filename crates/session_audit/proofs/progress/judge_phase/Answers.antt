use Rattle.session_audit.proofs.JudgeLemmas.{passed}
use Rattle.session_audit.proofs.progress.judge_phase.Goals as goal

pub returns-in_ok-so_far-in-Conforms-clause-passed : goal.returns-in_ok-so_far-in-Conforms-clause-passed
returns-in_ok-so_far-in-Conforms-clause-passed c = λ _.
    let audited = c.in_ok-finding.ensures in
    let is = rw c.in-Conforms.is at audited in
    passed c.args.phase.kind c.args.orders.now c.args.deals.now c.args.phase.last c.in-Conforms.reached c.as_slice-traded.result.now c.args.so_far.now.traded.items c.add_totals.new.totals.items c.in_ok-so_far-in-Conforms.field-0.items
    c.requires.deal_list.named c.requires.causes_end_by_last is c.as_slice-traded.ensures (λ played. c.in_ok-so_far-in-Conforms.ensures c.args.deals.now played) c.add_totals.ensures
