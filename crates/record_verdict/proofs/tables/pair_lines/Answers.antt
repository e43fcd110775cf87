use Rattle.record_verdict.proofs.JudgeLemmas.{ok-then}
use Rattle.record_verdict.proofs.PairLineLemmas.{shares-inside, shares-lines}
use Rattle.record_verdict.proofs.tables.pair_lines.Goals as goal

pub share_lines-requires : goal.share_lines-requires
share_lines-requires c =
    rw c.deref.ensures.value (shares-inside c.args.orders.now c.args.deals.now c.in_ok-shares.shares.items c.requires c.in_ok-shares.ensures)

pub returns : goal.returns
returns c =
    ok-then c.share_lines.result _ _
    (λ lines is. shares-lines c.args.orders.now c.args.deals.now c.in_ok-shares.shares.items c.in_ok-shares.ensures c.requires lines.items is)
    (rw c.deref.ensures.value at c.share_lines.ensures)
