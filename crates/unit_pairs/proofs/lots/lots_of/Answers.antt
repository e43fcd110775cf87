use Rattle.std.proofs.Common.{◌≡◌, ◌<◌, ◌+◌, ◌-◌, ◌++◌, ◌∷◌, [], length, arith, get_or, take, ap, sym, subst, sum_by}
use Rattle.std.proofs.lemmas.List.{take_all}
use Rattle.audit_base.specs.Orders.{quantity_at}
use Rattle.unit_pairs.proofs.LotLemmas.{AreFilled, lot, filled-total, one-filled}
use Rattle.unit_pairs.proofs.lots.lots_of.Goals as goal
use Rattle.unit_pairs.proofs.lots.lots_of.Goals.{else-loop-rank-test, then-loop-rank-test+then-left-eq0}

pub loop-rank-preserved : goal.loop-rank-preserved
loop-rank-preserved c =
    let orders = c.args.orders.now in
    let ranks = c.args.ranks.now in
    let n = c.loop-rank.rank-index in
    let quantity = c.quantity_within-quantity.result in
    let lt : n < length ranks = c.loop-rank-test.true in
    let items : c.push.new.self.items ≡ c.loop-rank.lots.items ++ lot (get_or ranks n 0) quantity ∷ [] = c.in_ok-push.ensures.items in
    let is = c.quantity_within-quantity.ensures in
    subst (λ lots. AreFilled orders ranks c.args.volume lots (c.loop-rank.left - quantity) (n + 1)) (sym items)
    (one-filled orders ranks c.args.volume c.loop-rank.lots.items c.loop-rank.left n quantity c.at.result lt (c.requires.inside n 0 lt)
    c.at.ensures c.loop-rank.invariant is.some is.most is.lesser)

pub returns-clause-whole : goal.returns-clause-whole
returns-clause-whole c =
    let orders = c.args.orders.now in
    let ranks = c.args.ranks.now in
    let lots = c.loop-rank.lots.items in
    let count : length lots ≡ c.loop-rank.rank-index = c.loop-rank.invariant.count in
    let rest = c.loop-rank.invariant.rest in
    filled-total orders ranks c.args.volume lots c.loop-rank.invariant.are (rw count (elim c.loop-rank-test.branch [
      | else-loop-rank-test w ↦
          let whole : take c.loop-rank.rank-index ranks ≡ ranks = take_all c.loop-rank.rank-index ranks (omega arith) in
          omega (arith, c.requires.enough, ap (sum_by (quantity_at orders)) whole)
      | then-loop-rank-test+then-left-eq0 w ↦ omega arith
    ]))
