use Rattle.std.proofs.lemmas.Result.{IfOk-weaker}
use Rattle.unit_pairs.proofs.PairingLemmas.{asks-inside, both-sides, uniform-expected, uniform-listed}
use Rattle.unit_pairs.proofs.pairing.uniform_pairs.Goals as goal

pub deals_of-requires-clause-inside : goal.deals_of-requires-clause-inside
deals_of-requires-clause-inside c = asks-inside c.args.orders.now c.args.sides.now c.args.volume c.in_ok-lots.lots c.in_ok-lots.ensures

pub deals_of-requires-clause-sides : goal.deals_of-requires-clause-sides
deals_of-requires-clause-sides c = both-sides c.args.orders.now c.args.sides.now c.args.volume c.in_ok-lots.lots c.in_ok-lots.ensures

pub returns-clause-expected : goal.returns-clause-expected
returns-clause-expected c =
    IfOk-weaker c.deals_of.result _ _ (λ deals made. uniform-expected c.args.orders.now c.args.sides.now c.args.volume c.in_ok-lots.lots c.in_ok-lots.ensures c.args.price deals.items made) c.deals_of.ensures

pub returns-clause-deals : goal.returns-clause-deals
returns-clause-deals c =
    IfOk-weaker c.deals_of.result _ _ (λ deals made. uniform-listed c.args.orders.now c.args.sides.now c.args.volume c.in_ok-lots.lots c.in_ok-lots.ensures c.args.price deals.items made) c.deals_of.ensures
