use Rattle.std.proofs.Common.{◌≡◌, ◌++◌, ◌∷◌, [], rules}
use Rattle.canonical_form.proofs.TradeLemmas.{trades-more}
use Rattle.canonical_form.proofs.trades.trades_of_deals.Goals as goal

pub loop-index-preserved : goal.loop-index-preserved
loop-index-preserved c =
    let new : c.push.new.self.items ≡ c.loop-index.trades.items ++ c.trade_of_deal.result ∷ [] = search rules in
    trades-more c.args.orders.now c.args.symbol.now c.args.deals.now c.loop-index.index c.index-deals-index.result c.in_ok-id.id c.trade_of_deal.result c.loop-index.trades.items c.push.new.self.items c.loop-index-test.true c.index-deals-index.is c.in_ok-id.ensures c.trade_of_deal.ensures c.loop-index.invariant new
