use Rattle.std.proofs.Common.{arith}
use Rattle.continuous_picture.proofs.PriceLemmas.{prices-all, prices-more}
use Rattle.continuous_picture.proofs.prices.prices_of.Goals as goal

pub loop-index-preserved : goal.loop-index-preserved
loop-index-preserved c =
    let i = c.loop-index.invariant in
    let test = c.loop-index-test.true in
    let end = c.loop-index.auto.index-end in
    record {
      from = let from = i.from in omega arith;
      upto = let upto = i.upto in omega arith;
      prices = prices-more c.args.market.now c.args.first c.loop-index.index c.price_of.result i.from c.price_of.ensures c.loop-index.prices c.with_limit-prices.result c.with_limit-prices.ensures i.prices;
    }

pub returns : goal.returns
returns c =
    let i = c.loop-index.invariant in
    let test = c.loop-index-test.false in
    let end = c.loop-index.auto.index-end in
    prices-all c.args.market.now c.args.first c.loop-index.index c.args.next i.from i.upto (omega arith) c.loop-index.prices i.prices
