use Rattle.std.proofs.Common.{◌≡◌, ◌+◌, ℕ, suc, sym, subst, arith, refl}
use Rattle.audit_base.specs.declared.terms.Side.TheVariants.{Buy, Sell}
use Rattle.continuous_picture.specs.Columns.{IsBestWithin, IsRangeIfThere}
use Rattle.continuous_picture.specs.Prices.{IsPriceAmong}
use Rattle.continuous_picture.specs.Walks.{IsWalk}
use Rattle.continuous_picture.proofs.PriceLemmas.{prices-within}
use Rattle.continuous_picture.proofs.RangeLemmas.{range-next, range-none}
use Rattle.continuous_picture.proofs.columns.add_column.Goals as goal

pub loop-place-init : goal.loop-place-init
loop-place-init c =
    let m = c.args.market.now in
    record {
      from = omega arith;
      walk = c.requires.walk;
      bids = range-none m.orders.now m.deals.now Buy c.args.first;
      asks = range-none m.orders.now m.deals.now Sell c.args.first;
    }

pub loop-place-preserved : goal.loop-place-preserved
loop-place-preserved c =
    let m = c.args.market.now in
    let p = c.loop-place.place in
    let i = c.loop-place.invariant in
    let quote = c.in_ok-quote.ensures.quote in
    let e : suc p ≡ p + 1 = omega arith in
    record {
      from = let f = i.from in omega arith;
      walk = subst (λ (k : ℕ). IsWalk m k k c.next_quote.new.self) e c.in_ok-quote.ensures.walk;
      bids = range-next m.orders.now m.deals.now Buy c.args.first p i.from c.loop-place.bids _ (sym quote.bid) i.bids _ c.with_limit-bids.ensures;
      asks = range-next m.orders.now m.deals.now Sell c.args.first p i.from c.loop-place.asks _ (sym quote.ask) i.asks _ c.with_limit-asks.ensures;
    }

pub prices_of-trades-requires-clause-next : goal.prices_of-trades-requires-clause-next
prices_of-trades-requires-clause-next c =
    let inside = c.loop-place.invariant.walk.traded.totals.inside in
    let after = c.added-after.ensures in
    omega arith

pub returns-clause-columns : goal.returns-clause-columns
returns-clause-columns c =
    let m = c.args.market.now in
    let last = c.loop-place-test.false in
    let upto = c.loop-place.auto.place-end in
    let some = c.requires.some in
    let all : c.loop-place.place ≡ c.args.next = omega arith in
    let to : IsWalk m c.args.next c.args.next c.loop-place.walk = subst (λ (k : ℕ). IsWalk m k k c.loop-place.walk) all c.loop-place.invariant.walk in
    record {
      column = record { first = c.args.first; next = c.args.next; bids = c.loop-place.bids; asks = c.loop-place.asks; trades = c.prices_of-trades.result };
      is = record {
        some = c.requires.some;
        bids = subst (λ (k : ℕ). IsRangeIfThere (IsBestWithin m.orders.now m.deals.now Buy c.args.first k) c.loop-place.bids) all c.loop-place.invariant.bids;
        asks = subst (λ (k : ℕ). IsRangeIfThere (IsBestWithin m.orders.now m.deals.now Sell c.args.first k) c.loop-place.asks) all c.loop-place.invariant.asks;
        trades = prices-within m c.requires.market c.args.first c.args.next _ c.loop-place.walk c.requires.walk to c.prices_of-trades.result
            (subst (λ (k : ℕ). IsRangeIfThere (IsPriceAmong m k c.loop-place.walk.totals.added) c.prices_of-trades.result) c.added-before.ensures
            (subst (λ (k : ℕ). IsRangeIfThere (IsPriceAmong m c.added-before.result k) c.prices_of-trades.result) c.added-after.ensures c.prices_of-trades.ensures));
      };
      first_is = refl;
      next_is = refl;
      behind = (c.in_ok-push.ensures).items;
    }

pub returns-clause-walk : goal.returns-clause-walk
returns-clause-walk c =
    let last = c.loop-place-test.false in
    let upto = c.loop-place.auto.place-end in
    let some = c.requires.some in
    let all : c.loop-place.place ≡ c.args.next = omega arith in
    subst (λ (k : ℕ). IsWalk c.args.market.now k k c.loop-place.walk) all c.loop-place.invariant.walk
