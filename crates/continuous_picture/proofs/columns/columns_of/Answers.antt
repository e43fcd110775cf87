use Rattle.std.proofs.Common.{◌-◌, ℕ, sym, subst}
use Rattle.continuous_picture.specs.Walks.{IsWalk}
use Rattle.continuous_picture.proofs.RowLemmas.{so-far-more, so-far-none, width-is}
use Rattle.continuous_picture.proofs.columns.columns_of.Goals as goal

pub loop-first-init : goal.loop-first-init
loop-first-init c =
    let m = c.args.market.now in
    let from = c.first_place-from.result in
    let wide = width-is (c.args.end - from) c.div_ceil-width.result c.saturating_sub.result c.saturating_sub.ensures c.div_ceil-width.ensures in
    record {
      walk = subst (λ (k : ℕ). IsWalk m k k c.in_ok-walk.walk) (sym c.first_place-from.ensures) c.in_ok-walk.ensures;
      columns = so-far-none m.orders.now m.deals.now from c.args.end c.div_ceil-width.result wide c.new-columns.result.items c.new-columns.ensures.items;
    }

pub loop-first-preserved : goal.loop-first-preserved
loop-first-preserved c =
    let m = c.args.market.now in
    let from = c.first_place-from.result in
    let wide = width-is (c.args.end - from) c.div_ceil-width.result c.saturating_sub.result c.saturating_sub.ensures c.div_ceil-width.ensures in
    let added = c.in_ok-add_column.ensures in
    record {
      walk = added.walk;
      columns = so-far-more m.orders.now m.deals.now from c.args.end c.div_ceil-width.result wide c.loop-first.first c.next_edge-next.result c.loop-first.columns.items c.add_column.new.columns.items c.loop-first-test.true c.next_edge-next.ensures added.columns c.loop-first.invariant.columns;
    }
