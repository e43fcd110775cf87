use Rattle.std.proofs.Common.{◌≡◌, drop}
use Rattle.std.specs.Prelude.{find}
use Rattle.short_order.specs.ShortOrders.{is_short_by}
use Rattle.short_order.proofs.ranked.first_short.Given as goal

abbrev pub invariant-loop-index : goal.invariant-loop-index
invariant-loop-index l = find (is_short_by l.orders l.traded) l.ranked ≡ find (is_short_by l.orders l.traded) (drop l.index-index l.ranked)
