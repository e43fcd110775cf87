use Rattle.std.specs.Prelude.{◌≡◌, ◌++◌, take}
use Rattle.std.specs.List.{flat_map}
use Rattle.continuous_drawing.specs.Trades.{trade_shapes}
use Rattle.continuous_drawing.proofs.trades.with_marks.Given as goal

abbrev pub invariant-loop-deal : goal.invariant-loop-deal
invariant-loop-deal l = l.made ≡ l.fn.made ++ flat_map (trade_shapes l.fn.plot l.orders) (take l.deal-index l.deals)
