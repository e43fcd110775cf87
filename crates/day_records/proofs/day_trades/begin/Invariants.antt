use Rattle.std.proofs.Common.{◌≡◌, ◌++◌}
use Rattle.day_records.specs.DayTrades.{AreBegun}
use Rattle.day_records.proofs.day_trades.begin.Given as goal

-- there is one for each of the symbols so far, after which the others come
abbrev pub invariant-loop-symbol_orders : goal.invariant-loop-symbol_orders
invariant-loop-symbol_orders l =
    (l.yielded ++ l.symbol_orders-iterator.rest.items ≡ l.fn.orders.items) × AreBegun l.yielded l.kept.items
