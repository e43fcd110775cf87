use Rattle.std.proofs.Common.{◌≡◌}
use Rattle.record_verdict.specs.Tables.{lines_below}
use Rattle.record_verdict.proofs.tables.order_lines.Given as goal

abbrev pub invariant-loop-index : goal.invariant-loop-index
invariant-loop-index l = l.lines.items ≡ lines_below l.orders l.traded l.index
