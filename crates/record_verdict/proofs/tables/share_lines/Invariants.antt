use Rattle.std.proofs.Common.{◌≡◌}
use Rattle.record_verdict.specs.Tables as spec
use Rattle.record_verdict.proofs.tables.share_lines.Given as goal

abbrev pub invariant-loop-index : goal.invariant-loop-index
invariant-loop-index l = l.lines.items ≡ spec.share_lines l.orders l.shares l.index
