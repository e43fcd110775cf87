use Rattle.std.proofs.Common.{◌≡◌, ◌<◌, ◌≤◌, ◌+◌, ℕ, length}
use Rattle.audit_base.specs.Deals.{number_at}
use Rattle.session_audit.proofs.progress.add_totals.Given as goal

abbrev pub invariant-loop-index : goal.invariant-loop-index
invariant-loop-index l = record {
  count : length l.totals.items ≡ length l.initial.totals.items;
  done : (i : ℕ) → i < l.index → number_at l.totals.items i ≡ number_at l.initial.totals.items i + number_at l.traded i;
  todo : (i : ℕ) → l.index ≤ i → number_at l.totals.items i ≡ number_at l.initial.totals.items i;
}
