use Rattle.std.proofs.Common.{rules, ap, ◌∙◌}
use Rattle.std.proofs.lemmas.List.Sorted.{IsNonDecreasingBy-from_sort_by_key}
use Rattle.volume_bound.specs.Limits.{quantity_of_limits}
use Rattle.volume_bound.proofs.limits.SortedLimits.of.Goals as goal

pub invariant_of-result : goal.invariant_of-result
invariant_of-result c = record {
  rising = IsNonDecreasingBy-from_sort_by_key (λ l. l.limit) _ c.sort_unstable_by_key.ensures.sorted (λ a r q k. search rules);
  whole = c.total_of-quantity.ensures.same ∙ ap quantity_of_limits c.deref.ensures.value;
  small = c.total_of-quantity.ensures.small;
}
