use Rattle.order_arrivals.specs.Families.{AreFamilyStarts, AreFreeNumbers}
use Rattle.order_arrivals.proofs.families.family_starts.Given as goal

abbrev pub invariant-loop-order : goal.invariant-loop-order
invariant-loop-order l = record {
  starts : AreFamilyStarts l.orders l.sizes l.order l.starts.items;
  free : AreFreeNumbers l.orders l.sizes l.order l.starts.items l.free.items;
}
