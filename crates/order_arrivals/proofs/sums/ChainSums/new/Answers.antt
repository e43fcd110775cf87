use Rattle.std.proofs.Common.{◌∙◌, ap, subst, ℕ, ◌+◌, replicate}
use Rattle.order_arrivals.specs.declared.sums.ChainSums.TheInside.{Inside}
use Rattle.order_arrivals.specs.PrefixSums.{AreZeros}
use Rattle.order_arrivals.proofs.SumLemmas.{sums-first}
use Rattle.order_arrivals.proofs.sums.ChainSums.new.Goals as goal

pub invariant_of-result : goal.invariant_of-result
invariant_of-result c =
    let s : Inside = record { amounts = c.in_ok-zeros.field-0; families = c.in_ok-of.field-0; by_start = c.in_ok-new.field-0; by_end = c.in_ok-new-2.field-0 } in
    let zeros = c.in_ok-zeros.ensures ∙ ap (λ (k : ℕ). replicate k 0) c.len-count.ensures in
    sums-first c.args.orders.now c.requires s c.in_ok-of.ensures zeros
    (subst (λ (k : ℕ). AreZeros (k + 2) s.by_start) c.len-count.ensures c.in_ok-new.ensures)
    (subst (λ (k : ℕ). AreZeros (k + 2) s.by_end) c.len-count.ensures c.in_ok-new-2.ensures)

pub returns : goal.returns
returns c = record {
  families = c.in_ok-of.ensures;
  zeros = c.in_ok-zeros.ensures ∙ ap (λ (k : ℕ). replicate k 0) c.len-count.ensures;
}
