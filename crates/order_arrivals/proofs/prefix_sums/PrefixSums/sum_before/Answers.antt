use Rattle.std.proofs.Common.{◌≡◌, ◌∙◌, ap, sym, subst, arith, ℕ, List, ◌+◌, ◌/◌}
use Rattle.order_arrivals.specs.PrefixSums.{IsSummedUpto, left_sibling}
use Rattle.order_arrivals.proofs.PrefixLemmas.{summed-fits, summed-next}
use Rattle.order_arrivals.proofs.prefix_sums.PrefixSums.sum_before.Goals as goal

pub overflow_add-sum : goal.overflow_add-sum
overflow_add-sum c =
    let s = c.args.self.now in
    let l : c.left_sibling-sum.result ≡ left_sibling s.nodes.items c.loop-first.node = c.left_sibling-sum.ensures ∙ ap (λ (xs : List ℕ). left_sibling xs c.loop-first.node) c.deref.ensures.value in
    let fit = summed-fits s c.requires.tree c.args.index c.requires.inside c.loop-first.node c.loop-first.first c.loop-first.sum c.loop-first.invariant c.loop-first-test.true in
    let small = c.requires.fits in
    omega arith

pub loop-first-preserved : goal.loop-first-preserved
loop-first-preserved c =
    let s = c.args.self.now in
    let l : c.left_sibling-sum.result ≡ left_sibling s.nodes.items c.loop-first.node = c.left_sibling-sum.ensures ∙ ap (λ (xs : List ℕ). left_sibling xs c.loop-first.node) c.deref.ensures.value in
    subst (λ (v : ℕ). IsSummedUpto s c.args.index (c.loop-first.node / 2) (c.loop-first.first / 2) (c.loop-first.sum + v)) (sym l)
    (summed-next s c.requires.tree c.args.index c.requires.inside c.loop-first.node c.loop-first.first c.loop-first.sum c.loop-first.invariant c.loop-first-test.true)
