use Rattle.std.proofs.Common.{◌≡◌, ◌<◌, ◌∙◌, ap, arith, rules, ℕ, length, replicate, ◌+◌}
use Rattle.audit_base.specs.Deals.{number_at}
use Rattle.audit_base.proofs.OffenceLemmas.{get_or-default}
use Rattle.order_arrivals.proofs.FamilyLemmas.{sizes-none, sizes-read}
use Rattle.order_arrivals.proofs.families.family_sizes.Goals as goal

pub loop-order-init : goal.loop-order-init
loop-order-init c =
    let ones : c.in_ok-sizes.sizes.items ≡ replicate (c.len.result + 1) 1 = search rules in
    sizes-none c.args.orders.now c.requires c.len-order.result c.in_ok-sizes.sizes.items c.len-order.ensures (ones ∙ ap (λ (k : ℕ). replicate (k + 1) 1) c.len.ensures)

pub overflow_add-index_mut : goal.overflow_add-index_mut
overflow_add-index_mut c =
    let xs = c.loop-order.sizes.items in
    let p = c.parent_of-parent.result in
    let count = c.loop-order.invariant.count in
    let from = c.loop-order.invariant.inside in
    let upto = c.parent_of-parent.ensures.upto in
    let some = c.loop-order-test.true in
    let inside : p < length xs = omega arith in
    let value : c.index_mut.result.now ≡ number_at xs p = c.index_mut.ensures.value ∙ get_or-default xs p c.index_mut.result.now 0 inside in
    let at : c.loop-order.order < length xs = omega arith in
    let size : c.index-size.result.now ≡ number_at xs c.loop-order.order = c.index-size.ensures ∙ get_or-default xs c.loop-order.order c.index-size.result.now 0 at in
    let next = sizes-read c.args.orders.now c.requires c.loop-order.order p c.index_mut.result.now c.index-size.result.now xs some c.loop-order.invariant c.parent_of-parent.ensures.same value size in
    let fit = next.0 in
    let small = c.requires.fits_indices in
    omega arith

pub loop-order-preserved : goal.loop-order-preserved
loop-order-preserved c =
    let xs = c.loop-order.sizes.items in
    let p = c.parent_of-parent.result in
    let count = c.loop-order.invariant.count in
    let from = c.loop-order.invariant.inside in
    let upto = c.parent_of-parent.ensures.upto in
    let some = c.loop-order-test.true in
    let inside : p < length xs = omega arith in
    let value : c.index_mut.result.now ≡ number_at xs p = c.index_mut.ensures.value ∙ get_or-default xs p c.index_mut.result.now 0 inside in
    let at : c.loop-order.order < length xs = omega arith in
    let size : c.index-size.result.now ≡ number_at xs c.loop-order.order = c.index-size.ensures ∙ get_or-default xs c.loop-order.order c.index-size.result.now 0 at in
    (sizes-read c.args.orders.now c.requires c.loop-order.order p c.index_mut.result.now c.index-size.result.now xs some c.loop-order.invariant c.parent_of-parent.ensures.same value size).1
