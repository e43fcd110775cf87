use Rattle.std.proofs.Common.{◌≡◌, ◌<◌, ◌∙◌, refl, arith, length, ◌+◌}
use Rattle.audit_base.specs.Deals.{number_at}
use Rattle.audit_base.proofs.OffenceLemmas.{get_or-default}
use Rattle.order_arrivals.proofs.FamilyLemmas.{starts-read}
use Rattle.order_arrivals.proofs.families.family_starts.Goals as goal

pub overflow_add-start : goal.overflow_add-start
overflow_add-start c =
    let last = c.len-order-end.ensures in
    let test = c.loop-order-test.true in
    let inside : c.loop-order.order < length c.args.orders.now = omega arith in
    let p = c.parent_of-parent.result in
    let upto = c.parent_of-parent.ensures.upto in
    let count = c.loop-order.invariant.free.count in
    let at : p < length c.loop-order.free.items = omega arith in
    let value : c.index-start.result.now ≡ number_at c.loop-order.free.items p = c.index-start.ensures ∙ get_or-default c.loop-order.free.items p c.index-start.result.now 0 at in
    let next = starts-read c.args.orders.now c.requires.list c.args.sizes.now c.requires.sizes c.loop-order.order c.parent_of-parent.result c.index-start.result.now (number_at c.args.sizes.now (c.loop-order.order + 1)) c.loop-order.starts.items c.loop-order.free.items inside c.loop-order.invariant.starts c.loop-order.invariant.free c.parent_of-parent.ensures.same value refl in
    let fit = next.0 in
    let small = c.requires.list.fits_indices in
    omega arith

pub overflow_add-start-in-loop-order : goal.overflow_add-start-in-loop-order
overflow_add-start-in-loop-order c =
    let last = c.len-order-end.ensures in
    let test = c.loop-order-test.true in
    let inside : c.loop-order.order < length c.args.orders.now = omega arith in
    let p = c.parent_of-parent.result in
    let upto = c.parent_of-parent.ensures.upto in
    let count = c.loop-order.invariant.free.count in
    let at : p < length c.loop-order.free.items = omega arith in
    let value : c.index-start.result.now ≡ number_at c.loop-order.free.items p = c.index-start.ensures ∙ get_or-default c.loop-order.free.items p c.index-start.result.now 0 at in
    let next = starts-read c.args.orders.now c.requires.list c.args.sizes.now c.requires.sizes c.loop-order.order c.parent_of-parent.result c.index-start.result.now (number_at c.args.sizes.now (c.loop-order.order + 1)) c.loop-order.starts.items c.loop-order.free.items inside c.loop-order.invariant.starts c.loop-order.invariant.free c.parent_of-parent.ensures.same value refl in
    let fit = next.0 in
    let small = c.requires.list.fits_indices in
    omega arith

pub loop-order-preserved : goal.loop-order-preserved
loop-order-preserved c =
    let last = c.len-order-end.ensures in
    let test = c.loop-order-test.true in
    let inside : c.loop-order.order < length c.args.orders.now = omega arith in
    let p = c.parent_of-parent.result in
    let upto = c.parent_of-parent.ensures.upto in
    let count = c.loop-order.invariant.free.count in
    let at : p < length c.loop-order.free.items = omega arith in
    let value : c.index-start.result.now ≡ number_at c.loop-order.free.items p = c.index-start.ensures ∙ get_or-default c.loop-order.free.items p c.index-start.result.now 0 at in
    let next = starts-read c.args.orders.now c.requires.list c.args.sizes.now c.requires.sizes c.loop-order.order c.parent_of-parent.result c.index-start.result.now (number_at c.args.sizes.now (c.loop-order.order + 1)) c.loop-order.starts.items c.loop-order.free.items inside c.loop-order.invariant.starts c.loop-order.invariant.free c.parent_of-parent.ensures.same value refl in
    record { starts = next.1; free = next.2 }
