use Rattle.std.proofs.Common.{◌<◌, ◌∙◌, ap, arith, length}
use Rattle.audit_base.specs.declared.orders.Order.{Order}
use Rattle.audit_base.specs.Deals.{number_at}
use Rattle.continuous_audit.proofs.ChainLemmas.{start-read, step-read}
use Rattle.continuous_audit.proofs.chains.chain_total.Goals as goal

pub loop-target-init : goal.loop-target-init
loop-target-init c =
    let orders = c.args.orders.now in
    let target = c.target-target.result in
    let read = start-read orders c.requires.order_list (number_at c.args.traded.now) c.args.order target c.requires.order (c.target-target.ensures.same ∙ ap (λ (o : Order). o.target) c.at.ensures) in
    let sum = read.1 in
    let steps = read.2 in
    record { inside = read.0; sum = omega arith; fits = omega arith }

pub loop-target-smaller : goal.loop-target-smaller
loop-target-smaller c =
    let orders = c.args.orders.now in
    let inside : c.in-Some.index < length orders = c.loop-target.invariant.inside c.in-Some.index c.in-Some.is in
    let target = c.target-target-in-Some.result in
    let read = step-read orders c.requires.order_list (number_at c.args.traded.now) c.in-Some.index c.loop-target.target target inside c.in-Some.is (c.target-target-in-Some.ensures.same ∙ ap (λ (o : Order). o.target) c.at-in-Some.ensures) in
    let steps = read.2 in
    omega arith

pub loop-target-preserved : goal.loop-target-preserved
loop-target-preserved c =
    let orders = c.args.orders.now in
    let inside : c.in-Some.index < length orders = c.loop-target.invariant.inside c.in-Some.index c.in-Some.is in
    let target = c.target-target-in-Some.result in
    let read = step-read orders c.requires.order_list (number_at c.args.traded.now) c.in-Some.index c.loop-target.target target inside c.in-Some.is (c.target-target-in-Some.ensures.same ∙ ap (λ (o : Order). o.target) c.at-in-Some.ensures) in
    let sum = read.1 in
    let steps = read.2 in
    let so_far = c.loop-target.invariant.sum in
    let fits = c.loop-target.invariant.fits in
    let one = c.requires.traded.most c.in-Some.index inside in
    record { inside = read.0; sum = omega arith; fits = omega arith }
