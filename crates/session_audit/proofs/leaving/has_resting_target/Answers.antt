use Rattle.std.proofs.Common.{arith}
use Rattle.audit_base.proofs.ContinuousLemmas.{target-below}
use Rattle.session_audit.proofs.EnteringLemmas.{target-is}
use Rattle.session_audit.proofs.leaving.has_resting_target.Goals as goal

pub at-replaced-requires : goal.at-replaced-requires
at-replaced-requires c =
    let e = target-is c.args.orders.now c.args.index c.in-Some.target c.at-order.result c.target.result c.at-order.ensures c.target.ensures.same c.in-Some.is in
    let less = target-below c.args.orders.now c.requires.order_list c.args.index c.requires.inside c.in-Some.target e in
    let inside = c.requires.inside in
    omega arith

pub bounds-sizes-target : goal.bounds-sizes-target
bounds-sizes-target c =
    let e = target-is c.args.orders.now c.args.index c.in-Some.target c.at-order.result c.target.result c.at-order.ensures c.target.ensures.same c.in-Some.is in
    let less = target-below c.args.orders.now c.requires.order_list c.args.index c.requires.inside c.in-Some.target e in
    let before = c.requires.before in
    omega arith
