use Rattle.std.proofs.Common.{◌∙◌, arith, sym}
use Rattle.audit_base.proofs.ContinuousLemmas.{target-below}
use Rattle.continuous_audit.proofs.KeptLemmas.{target-read, none-read, ends-read, chain_ended-none, chain_ended-some}
use Rattle.continuous_audit.proofs.chains.is_chain_ended.Goals as goal

pub at-replaced-requires : goal.at-replaced-requires
at-replaced-requires c =
    let e = target-read c.args.orders.now c.args.order c.in-Some.target c.at-own.result c.target.result c.at-own.ensures c.target.ensures.same c.in-Some.is in
    let lower = target-below c.args.orders.now c.requires.order_list c.args.order c.requires.order c.in-Some.target e in
    let inside = c.requires.order in
    omega arith

pub is_chain_ended-requires : goal.is_chain_ended-requires
is_chain_ended-requires c =
    let e = target-read c.args.orders.now c.args.order c.in-Some.target c.at-own.result c.target.result c.at-own.ensures c.target.ensures.same c.in-Some.is in
    let lower = target-below c.args.orders.now c.requires.order_list c.args.order c.requires.order c.in-Some.target e in
    let long = c.requires.order_numbers.chain_ended.count in
    let inside = c.requires.order in
    omega arith

pub returns-then-is_chain_ended : goal.returns-then-is_chain_ended
returns-then-is_chain_ended c = λ on.
    let t = c.in-Some.target in
    let e = target-read c.args.orders.now c.args.order t c.at-own.result c.target.result c.at-own.ensures c.target.ensures.same c.in-Some.is in
    let lower = target-below c.args.orders.now c.requires.order_list c.args.order c.requires.order t e in
    chain_ended-some c.args.orders.now c.requires.order_list c.args.order t c.requires.order e
    (ends-read c.args.orders.now c.args.order t c.at-own.result c.at-replaced.result c.cancelled.result c.place.result c.ends_by.result c.at-own.ensures c.at-replaced.ensures c.cancelled.ensures c.place.ensures c.ends_by.ensures on)
    (c.requires.order_numbers.chain_ended.is t lower (sym c.is_chain_ended.ensures ∙ c.if-is_chain_ended.true))

pub returns-in-None : goal.returns-in-None
returns-in-None c = λ on. chain_ended-none c.args.orders.now c.requires.order_list c.args.order (none-read c.args.orders.now c.args.order c.at-own.result c.target.result c.at-own.ensures c.target.ensures.same c.in-None.is)
