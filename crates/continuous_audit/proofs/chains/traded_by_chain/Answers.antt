use Rattle.std.proofs.Common.{◌<◌, ◌+◌, ◌∙◌, sym, arith, length}
use Rattle.audit_base.proofs.ContinuousLemmas.{target-below}
use Rattle.continuous_audit.proofs.KeptLemmas.{target-read, before-kept, before-walked}
use Rattle.continuous_audit.proofs.chains.traded_by_chain.Goals as goal

pub is_chain_ended-requires : goal.is_chain_ended-requires
is_chain_ended-requires c =
    let e = target-read c.args.orders.now c.args.order c.in-Some.target c.at.result c.target.result c.at.ensures c.target.ensures.same c.in-Some.is in
    let lower = target-below c.args.orders.now c.requires.order_list c.args.order c.requires.order c.in-Some.target e in
    let long = c.requires.order_numbers.chain_ended.count in
    let inside = c.requires.order in
    omega arith

pub chain_traded_of-requires : goal.chain_traded_of-requires
chain_traded_of-requires c =
    let e = target-read c.args.orders.now c.args.order c.in-Some.target c.at.result c.target.result c.at.ensures c.target.ensures.same c.in-Some.is in
    let lower = target-below c.args.orders.now c.requires.order_list c.args.order c.requires.order c.in-Some.target e in
    let long = c.requires.order_numbers.chain_traded_count in
    let inside = c.requires.order in
    omega arith

pub overflow_add-result : goal.overflow_add-result
overflow_add-result c =
    let t = c.in-Some.target in
    let lower = target-below c.args.orders.now c.requires.order_list c.args.order c.requires.order t (target-read c.args.orders.now c.args.order t c.at.result c.target.result c.at.ensures c.target.ensures.same c.in-Some.is) in
    let few = c.requires.order_list.fits_indices in
    let inside = c.requires.order in
    let one = c.requires.traded.most t (omega arith) in
    let chain_traded = c.chain_traded_of.ensures in
    let rest = c.requires.order_numbers.bounded t in
    omega arith

pub returns-then-is_chain_ended-clause-chain_traded : goal.returns-then-is_chain_ended-clause-chain_traded
returns-then-is_chain_ended-clause-chain_traded c deals kept =
    let t = c.in-Some.target in
    let e = target-read c.args.orders.now c.args.order t c.at.result c.target.result c.at.ensures c.target.ensures.same c.in-Some.is in
    let lower = target-below c.args.orders.now c.requires.order_list c.args.order c.requires.order t e in
    let t_in : t < length c.args.orders.now = let inside = c.requires.order in omega arith in
    (λ i. kept.traded_is t t_in i + (c.chain_traded_of.ensures ∙ kept.chain_traded_is t lower) i)
    ∙ sym (before-kept c.args.orders.now c.requires.order_list deals kept.named c.args.order t c.requires.order e (c.requires.order_numbers.chain_ended.is t lower (sym c.is_chain_ended.ensures ∙ c.if-is_chain_ended.true)) kept.conforms)

pub returns-then-is_chain_ended-clause-bounded : goal.returns-then-is_chain_ended-clause-bounded
returns-then-is_chain_ended-clause-bounded c =
    let t = c.in-Some.target in
    let e = target-read c.args.orders.now c.args.order t c.at.result c.target.result c.at.ensures c.target.ensures.same c.in-Some.is in
    let lower = target-below c.args.orders.now c.requires.order_list c.args.order c.requires.order t e in
    let inside = c.requires.order in
    let one = c.requires.traded.most t (omega arith) in
    let chain_traded = c.chain_traded_of.ensures in
    let rest = c.requires.order_numbers.bounded t in
    omega arith

pub returns-clause-chain_traded : goal.returns-clause-chain_traded
returns-clause-chain_traded c deals kept = c.chain_total.ensures.total ∙ before-walked c.args.orders.now c.requires.order_list deals kept.named c.args.order c.args.traded.now c.requires.order kept.traded_is
