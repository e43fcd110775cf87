use Rattle.std.proofs.Common.{◌≡◌, ◌∙◌, length, sym, ap, arith, subst}
use Rattle.std.proofs.lemmas.Result.{IfOk-weaker}
use Rattle.audit_base.specs.Deals.{number_at}
use Rattle.session_audit.specs.Phases.{first_place, end_place}
use Rattle.session_audit.specs.PhaseOrders.{role_in_phase, order_count_through}
use Rattle.session_audit.specs.Numbers.{WithinQuantities, total_of_chain, AreChainTotals}
use Rattle.session_audit.specs.Entering.{amount_in_phase, amounts_below, phase_list_by_amounts}
use Rattle.session_audit.proofs.ListBelowLemmas.{length-list_below}
use Rattle.session_audit.proofs.PhaseListLemmas.{upto-inside}
use Rattle.session_audit.proofs.EnteringLemmas.{amounts-most, list-is}
use Rattle.session_audit.proofs.progress.list_phase.Goals as goal

pub amounts_of-requires-clause-inside : goal.amounts_of-requires-clause-inside
amounts_of-requires-clause-inside c =
    let e = c.order_count_through-count.ensures in
    let m = upto-inside c.args.orders.now c.end_place-last.result in
    omega arith

pub amounts_of-requires-clause-counted : goal.amounts_of-requires-clause-counted
amounts_of-requires-clause-counted c =
    let e = c.order_count_through-count.ensures in
    let m = upto-inside c.args.orders.now c.end_place-last.result in
    let long : length c.deref-3.result.now ≡ length c.args.orders.now = ap length (c.deref-3.ensures.value ∙ c.in_ok-chain_traded.ensures.are) ∙ length-list_below (total_of_chain c.args.orders.now c.deref.result.now) (length c.args.orders.now) in
    omega arith

pub list_orders-requires-clause-inside : goal.list_orders-requires-clause-inside
list_orders-requires-clause-inside c =
    let e = c.order_count_through-count.ensures in
    let m = upto-inside c.args.orders.now c.end_place-last.result in
    let long : length c.deref-4.result.now ≡ c.order_count_through-count.result = ap length (c.deref-4.ensures.value ∙ c.in_ok-amounts.ensures)
    ∙ length-list_below (λ i. amount_in_phase (role_in_phase c.args.orders.now c.first_place-first.result (number_at c.deref-2.result.now) (number_at c.deref-3.result.now) i)) c.order_count_through-count.result in
    omega arith

pub list_orders-requires-clause-most : goal.list_orders-requires-clause-most
list_orders-requires-clause-most c =
    let orders = c.args.orders.now in
    let e = c.order_count_through-count.ensures in
    let m = upto-inside orders c.end_place-last.result in
    let left : WithinQuantities orders c.deref-2.result.now = subst (WithinQuantities orders) (sym c.deref-2.ensures.value) c.requires.left_within_quantities in
    amounts-most orders c.requires.order_list c.first_place-first.result c.deref-2.result.now c.deref-3.result.now c.order_count_through-count.result c.deref-4.result.now (c.deref-4.ensures.value ∙ c.in_ok-amounts.ensures) left

pub returns : goal.returns
returns c =
    let orders = c.args.orders.now in
    let phases = c.args.phases.now in
    let k = c.args.index in
    let first_is : c.first_place-first.result ≡ first_place phases k = c.first_place-first.ensures in
    let last_is : c.end_place-last.result ≡ end_place phases k = c.end_place-last.ensures in
    let count_is : c.order_count_through-count.result ≡ order_count_through orders (end_place phases k) = c.order_count_through-count.ensures ∙ ap (order_count_through orders) last_is in
    let spent = c.deref-3.result.now in
    let found = c.deref-4.result.now in
    let totals : AreChainTotals orders c.args.so_far.now.traded.items (length orders) spent =
    subst (λ ns. AreChainTotals orders c.args.so_far.now.traded.items (length orders) ns) (sym c.deref-3.ensures.value) (subst (λ ns. AreChainTotals orders ns (length orders) c.in_ok-chain_traded.chain_traded.items) c.deref.ensures.value c.in_ok-chain_traded.ensures) in
    let left_is : c.deref-2.result.now ≡ c.args.so_far.now.left.items = c.deref-2.ensures.value in
    let are : found ≡ amounts_below orders (first_place phases k) c.args.so_far.now.left.items spent (order_count_through orders (end_place phases k)) =
    c.deref-4.ensures.value ∙ c.in_ok-amounts.ensures ∙ (λ j. amounts_below orders (first_is j) (left_is j) spent (count_is j)) in
    IfOk-weaker c.list_orders.result _ _ (λ list made deals so_far.
    made ∙ (λ j. phase_list_by_amounts orders (first_is j) (last_is j) found (length found))
    ∙ list-is phases orders c.requires.order_list c.requires.regular deals k c.args.so_far.now.traded.items c.args.so_far.now.left.items so_far spent found totals are) c.list_orders.ensures
