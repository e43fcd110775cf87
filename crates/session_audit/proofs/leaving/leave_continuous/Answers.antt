use Rattle.std.proofs.Common.{◌≡◌, ◌<◌, ◌++◌, ◌∷◌, [], ◌∙◌, ℕ, List, length, ap, arith, subst}
use Rattle.audit_base.specs.Continuous.{size_of_order}
use Rattle.audit_base.specs.Deals.{number_at}
use Rattle.audit_base.proofs.OffenceLemmas.{get_or-default}
use Rattle.session_audit.proofs.ListBelowLemmas.{list_below-at}
use Rattle.session_audit.proofs.LeavingLemmas.{lefts-more}
use Rattle.session_audit.proofs.leaving.leave_continuous.Goals as goal

pub loop-index-preserved : goal.loop-index-preserved
loop-index-preserved c = λ deals is ends.
    let orders = c.args.orders.now in
    let i = c.loop-index.index in
    let lt : i < length orders = subst (λ (n : ℕ). c.loop-index.index < n) c.len-index-end.ensures c.loop-index-test.true in
    let long = c.in_ok-sizes.ensures.count in
    let inside : i < length c.in_ok-sizes.sizes.items = omega arith in
    let size : c.index.result.now ≡ size_of_order orders deals i =
    c.index.ensures ∙ get_or-default c.in_ok-sizes.sizes.items i c.index.result.now 0 inside ∙ ap (λ (ns : List ℕ). number_at ns i) (c.in_ok-sizes.ensures.sizes deals is) ∙ list_below-at (size_of_order orders deals) (length orders) i 0 lt in
    c.in_ok-push.ensures.items ∙ ap (λ (m : ℕ). c.loop-index.left.items ++ m ∷ []) c.continuous_leaves.ensures
    ∙ lefts-more orders c.requires.order_list c.requires.regular deals c.args.traded.now is c.args.last ends i c.loop-index.left.items c.at.result c.index.result.now (number_at c.args.traded.now i) lt (c.loop-index.invariant deals is ends) c.at.ensures size (λ _. number_at c.args.traded.now i)
