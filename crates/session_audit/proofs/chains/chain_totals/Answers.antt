use Rattle.std.proofs.Common.{◌≡◌, ◌<◌, ◌++◌, ◌∷◌, [], ◌∙◌, List, ℕ, Option, length, subst, sym, ap}
use Rattle.session_audit.specs.Numbers.{IsTargetInside, TargetTotalFits, target_total, AreChainTotals}
use Rattle.session_audit.proofs.ChainLemmas.{read-inside, read-small, totals-more}
use Rattle.session_audit.proofs.chains.chain_totals.Goals as goal

pub target_total-requires-clause-inside : goal.target_total-requires-clause-inside
target_total-requires-clause-inside c =
    let o = c.at.result in
    let lt : c.loop-index.index < length c.args.orders.now = subst (λ (n : ℕ). c.loop-index.index < n) c.len-index-end.ensures c.loop-index-test.true in
    subst (λ (t : Option ℕ). IsTargetInside t (length c.args.traded.now) (length c.deref.result.now)) (sym c.target.ensures.same)
    (subst (λ (ns : List ℕ). IsTargetInside o.target (length c.args.traded.now) (length ns)) (sym c.deref.ensures.value)
    (read-inside c.args.orders.now c.requires.order_list c.args.traded.now c.loop-index.index c.loop-index.totals.items lt o c.at.ensures c.loop-index.invariant c.requires.count))

pub target_total-requires-clause-small : goal.target_total-requires-clause-small
target_total-requires-clause-small c =
    let o = c.at.result in
    let lt : c.loop-index.index < length c.args.orders.now = subst (λ (n : ℕ). c.loop-index.index < n) c.len-index-end.ensures c.loop-index-test.true in
    subst (λ (t : Option ℕ). TargetTotalFits t c.args.traded.now c.deref.result.now) (sym c.target.ensures.same)
    (subst (λ (ns : List ℕ). TargetTotalFits o.target c.args.traded.now ns) (sym c.deref.ensures.value)
    (read-small c.args.orders.now c.requires.order_list c.args.traded.now c.loop-index.index c.loop-index.totals.items lt o c.at.ensures c.loop-index.invariant c.requires.small))

pub loop-index-preserved : goal.loop-index-preserved
loop-index-preserved c =
    let o = c.at.result in
    let lt : c.loop-index.index < length c.args.orders.now = subst (λ (n : ℕ). c.loop-index.index < n) c.len-index-end.ensures c.loop-index-test.true in
    let n : c.target_total.result ≡ target_total o.target c.args.traded.now c.loop-index.totals.items =
    c.target_total.ensures ∙ ap (λ (t : Option ℕ). target_total t c.args.traded.now c.deref.result.now) c.target.ensures.same ∙ ap (target_total o.target c.args.traded.now) c.deref.ensures.value in
    let made : c.push.new.self.items ≡ c.loop-index.totals.items ++ target_total o.target c.args.traded.now c.loop-index.totals.items ∷ [] = c.in_ok-push.ensures.items ∙ ap (λ (m : ℕ). c.loop-index.totals.items ++ m ∷ []) n in
    subst (AreChainTotals c.args.orders.now c.args.traded.now _) (sym made)
    (totals-more c.args.orders.now c.requires.order_list c.args.traded.now c.loop-index.index c.loop-index.totals.items lt o c.at.ensures c.loop-index.invariant c.requires.small)
