use Rattle.std.proofs.Common.{◌≡◌, ◌<◌, ◌∙◌, ap, sym, subst, arith, length, sum_by}
use Rattle.audit_base.specs.Continuous.{chain}
use Rattle.audit_base.specs.Deals.{number_at}
use Rattle.order_arrivals.specs.Families.{AreFamilies}
use Rattle.order_arrivals.specs.Sums.{ChainAmounts, amount_total}
use Rattle.order_arrivals.proofs.SumLemmas.{apart-read, between-most, chain-read}
use Rattle.order_arrivals.proofs.sums.ChainSums.along_chain.Goals as goal

pub overflow_sub-result : goal.overflow_sub-result
overflow_sub-result c =
    let lt : c.args.order < length c.self.inside.amounts.items = subst (λ (v : ChainAmounts). c.args.order < length v.amounts) (sym c.self.view_is) c.requires in
    let r = apart-read c.self.inside c.self.invariant c.args.order lt c.start-start.result c.sum_before.result c.sum_before-2.result c.start-start.ensures c.sum_before.ensures c.sum_before-2.ensures in
    omega arith

pub returns-clause-chain : goal.returns-clause-chain
returns-clause-chain c orders list same are =
    let lt : c.args.order < length c.self.inside.amounts.items = subst (λ (v : ChainAmounts). c.args.order < length v.amounts) (sym c.self.view_is) c.requires in
    let r = apart-read c.self.inside c.self.invariant c.args.order lt c.start-start.result c.sum_before.result c.sum_before-2.result c.start-start.ensures c.sum_before.ensures c.sum_before-2.ensures in
    let count : length orders ≡ length c.self.inside.amounts.items = same ∙ ap (λ (v : ChainAmounts). length v.amounts) (sym c.self.view_is) in
    let families : AreFamilies orders c.self.inside.families = subst (λ (v : ChainAmounts). AreFamilies orders v.families) (sym c.self.view_is) are in
    let sum = chain-read c.self.inside c.self.invariant c.args.order lt orders list count families in
    let seen = ap (λ (v : ChainAmounts). sum_by (number_at v.amounts) (chain orders c.args.order)) c.self.view_is in
    omega arith

pub returns-clause-most : goal.returns-clause-most
returns-clause-most c =
    let lt : c.args.order < length c.self.inside.amounts.items = subst (λ (v : ChainAmounts). c.args.order < length v.amounts) (sym c.self.view_is) c.requires in
    let r = apart-read c.self.inside c.self.invariant c.args.order lt c.start-start.result c.sum_before.result c.sum_before-2.result c.start-start.ensures c.sum_before.ensures c.sum_before-2.ensures in
    let most = between-most c.self.inside c.self.invariant c.args.order lt in
    let seen = ap (λ (v : ChainAmounts). amount_total v.amounts) c.self.view_is in
    omega arith
