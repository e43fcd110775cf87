use Rattle.std.proofs.Common.{◌≡◌, ◌<◌, ◌∙◌, ap, sym, subst, refl, arith, ℕ, ◌+◌, ◌^◌, length}
use Rattle.std.specs.Prelude.{slice_set}
use Rattle.std.specs.Vec.{with_item}
use Rattle.audit_base.specs.Deals.{number_at}
use Rattle.audit_base.proofs.OffenceLemmas.{get_or-default}
use Rattle.order_arrivals.specs.declared.sums.ChainSums.TheInside.{Inside}
use Rattle.order_arrivals.specs.PrefixSums.{IsAdded}
use Rattle.order_arrivals.specs.Sums.{ChainAmounts, amount_total}
use Rattle.order_arrivals.proofs.SumLemmas.{added-all, amount-most, total-added}
use Rattle.order_arrivals.proofs.sums.ChainSums.add.Goals as goal

pub overflow_add-index_mut : goal.overflow_add-index_mut
overflow_add-index_mut c =
    let s = c.self.inside in
    let xs = s.amounts.items in
    let lt : c.args.order < length xs = subst (λ (v : ChainAmounts). c.args.order < length v.amounts) (sym c.self.view_is) c.requires.order in
    let value : c.index_mut.result.now ≡ number_at xs c.args.order = c.index_mut.ensures.value ∙ get_or-default xs c.args.order c.index_mut.result.now 0 lt in
    let most = amount-most s c.self.invariant c.args.order lt in
    let small : amount_total xs + c.args.amount < 2 ^ 128 = subst (λ (v : ChainAmounts). amount_total v.amounts + c.args.amount < 2 ^ 128) (sym c.self.view_is) c.requires.fits in
    omega arith

pub invariant_of-self : goal.invariant_of-self
invariant_of-self c =
    let s = c.self.inside in
    let xs = s.amounts.items in
    let lt : c.args.order < length xs = subst (λ (v : ChainAmounts). c.args.order < length v.amounts) (sym c.self.view_is) c.requires.order in
    let value : c.index_mut.result.now ≡ number_at xs c.args.order = c.index_mut.ensures.value ∙ get_or-default xs c.args.order c.index_mut.result.now 0 lt in
    let small : amount_total xs + c.args.amount < 2 ^ 128 = subst (λ (v : ChainAmounts). amount_total v.amounts + c.args.amount < 2 ^ 128) (sym c.self.view_is) c.requires.fits in
    let new : Inside = record { amounts = with_item s.amounts c.args.order (c.index_mut.result.now + c.args.amount); families = s.families; by_start = c.add.new.self; by_end = c.add-2.new.self } in
    added-all s new c.self.invariant c.args.order c.args.amount lt small refl (ap (λ (v : ℕ). slice_set xs c.args.order (v + c.args.amount)) value)
    (subst (λ (k : ℕ). IsAdded k c.args.amount s.by_start c.add.new.self) c.start.ensures c.add.ensures)
    (subst (λ (k : ℕ). IsAdded k c.args.amount s.by_end c.add-2.new.self) c.end.ensures c.add-2.ensures)

pub returns : goal.returns
returns c =
    let s = c.self.inside in
    let xs = s.amounts.items in
    let order = c.args.order in
    let amount = c.args.amount in
    let lt : order < length xs = subst (λ (v : ChainAmounts). order < length v.amounts) (sym c.self.view_is) c.requires.order in
    let value : c.index_mut.result.now ≡ number_at xs order = c.index_mut.ensures.value ∙ get_or-default xs order c.index_mut.result.now 0 lt in
    let made = ap (λ (v : ℕ). slice_set xs order (v + amount)) value in
    record {
      families = ap (λ (v : ChainAmounts). v.families) c.self.view_is;
      amounts = made ∙ ap (λ (v : ChainAmounts). slice_set v.amounts order (number_at v.amounts order + amount)) c.self.view_is;
      total = total-added xs _ order amount lt made ∙ ap (λ (v : ChainAmounts). amount_total v.amounts + amount) c.self.view_is;
    }
