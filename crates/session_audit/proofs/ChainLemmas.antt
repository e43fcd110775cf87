-- What the chain of one more order has traded, from the totals of those before it.
use Rattle.std.proofs.Common.{◌≡◌, ◌<◌, ◌≤◌, ◌+◌, ◌*◌, ◌^◌, ℕ, List, [], ◌∷◌, ◌++◌, length, Option, Some, None, refl, ap, sym, ◌∙◌, arith, inl, inr, sum_by}
use Rattle.std.proofs.lemmas.List.Sums.{sum_by-cons}
use Rattle.std.proofs.lemmas.Bool.{cases_eq}
use Rattle.audit_base.specs.declared.orders.Order.{Order}
use Rattle.audit_base.specs.Orders.{order_at, IsOrderList}
use Rattle.audit_base.specs.Continuous.{chain}
use Rattle.audit_base.specs.Deals.{number_at}
use Rattle.audit_base.proofs.ContinuousLemmas.{target-below, chain-none, chain-some}
use Rattle.session_audit.specs.PhaseOrders.{list_below}
use Rattle.session_audit.specs.Numbers.{AreBoundedTotals, IsTargetInside, TargetTotalFits, target_total, total_of_chain, AreChainTotals}
use Rattle.session_audit.proofs.ListBelowLemmas.{length-list_below, list_below-at, list_below-more}

module _ (orders : List Order) (list : IsOrderList orders) (traded : List ℕ) where
  chain-of : (i : ℕ) (target : Option ℕ) (totals : List ℕ) → i < length orders → (order_at orders i).target ≡ target → totals ≡ list_below (total_of_chain orders traded) i → target_total target traded totals ≡ total_of_chain orders traded i
  chain-of i None totals lt e are = sym (ap (sum_by (number_at traded)) (chain-none orders list i e))
  chain-of i (Some t) totals lt e are =
      let less = target-below orders list i lt t e in
      let at : number_at totals t ≡ total_of_chain orders traded t = ap (λ (ns : List ℕ). number_at ns t) are ∙ list_below-at (total_of_chain orders traded) i t 0 less in
      let one : total_of_chain orders traded i ≡ number_at traded t + total_of_chain orders traded t = ap (sum_by (number_at traded)) (chain-some orders list i t lt e) ∙ sum_by-cons (number_at traded) t (chain orders t) in
      omega arith

  module _ (i : ℕ) (totals : List ℕ) (lt : i < length orders) (o : Order) (o_is : o ≡ order_at orders i) (are : AreChainTotals orders traded i totals) where
    long : length totals ≡ i
    long = ap length are.are ∙ length-list_below (total_of_chain orders traded) i

    target-is : (order_at orders i).target ≡ o.target
    target-is = ap (λ (p : Order). p.target) (sym o_is)

    pub read-inside : length orders ≤ length traded → IsTargetInside o.target (length traded) (length totals)
    read-inside count t e = let less = target-below orders list i lt t (target-is ∙ e) in (omega arith, omega (arith, long))

    pub read-small : AreBoundedTotals traded → TargetTotalFits o.target traded totals
    read-small small t e =
        let less = target-below orders list i lt t (target-is ∙ e) in
        let a = small t in
        let b = are.bounded t less in
        let few = list.fits_indices in
        omega arith

    bounded-of : (target : Option ℕ) → AreBoundedTotals traded → o.target ≡ target → target_total target traded totals ≤ i * 2 ^ 72
    bounded-of None small e = omega arith
    bounded-of (Some t) small e =
        let less = target-below orders list i lt t (target-is ∙ e) in
        let a = small t in
        let b = are.bounded t less in
        omega arith

    pub totals-more : AreBoundedTotals traded → AreChainTotals orders traded (i + 1) (totals ++ target_total o.target traded totals ∷ [])
    totals-more small =
        let e : totals ++ target_total o.target traded totals ∷ [] ≡ list_below (total_of_chain orders traded) (i + 1) = (λ j. are.are j ++ chain-of i o.target totals lt target-is are.are j ∷ []) ∙ sym (list_below-more (total_of_chain orders traded) i) in
        record {
          are = e;
          bounded = λ j less. elim (cases_eq j i) [
            | inl same ↦
                let at : number_at (totals ++ target_total o.target traded totals ∷ []) j ≡ total_of_chain orders traded j = ap (λ (ns : List ℕ). number_at ns j) e ∙ list_below-at (total_of_chain orders traded) (i + 1) j 0 less in
                let here : total_of_chain orders traded j ≡ target_total o.target traded totals = ap (total_of_chain orders traded) same ∙ sym (chain-of i o.target totals lt target-is are.are) in
                let b = bounded-of o.target small refl in
                omega arith
            | inr ne ↦
                let at : number_at (totals ++ target_total o.target traded totals ∷ []) j ≡ total_of_chain orders traded j = ap (λ (ns : List ℕ). number_at ns j) e ∙ list_below-at (total_of_chain orders traded) (i + 1) j 0 less in
                let was : number_at totals j ≡ total_of_chain orders traded j = ap (λ (ns : List ℕ). number_at ns j) are.are ∙ list_below-at (total_of_chain orders traded) i j 0 (omega (arith, ne)) in
                let b = are.bounded j (omega (arith, ne)) in
                omega arith
          ];
        }
