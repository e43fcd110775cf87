-- What a phase leaves, read off the numbers that are kept of the orders.
use Rattle.std.proofs.Common.{◌≡◌, ◌<◌, ◌+◌, ◌-◌, ℕ, suc, List, [], ◌∷◌, ◌++◌, length, get_or, Bool, true, false, Option, Some, None, refl, ap, sym, ◌∙◌, arith, cond, add-one}
use Rattle.std.specs.Prelude.{◌&&◌}
use Rattle.audit_base.specs.declared.orders.Order.{Order}
use Rattle.audit_base.specs.declared.orders.Deal.{Deal}
use Rattle.audit_base.specs.Orders.{order_at, place_at, quantity_at, IsOrderList}
use Rattle.audit_base.specs.Histories.{Regular}
use Rattle.audit_base.specs.Deals.{traded, number_at}
use Rattle.audit_base.specs.Continuous.{chain, traded_before, chain_traded_in_ledger, entered_in_ledger, size_where_entered, size_in_ledger, rests_before_in_ledger, size_of_order, is_placed_order}
use Rattle.audit_base.proofs.ContinuousLemmas.{target-below, entered-none, entered-some, size-is}
use Rattle.audit_base.proofs.SumLemmas.{sum_by-same}
use Rattle.session_audit.specs.Numbers.{total_of_chain}
use Rattle.session_audit.specs.PhaseOrders.{left_after_continuous}
use Rattle.session_audit.specs.Leaving.{HasContinuousTotals, EndsBy, rests_before_with, target_rests_before, has_resting_target, size_if_target_rests, sizes_below, continuous_leaves, left_numbers_after_continuous}
use Rattle.session_audit.proofs.ListBelowLemmas.{list_below-at, list_below-more}
use Rattle.session_audit.proofs.EndedLemmas.{IsEnded, target-ended, chain-ended, chain-traded, before-whole, traded-all}

and-true : (b : Bool) → (b && true) ≡ b
and-true true = refl
and-true false = refl

module _ (orders : List Order) (list : IsOrderList orders) (regular : Regular orders) (deals : List Deal) (numbers : List ℕ) (is : HasContinuousTotals orders deals numbers) where
  abbrev past : ℕ → ℕ → ℕ
  past = traded_before orders deals

  chain-total : (i : ℕ) → i < length orders → total_of_chain orders numbers i ≡ chain_traded_in_ledger orders past i
  chain-total i lt =
      sum_by-same (number_at numbers) (traded deals) (chain orders i) (λ n x below. is.totals.each (get_or (chain orders i) n x) (chain-ended orders list regular i lt n x below).inside)
      ∙ sym (before-whole orders list regular deals is.conforms i lt)

  -- an order rests before p by its size and what it traded before p
  rests-by : (p i : ℕ) → rests_before_in_ledger orders past p i ≡ rests_before_with (order_at orders i) p (size_in_ledger orders past i) (past p i)
  unfolding rests_before_in_ledger size_in_ledger
  rests-by p i = refl

  target-size : (i : ℕ) (sizes : List ℕ) → i < length orders → sizes ≡ sizes_below orders deals i → (t : ℕ) → (order_at orders i).target ≡ Some t
      → rests_before_in_ledger orders past (place_at orders i) t ≡ rests_before_with (order_at orders t) (place_at orders i) (number_at sizes t) (number_at numbers t)
  target-size i sizes lt are t e =
      let less = target-below orders list i lt t e in
      let inside : t < length orders = omega arith in
      let size_is : size_in_ledger orders past t ≡ number_at sizes t = sym (ap (λ (ns : List ℕ). number_at ns t) are ∙ list_below-at (size_of_order orders deals) i t 0 less) in
      let ends : IsEnded orders i t = target-ended orders list regular i t lt e in
      let traded_is : past (place_at orders i) t ≡ number_at numbers t = chain-traded orders list regular deals is.conforms i t lt ends ∙ sym (is.totals.each t inside) in
      rests-by (place_at orders i) t ∙ (λ j. rests_before_with (order_at orders t) (place_at orders i) (size_is j) (traded_is j))

  entered-by : (i : ℕ) (sizes : List ℕ) (target : Option ℕ) → i < length orders → sizes ≡ sizes_below orders deals i → (order_at orders i).target ≡ target
      → entered_in_ledger orders past i ≡ (is_placed_order orders i && target_rests_before orders numbers sizes (place_at orders i) target)
  entered-by i sizes None lt are e = entered-none orders list past i e ∙ sym (and-true (is_placed_order orders i))
  entered-by i sizes (Some t) lt are e = entered-some orders list past i t lt e ∙ ap (λ (b : Bool). is_placed_order orders i && b) (target-size i sizes lt are t e)

  size-by : (i : ℕ) (sizes : List ℕ) → i < length orders → sizes ≡ sizes_below orders deals i
      → size_if_target_rests (order_at orders i) (has_resting_target orders numbers sizes i) (total_of_chain orders numbers i) ≡ size_of_order orders deals i
  size-by i sizes lt are =
      let e = entered-by i sizes (order_at orders i).target lt are refl in
      let b = chain-total i lt in
      sym (size-is orders list past i ∙ ap (λ (t : Bool). size_where_entered t orders past i) e ∙ ap (λ (n : ℕ). cond (is_placed_order orders i && has_resting_target orders numbers sizes i) (quantity_at orders i - n) 0) (sym b))

  -- one size more, in the words of the code
  pub sizes-more : (i : ℕ) (sizes : List ℕ) (o : Order) (there : Bool) (spent : ℕ) → i < length orders → sizes ≡ sizes_below orders deals i → o ≡ order_at orders i
      → there ≡ has_resting_target orders numbers sizes i → spent ≡ total_of_chain orders numbers i
      → sizes ++ size_if_target_rests o there spent ∷ [] ≡ sizes_below orders deals (i + 1)
  sizes-more i sizes o there spent lt are o_is there_is spent_is =
      let one : size_if_target_rests o there spent ≡ size_of_order orders deals i = (λ j. size_if_target_rests (o_is j) (there_is j) (spent_is j)) ∙ size-by i sizes lt are in
      (λ j. are j ++ one j ∷ []) ∙ sym (list_below-more (size_of_order orders deals) i)

  pub left-by : (last : ℕ) → EndsBy orders deals last → (i size_in_ledger traded_i : ℕ) → i < length orders → size_in_ledger ≡ size_of_order orders deals i → traded_i ≡ number_at numbers i
      → continuous_leaves (order_at orders i) last size_in_ledger traded_i ≡ left_after_continuous orders deals last i
  left-by last ends i size_i traded_i lt size_is traded_is =
      let whole : past (suc last) i ≡ traded deals i = traded-all orders list regular deals is.conforms (suc last) i (λ n x below named. let le = ends n x below in omega arith) in
      let t : traded_i ≡ past (suc last) i = traded_is ∙ is.totals.each i lt ∙ sym whole in
      let next : last + 1 ≡ suc last = add-one last in
      (λ j. cond (rests_before_with (order_at orders i) (next j) (size_is j) (t j)) (size_is j - t j) 0)
      ∙ ap (λ (b : Bool). cond b (size_in_ledger orders past i - past (suc last) i) 0) (sym (rests-by (suc last) i))

  pub lefts-more : (last : ℕ) → EndsBy orders deals last → (i : ℕ) (left : List ℕ) (o : Order) (size_i traded_i : ℕ) → i < length orders → left ≡ left_numbers_after_continuous orders deals last i → o ≡ order_at orders i
      → size_i ≡ size_of_order orders deals i → traded_i ≡ number_at numbers i
      → left ++ continuous_leaves o last size_i traded_i ∷ [] ≡ left_numbers_after_continuous orders deals last (i + 1)
  lefts-more last ends i left o size_i traded_i lt are o_is size_is traded_is =
      let one : continuous_leaves o last size_i traded_i ≡ left_after_continuous orders deals last i = ap (λ (p : Order). continuous_leaves p last size_i traded_i) o_is ∙ left-by last ends i size_i traded_i lt size_is traded_is in
      (λ j. are j ++ one j ∷ []) ∙ sym (list_below-more (left_after_continuous orders deals last) i)
