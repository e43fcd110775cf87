-- The numbers of the audit from one order to the next.
use Rattle.std.proofs.Common.{◌≡◌, ◌<◌, ◌≤◌, ◌-◌, ◌*◌, ◌^◌, ℕ, zero, suc, List, [], ◌∷◌, length, Bool, true, false, refl, sym, ap, ◌∙◌, arith, inl, inr, subst, sum_by}
use Rattle.std.specs.Prelude.{slice_set}
use Rattle.std.proofs.lemmas.Bool.{cases_eq}
use Rattle.std.proofs.lemmas.List.{length-set, get_or-set_same, get_or-set_other}
use Rattle.std.proofs.lemmas.List.Sums.{sum_by-cons, sum_by-append}
use Rattle.audit_base.specs.declared.orders.Order.{Order}
use Rattle.audit_base.specs.declared.orders.Deal.{Deal}
use Rattle.audit_base.specs.Orders.{place_at, IsOrderList}
use Rattle.audit_base.specs.Deals.{IsDealList, number_at}
use Rattle.audit_base.specs.Continuous.{traded_before, chain_traded_quantity, size_of_order, left_after}
use Rattle.audit_base.proofs.OrderLemmas.{place-rises}
use Rattle.audit_base.proofs.OffenceLemmas.{get_or-default}
use Rattle.continuous_audit.specs.declared.incoming_deals.IncomingDeal.{IncomingDeal}
use Rattle.continuous_audit.specs.declared.indexed_deals.IndexedDeals.{IndexedDeals}
use Rattle.continuous_audit.specs.declared.dealing_state.DealingState.{DealingState}
use Rattle.continuous_audit.specs.declared.order_numbers.OrderNumbers.{OrderNumbers}
use Rattle.continuous_audit.specs.Progress.{AreNumbers}
use Rattle.continuous_audit.specs.IncomingDeals.{AreIncomingDeals, incoming_deal_of, incoming_deals_below, running_total}
use Rattle.continuous_audit.specs.Chains.{HaveChainsEnded, HasChainEnded, AreNumbersInBounds, IsKnownBeforeArrival, flag_in}
use Rattle.continuous_audit.specs.Records.{AreChainTradedNumbers, AreLeftBefore, AreSizes, AreTradedBefore, ConformsBelow}
use Rattle.continuous_audit.specs.Scans.{AreTotalsSmall, AreRunningTotals, IsLeftRefreshed, IsSplitAt, incoming_deal_past_end, incoming_order_at}
use Rattle.continuous_audit.proofs.IncomingLemmas.{cause-inside, running-before}
use Rattle.continuous_audit.proofs.RefreshLemmas.{refreshed-after}

ones : (xs : List IncomingDeal) → sum_by (λ (c : IncomingDeal). 1) xs ≡ length xs
ones [] = refl
ones (x ∷ xs) = omega (arith, ones xs, sum_by-cons (λ (c : IncomingDeal). 1) x xs)

ones-upto : (orders : List Order) (deals : List Deal) (n : ℕ) → sum_by (λ (c : IncomingDeal). 1) (incoming_deals_below orders deals n) ≡ n
ones-upto orders deals zero = refl
ones-upto orders deals (suc n) = omega (arith, ones-upto orders deals n, ones (incoming_deal_of orders deals n ∷ []), sum_by-append (λ (c : IncomingDeal). 1) (incoming_deals_below orders deals n) (incoming_deal_of orders deals n ∷ []))

-- one number more
module _ (orders : List Order) (deals : List Deal) (n : ℕ) (n_inside : n < length orders) where
  pub before-more : (chain_traded ys : List ℕ) (b : ℕ) → AreChainTradedNumbers orders deals n chain_traded → b ≡ chain_traded_quantity orders deals n → b ≤ n * 2 ^ 72 → length orders < 2 ^ 32 → ys ≡ slice_set chain_traded n b → AreChainTradedNumbers orders deals (suc n) ys
  before-more chain_traded ys b old is most few made = subst (AreChainTradedNumbers orders deals (suc n)) (sym made) (record {
    count = length-set {A = ℕ} chain_traded n b ∙ old.count;
    is = λ x lt. elim (cases_eq x n) [
      | inl e ↦ subst (λ (y : ℕ). number_at (slice_set chain_traded n b) y ≡ chain_traded_quantity orders deals y) (sym e) (get_or-set_same {A = ℕ} chain_traded n b 0 (omega (arith, old.count)) ∙ is)
      | inr ne ↦ get_or-set_other {A = ℕ} chain_traded n x b 0 ne ∙ old.is x (omega (arith, ne))
    ];
    fits = λ x. elim (cases_eq x n) [
      | inl e ↦ subst (λ (y : ℕ). number_at (slice_set chain_traded n b) y ≤ 2 ^ 126) (sym e) (let g = get_or-set_same {A = ℕ} chain_traded n b 0 (omega (arith, old.count)) in omega arith)
      | inr ne ↦ let g = get_or-set_other {A = ℕ} chain_traded n x b 0 ne in let f = old.fits x in omega arith
    ];
    bounded = λ x. elim (cases_eq x n) [
      | inl e ↦ subst (λ (y : ℕ). number_at (slice_set chain_traded n b) y ≤ y * 2 ^ 72) (sym e) (let g = get_or-set_same {A = ℕ} chain_traded n b 0 (omega (arith, old.count)) in omega arith)
      | inr ne ↦ let g = get_or-set_other {A = ℕ} chain_traded n x b 0 ne in let f = old.bounded x in omega arith
    ];
  })

  pub chain_ended-more : (chain_ended ys : List Bool) (b : Bool) → HaveChainsEnded orders n chain_ended → (b ≡ true → HasChainEnded orders n) → ys ≡ slice_set chain_ended n b → HaveChainsEnded orders (suc n) ys
  chain_ended-more chain_ended ys b old is made = subst (HaveChainsEnded orders (suc n)) (sym made) (record {
    count = length-set {A = Bool} chain_ended n b ∙ old.count;
    is = λ x lt t. elim (cases_eq x n) [
      | inl e ↦ subst (HasChainEnded orders) (sym e) (is (sym (ap (flag_in (slice_set chain_ended n b)) e ∙ get_or-set_same {A = Bool} chain_ended n b false (omega (arith, old.count))) ∙ t))
      | inr ne ↦ old.is x (omega (arith, ne)) (sym (get_or-set_other {A = Bool} chain_ended n x b false ne) ∙ t)
    ];
  })

  pub sizes-more : (sizes ys : List ℕ) (z : ℕ) → AreSizes orders deals n sizes → z ≡ size_of_order orders deals n → z ≤ 10 ^ 12 → ys ≡ slice_set sizes n z → AreSizes orders deals (suc n) ys
  sizes-more sizes ys z old is fits made = subst (AreSizes orders deals (suc n)) (sym made) (record {
    count = length-set {A = ℕ} sizes n z ∙ old.count;
    is = λ x lt. elim (cases_eq x n) [
      | inl e ↦ subst (λ (y : ℕ). number_at (slice_set sizes n z) y ≡ size_of_order orders deals y) (sym e) (get_or-set_same {A = ℕ} sizes n z 0 (omega (arith, old.count)) ∙ is)
      | inr ne ↦ get_or-set_other {A = ℕ} sizes n x z 0 ne ∙ old.is x (omega (arith, ne))
    ];
    most = λ x. elim (cases_eq x n) [
      | inl e ↦ subst (λ (y : ℕ). number_at (slice_set sizes n z) y ≤ 10 ^ 12) (sym e) (let g = get_or-set_same {A = ℕ} sizes n z 0 (omega (arith, old.count)) in omega arith)
      | inr ne ↦ let g = get_or-set_other {A = ℕ} sizes n x z 0 ne in let f = old.most x in omega arith
    ];
  })

module _ (orders : List Order) (list : IsOrderList orders) (deals : List Deal) (deal_list : IsDealList orders deals) (incoming_deals : List IncomingDeal) (are : AreIncomingDeals orders deals incoming_deals) where
  few-incoming_deals : length incoming_deals ≤ length deals
  few-incoming_deals = omega (arith, are.sums (λ c. 1), ones incoming_deals, ones-upto orders deals (length deals))

  pub running-small : (at : ℕ) (traded : List ℕ) → AreRunningTotals orders deals incoming_deals at traded → AreTotalsSmall orders traded
  running-small at traded run = record {
    count = run.count;
    most = λ x lt.
        let f = run.fits x lt in
        let i = run.inside in
        let few = deal_list.fits_indices in
        omega (arith, few-incoming_deals);
  }

  -- the first incoming deals, those of the orders below m, where these are the orders of places below q
  running-at : (q m at : ℕ) → IsSplitAt incoming_deals m at → ((k : ℕ) → k < length orders → k < m → place_at orders k < q) → ((k : ℕ) → k < length orders → m ≤ k → q ≤ place_at orders k) → (x : ℕ) → running_total deals incoming_deals at x ≡ traded_before orders deals q x
  running-at q m at split low high x = running-before orders list deals deal_list.named incoming_deals are q at x
      (λ i d lt below. subst (λ (c : IncomingDeal). place_at orders c.order < q) (sym (get_or-default incoming_deals i d incoming_deal_past_end below)) (low (incoming_order_at incoming_deals i) (cause-inside orders list deals deal_list.named incoming_deals are i incoming_deal_past_end below) (split.early i lt below)))
      (λ i d le below. subst (λ (c : IncomingDeal). q ≤ place_at orders c.order) (sym (get_or-default incoming_deals i d incoming_deal_past_end below)) (high (incoming_order_at incoming_deals i) (cause-inside orders list deals deal_list.named incoming_deals are i incoming_deal_past_end below) (split.late i le below)))

  pub traded-at : (q m at : ℕ) (traded : List ℕ) → IsSplitAt incoming_deals m at → AreRunningTotals orders deals incoming_deals at traded → ((k : ℕ) → k < length orders → k < m → place_at orders k < q) → ((k : ℕ) → k < length orders → m ≤ k → q ≤ place_at orders k) → AreTradedBefore orders deals q traded
  traded-at q m at traded split run low high = record {
    small = running-small at traded run;
    is = λ x lt. run.sums x lt ∙ running-at q m at split low high x;
  }

  module _ (n : ℕ) (n_inside : n < length orders) where
    abbrev p : ℕ
    p = place_at orders n

    pub traded-then : (at : ℕ) (traded : List ℕ) → IsSplitAt incoming_deals n at → AreRunningTotals orders deals incoming_deals at traded → AreTradedBefore orders deals p traded
    traded-then at traded split run = traded-at p n at traded split run (λ k inside lt. place-rises orders list k n lt n_inside) (λ k inside le. elim (cases_eq k n) [
      | inl e ↦ let same : place_at orders k ≡ p = ap (place_at orders) e in omega arith
      | inr ne ↦ let up = place-rises orders list n k (omega (arith, ne)) inside in omega arith
    ])

    pub traded-now : (at : ℕ) (traded : List ℕ) → IsSplitAt incoming_deals (suc n) at → AreRunningTotals orders deals incoming_deals at traded → AreTradedBefore orders deals (suc p) traded
    traded-now at traded split run = traded-at (suc p) (suc n) at traded split run
        (λ k inside lt. elim (cases_eq k n) [
          | inl e ↦ let same : place_at orders k ≡ p = ap (place_at orders) e in omega arith
          | inr ne ↦ let up = place-rises orders list k n (omega (arith, ne)) n_inside in omega arith
        ])
        (λ k inside le. let up = place-rises orders list n k (omega arith) inside in omega arith)

    pub arrival : (at : ℕ) (traded traded' : List ℕ) (order_numbers : OrderNumbers) → traded' ≡ traded → ConformsBelow orders deals p → AreChainTradedNumbers orders deals n order_numbers.chain_traded.items → AreLeftBefore orders deals n p order_numbers.left.items → IsSplitAt incoming_deals n at → AreRunningTotals orders deals incoming_deals at traded → IsKnownBeforeArrival orders deals n traded' order_numbers
    arrival at traded traded' order_numbers same conforms b l split run =
        let t = traded-then at traded split run in
        record {
          conforms = conforms;
          named = deal_list.named;
          traded_is = λ x lt. ap (λ (xs : List ℕ). number_at xs x) same ∙ t.is x lt;
          chain_traded_is = b.is;
          left_is = l.is;
        }

    pub left-after_deals : (start at : ℕ) (sizes traded old new ys : List ℕ) (m : ℕ) → IsSplitAt incoming_deals n start → IsSplitAt incoming_deals (suc n) at → AreRunningTotals orders deals incoming_deals at traded → AreSizes orders deals (suc n) sizes → AreLeftBefore orders deals n p old
        → IsLeftRefreshed deals incoming_deals start at sizes traded old new → m ≡ number_at sizes n - number_at traded n → ys ≡ slice_set new n m → AreLeftBefore orders deals (suc n) (suc p) ys
    left-after_deals start at sizes traded old new ys m split later run z l refreshed m_is made =
        let t = traded-now at traded later run in
        let long : length new ≡ length orders = refreshed.count ∙ l.count in
        subst (AreLeftBefore orders deals (suc n) (suc p)) (sym made) (record {
          count = length-set {A = ℕ} new n m ∙ long;
          is = λ x lt. elim (cases_eq x n) [
            | inl e ↦ subst (λ (y : ℕ). number_at (slice_set new n m) y ≡ left_after orders deals p y) (sym e) (get_or-set_same {A = ℕ} new n m 0 (omega (arith, long)) ∙ m_is ∙ (λ i. z.is n (omega arith) i - t.is n n_inside i))
            | inr ne ↦ get_or-set_other {A = ℕ} new n x m 0 ne ∙ refreshed-after orders list deals deal_list incoming_deals are n n_inside start at run.inside split later sizes traded old new refreshed (λ y lt. z.is y (omega arith)) t.is l.is x (omega (arith, ne))
          ];
        })

-- whatever the deals are, of these numbers
pub numbers-bounded : (m : IndexedDeals) (n q : ℕ) (numbers : DealingState) → AreNumbers m n q numbers → AreNumbersInBounds m.orders.now n numbers.order_numbers
numbers-bounded m n q numbers known = record {
  chain_traded_count = known.chain_traded.count;
  sizes_count = known.sizes.count;
  left_count = known.left.count;
  chain_ended = known.chain_ended;
  bounded = known.chain_traded.bounded;
}
