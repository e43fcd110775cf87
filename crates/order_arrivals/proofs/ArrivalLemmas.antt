-- What each order has traded along its chain, and what an order brings at its own record.
use Rattle.std.proofs.Common.{◌≡◌, ◌≢◌, ◌<◌, ◌≤◌, ◌+◌, ◌-◌, ◌^◌, ℕ, zero, suc, List, [], ◌∷◌, ◌++◌, length, Bool, true, false, cond, refl, sym, ap, ◌∙◌, arith, inl, inr, subst, get_or, sum_by, length-append}
use Rattle.std.specs.Prelude.{◌&&◌, not, nat_lt, replicate, slice_set}
use Rattle.std.proofs.lemmas.Bool.{cases_eq, lt-ltb}
use Rattle.std.proofs.lemmas.List.{get_or_append_left, get_or_push, get_or-replicate, get_or-set_other, length-replicate}
use Rattle.audit_base.specs.declared.orders.Order.{Order}
use Rattle.audit_base.specs.declared.orders.Deal.{Deal}
use Rattle.audit_base.specs.Continuous.{traded_before, chain_traded_quantity, has_entered, size_of_order, is_cancelled_at_place, uncancelled_before, size_in_ledger, rests_before_in_ledger}
use Rattle.audit_base.specs.Deals.{deal_past_end, number_at, NamesOrders, IsDealList}
use Rattle.audit_base.specs.Orders.{order_at, place_at, side_at, quantity_at, may_rest, IsOrderList}
use Rattle.audit_base.proofs.ContinuousLemmas.{target-below, entered-none, entered-some, size-is}
use Rattle.audit_base.proofs.LeastLemmas.{cases_Option}
use Rattle.audit_base.proofs.OffenceLemmas.{get_or-default}
use Rattle.audit_base.proofs.OrderLemmas.{place-rises, not_both_sides}
use Rattle.audit_base.proofs.SumLemmas.{below-none}
use Rattle.continuous_audit.specs.declared.incoming_deals.IncomingDeal.{IncomingDeal}
use Rattle.continuous_audit.specs.IncomingDeals.{AreIncomingDeals, incoming_deal_of, incoming_deals_below, running_total}
use Rattle.std.proofs.lemmas.List.Sums.{sum_by-append, sum_by-cons}
use Rattle.continuous_audit.specs.Scans.{deal_index_at, incoming_deal_past_end}
use Rattle.order_arrivals.specs.Sums.{AreNoAmounts, ChainAmounts, IsAmountAdded}
use Rattle.order_arrivals.specs.declared.arrivals.Arrivals.{Arrivals}
use Rattle.order_arrivals.specs.declared.arrivals.TradedSums.{TradedSums}
use Rattle.order_arrivals.specs.declared.dealt_orders.DealtOrders.{DealtOrders}
use Rattle.order_arrivals.specs.Arrivals.{AreArrivals, AreTradedSums, enters_where, target_rests_with}
use Rattle.order_arrivals.specs.DealtOrders.{HaveTraded, IsMarket}
use Rattle.order_arrivals.specs.Resting.{rests_with}

-- whether an order of an earlier record rests before a place
rest-bools : (l u : Bool) → (l && u) ≡ ((l && true) && u)
rest-bools true u = refl
rest-bools false u = refl

pub rests-is : (orders : List Order) (past : ℕ → ℕ → ℕ) (p x size traded : ℕ) → place_at orders x < p → size ≡ size_in_ledger orders past x → traded ≡ past p x
    → rests_with (order_at orders x) p size traded ≡ rests_before_in_ledger orders past p x
unfolding rests_before_in_ledger size_in_ledger
rests-is orders past p x size traded earlier size_is traded_is =
    let now : nat_lt (place_at orders x) p ≡ true = lt-ltb _ _ earlier in
    rw (size_is, traded_is, now) (rest-bools (may_rest (order_at orders x).life) (uncancelled_before (order_at orders x).cancelled p && nat_lt (past p x) (size_in_ledger orders past x)))

and-true : (b c : Bool) → c ≡ true → (b && c) ≡ b
and-true true c e = e
and-true false c e = refl

module _ (orders : List Order) (list : IsOrderList orders) (deals : List Deal) (n : ℕ) (n_inside : n < length orders) where
  abbrev past : ℕ → ℕ → ℕ
  past = traded_before orders deals

  abbrev p : ℕ
  p = place_at orders n

  -- whether the order at n enters, from the sizes of the orders before it and what they have traded
  pub entered-is : (sizes traded : List ℕ) → ((x : ℕ) → x < n → number_at sizes x ≡ size_of_order orders deals x) → ((x : ℕ) → x < length orders → number_at traded x ≡ past p x)
      → enters_where (order_at orders n) (target_rests_with orders sizes traded p (order_at orders n).target) ≡ has_entered orders deals n
  entered-is sizes traded sizes_are traded_are = elim (cases_Option (order_at orders n).target) [
    | inl e ↦ and-true (not (is_cancelled_at_place (order_at orders n).cancelled p)) (target_rests_with orders sizes traded p (order_at orders n).target) (ap (target_rests_with orders sizes traded p) e) ∙ sym (entered-none orders list past n e)
    | inr some ↦
        let t = some.0 in
        let lower = target-below orders list n n_inside t some.1 in
        let rests : target_rests_with orders sizes traded p (order_at orders n).target ≡ rests_before_in_ledger orders past p t =
        ap (target_rests_with orders sizes traded p) some.1 ∙ rests-is orders past p t (number_at sizes t) (number_at traded t) (place-rises orders list t n lower n_inside) (sizes_are t lower) (traded_are t (omega arith)) in
        ap (λ (b : Bool). not (is_cancelled_at_place (order_at orders n).cancelled p) && b) rests ∙ sym (entered-some orders list past n t n_inside some.1)
  ]

  -- a list with one number more
  pushed : (A : Type 0) (d : A) (xs ys : List A) (y : A) (is : ℕ → A) → length xs ≡ n → ((x : ℕ) → x < n → get_or xs x d ≡ is x) → y ≡ is n → ys ≡ xs ++ y ∷ [] → (x : ℕ) → x < suc n → get_or ys x d ≡ is x
  pushed A d xs ys y is count each here made x lt = ap (λ (zs : List A). get_or zs x d) made ∙ elim (cases_eq x n) [
    | inl e ↦ get_or_push xs y d x (count ∙ sym e) ∙ here ∙ ap is (sym e)
    | inr ne ↦ let less : x < length xs = omega (arith, ne) in get_or_append_left xs (y ∷ []) d x less ∙ each x (omega (arith, ne))
  ]

  longer : (A : Type 0) (xs ys : List A) (y : A) → length xs ≡ n → ys ≡ xs ++ y ∷ [] → length ys ≡ suc n
  longer A xs ys y count made = ap length made ∙ length-append xs (y ∷ []) ∙ (omega arith)

  -- Before, Entered and Size of one order more
  pub arrived : (old new : Arrivals) → AreArrivals orders deals n old → (chain_traded size : ℕ) (entered : Bool)
      → chain_traded ≡ chain_traded_quantity orders deals n → chain_traded ≤ 2 ^ 80 → entered ≡ has_entered orders deals n → size ≡ cond entered (quantity_at orders n - chain_traded) 0
      → new.chain_traded.items ≡ old.chain_traded.items ++ chain_traded ∷ [] → new.entered.items ≡ old.entered.items ++ entered ∷ [] → new.sizes.items ≡ old.sizes.items ++ size ∷ []
      → AreArrivals orders deals (suc n) new
  arrived old new is chain_traded size entered chain_is most entered_is size_is c_new e_new s_new =
      let z : size ≡ size_of_order orders deals n = size_is ∙ (λ i. cond (entered_is i) (quantity_at orders n - chain_is i) 0) ∙ sym (size-is orders list past n) in
      record {
        chain_count = longer ℕ old.chain_traded.items new.chain_traded.items chain_traded is.chain_count c_new;
        entered_count = longer Bool old.entered.items new.entered.items entered is.entered_count e_new;
        size_count = longer ℕ old.sizes.items new.sizes.items size is.size_count s_new;
        chain_traded = pushed ℕ 0 old.chain_traded.items new.chain_traded.items chain_traded (chain_traded_quantity orders deals) is.chain_count is.chain_traded chain_is c_new;
        fits = λ x lt. elim (cases_eq x n) [
          | inl e ↦ let v : number_at new.chain_traded.items x ≡ chain_traded = ap (λ (zs : List ℕ). number_at zs x) c_new ∙ get_or_push old.chain_traded.items chain_traded 0 x (is.chain_count ∙ sym e) in omega arith
          | inr ne ↦
              let count = is.chain_count in
              let v : number_at new.chain_traded.items x ≡ number_at old.chain_traded.items x = ap (λ (zs : List ℕ). number_at zs x) c_new ∙ get_or_append_left old.chain_traded.items (chain_traded ∷ []) 0 x (omega (arith, ne)) in
              let f = is.fits x (omega (arith, ne)) in
              omega arith
        ];
        entered = pushed Bool false old.entered.items new.entered.items entered (has_entered orders deals) is.entered_count is.entered entered_is e_new;
        sizes = pushed ℕ 0 old.sizes.items new.sizes.items size (size_of_order orders deals) is.size_count is.sizes z s_new;
      }

-- what both orders of a deal have traded is its quantity more
pub added-both : (orders : List Order) (d : Deal) → NamesOrders orders d → (q : ℕ) (old half new : ChainAmounts) → IsAmountAdded d.bid q old half → IsAmountAdded d.ask q half new
    → new.amounts ≡ slice_set (slice_set old.amounts d.bid (get_or old.amounts d.bid 0 + q)) d.ask (get_or old.amounts d.ask 0 + q)
added-both orders d named q old half new first second =
    let xs = old.amounts in
    let apart : d.ask ≢ d.bid = λ e. not_both_sides (sym named.buys ∙ ap (side_at orders) (sym e) ∙ named.sells) in
    let same : number_at half.amounts d.ask ≡ get_or xs d.ask 0 = ap (λ (zs : List ℕ). number_at zs d.ask) first.amounts ∙ get_or-set_other {A = ℕ} xs d.bid d.ask (number_at xs d.bid + q) 0 apart in
    second.amounts ∙ (λ i. slice_set (first.amounts i) d.ask (same i + q))

-- the deal that the code reads names orders of the list
pub named-read : (orders : List Order) (deals : List Deal) → IsDealList orders deals → (incoming_deals : List IncomingDeal) → AreIncomingDeals orders deals incoming_deals → (at : ℕ) → at < length incoming_deals → (d : Deal) → d ≡ get_or deals (deal_index_at incoming_deals at) d → NamesOrders orders d
named-read orders deals deal_list incoming_deals are at lt d read =
    let inside = (are.only at incoming_deal_past_end lt).0 in
    subst (NamesOrders orders) (sym (read ∙ get_or-default deals (deal_index_at incoming_deals at) d deal_past_end inside)) (deal_list.named (deal_index_at incoming_deals at) deal_past_end inside)

-- there are no more incoming deals than deals
ones : (xs : List IncomingDeal) → sum_by (λ (c : IncomingDeal). 1) xs ≡ length xs
ones [] = refl
ones (x ∷ xs) = omega (arith, ones xs, sum_by-cons (λ (c : IncomingDeal). 1) x xs)

ones-upto : (orders : List Order) (deals : List Deal) (n : ℕ) → sum_by (λ (c : IncomingDeal). 1) (incoming_deals_below orders deals n) ≡ n
ones-upto orders deals zero = refl
ones-upto orders deals (suc n) = omega (arith, ones-upto orders deals n, ones (incoming_deal_of orders deals n ∷ []), sum_by-append (λ (c : IncomingDeal). 1) (incoming_deals_below orders deals n) (incoming_deal_of orders deals n ∷ []))

pub few-incoming : (orders : List Order) (deals : List Deal) (incoming_deals : List IncomingDeal) → AreIncomingDeals orders deals incoming_deals → length incoming_deals ≤ length deals
few-incoming orders deals incoming_deals are = omega (arith, are.sums (λ c. 1), ones incoming_deals, ones-upto orders deals (length deals))

-- what is judged, in the words of the code
pub market-read : (m : DealtOrders) (incoming_deals : List IncomingDeal) → IsOrderList m.orders.now → IsDealList m.orders.now m.deals.now → m.incoming_deals.now ≡ incoming_deals → AreIncomingDeals m.orders.now m.deals.now incoming_deals → IsMarket m
market-read m incoming_deals list deal_list same are = record {
  order_list = list;
  deal_list = deal_list;
  incoming_deals = subst (AreIncomingDeals m.orders.now m.deals.now) (sym same) are;
}

-- before the first order
pub traded-first : (m : DealtOrders) (added : ℕ) (xs : List ℕ) → added ≡ 0 → xs ≡ replicate (length m.orders.now) 0 → HaveTraded m 0 added xs
traded-first m added xs none zeros =
    let n = length m.orders.now in
    let zero-at : (x : ℕ) → x < n → number_at xs x ≡ 0 = λ x lt. ap (λ (ys : List ℕ). number_at ys x) zeros ∙ get_or-replicate {A = ℕ} n x 0 0 lt in
    record {
      totals = record {
        inside = omega arith;
        count = ap length zeros ∙ length-replicate {A = ℕ} n 0;
        sums = λ x lt. zero-at x lt ∙ ap (λ (k : ℕ). running_total m.deals.now m.incoming_deals.now k x) (sym none);
        fits = λ x lt. let z = zero-at x lt in omega arith;
      };
      split = record { early = λ i lt below. absurd (omega arith); late = λ i le below. omega arith };
    }

pub sums-first : (m : DealtOrders) (s : TradedSums) → AreNoAmounts m.orders.now s.sums → s.added ≡ 0 → AreTradedSums m 0 s
sums-first m s is none =
    let orders = m.orders.now in
    let n = length orders in
    let zero-at : (x : ℕ) → x < n → number_at s.sums.amounts x ≡ 0 = λ x lt. ap (λ (xs : List ℕ). number_at xs x) is.zeros ∙ get_or-replicate {A = ℕ} n x 0 0 lt in
    let count : length s.sums.amounts ≡ n = ap length is.zeros ∙ length-replicate {A = ℕ} n 0 in
    record {
      families = is.families;
      traded = traded-first m s.added s.sums.amounts none is.zeros;
      total = let z = below-none (number_at s.sums.amounts) (length s.sums.amounts) (λ x lt. zero-at x (omega arith)) in omega arith;
    }

pub arrivals-first : (orders : List Order) (deals : List Deal) (a : Arrivals) → a.chain_traded.items ≡ [] → a.entered.items ≡ [] → a.sizes.items ≡ [] → AreArrivals orders deals 0 a
arrivals-first orders deals a c e s = record {
  chain_count = ap length c;
  entered_count = ap length e;
  size_count = ap length s;
  chain_traded = λ x lt. absurd (omega arith);
  fits = λ x lt. absurd (omega arith);
  entered = λ x lt. absurd (omega arith);
  sizes = λ x lt. absurd (omega arith);
}
