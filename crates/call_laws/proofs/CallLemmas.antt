-- Pairs of units that fill both sides in rank order give a fair matching of their volume.
use Rattle.std.proofs.Common.{◌≡◌, ◌≤◌, ◌<◌, ◌+◌, ◌-◌, ℕ, List, length, get_or, refl, sym, ap, ◌∙◌, arith, sum_by, All, inl, inr, Bool, true, false, cond, subst}
use Rattle.std.specs.Prelude.{◌&&◌, min, max}
use Rattle.std.proofs.lemmas.Bool.{cases_Bool, cases_lt, and_parts, and_left, and_right, cond-true, cond-false}
use Rattle.audit_base.specs.declared.terms.Side.{Side}
use Rattle.audit_base.specs.declared.terms.Side.TheVariants.{Buy, Sell}
use Rattle.audit_base.specs.declared.orders.Order.{Order}
use Rattle.audit_base.specs.declared.orders.Deal.{Deal}
use Rattle.audit_base.specs.Sums.{sum_below}
use Rattle.audit_base.specs.Orders.{order_past_end, order_at, side_at, quantity_at, limit_at, is_uncancelled_on, IsUncancelledOn, IsOrderList, OrdersInRange}
use Rattle.audit_base.specs.Deals.{traded, volume, DealsInRange}
use Rattle.audit_base.specs.Calls.{IsMatchingDeal, Matching, Fair}
use Rattle.audit_base.specs.Units.{total_quantity_ahead, if_both_uncancelled}
use Rattle.audit_base.specs.Expected.{pair_deals}
use Rattle.audit_base.proofs.SumLemmas.{below-same, below-none, sum_by-same}
use Rattle.audit_base.proofs.OrderLemmas.{stands-test, test-stands, not_both_sides}
use Rattle.audit_base.proofs.PairDealLemmas.{pair_deals-are}
use Rattle.call_laws.proofs.RankedLemmas.{ranked, ranked-sum_indices}
use Rattle.call_laws.proofs.AheadLemmas.{ranks-overlap, ahead-better}
use Rattle.call_laws.proofs.FairLemmas.{trades-stands}
use Rattle.call_laws.proofs.PairedLemmas.{pairs-bid, pairs-ask, pairs-volume}

-- what the order at i has of the first units of its side
abbrev pub taken : List Order → Side → ℕ → ℕ → ℕ
taken orders side total i = min total (total_quantity_ahead orders side i + quantity_at orders i) - total_quantity_ahead orders side i

-- the units of the pairs fill both sides with the first `total` units, no pair has more of them than its bid, they meet at the
-- price of the pair, and there are enough
pub record FillsBoth (orders : List Order) (units price : ℕ → ℕ → ℕ) (total : ℕ) : Type 0 where
  pub bids : (i : ℕ) → IsUncancelledOn orders Buy i → sum_by (units i) (ranked orders Sell) ≡ taken orders Buy total i
  pub asks : (k : ℕ) → IsUncancelledOn orders Sell k → sum_by (λ i. units i k) (ranked orders Buy) ≡ taken orders Sell total k
  pub most : (i k : ℕ) → units i k ≤ quantity_at orders i
  pub meet : (i k : ℕ) → IsUncancelledOn orders Buy i → IsUncancelledOn orders Sell k → 0 < units i k → (limit_at orders k ≤ price i k) × (price i k ≤ limit_at orders i)
  pub enough : total ≤ sum_by (quantity_at orders) (ranked orders Buy)

-- deals that reach a volume: they are a fair matching, and their quantities and prices are in range where those of the orders are
pub record Reaches (orders : List Order) (deals : List Deal) (total : ℕ) : Type 0 where
  pub matching : Matching orders deals
  pub fair : Fair orders deals
  pub reached : volume deals ≡ total
  pub ranges : OrdersInRange orders → DealsInRange deals

cond-and : (a b : Bool) (x : ℕ) → cond (a && b) x 0 ≡ cond a (cond b x 0) 0
cond-and true b x = refl
cond-and false b x = refl

cond-swap : (a b : Bool) (x : ℕ) → cond (a && b) x 0 ≡ cond b (cond a x 0) 0
cond-swap true true x = refl
cond-swap true false x = refl
cond-swap false true x = refl
cond-swap false false x = refl

cond-some : (b : Bool) (x : ℕ) → 0 < cond b x 0 → (b ≡ true) × (cond b x 0 ≡ x)
cond-some true x some = (refl, refl)
cond-some false x some = absurd (omega arith)

-- a sum all of whose terms have one test
cond-sum : (b : Bool) (f : ℕ → ℕ) (n : ℕ) → sum_below (λ k. cond b (f k) 0) n ≡ cond b (sum_below f n) 0
cond-sum true f n = refl
cond-sum false f n = below-none (λ k. 0) n (λ k lt. refl)

-- an order is of one side alone
not-sell : (orders : List Order) (i : ℕ) → IsUncancelledOn orders Buy i → is_uncancelled_on Sell (order_at orders i) ≡ false
not-sell orders i s = elim (cases_Bool (is_uncancelled_on Sell (order_at orders i))) [
  | inl t ↦ absurd (not_both_sides (sym s.of_side ∙ (test-stands orders Sell i s.inside t).of_side))
  | inr f ↦ f
]

not-buy : (orders : List Order) (i : ℕ) → IsUncancelledOn orders Sell i → is_uncancelled_on Buy (order_at orders i) ≡ false
not-buy orders i s = elim (cases_Bool (is_uncancelled_on Buy (order_at orders i))) [
  | inl t ↦ absurd (not_both_sides (sym (test-stands orders Buy i s.inside t).of_side ∙ s.of_side))
  | inr f ↦ f
]

module _ (orders : List Order) (list : IsOrderList orders) (units price : ℕ → ℕ → ℕ) (total : ℕ) (f : FillsBoth orders units price total) where
  abbrev quantity : ℕ → ℕ → ℕ
  quantity = if_both_uncancelled orders units

  abbrev deals : List Deal
  deals = pair_deals orders quantity price

  -- the pairs of a bid, and of an ask, have together what it has of the first units
  row-sum : (i : ℕ) → i < length orders → sum_below (quantity i) (length orders) ≡ cond (is_uncancelled_on Buy (order_at orders i)) (taken orders Buy total i) 0
  row-sum i lt =
      let whole : sum_below (quantity i) (length orders) ≡ cond (is_uncancelled_on Buy (order_at orders i)) (sum_by (units i) (ranked orders Sell)) 0 =
      below-same (quantity i) (λ k. cond (is_uncancelled_on Buy (order_at orders i)) (cond (is_uncancelled_on Sell (order_at orders k)) (units i k) 0) 0) (length orders)
      (λ k below. cond-and (is_uncancelled_on Buy (order_at orders i)) (is_uncancelled_on Sell (order_at orders k)) (units i k))
      ∙ cond-sum (is_uncancelled_on Buy (order_at orders i)) (λ k. cond (is_uncancelled_on Sell (order_at orders k)) (units i k) 0) (length orders)
      ∙ ap (λ x. cond (is_uncancelled_on Buy (order_at orders i)) x 0) (sym (ranked-sum_indices orders Sell (units i))) in
      elim (cases_Bool (is_uncancelled_on Buy (order_at orders i))) [
        | inl t ↦ whole ∙ ap (λ x. cond (is_uncancelled_on Buy (order_at orders i)) x 0) (f.bids i (test-stands orders Buy i lt t))
        | inr t ↦ whole ∙ cond-false _ _ 0 t ∙ sym (cond-false _ _ 0 t)
      ]

  bid-takes : (i : ℕ) → IsUncancelledOn orders Buy i → traded deals i ≡ taken orders Buy total i
  bid-takes i s =
      pairs-bid orders quantity price i s.inside (λ bid. cond-false (is_uncancelled_on Buy (order_at orders bid) && is_uncancelled_on Sell (order_at orders i)) (units bid i) 0 (and_right _ _ (not-sell orders i s)))
      ∙ row-sum i s.inside
      ∙ cond-true (is_uncancelled_on Buy (order_at orders i)) (taken orders Buy total i) 0 (stands-test orders Buy i s)

  ask-takes : (i : ℕ) → IsUncancelledOn orders Sell i → traded deals i ≡ taken orders Sell total i
  ask-takes i s =
      pairs-ask orders quantity price i s.inside (λ ask. cond-false (is_uncancelled_on Buy (order_at orders i) && is_uncancelled_on Sell (order_at orders ask)) (units i ask) 0 (and_left _ _ (not-buy orders i s)))
      ∙ below-same (λ bid. quantity bid i) (λ bid. cond (is_uncancelled_on Buy (order_at orders bid)) (units bid i) 0) (length orders) (λ bid below.
      cond-swap (is_uncancelled_on Buy (order_at orders bid)) (is_uncancelled_on Sell (order_at orders i)) (units bid i)
      ∙ cond-true (is_uncancelled_on Sell (order_at orders i)) (cond (is_uncancelled_on Buy (order_at orders bid)) (units bid i) 0) 0 (stands-test orders Sell i s))
      ∙ sym (ranked-sum_indices orders Buy (λ bid. units bid i))
      ∙ f.asks i s

  takes : (side : Side) (i : ℕ) → IsUncancelledOn orders side i → traded deals i ≡ taken orders side total i
  takes Buy i s = bid-takes i s
  takes Sell i s = ask-takes i s

  record IsMet (d : Deal) : Type 0 where
    keeps : IsMatchingDeal orders d
    some : 0 < d.quantity
    most : d.quantity ≤ quantity_at orders d.bid

  met : All IsMet deals
  met = λ n e lt.
      let d = get_or deals n e in
      let p = (pair_deals-are orders quantity price).each n e lt in
      let some : 0 < quantity d.bid d.ask = (let a = p.some in let b = p.is in omega arith) in
      let c = cond-some (is_uncancelled_on Buy (order_at orders d.bid) && is_uncancelled_on Sell (order_at orders d.ask)) (units d.bid d.ask) some in
      let both = and_parts (is_uncancelled_on Buy (order_at orders d.bid)) (is_uncancelled_on Sell (order_at orders d.ask)) c.0 in
      let b = test-stands orders Buy d.bid p.bid_inside both.0 in
      let a = test-stands orders Sell d.ask p.ask_inside both.1 in
      let m = f.meet d.bid d.ask b a (subst (λ x. 0 < x) c.1 some) in
      let is = p.is in
      let at = p.at in
      record {
        keeps = record { bid_stands = b; ask_stands = a; limits = record { least = omega (arith, m, at); most = omega (arith, m, at) } };
        some = p.some;
        most = omega (arith, is, c.1, f.most d.bid d.ask);
      }

  pairs-matching : Matching orders deals
  pairs-matching =
      let kept : All (IsMatchingDeal orders) deals = λ n e lt. (met n e lt).keeps in
      record {
        kept = kept;
        within = λ i lt. elim (cases_lt 0 (traded deals i)) [
          | inl some ↦ let e = takes (side_at orders i) i (trades-stands orders deals kept i some) in omega arith
          | inr none ↦ omega arith
        ];
      }

  pairs-fair : Fair orders deals
  pairs-fair = record {
    fills = λ side i j s t b some. omega (arith, ahead-better orders side i j s b, takes side i s, takes side j t, some);
  }

  pairs-total : volume deals ≡ total
  pairs-total =
      let rows : volume deals ≡ sum_by (taken orders Buy total) (ranked orders Buy) =
      pairs-volume orders quantity price
      ∙ below-same (λ bid. sum_below (quantity bid) (length orders)) (λ bid. cond (is_uncancelled_on Buy (order_at orders bid)) (taken orders Buy total bid) 0) (length orders) row-sum
      ∙ sym (ranked-sum_indices orders Buy (taken orders Buy total)) in
      let same : sum_by (taken orders Buy total) (ranked orders Buy) ≡ sum_by (λ k. min total (total_quantity_ahead orders Buy k + quantity_at orders k) - max 0 (total_quantity_ahead orders Buy k)) (ranked orders Buy) =
      sum_by-same (taken orders Buy total) (λ k. min total (total_quantity_ahead orders Buy k + quantity_at orders k) - max 0 (total_quantity_ahead orders Buy k)) (ranked orders Buy) (λ n e lt. omega arith) in
      omega (arith, rows, same, ranks-overlap orders Buy list 0 total, f.enough)

  pairs-ranges : OrdersInRange orders → DealsInRange deals
  pairs-ranges ranges = λ n e lt.
      let m = met n e lt in
      let o = ranges (get_or deals n e).bid order_past_end m.keeps.bid_stands.inside in
      record { sized = record { some = m.some; most = omega (arith, m.most, o.sized.most) }; priced = omega (arith, m.keeps.limits.most, o.priced) }

  pub fills-reach : Reaches orders deals total
  fills-reach = record {
    matching = pairs-matching;
    fair = pairs-fair;
    reached = pairs-total;
    ranges = pairs-ranges;
  }
