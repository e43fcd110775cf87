-- No matching has a volume above a cut, and none of one price has one above the demand or the supply there.
use Rattle.std.proofs.Common.{◌≡◌, ◌≤◌, ◌<◌, ◌+◌, ℕ, List, length, get_or, Bool, true, false, cond, refl, sym, ap, ◌∙◌, arith, inl, inr, sum_by, All}
use Rattle.std.specs.Prelude.{◌&&◌, nat_lt, nat_le}
use Rattle.std.proofs.lemmas.Bool.{cases_Bool, cases_lt, and_left, cond-true, cond-false, leb-true, le-leb, lt-ltb, false≢true}
use Rattle.std.proofs.lemmas.List.{take_all}
use Rattle.std.proofs.lemmas.List.Sums.{sum_by-le-sum_by}
use Rattle.audit_base.specs.declared.terms.Side.{Side}
use Rattle.audit_base.specs.declared.terms.Side.TheVariants.{Buy, Sell}
use Rattle.audit_base.specs.declared.orders.Order.{Order}
use Rattle.audit_base.specs.declared.orders.Deal.{Deal}
use Rattle.audit_base.specs.Sums.{sum_below}
use Rattle.audit_base.specs.Orders.{order_past_end, order_at, quantity_at, limit_at, is_uncancelled_on}
use Rattle.audit_base.specs.Deals.{quantity_traded_by, traded, volume}
use Rattle.audit_base.specs.Calls.{IsMatchingDeal, Matching, Greatest, GreatestUniform}
use Rattle.audit_base.specs.Bounds.{demand_of_order, supply_of_order, supply_below_of_order, demand, supply, supply_below, cut}
use Rattle.audit_base.proofs.SumLemmas.{below-le, below-list, below-single, sum_by-below, sum_by-le-All, sum_by-same, sum_by-none, sum_by-add}
use Rattle.audit_base.proofs.OrderLemmas.{stands-test, test-stands}
use Rattle.audit_base.proofs.DealLemmas.{keeps-names, part-bid, part-ask, part-other_bid, part-other_ask}

-- a sum over the orders is one over their indices
indexed : (f : Order → ℕ) (orders : List Order) → sum_below (λ i. f (order_at orders i)) (length orders) ≡ sum_by f orders
indexed f orders = below-list f orders order_past_end (length orders) (omega arith) ∙ ap (sum_by f) (take_all (length orders) orders (omega arith))

zero-if : (b : Bool) (x : ℕ) → x ≡ 0 → cond b x 0 ≡ 0
zero-if true x e = e
zero-if false x e = refl

sum-if : (b : Bool) (i : ℕ) (deals : List Deal) → sum_by (λ d. cond b (quantity_traded_by i d) 0) deals ≡ cond b (traded deals i) 0
sum-if true i deals = refl
sum-if false i deals = sum_by-none (λ d. 0) deals (λ k d lt. refl)

at-most : (b : Bool) (x y : ℕ) → x ≤ y → cond b x 0 ≤ cond b y 0
at-most true x y h = h
at-most false x y h = omega arith

module _ (orders : List Order) (deals : List Deal) (m : Matching orders deals) (w : ℕ → Bool) where
  -- the standing orders of a side that pass a test
  abbrev on : Side → ℕ → Bool
  on side i = is_uncancelled_on side (order_at orders i) && w i

  bid-parts : (d : Deal) → IsMatchingDeal orders d → sum_below (λ i. cond (on Buy i) (quantity_traded_by i d) 0) (length orders) ≡ cond (w d.bid) d.quantity 0
  bid-parts d k =
      below-single (λ i. cond (on Buy i) (quantity_traded_by i d) 0) (length orders) d.bid k.bid_stands.inside (λ i lt ne. elim (cases_Bool (is_uncancelled_on Buy (order_at orders i))) [
        | inl t ↦ zero-if (on Buy i) (quantity_traded_by i d) (part-other_bid orders d (keeps-names orders d k) i (test-stands orders Buy i lt t).of_side ne)
        | inr f ↦ cond-false (on Buy i) (quantity_traded_by i d) 0 (and_left (is_uncancelled_on Buy (order_at orders i)) (w i) f)
      ])
      ∙ ap (λ b. cond (b && w d.bid) (quantity_traded_by d.bid d) 0) (stands-test orders Buy d.bid k.bid_stands)
      ∙ ap (λ x. cond (w d.bid) x 0) (part-bid d)

  ask-parts : (d : Deal) → IsMatchingDeal orders d → sum_below (λ i. cond (on Sell i) (quantity_traded_by i d) 0) (length orders) ≡ cond (w d.ask) d.quantity 0
  ask-parts d k =
      below-single (λ i. cond (on Sell i) (quantity_traded_by i d) 0) (length orders) d.ask k.ask_stands.inside (λ i lt ne. elim (cases_Bool (is_uncancelled_on Sell (order_at orders i))) [
        | inl t ↦ zero-if (on Sell i) (quantity_traded_by i d) (part-other_ask orders d (keeps-names orders d k) i (test-stands orders Sell i lt t).of_side ne)
        | inr f ↦ cond-false (on Sell i) (quantity_traded_by i d) 0 (and_left (is_uncancelled_on Sell (order_at orders i)) (w i) f)
      ])
      ∙ ap (λ b. cond (b && w d.ask) (quantity_traded_by d.ask d) 0) (stands-test orders Sell d.ask k.ask_stands)
      ∙ ap (λ x. cond (w d.ask) x 0) (part-ask d)

  side-most : (side : Side) → sum_by (λ d. sum_below (λ i. cond (on side i) (quantity_traded_by i d) 0) (length orders)) deals ≤ sum_below (λ i. cond (on side i) (quantity_at orders i) 0) (length orders)
  side-most side =
      let swap = sum_by-below (λ d i. cond (on side i) (quantity_traded_by i d) 0) deals (length orders) in
      let le : sum_below (λ i. sum_by (λ d. cond (on side i) (quantity_traded_by i d) 0) deals) (length orders) ≤ sum_below (λ i. cond (on side i) (quantity_at orders i) 0) (length orders) =
      below-le (λ i. sum_by (λ d. cond (on side i) (quantity_traded_by i d) 0) deals) (λ i. cond (on side i) (quantity_at orders i) 0) (length orders)
      (λ i lt. omega (arith, sum-if (on side i) i deals, at-most (on side i) (traded deals i) (quantity_at orders i) (m.within i lt))) in
      omega arith

  -- what trades with the bids, and with the asks, that pass a test is at most their quantity
  pub bids-most : sum_by (λ d. cond (w d.bid) d.quantity 0) deals ≤ sum_below (λ i. cond (on Buy i) (quantity_at orders i) 0) (length orders)
  bids-most =
      let each = sum_by-same (λ d. sum_below (λ i. cond (on Buy i) (quantity_traded_by i d) 0) (length orders)) (λ d. cond (w d.bid) d.quantity 0) deals (λ k d lt. bid-parts (get_or deals k d) (m.kept k d lt)) in
      let most = side-most Buy in
      omega arith

  pub asks-most : sum_by (λ d. cond (w d.ask) d.quantity 0) deals ≤ sum_below (λ i. cond (on Sell i) (quantity_at orders i) 0) (length orders)
  asks-most =
      let each = sum_by-same (λ d. sum_below (λ i. cond (on Sell i) (quantity_traded_by i d) 0) (length orders)) (λ d. cond (w d.ask) d.quantity 0) deals (λ k d lt. ask-parts (get_or deals k d) (m.kept k d lt)) in
      let most = side-most Sell in
      omega arith

-- the volume of a matching is at most each cut
pub volume-le-cut : (orders : List Order) (deals : List Deal) → Matching orders deals → (p : ℕ) → volume deals ≤ cut orders p
volume-le-cut orders deals m p =
    let above = λ (d : Deal). cond (nat_le p (limit_at orders d.bid)) d.quantity 0 in
    let below = λ (d : Deal). cond (nat_lt (limit_at orders d.ask) p) d.quantity 0 in
    let one : All (λ d. d.quantity ≤ above d + below d) deals = (λ n e lt.
    let d = get_or deals n e in let k = m.kept n e lt in let least = k.limits.least in let most = k.limits.most in
    elim (cases_lt (limit_at orders d.bid) p) [
      | inl low ↦ let t : below d ≡ d.quantity = cond-true (nat_lt (limit_at orders d.ask) p) d.quantity 0 (lt-ltb (limit_at orders d.ask) p (omega arith)) in omega arith
      | inr high ↦ let t : above d ≡ d.quantity = cond-true (nat_le p (limit_at orders d.bid)) d.quantity 0 (le-leb p (limit_at orders d.bid) high) in omega arith
    ]) in
    let sums : volume deals ≤ sum_by (λ d. above d + below d) deals = sum_by-le-All (λ d. d.quantity) (λ d. above d + below d) deals one in
    let bids = bids-most orders deals m (λ i. nat_le p (limit_at orders i)) in
    let asks = asks-most orders deals m (λ i. nat_lt (limit_at orders i) p) in
    omega (arith, sums, bids, asks, sum_by-add above below deals, indexed (demand_of_order p) orders, indexed (supply_below_of_order p) orders)

-- the volume of a matching at one price is at most the demand and the supply there
pub volume-le-demand : (orders : List Order) (deals : List Deal) → Matching orders deals → (p : ℕ) → All (λ d. d.price ≡ p) deals → volume deals ≤ demand orders p
volume-le-demand orders deals m p one =
    let whole : volume deals ≡ sum_by (λ d. cond (nat_le p (limit_at orders d.bid)) d.quantity 0) deals = sum_by-same (λ d. d.quantity) (λ d. cond (nat_le p (limit_at orders d.bid)) d.quantity 0) deals
    (λ n e lt. let d = get_or deals n e in let k = m.kept n e lt in let most = k.limits.most in let price : d.price ≡ p = one n e lt in
    sym (cond-true (nat_le p (limit_at orders d.bid)) d.quantity 0 (le-leb p (limit_at orders d.bid) (omega arith)))) in
    omega (arith, whole, bids-most orders deals m (λ i. nat_le p (limit_at orders i)), indexed (demand_of_order p) orders)

pub volume-le-supply : (orders : List Order) (deals : List Deal) → Matching orders deals → (p : ℕ) → All (λ d. d.price ≡ p) deals → volume deals ≤ supply orders p
volume-le-supply orders deals m p one =
    let whole : volume deals ≡ sum_by (λ d. cond (nat_le (limit_at orders d.ask) p) d.quantity 0) deals = sum_by-same (λ d. d.quantity) (λ d. cond (nat_le (limit_at orders d.ask) p) d.quantity 0) deals
    (λ n e lt. let d = get_or deals n e in let k = m.kept n e lt in let least = k.limits.least in let price : d.price ≡ p = one n e lt in
    sym (cond-true (nat_le (limit_at orders d.ask) p) d.quantity 0 (le-leb (limit_at orders d.ask) p (omega arith)))) in
    omega (arith, whole, asks-most orders deals m (λ i. nat_le (limit_at orders i) p), indexed (supply_of_order p) orders)

-- so a volume that is a cut is the greatest
pub cut-greatest : (orders : List Order) (deals : List Deal) (p : ℕ) → volume deals ≡ cut orders p → Greatest orders deals
cut-greatest orders deals p e others ranges m = let le = volume-le-cut orders others m p in omega arith

weighted-le : (a b c : Bool) (x : ℕ) → (b ≡ true → c ≡ true) → cond (a && b) x 0 ≤ cond (a && c) x 0
weighted-le false b c x h = omega arith
weighted-le true false c x h = omega arith
weighted-le true true true x h = omega arith
weighted-le true true false x h = let e = h refl in absurd (false≢true e)

-- demand falls with the price, and the supply up to a price lies below each greater one
pub demand-falls : (orders : List Order) (p q : ℕ) → p ≤ q → demand orders q ≤ demand orders p
demand-falls orders p q le = sum_by-le-sum_by (demand_of_order q) (demand_of_order p) orders (λ o. weighted-le (is_uncancelled_on Buy o) (nat_le q o.limit) (nat_le p o.limit) o.quantity (λ t. let a = leb-true q o.limit t in le-leb p o.limit (omega arith)))

pub supply-under : (orders : List Order) (p q : ℕ) → p < q → supply orders p ≤ supply_below orders q
supply-under orders p q lt = sum_by-le-sum_by (supply_of_order p) (supply_below_of_order q) orders (λ o. weighted-le (is_uncancelled_on Sell o) (nat_le o.limit p) (nat_lt o.limit q) o.quantity (λ t. let a = leb-true o.limit p t in lt-ltb o.limit q (omega arith)))

-- and a volume that is at least the demand at a price and the supply below it is the greatest at one price
pub line-greatest : (orders : List Order) (deals : List Deal) (q : ℕ) → demand orders q ≤ volume deals → supply_below orders q ≤ volume deals → GreatestUniform orders deals
line-greatest orders deals q d s others ranges m one = elim (cases_lt one.price q) [
  | inl lt ↦ omega (arith, volume-le-supply orders others m one.price one.each, supply-under orders one.price q lt, s)
  | inr ge ↦ omega (arith, volume-le-demand orders others m one.price one.each, demand-falls orders q one.price ge, d)
]
