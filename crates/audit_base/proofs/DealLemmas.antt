-- Sums over deals: Traded sums to Volume on each side, and no property depends on the order of the deals.
use Rattle.std.proofs.Common.{◌≡◌, ◌≢◌, ◌≤◌, ◌<◌, ℕ, suc, List, length, Bool, true, false, cond, refl, sym, ap, ◌∙◌, arith, inl, inr, sum_by, All, subst}
use Rattle.std.specs.Prelude.{◌&&◌, ◌==◌, IsPermutation, nat_lt, nat_le}
use Rattle.std.proofs.lemmas.Bool.{cases_Bool, or_left, or_right, or_from, ne_eqb, eq-eqb, cond-true, cond-false, and_parts, and_from, leb-true, le-leb}
use Rattle.std.proofs.lemmas.List.Sorted.{sum_by-IsPermutation, All-permutation}
use Rattle.audit_base.specs.declared.terms.Side.{Side}
use Rattle.audit_base.specs.declared.terms.Side.TheVariants.{Buy, Sell}
use Rattle.audit_base.specs.declared.orders.Order.{Order}
use Rattle.audit_base.specs.declared.orders.Deal.{Deal}
use Rattle.audit_base.specs.Sums.{sum_below}
use Rattle.audit_base.specs.Orders.{order_at, side_at, limit_at, same_side}
use Rattle.audit_base.specs.Priority.{Better}
use Rattle.audit_base.specs.Deals.{names_order, quantity_traded_by, traded, pair, volume, is_price_within, KeepsLimits, NamesOrders}
use Rattle.audit_base.specs.Calls.{IsMatchingDeal, Matching, Fair, OnePrice, Greatest, GreatestUniform, ConformsFair, ConformsUniform, ConformsMaximum}
use Rattle.audit_base.specs.Continuous.{cause, resting_order, traded_before, size_in_ledger, left_before_in_ledger, rests_before_in_ledger, active_after_in_ledger}
use Rattle.audit_base.specs.ContinuousRules.{ConformsAt, ConformsContinuous}
use Rattle.audit_base.proofs.SumLemmas.{sum_by-below, sum_by-same, sum_by-none, below-same, below-single}
use Rattle.audit_base.proofs.OrderLemmas.{not_both_sides, same_side-is, is-same_side}

pub keeps-names : (orders : List Order) (d : Deal) → IsMatchingDeal orders d → NamesOrders orders d
keeps-names orders d k = record { bid_inside = k.bid_stands.inside; ask_inside = k.ask_stands.inside; buys = k.bid_stands.of_side; sells = k.ask_stands.of_side }

-- the test of the limits says that the deal keeps them, and the other way round
pub test-limits : (orders : List Order) (d : Deal) → is_price_within (order_at orders d.bid) (order_at orders d.ask) d ≡ true → KeepsLimits orders d
test-limits orders d is =
    let parts = and_parts (nat_le (limit_at orders d.ask) d.price) (nat_le d.price (limit_at orders d.bid)) is in
    record { least = leb-true _ _ parts.0; most = leb-true _ _ parts.1 }

pub limits-test : (orders : List Order) (d : Deal) → KeepsLimits orders d → is_price_within (order_at orders d.bid) (order_at orders d.ask) d ≡ true
limits-test orders d keeps = and_from _ _ (le-leb _ _ keeps.least) (le-leb _ _ keeps.most)

-- the part of a deal that belongs to its bid, and to its ask, is its quantity
pub part-bid : (d : Deal) → quantity_traded_by d.bid d ≡ d.quantity
part-bid d = cond-true (names_order d.bid d) d.quantity 0 (or_left _ _ (eq-eqb d.bid d.bid refl))

pub part-ask : (d : Deal) → quantity_traded_by d.ask d ≡ d.quantity
part-ask d = cond-true (names_order d.ask d) d.quantity 0 (or_right _ _ (eq-eqb d.ask d.ask refl))

-- an order of a side has a part of a deal only where it is the deal's order of that side
pub part-other_bid : (orders : List Order) (d : Deal) → NamesOrders orders d → (i : ℕ) → side_at orders i ≡ Buy → i ≢ d.bid → quantity_traded_by i d ≡ 0
part-other_bid orders d n i buys ne =
    let away : d.ask ≢ i = λ e. not_both_sides (sym buys ∙ ap (side_at orders) (sym e) ∙ n.sells) in
    cond-false (names_order i d) d.quantity 0 (or_from _ _ (ne_eqb d.bid i (λ e. ne (sym e))) (ne_eqb d.ask i away))

pub part-other_ask : (orders : List Order) (d : Deal) → NamesOrders orders d → (i : ℕ) → side_at orders i ≡ Sell → i ≢ d.ask → quantity_traded_by i d ≡ 0
part-other_ask orders d n i sells ne =
    let away : d.bid ≢ i = λ e. not_both_sides (sym n.buys ∙ ap (side_at orders) e ∙ sells) in
    cond-false (names_order i d) d.quantity 0 (or_from _ _ (ne_eqb d.bid i away) (ne_eqb d.ask i (λ e. ne (sym e))))

-- the part of a deal that belongs to an order, where the order is of the side
abbrev pub part_on : List Order → Side → Deal → ℕ → ℕ
part_on orders side d i = cond (same_side side (side_at orders i)) (quantity_traded_by i d) 0

cond-none : (b : Bool) (z : ℕ) → cond b z z ≡ z
cond-none true z = refl
cond-none false z = refl

part-on_bids : (orders : List Order) (d : Deal) → NamesOrders orders d → sum_below (part_on orders Buy d) (length orders) ≡ d.quantity
part-on_bids orders d n =
    below-single (part_on orders Buy d) (length orders) d.bid n.bid_inside (λ i lt ne. elim (cases_Bool (same_side Buy (side_at orders i))) [
      | inl on ↦ let none = part-other_bid orders d n i (same_side-is Buy _ on) ne in rw none (cond-none _ 0)
      | inr off ↦ cond-false _ (quantity_traded_by i d) 0 off
    ])
    ∙ cond-true _ (quantity_traded_by d.bid d) 0 (is-same_side Buy _ (sym n.buys)) ∙ part-bid d

part-on_asks : (orders : List Order) (d : Deal) → NamesOrders orders d → sum_below (part_on orders Sell d) (length orders) ≡ d.quantity
part-on_asks orders d n =
    below-single (part_on orders Sell d) (length orders) d.ask n.ask_inside (λ i lt ne. elim (cases_Bool (same_side Sell (side_at orders i))) [
      | inl on ↦ let none = part-other_ask orders d n i (same_side-is Sell _ on) ne in rw none (cond-none _ 0)
      | inr off ↦ cond-false _ (quantity_traded_by i d) 0 off
    ])
    ∙ cond-true _ (quantity_traded_by d.ask d) 0 (is-same_side Sell _ (sym n.sells)) ∙ part-ask d

cond-sum : (b : Bool) (f : Deal → ℕ) (deals : List Deal) → cond b (sum_by f deals) 0 ≡ sum_by (λ d. cond b (f d) 0) deals
cond-sum true f deals = refl
cond-sum false f deals = sym (sum_by-none (λ d. 0) deals (λ k d lt. refl))

-- what the orders of a side trade
abbrev pub side_traded : List Order → List Deal → Side → ℕ
side_traded orders deals side = sum_below (λ i. cond (same_side side (side_at orders i)) (traded deals i) 0) (length orders)

side-parts : (orders : List Order) (deals : List Deal) (side : Side) → side_traded orders deals side ≡ sum_by (λ d. sum_below (part_on orders side d) (length orders)) deals
side-parts orders deals side =
    below-same (λ i. cond (same_side side (side_at orders i)) (traded deals i) 0) (λ i. sum_by (λ d. part_on orders side d i) deals) (length orders)
    (λ i lt. cond-sum (same_side side (side_at orders i)) (quantity_traded_by i) deals)
    ∙ sym (sum_by-below (part_on orders side) deals (length orders))

-- Traded of all bids, and of all asks, is Volume
pub bids-volume : (orders : List Order) (deals : List Deal) → All (NamesOrders orders) deals → side_traded orders deals Buy ≡ volume deals
bids-volume orders deals named = side-parts orders deals Buy
    ∙ sum_by-same (λ d. sum_below (part_on orders Buy d) (length orders)) (λ d. d.quantity) deals (λ k e lt. part-on_bids orders _ (named k e lt))

pub asks-volume : (orders : List Order) (deals : List Deal) → All (NamesOrders orders) deals → side_traded orders deals Sell ≡ volume deals
asks-volume orders deals named = side-parts orders deals Sell
    ∙ sum_by-same (λ d. sum_below (part_on orders Sell d) (length orders)) (λ d. d.quantity) deals (λ k e lt. part-on_asks orders _ (named k e lt))

-- The same deals in another order.

module _ (ds es : List Deal) (same : IsPermutation ds es) where
  pub traded-permutation : (i : ℕ) → traded es i ≡ traded ds i
  traded-permutation i = sum_by-IsPermutation (quantity_traded_by i) ds es same

  pub volume-permutation : volume es ≡ volume ds
  volume-permutation = sum_by-IsPermutation (λ d. d.quantity) ds es same

  pub pair-permutation : (bid ask : ℕ) → pair es bid ask ≡ pair ds bid ask
  pair-permutation bid ask = sum_by-IsPermutation (λ d. cond ((d.bid == bid) && (d.ask == ask)) d.quantity 0) ds es same

  pub Matching-permutation : (orders : List Order) → Matching orders ds → Matching orders es
  Matching-permutation orders m = record {
    kept = All-permutation (IsMatchingDeal orders) ds es same m.kept;
    within = λ i lt. let e = traded-permutation i in let w = m.within i lt in omega arith;
  }

  pub Fair-permutation : (orders : List Order) → Fair orders ds → Fair orders es
  Fair-permutation orders f = record {
    fills = λ side i j s t b some. let ei = traded-permutation i in let ej = traded-permutation j in ei ∙ f.fills side i j s t b (omega arith);
  }

  pub OnePrice-permutation : OnePrice ds → OnePrice es
  OnePrice-permutation o = record { price = o.price; each = All-permutation (λ d. d.price ≡ o.price) ds es same o.each }

  pub Greatest-permutation : (orders : List Order) → Greatest orders ds → Greatest orders es
  Greatest-permutation orders g = λ others ranges m. let le = g others ranges m in let e = volume-permutation in omega arith

  pub GreatestUniform-permutation : (orders : List Order) → GreatestUniform orders ds → GreatestUniform orders es
  GreatestUniform-permutation orders g = λ others ranges m o. let le = g others ranges m o in let e = volume-permutation in omega arith

  pub ConformsFair-permutation : (orders : List Order) → ConformsFair orders ds → ConformsFair orders es
  ConformsFair-permutation orders c = record { matching = Matching-permutation orders c.matching; fair = Fair-permutation orders c.fair }

  pub ConformsUniform-permutation : (orders : List Order) → ConformsUniform orders ds → ConformsUniform orders es
  ConformsUniform-permutation orders c = record {
    matching = Matching-permutation orders c.matching;
    fair = Fair-permutation orders c.fair;
    one_price = OnePrice-permutation c.one_price;
    greatest = GreatestUniform-permutation orders c.greatest;
  }

  pub ConformsMaximum-permutation : (orders : List Order) → ConformsMaximum orders ds → ConformsMaximum orders es
  ConformsMaximum-permutation orders c = record { matching = Matching-permutation orders c.matching; fair = Fair-permutation orders c.fair; greatest = Greatest-permutation orders c.greatest }

  pub traded_before-permutation : (orders : List Order) → traded_before orders ds ≡ traded_before orders es
  unfolding traded_before
  traded_before-permutation orders = λ i p k. sym (sum_by-IsPermutation (λ d. cond (names_order k d && nat_lt (cause orders d) p) d.quantity 0) ds es same) i

  pub ConformsAt-permutation : (orders : List Order) (i : ℕ) → ConformsAt orders ds i → ConformsAt orders es i
  ConformsAt-permutation orders i c =
      let past = traded_before-permutation orders in
      let limits = c.conservation.limits in
      let before = c.conservation.resting in
      let within = c.conservation.within in
      let priority = c.priority in
      record {
        conservation = record {
          limits = All-permutation (λ d. cause orders d ≡ i → KeepsLimits orders d) ds es same limits;
          resting = All-permutation (λ d. cause orders d ≡ i → rests_before_in_ledger orders (traded_before orders es) i (resting_order orders d) ≡ true) ds es same
              (subst (λ q. All (λ d. cause orders d ≡ i → rests_before_in_ledger orders q i (resting_order orders d) ≡ true) ds) past before);
          within = subst (λ q. (k : ℕ) → k < length orders → q (suc i) k ≤ size_in_ledger orders q k) past within;
        };
        priority = All-permutation (λ d. cause orders d ≡ i → (k : ℕ) → k < length orders → rests_before_in_ledger orders (traded_before orders es) i k ≡ true
            → Better orders k (resting_order orders d) → left_before_in_ledger orders (traded_before orders es) (suc i) k ≡ 0) ds es same (subst (λ q. All (λ d. cause orders d ≡ i → (k : ℕ) → k < length orders → rests_before_in_ledger orders q i k ≡ true
            → Better orders k (resting_order orders d) → left_before_in_ledger orders q (suc i) k ≡ 0) ds) past priority);
        spread = subst (λ q. (b a : ℕ) → b < length orders → a < length orders → side_at orders b ≡ Buy → side_at orders a ≡ Sell
            → active_after_in_ledger orders q i b ≡ true → active_after_in_ledger orders q i a ≡ true → limit_at orders b < limit_at orders a) past c.spread;
      }

  pub ConformsContinuous-permutation : (orders : List Order) → ConformsContinuous orders ds → ConformsContinuous orders es
  ConformsContinuous-permutation orders c = record { named = All-permutation (NamesOrders orders) ds es same c.named; each = λ i. ConformsAt-permutation orders i (c.each i) }
