-- What is kept of each order while the deals are added up, and one deal further.
use Rattle.std.proofs.Common.{◌≡◌, ◌≢◌, ◌∙◌, inl, inr, sym, ap, subst, refl, ℕ, false, ◌+◌, ◌*◌, ◌^◌, ◌<◌, ◌≤◌, List, length, take, get_or, arith}
use Rattle.std.specs.Prelude.{slice_set, replicate}
use Rattle.std.proofs.lemmas.List.{length-set, get_or-set_same, get_or-set_other, get_or-replicate, length-replicate}
use Rattle.std.proofs.lemmas.List.Sums.{sum_by_more}
use Rattle.std.proofs.lemmas.Bool.{cases_eq, or_from, ne_eqb}
use Rattle.audit_base.specs.declared.orders.Order.{Order}
use Rattle.audit_base.specs.declared.orders.Deal.{Deal}
use Rattle.audit_base.specs.Orders.{side_at}
use Rattle.audit_base.specs.Deals.{names_order, traded, AreTotals, volume, deal_at, deal_past_end, NamesOrders}
use Rattle.audit_base.proofs.OffenceLemmas.{traded_more, part-away}
use Rattle.audit_base.proofs.DealLemmas.{part-bid, part-ask}
use Rattle.audit_base.proofs.OrderLemmas.{not_both_sides}

-- what the first k deals give
pub record AreTotalsSoFar (orders : List Order) (deals : List Deal) (k : ℕ) (so_far : List ℕ) (total : ℕ) : Type 0 where
  pub totals : AreTotals orders (take k deals) so_far
  pub whole : total ≡ volume (take k deals)
  pub bounded : (i : ℕ) → i < length orders → get_or so_far i 0 ≤ k * 10 ^ 12
  pub total_bounded : total ≤ k * 10 ^ 12

-- a bid is no ask
pub apart : (orders : List Order) (d : Deal) → NamesOrders orders d → d.bid ≢ d.ask
apart orders d n same = not_both_sides (sym n.buys ∙ ap (side_at orders) same ∙ n.sells)

-- nothing is traded before the first deal
pub totals-none : (orders : List Order) (deals : List Deal) → AreTotalsSoFar orders deals 0 (replicate (length orders) 0) 0
totals-none orders deals = record {
  totals = record {
    count = length-replicate (length orders) 0;
    each = λ i lt. get_or-replicate {A = ℕ} (length orders) i 0 0 lt;
  };
  whole = refl;
  bounded = λ i lt. omega (arith, get_or-replicate {A = ℕ} (length orders) i 0 0 lt);
  total_bounded = omega arith;
}

-- what the two orders of a deal trade is its quantity more, and others trade what they did
module _ (orders : List Order) (deals : List Deal) (k : ℕ) (lt : k < length deals) (named : NamesOrders orders (deal_at deals k)) where
  pub bid-more : traded (take (k + 1) deals) (deal_at deals k).bid ≡ traded (take k deals) (deal_at deals k).bid + (deal_at deals k).quantity
  bid-more =
      traded_more deals k (deal_at deals k).bid lt ∙ ap (λ (n : ℕ). traded (take k deals) (deal_at deals k).bid + n) (part-bid (deal_at deals k))

  pub ask-more : traded (take (k + 1) deals) (deal_at deals k).ask ≡ traded (take k deals) (deal_at deals k).ask + (deal_at deals k).quantity
  ask-more =
      traded_more deals k (deal_at deals k).ask lt ∙ ap (λ (n : ℕ). traded (take k deals) (deal_at deals k).ask + n) (part-ask (deal_at deals k))

  -- what another order trades stays
  other-same : (i : ℕ) → i ≢ (deal_at deals k).bid → i ≢ (deal_at deals k).ask → traded (take (k + 1) deals) i ≡ traded (take k deals) i
  other-same i not_bid not_ask =
      let d = deal_at deals k in
      let away : names_order i d ≡ false = or_from _ _ (ne_eqb d.bid i (λ e. not_bid (sym e))) (ne_eqb d.ask i (λ e. not_ask (sym e))) in
      omega (arith, traded_more deals k i lt, part-away i d away)

  volume-more : volume (take (k + 1) deals) ≡ volume (take k deals) + (deal_at deals k).quantity
  volume-more = sum_by_more (λ (d : Deal). d.quantity) deals k deal_past_end lt

  module _ (so_far : List ℕ) (total quantity : ℕ) (is : AreTotalsSoFar orders deals k so_far total) (same : quantity ≡ (deal_at deals k).quantity) (most : quantity ≤ 10 ^ 12) where
    -- the totals when the quantity is added to those of both orders
    abbrev pub after : List ℕ
    after = slice_set (slice_set so_far (deal_at deals k).bid (get_or so_far (deal_at deals k).bid 0 + quantity)) (deal_at deals k).ask (get_or so_far (deal_at deals k).ask 0 + quantity)

    within_bid : (deal_at deals k).bid < length so_far
    within_bid = omega (arith, is.totals.count, named.bid_inside)

    within_ask : (deal_at deals k).ask < length so_far
    within_ask = omega (arith, is.totals.count, named.ask_inside)

    at_ask : get_or after (deal_at deals k).ask 0 ≡ get_or so_far (deal_at deals k).ask 0 + quantity
    at_ask =
        get_or-set_same {A = ℕ} (slice_set so_far (deal_at deals k).bid (get_or so_far (deal_at deals k).bid 0 + quantity)) (deal_at deals k).ask (get_or so_far (deal_at deals k).ask 0 + quantity) 0 (omega (arith, length-set {A = ℕ} so_far (deal_at deals k).bid (get_or so_far (deal_at deals k).bid 0 + quantity), within_ask))

    at_bid : get_or after (deal_at deals k).bid 0 ≡ get_or so_far (deal_at deals k).bid 0 + quantity
    at_bid =
        get_or-set_other {A = ℕ} (slice_set so_far (deal_at deals k).bid (get_or so_far (deal_at deals k).bid 0 + quantity)) (deal_at deals k).ask (deal_at deals k).bid (get_or so_far (deal_at deals k).ask 0 + quantity) 0 (apart orders (deal_at deals k) named)
        ∙ get_or-set_same {A = ℕ} so_far (deal_at deals k).bid (get_or so_far (deal_at deals k).bid 0 + quantity) 0 within_bid

    at_other : (i : ℕ) → i ≢ (deal_at deals k).bid → i ≢ (deal_at deals k).ask → get_or after i 0 ≡ get_or so_far i 0
    at_other i not_bid not_ask =
        get_or-set_other {A = ℕ} (slice_set so_far (deal_at deals k).bid (get_or so_far (deal_at deals k).bid 0 + quantity)) (deal_at deals k).ask i (get_or so_far (deal_at deals k).ask 0 + quantity) 0 not_ask
        ∙ get_or-set_other {A = ℕ} so_far (deal_at deals k).bid i (get_or so_far (deal_at deals k).bid 0 + quantity) 0 not_bid

    -- what is kept of an order after the deal, and that it is bounded
    sums-after : (i : ℕ) → i < length orders → (get_or after i 0 ≡ traded (take (k + 1) deals) i) × (get_or after i 0 ≤ (k + 1) * 10 ^ 12)
    sums-after i lt_i = elim (cases_eq i (deal_at deals k).bid) [
      | inl e ↦ let p : (λ (x : ℕ). (get_or after x 0 ≡ traded (take (k + 1) deals) x) × (get_or after x 0 ≤ (k + 1) * 10 ^ 12)) (deal_at deals k).bid = (omega (arith, at_bid, bid-more, is.totals.each (deal_at deals k).bid named.bid_inside, same), omega (arith, at_bid, is.bounded (deal_at deals k).bid named.bid_inside, most)) in
          subst (λ (x : ℕ). (get_or after x 0 ≡ traded (take (k + 1) deals) x) × (get_or after x 0 ≤ (k + 1) * 10 ^ 12)) (sym e) p
      | inr not_bid ↦ elim (cases_eq i (deal_at deals k).ask) [
        | inl e ↦ let p : (λ (x : ℕ). (get_or after x 0 ≡ traded (take (k + 1) deals) x) × (get_or after x 0 ≤ (k + 1) * 10 ^ 12)) (deal_at deals k).ask = (omega (arith, at_ask, ask-more, is.totals.each (deal_at deals k).ask named.ask_inside, same), omega (arith, at_ask, is.bounded (deal_at deals k).ask named.ask_inside, most)) in
            subst (λ (x : ℕ). (get_or after x 0 ≡ traded (take (k + 1) deals) x) × (get_or after x 0 ≤ (k + 1) * 10 ^ 12)) (sym e) p
        | inr not_ask ↦ (omega (arith, at_other i not_bid not_ask, other-same i not_bid not_ask, is.totals.each i lt_i), omega (arith, at_other i not_bid not_ask, is.bounded i lt_i))
      ]
    ]

    pub totals-more : AreTotalsSoFar orders deals (k + 1) after (total + quantity)
    totals-more = record {
      totals = record {
        count = length-set {A = ℕ} (slice_set so_far (deal_at deals k).bid (get_or so_far (deal_at deals k).bid 0 + quantity)) (deal_at deals k).ask (get_or so_far (deal_at deals k).ask 0 + quantity) ∙ length-set {A = ℕ} so_far (deal_at deals k).bid (get_or so_far (deal_at deals k).bid 0 + quantity) ∙ is.totals.count;
        each = λ i lt_i. (sums-after i lt_i).0;
      };
      whole = omega (arith, volume-more, is.whole, same);
      bounded = λ i lt_i. (sums-after i lt_i).1;
      total_bounded = omega (arith, is.total_bounded, most);
    }
