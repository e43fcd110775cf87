-- The deals of lots whose units meet are the Expected trades.
use Rattle.std.proofs.Common.{◌≡◌, ◌<◌, ◌+◌, ◌-◌, ◌^◌, ℕ, List, length, get_or, map, refl, sym, ap, ◌∙◌, arith, cond, AllPairs, subst, Bool, true, false}
use Rattle.std.specs.Prelude.{min, max, ◌&&◌, Contains}
use Rattle.std.proofs.lemmas.Bool.{and_parts, and_from, cond-true}
use Rattle.std.proofs.lemmas.List.{get_or_default, get_or-map, length-map}
use Rattle.audit_base.specs.declared.terms.Side.TheVariants.{Buy, Sell}
use Rattle.audit_base.specs.declared.orders.Order.{Order}
use Rattle.audit_base.specs.declared.orders.Deal.{Deal}
use Rattle.audit_base.specs.Orders.{order_at, is_uncancelled_on, IsUncancelledOn}
use Rattle.audit_base.specs.Deals.{deal_past_end, IsDealList, NamesOrders}
use Rattle.audit_base.specs.Units.{if_both_uncancelled}
use Rattle.audit_base.specs.Expected.{pair_deals}
use Rattle.audit_base.proofs.OrderLemmas.{test-stands, stands-test}
use Rattle.audit_base.proofs.PairDealLemmas.{ends_of, IsPairDeal, ArePairDeals, are-pair_deals}
use Rattle.unit_pairs.specs.declared.lots.Lot.{Lot}
use Rattle.unit_pairs.specs.declared.meeting.UnitPair.{UnitPair}
use Rattle.unit_pairs.specs.declared.numbering.DealPrice.{DealPrice}
use Rattle.unit_pairs.specs.Lots.{lot_at}
use Rattle.unit_pairs.specs.Meeting.{overlap, unit_pair_orders, IsUnitPair, AreUnitPairs, UnitPairBefore}
use Rattle.unit_pairs.specs.Numbering.{unit_pair_past_end, unit_pair_at, unit_pair_price, unit_pair_deal, AreUnitPairDeals}
use Rattle.unit_pairs.proofs.UnitLemmas.{Follow}

cond-some : (b : Bool) (x : ℕ) → 0 < cond b x 0 → (b ≡ true) × (cond b x 0 ≡ x)
cond-some true x some = (refl, refl)
cond-some false x some = absurd (omega arith)

module _ (orders : List Order) (units : ℕ → ℕ → ℕ) (price : DealPrice) (bids asks : List Lot) (from to from' to' : ℕ → ℕ)
    (is : (bid ask : ℕ) → units bid ask ≡ min (to bid) (to' ask) - max (from bid) (from' ask)) (b : Follow orders Buy from to bids) (a : Follow orders Sell from' to' asks)
    (pairs : List UnitPair) (are : AreUnitPairs bids asks pairs) (sorted : AllPairs UnitPairBefore pairs) (deals : List Deal) (numbers : AreUnitPairDeals orders price pairs deals) where
  abbrev quantity : ℕ → ℕ → ℕ
  quantity = if_both_uncancelled orders units

  -- lots have as many units in common as their orders
  overlap-units : (k l : ℕ) → k < length bids → l < length asks → overlap bids asks k l ≡ units (lot_at bids k).order (lot_at asks l).order
  overlap-units k l hk hl = omega (arith, is (lot_at bids k).order (lot_at asks l).order, b.starts k hk, b.ends k hk, a.starts l hl, a.ends l hl)

  units-same : (bid ask bid' ask' : ℕ) → bid ≡ bid' → ask ≡ ask' → units bid ask ≡ units bid' ask'
  units-same bid ask bid' ask' e f = ap (λ (i : ℕ). units i ask) e ∙ ap (units bid') f

  -- what is known of a pair as one of orders
  record IsOfOrders (p : UnitPair) : Type 0 where
    whole : p.quantity ≡ quantity p.bid p.ask
    bid_stands : IsUncancelledOn orders Buy p.bid
    ask_stands : IsUncancelledOn orders Sell p.ask

  pair-of_orders : (p : UnitPair) → IsUnitPair bids asks p → IsOfOrders p
  pair-of_orders p m =
      let bid : IsUncancelledOn orders Buy p.bid = subst (IsUncancelledOn orders Buy) (sym m.bid_is) (b.stands m.bid_lot m.bid_inside) in
      let ask : IsUncancelledOn orders Sell p.ask = subst (IsUncancelledOn orders Sell) (sym m.ask_is) (a.stands m.ask_lot m.ask_inside) in
      let both : (is_uncancelled_on Buy (order_at orders p.bid) && is_uncancelled_on Sell (order_at orders p.ask)) ≡ true = and_from _ _ (stands-test orders Buy p.bid bid) (stands-test orders Sell p.ask ask) in
      let all : quantity p.bid p.ask ≡ units p.bid p.ask = cond-true (is_uncancelled_on Buy (order_at orders p.bid) && is_uncancelled_on Sell (order_at orders p.ask)) (units p.bid p.ask) 0 both in
      let same = units-same p.bid p.ask (lot_at bids m.bid_lot).order (lot_at asks m.ask_lot).order m.bid_is m.ask_is in
      record {
        whole = omega (arith, m.is, overlap-units m.bid_lot m.ask_lot m.bid_inside m.ask_inside);
        bid_stands = bid;
        ask_stands = ask;
      }

  -- each bid and ask with units in common are a pair
  lots-found : (bid ask k l : ℕ) → k < length bids → l < length asks → (lot_at bids k).order ≡ bid → (lot_at asks l).order ≡ ask → 0 < units bid ask → Contains (map unit_pair_orders pairs) (bid, ask)
  lots-found bid ask k l hk hl e f some =
      let same = units-same (lot_at bids k).order (lot_at asks l).order bid ask e f in
      subst (λ (i : ℕ). Contains (map unit_pair_orders pairs) (bid, i)) f
      (subst (λ (i : ℕ). Contains (map unit_pair_orders pairs) (i, (lot_at asks l).order)) e
      (are.complete k l hk hl (omega (arith, overlap-units k l hk hl))))

  pair-found : (bid ask : ℕ) → bid < length orders → ask < length orders → 0 < quantity bid ask → Contains (map unit_pair_orders pairs) (bid, ask)
  pair-found bid ask hb ha some =
      let on = cond-some (is_uncancelled_on Buy (order_at orders bid) && is_uncancelled_on Sell (order_at orders ask)) (units bid ask) some in
      let both = and_parts (is_uncancelled_on Buy (order_at orders bid)) (is_uncancelled_on Sell (order_at orders ask)) on.0 in
      let same : quantity bid ask ≡ units bid ask = on.1 in
      let k = b.each bid (test-stands orders Buy bid hb both.0) (omega (arith, is bid ask)) in
      let l = a.each ask (test-stands orders Sell ask ha both.1) (omega (arith, is bid ask)) in
      lots-found bid ask k.0 l.0 k.1 l.1 k.2 l.2 (omega arith)

  deal-is : (k : ℕ) (d : Deal) → k < length deals → get_or deals k d ≡ unit_pair_deal orders price (k + 1) (unit_pair_at pairs k)
  deal-is k d lt = let count = numbers.count in get_or_default deals k d deal_past_end lt ∙ numbers.each k (omega arith)

  pub deals-are : ArePairDeals quantity (λ bid ask. unit_pair_price orders price ask) (length orders) deals
  deals-are =
      let count : length deals ≡ length pairs = numbers.count in
      record {
        each = λ k d lt.
            let m = are.each k unit_pair_past_end (omega arith) in
            let q = pair-of_orders (unit_pair_at pairs k) m in
            subst (IsPairDeal quantity (λ bid ask. unit_pair_price orders price ask) (length orders)) (sym (deal-is k d lt))
            (record { bid_inside = q.bid_stands.inside; ask_inside = q.ask_stands.inside; some = m.positive; is = q.whole; at = refl });
        in_order = λ i j d lt below.
            rw (deal-is i d (omega arith), deal-is j d below) (sorted i j unit_pair_past_end lt (omega arith));
        complete = λ bid ask hb ha some.
            let c = pair-found bid ask hb ha some in
            let long = length-map pairs unit_pair_orders in
            let inside : c.0 < length pairs = let lt = c.1 in omega arith in (
              c.0,
              omega (arith, length-map deals ends_of),
              get_or-map ends_of deals c.0 deal_past_end (bid, ask) (omega arith) ∙ ap ends_of (deal-is c.0 deal_past_end (omega arith)) ∙ sym (get_or-map unit_pair_orders pairs c.0 unit_pair_past_end (bid, ask) inside) ∙ c.2,
            );
        numbered = λ n d lt. ap (λ (d : Deal). d.place) (deal-is n d lt);
      }

  -- so they are the one list of the pairs of units
  pub deals-expected : deals ≡ pair_deals orders quantity (λ bid ask. unit_pair_price orders price ask)
  deals-expected = are-pair_deals orders quantity (λ bid ask. unit_pair_price orders price ask) deals deals-are

  -- and a list of deals, where they are few enough to be numbered
  pub deals-listed : length deals < 2 ^ 32 → IsDealList orders deals
  deals-listed few =
      let count : length deals ≡ length pairs = numbers.count in
      record {
        named = λ k d lt.
            let q = pair-of_orders (unit_pair_at pairs k) (are.each k unit_pair_past_end (omega arith)) in
            subst (NamesOrders orders) (sym (deal-is k d lt)) (record { bid_inside = q.bid_stands.inside; ask_inside = q.ask_stands.inside; buys = q.bid_stands.of_side; sells = q.ask_stands.of_side });
        rising = λ i j d lt below.
            let one : (get_or deals i d).place ≡ i + 1 = ap (λ (d : Deal). d.place) (deal-is i d (omega arith)) in
            let two : (get_or deals j d).place ≡ j + 1 = ap (λ (d : Deal). d.place) (deal-is j d below) in
            omega arith;
        fits_indices = few;
      }
