-- The prices of the incoming deals, and those of the deals of some places.
use Rattle.std.proofs.Common.{◌≡◌, ◌<◌, ◌≤◌, ◌+◌, ℕ, suc, add-one, List, length, Option, None, Some, sym, ap, ◌∙◌, arith, inl, inr, subst, max}
use Rattle.std.proofs.lemmas.Bool.{cases_eq, cases_lt}
use Rattle.audit_base.specs.declared.orders.Deal.{Deal}
use Rattle.audit_base.specs.declared.orders.Order.{Order}
use Rattle.audit_base.specs.Continuous.{cause}
use Rattle.audit_base.specs.Deals.{deal_at}
use Rattle.audit_base.specs.Orders.{place_at}
use Rattle.audit_base.proofs.OffenceLemmas.{get_or-default}
use Rattle.continuous_audit.specs.declared.incoming_deals.IncomingDeal.{IncomingDeal}
use Rattle.continuous_audit.specs.IncomingDeals.{incoming_deal_of}
use Rattle.continuous_audit.specs.Scans.{deal_index_at, incoming_deal_past_end, incoming_order_at}
use Rattle.continuous_audit.proofs.IncomingLemmas.{cause-inside, incoming-cause}
use Rattle.order_arrivals.specs.declared.dealt_orders.DealtOrders.{DealtOrders}
use Rattle.order_arrivals.specs.DealtOrders.{IsMarket, incoming_deal_at}
use Rattle.continuous_picture.specs.declared.ranges.LimitRange.{LimitRange}
use Rattle.continuous_picture.specs.declared.walks.Walk.{Walk}
use Rattle.continuous_picture.specs.Columns.{IsPriceWithin, IsRangeIfThere}
use Rattle.continuous_picture.specs.Prices.{IsPriceAmong}
use Rattle.continuous_picture.specs.Ranges.{with_limit}
use Rattle.continuous_picture.specs.Walks.{IsWalk}
use Rattle.continuous_picture.proofs.RangeLemmas.{HasAlso, range-same, range-with}

-- The prices from one of the incoming deals to before another.

module _ (m : DealtOrders) (first : ℕ) where
  abbrev Among : ℕ → ℕ → Type 0
  Among next = IsPriceAmong m first next

  pub prices-none : IsRangeIfThere (Among first) None
  prices-none number is = let from = is.from in let to = is.to in absurd (omega arith)

  also-price : (next price : ℕ) → first ≤ next → (incoming_deal_at m next).price ≡ price → HasAlso (Among next) (Some price) (Among (suc next))
  also-price next price le here = record {
    earlier = λ number is. record { index = is.index; from = is.from; to = let to = is.to in omega arith; is = is.is };
    own = λ number e. let same : price ≡ number = cc in record { index = next; from = le; to = omega arith; is = here ∙ same };
    either = λ number is. elim (cases_eq is.index next) [
      | inl e ↦ inr (ap Some (sym here ∙ ap (λ (k : ℕ). (incoming_deal_at m k).price) (sym e) ∙ is.is))
      | inr ne ↦ inl (record { index = is.index; from = is.from; to = let to = is.to in omega (arith, ne); is = is.is })
    ];
  }

  pub prices-more : (next price : ℕ) → first ≤ next → price ≡ (incoming_deal_at m next).price → (range made : Option LimitRange) → made ≡ with_limit range (Some price) → IsRangeIfThere (Among next) range → IsRangeIfThere (Among (next + 1)) made
  prices-more next price le here range made e is =
      subst (IsRangeIfThere (Among (next + 1))) (sym e) (subst (λ (k : ℕ). IsRangeIfThere (Among k) (with_limit range (Some price))) (sym (add-one next)) (range-with (Among next) (Among (suc next)) range (Some price) (also-price next price le (sym here)) is))

  -- where the last of them is reached
  pub prices-all : (next end : ℕ) → first ≤ next → next ≤ max first end → end ≤ next → (range : Option LimitRange) → IsRangeIfThere (Among next) range → IsRangeIfThere (Among end) range
  prices-all next end le most last range is = range-same (Among next) (Among end) range
      (λ number has. record { index = has.index; from = has.from; to = let from = has.from in let to = has.to in omega arith; is = has.is })
      (λ number has. record { index = has.index; from = has.from; to = let to = has.to in omega arith; is = has.is })
      is

-- The deals of some places are the incoming deals that a walk adds from the first to behind the last.

module _ (m : DealtOrders) (market : IsMarket m) (first next : ℕ) (old new : Walk) (from : IsWalk m first first old) (to : IsWalk m next next new) where
  abbrev orders : List Order
  orders = m.orders.now

  abbrev deals : List Deal
  deals = m.deals.now

  abbrev incoming : List IncomingDeal
  incoming = m.incoming_deals.now

  inside : (i : ℕ) → i < length incoming → incoming_order_at incoming i < length orders
  inside i lt = cause-inside orders market.order_list deals market.deal_list.named incoming market.incoming_deals i incoming_deal_past_end lt

  place-is : (i : ℕ) → i < length incoming → place_at orders (incoming_order_at incoming i) ≡ cause orders (incoming_deal_at m i)
  place-is i lt = ap (λ (c : IncomingDeal). place_at orders c.order) (market.incoming_deals.only i incoming_deal_past_end lt).1 ∙ incoming-cause orders (incoming_deal_at m i)

  within : (price : ℕ) → IsPriceAmong m old.totals.added new.totals.added price → IsPriceWithin orders deals first next price
  within price has =
      let i = has.index in
      let below = has.to in
      let all = to.traded.totals.inside in
      let lt : i < length incoming = omega arith in
      let p = place-is i lt in
      let late = from.come.coming (incoming_order_at incoming i) (from.traded.split.late i has.from lt) (inside i lt) in
      let early = to.come.come (incoming_order_at incoming i) (to.traded.split.early i has.to lt) in
      record {
        deal = deal_index_at incoming i;
        inside = (market.incoming_deals.only i incoming_deal_past_end lt).0;
        from = omega (arith, p, late);
        to = omega (arith, p, early);
        is = has.is;
      }

  among : (price : ℕ) → IsPriceWithin orders deals first next price → IsPriceAmong m old.totals.added new.totals.added price
  among price has =
      let found = market.incoming_deals.each has.deal has.inside in
      let i = found.0 in
      let lt : i < length incoming = found.1 in
      let here : deal_index_at incoming i ≡ has.deal = ap (λ (c : IncomingDeal). c.deal) (sym (get_or-default incoming i (incoming_deal_of orders deals has.deal) incoming_deal_past_end lt) ∙ found.2) in
      let p : place_at orders (incoming_order_at incoming i) ≡ cause orders (deal_at deals has.deal) = place-is i lt ∙ ap (λ (k : ℕ). cause orders (deal_at deals k)) here in
      let above = has.from in
      let below = has.to in
      record {
        index = i;
        from = elim (cases_lt i old.totals.added) [
          | inr le ↦ le
          | inl less ↦ let early = from.come.come (incoming_order_at incoming i) (from.traded.split.early i less lt) in absurd (omega (arith, p, early, above))
        ];
        to = elim (cases_lt i new.totals.added) [
          | inl less ↦ less
          | inr le ↦ let late = to.come.coming (incoming_order_at incoming i) (to.traded.split.late i le lt) (inside i lt) in absurd (omega (arith, p, late, below))
        ];
        is = ap (λ (k : ℕ). (deal_at deals k).price) here ∙ has.is;
      }

  pub prices-within : (range : Option LimitRange) → IsRangeIfThere (IsPriceAmong m old.totals.added new.totals.added) range → IsRangeIfThere (IsPriceWithin orders deals first next) range
  prices-within range is = range-same (IsPriceAmong m old.totals.added new.totals.added) (IsPriceWithin orders deals first next) range within among is
