-- Under each of the five rules some list of deals conforms, with numbers in range.
use Rattle.std.proofs.Common.{◌≤◌, ◌-◌, ◌^◌, ℕ, List, get_or, Bool, true, false, cond, refl, sym, subst, arith}
use Rattle.std.specs.Prelude.{◌&&◌, nat_lt}
use Rattle.std.proofs.lemmas.Bool.{cond_both}
use Rattle.audit_base.specs.declared.orders.Deal.{Deal}
use Rattle.audit_base.specs.declared.orders.Order.{Order}
use Rattle.audit_base.specs.declared.terms.Rule.TheVariants as rule
use Rattle.audit_base.specs.declared.terms.CallRule.TheVariants as call
use Rattle.audit_base.specs.declared.terms.Side.TheVariants.{Buy, Sell}
use Rattle.audit_base.specs.declared.terms.VolumeRule.TheVariants as of_volume
use Rattle.audit_base.specs.Continuous.{chain_traded_in_ledger, entered_in_ledger, left_before_in_ledger, rests_before_in_ledger, size_in_ledger, traded_before}
use Rattle.audit_base.specs.Deals.{DealsInRange}
use Rattle.audit_base.specs.Expected.{available_quantity, orders_meet, pair_deals, pair_share, resting_limit, incoming_share, IsExpectedContinuous}
use Rattle.audit_base.specs.Orders.{order_at, place_at, side_at, quantity_at, order_past_end, same_side, OrdersInRange}
use Rattle.audit_base.proofs.HistoryLemmas.{order_list-is, order_list-regular}
use Rattle.audit_base.proofs.PairDealLemmas.{pair_deals-are}
use Rattle.call_laws.specs.Existence as of_call
use Rattle.continuous_laws.specs.Laws.{ExpectedConform, ExpectedExist}
use Rattle.continuous_laws.proofs.ExpectedLemmas.{shared}
use Rattle.verdict_laws.specs.Existence.{ConformingListExists, HistoryHasConformingList}

-- Expected trades of continuous trading trade at most what an order has, at a limit.
module _ (orders : List Order) (past : ℕ → ℕ → ℕ) where
  size-if-most : (b : Bool) (i : ℕ) → cond b (quantity_at orders i - chain_traded_in_ledger orders past i) 0 ≤ quantity_at orders i
  size-if-most true i = omega arith
  size-if-most false i = omega arith

  size-most : (i : ℕ) → size_in_ledger orders past i ≤ quantity_at orders i
  unfolding size_in_ledger
  size-most i = size-if-most (entered_in_ledger orders past i) i

  available-most : (n r : ℕ) → available_quantity orders past n r ≤ quantity_at orders r
  unfolding available_quantity
  available-most n r = cond_both (orders_meet (order_at orders n) (order_at orders r) && rests_before_in_ledger orders past (place_at orders n) r) (left_before_in_ledger orders past (place_at orders n) r) 0 (λ x. x ≤ quantity_at orders r)
      (λ t. let m = size-most r in omega arith) (λ t. omega arith)

  share-most : (most n r : ℕ) → quantity_at orders r ≤ most → incoming_share orders past n r ≤ most
  share-most most n r le = let a = available-most n r in omega arith

  pair-most : (most bid ask : ℕ) → quantity_at orders bid ≤ most → quantity_at orders ask ≤ most → pair_share orders past bid ask ≤ most
  unfolding pair_share
  pair-most most bid ask bid_le ask_le =
      cond_both (same_side (side_at orders bid) Buy && same_side (side_at orders ask) Sell) _ 0 (λ x. x ≤ most)
      (λ t. cond_both (nat_lt (place_at orders bid) (place_at orders ask)) (incoming_share orders past ask bid) (incoming_share orders past bid ask) (λ x. x ≤ most)
      (λ u. share-most most ask bid bid_le) (λ u. share-most most bid ask ask_le))
      (λ t. omega arith)

  made-ranges : OrdersInRange orders → DealsInRange (pair_deals orders (pair_share orders past) (resting_limit orders))
  made-ranges ranges k d lt =
      let x = get_or (pair_deals orders (pair_share orders past) (resting_limit orders)) k d in
      let p = (pair_deals-are orders (pair_share orders past) (resting_limit orders)).each k d lt in
      let some = p.some in
      let is = p.is in
      let at = p.at in
      let bid = ranges x.bid order_past_end p.bid_inside in
      let ask = ranges x.ask order_past_end p.ask_inside in
      let most = pair-most (10 ^ 12) x.bid x.ask bid.sized.most ask.sized.most in
      let s = shared orders past x.bid x.ask (omega arith) in
      let priced = bid.priced in
      let high = s.most in
      record { sized = record { some = some; most = omega arith }; priced = omega arith }

expected-ranges : (orders : List Order) (deals : List Deal) → OrdersInRange orders → IsExpectedContinuous orders deals → DealsInRange deals
expected-ranges orders deals ranges e = subst DealsInRange (sym e) (made-ranges orders (traded_before orders deals) ranges)

pub conforming : of_call.CallConformingListExists → ExpectedConform → ExpectedExist → ConformingListExists
conforming calls conform exist rule.Matching orders list ranges regular = calls call.Matching orders list ranges
conforming calls conform exist rule.Fair orders list ranges regular = calls call.Fair orders list ranges
conforming calls conform exist rule.Uniform orders list ranges regular = calls (call.Greatest of_volume.Uniform) orders list ranges
conforming calls conform exist rule.Maximum orders list ranges regular = calls (call.Greatest of_volume.Maximum) orders list ranges
conforming calls conform exist rule.Continuous orders list ranges regular =
    let e = exist orders list in
    (e.0, expected-ranges orders e.0 ranges e.1, conform orders e.0 list (regular refl) e.1)

pub history-conforming : ConformingListExists → HistoryHasConformingList
history-conforming exists the_rule symbol entries few ranges formed =
    exists the_rule _ (order_list-is symbol entries few) ranges (λ is. order_list-regular symbol entries formed)
