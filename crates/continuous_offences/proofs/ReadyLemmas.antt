-- What is kept from one order to the next.
use Rattle.std.proofs.Common.{◌≡◌, ◌<◌, ◌≤◌, ◌+◌, ℕ, suc, List, length, add-one, arith, inl, inr, subst, sym}
use Rattle.std.proofs.lemmas.Bool.{cases_lt}
use Rattle.audit_base.specs.declared.orders.Order.{Order}
use Rattle.audit_base.specs.declared.orders.Deal.{Deal}
use Rattle.audit_base.specs.Orders.{place_at, IsOrderList}
use Rattle.audit_base.proofs.OrderLemmas.{place-rises}
use Rattle.continuous_audit.specs.declared.incoming_deals.IncomingDeal.{IncomingDeal}
use Rattle.continuous_audit.specs.Records.{AreTradedBefore}
use Rattle.continuous_audit.specs.Scans.{IsSplitAt}
use Rattle.continuous_audit.proofs.NumberLemmas.{traded-now}
use Rattle.continuous_offences.specs.declared.books.RestingBooks.{RestingBooks}
use Rattle.continuous_offences.specs.declared.state_after_deals.StateAfterDeals.{StateAfterDeals}
use Rattle.order_arrivals.specs.declared.dealt_orders.DealtOrders.{DealtOrders}
use Rattle.continuous_offences.specs.declared.state.ListingState.{ListingState}
use Rattle.order_arrivals.specs.Arrivals.{AreArrivals}
use Rattle.continuous_offences.specs.Books.{AreBooksOf}
use Rattle.continuous_offences.specs.StateAfterDeals.{IsDealt, deals_of, orders_of, place_of}
use Rattle.order_arrivals.specs.DealtOrders.{HaveTraded, IsMarket}
use Rattle.continuous_offences.specs.States.{IsReady}
use Rattle.continuous_offences.proofs.EnterLemmas.{books-later}

-- the deals of an order begin no later than they end
pub split-rises : (incoming_deals : List IncomingDeal) (n start end : ℕ) → start ≤ length incoming_deals → IsSplitAt incoming_deals n start → IsSplitAt incoming_deals (suc n) end → start ≤ end
split-rises incoming_deals n start end within split later = elim (cases_lt end start) [
  | inr ok ↦ ok
  | inl early ↦
      let low = split.early end early (omega arith) in
      let high = later.late end (omega arith) (omega arith) in
      absurd (omega arith)
]

module _ (orders : List Order) (list : IsOrderList orders) (deals : List Deal) (n : ℕ) (n_inside : n < length orders) (b : RestingBooks) where
  abbrev p : ℕ
  p = place_at orders n

  -- the books before the deals of an order, as they stand after these
  pub books-here : ((place : ℕ) → ((earlier : ℕ) → earlier < n → place_at orders earlier < place) → AreBooksOf orders deals n place place b) → AreBooksOf orders deals n p (suc p) b
  books-here ready = books-later orders deals n p p p (suc p) b (omega arith) (omega arith) (ready p (λ earlier lt. place-rises orders list earlier n lt n_inside))

  -- and at any later place, with this order
  pub books-next : AreBooksOf orders deals (suc n) (suc p) (suc p) b → (place : ℕ) → ((earlier : ℕ) → earlier < suc n → place_at orders earlier < place) → AreBooksOf orders deals (suc n) place place b
  books-next are place above = let le = above n (omega arith) in books-later orders deals (suc n) (suc p) place (suc p) place b (omega arith) (omega arith) are

-- the same, in the words of the code
pub ready-further : (m : DealtOrders) (s : ListingState) (n : ℕ) → IsReady m (suc n) s → IsReady m (n + 1) s
ready-further m s n is = subst (λ (k : ℕ). IsReady m k s) (sym (add-one n)) is

-- what is known after the deals of an order
pub dealt-now : (d : StateAfterDeals) (added : ℕ) (traded : List ℕ) → IsMarket d.market.now → d.order < length (orders_of d) → AreArrivals (orders_of d) (deals_of d) (length (orders_of d)) d.arrivals.now → d.traded.now ≡ traded
    → HaveTraded d.market.now (suc d.order) added traded → IsDealt d
dealt-now d added traded is order arrivals same after = record {
  market = is;
  order = order;
  arrivals = arrivals;
  traded = subst (AreTradedBefore (orders_of d) (deals_of d) (suc (place_of d))) (sym same)
      (traded-now (orders_of d) is.order_list (deals_of d) is.deal_list d.market.now.incoming_deals.now is.incoming_deals d.order order added traded after.split after.totals);
}
