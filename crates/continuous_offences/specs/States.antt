-- What is kept from one order to the next.
use Rattle.std.specs.Prelude.{◌<◌, ℕ}
use Rattle.audit_base.specs.Orders.{place_at}
use Rattle.order_arrivals.specs.declared.dealt_orders.DealtOrders.{DealtOrders}
use Rattle.continuous_offences.specs.declared.state.ListingState.{ListingState}
use Rattle.continuous_offences.specs.Books.{AreBooksOf}
use Rattle.order_arrivals.specs.DealtOrders.{HaveTraded}

-- before the deals of an order: what each order has traded in those of the orders before it, and
-- the books have all of these that rest before any later place
pub record IsReady (m : DealtOrders) (order : ℕ) (s : ListingState) : Type 0 where
  pub before : HaveTraded m order s.before.added s.before.traded.items
  pub after : HaveTraded m order s.after.added s.after.traded.items
  pub books : (place : ℕ) → ((earlier : ℕ) → earlier < order
      → place_at m.orders.now earlier < place)
      → AreBooksOf m.orders.now m.deals.now order place place s.books
