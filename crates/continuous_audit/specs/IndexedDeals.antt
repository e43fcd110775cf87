-- The orders and the deals of an audit, and what is known of them at a record.
use Rattle.std.specs.Prelude.{◌≡◌, ◌<◌, ℕ, List, None}
use Rattle.audit_base.specs.declared.orders.Deal.{Deal}
use Rattle.audit_base.specs.Orders.{IsOrderList, other_side, place_at, side_at}
use Rattle.audit_base.specs.Deals.{IsDealList, deal_at}
use Rattle.audit_base.specs.Continuous.{resting_order, traded_before}
use Rattle.order_book.specs.declared.books.Resting.{Resting}
use Rattle.continuous_audit.specs.declared.indexed_deals.IndexedDeals.{IndexedDeals}
use Rattle.continuous_audit.specs.declared.scanning.RunningTotals.{RunningTotals}
use Rattle.continuous_audit.specs.IncomingDeals.{AreIncomingDeals}
use Rattle.continuous_audit.specs.Endings.{AreEndings}
use Rattle.continuous_audit.specs.Holding.{IsFilledInFront, resting_left_before, resting_left_after_deals}
use Rattle.continuous_audit.specs.Records.{ConformsBelow, conservation_at}
use Rattle.continuous_audit.specs.Scans.{AreRunningTotals, AreWithinGreatestSize, IsLeftRefreshed, IsSplitAt, deal_index_at}

-- the deals are over the order list, and each deal and each order that is ended
-- belongs to its record
pub record IsIndexedDeals (m : IndexedDeals) : Type 0 where
  pub order_list : IsOrderList m.orders.now
  pub deal_list : IsDealList m.orders.now m.deals.now
  pub incoming_deals : AreIncomingDeals m.orders.now m.deals.now m.incoming_deals.now
  pub endings : AreEndings m.orders.now m.endings.now

-- the rule holds at each place before that of an order
abbrev pub ConformsBefore : IndexedDeals → ℕ → Type 0
ConformsBefore m order = ConformsBelow m.orders.now m.deals.now (place_at m.orders.now order)

-- each deal of an order keeps the limits and the quantities of both its orders
abbrev pub IsConserved : IndexedDeals → ℕ → Type 0
IsConserved m order = conservation_at m.orders.now m.deals.now order ≡ None

-- what each order has traded in the deals of the orders before this one, which is at most the
-- greatest Size
pub record HaveTraded (m : IndexedDeals) (order : ℕ) (running : RunningTotals) : Type 0 where
  pub totals : AreRunningTotals m.orders.now m.deals.now m.incoming_deals.now running.added
      running.traded.items
  pub split : IsSplitAt m.incoming_deals.now order running.added
  pub most : AreWithinGreatestSize running.traded.items

-- what is left of the orders of the incoming deals from an index on, as far as these are added, is
-- their size less what they have traded, and of the others what it was
abbrev pub IsLeftRefreshedIn : IndexedDeals → ℕ → RunningTotals → List ℕ → List ℕ → List ℕ → Type 0
IsLeftRefreshedIn m start running sizes old new =
    IsLeftRefreshed m.deals.now m.incoming_deals.now start running.added
    sizes running.traded.items old new

-- the deal at an index of the incoming deals, and its resting order
abbrev pub incoming_deal_at : IndexedDeals → ℕ → Deal
incoming_deal_at m index = deal_at m.deals.now (deal_index_at m.incoming_deals.now index)

abbrev pub resting_order_at : IndexedDeals → ℕ → ℕ
resting_order_at m index = resting_order m.orders.now (incoming_deal_at m index)

-- an order in a book that is before this one in the order list, and is of the other side
pub record IsOpposite (m : IndexedDeals) (order : ℕ) (r : Resting) : Type 0 where
  pub earlier : r.index < order
  pub of_side : side_at m.orders.now r.index ≡ other_side (side_at m.orders.now order)

-- a list of the other side shows at its first order what is left after the deals of this order
abbrev pub IsFilledAgainst : IndexedDeals → ℕ → List Resting → Type 0
IsFilledAgainst m order ys = IsFilledInFront m.orders.now (other_side (side_at m.orders.now order))
    (resting_left_before m.orders.now (traded_before m.orders.now m.deals.now)
    (place_at m.orders.now order))
    (resting_left_after_deals m.orders.now m.deals.now (place_at m.orders.now order)) ys
