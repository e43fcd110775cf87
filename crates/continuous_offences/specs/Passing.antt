-- A deal that passes over a better order.
use Rattle.std.specs.Prelude.{◌≤◌, ℕ, suc, Option, length}
use Rattle.audit_base.specs.declared.orders.Deal.{Deal}
use Rattle.audit_base.specs.declared.terms.Side.{Side}
use Rattle.audit_base.specs.Continuous.{resting_order}
use Rattle.audit_base.specs.Least.{only_if}
use Rattle.audit_base.specs.Orders.{order_at, other_side, side_at}
use Rattle.audit_base.specs.Priority.{best_order, better}
use Rattle.continuous_audit.specs.Scans.{IsSplitAt}
use Rattle.offence_list.specs.declared.offences.ListedOffence.{ListedOffence}
use Rattle.offence_list.specs.declared.offences.ListedOffence.TheVariants.{Priority}
use Rattle.continuous_offences.specs.declared.state_after_deals.StateAfterDeals.{StateAfterDeals}
use Rattle.continuous_offences.specs.Books.{waits_on}
use Rattle.continuous_offences.specs.StateAfterDeals.{deals_of, orders_of, place_of, shown_after}

-- the offence of a deal whose resting order the order at `best` outranks
abbrev pub passed_over : StateAfterDeals → ℕ → Deal → Option ListedOffence
passed_over d best deal = let resting = resting_order (orders_of d) deal in
    only_if (better (order_at (orders_of d) best) (order_at (orders_of d) resting))
    (Priority deal.place (side_at (orders_of d) resting) (shown_after d best)
    (shown_after d resting))

-- the best of the earlier orders of a side that rests before a place, after the deals of an order
abbrev pub best_waiting : StateAfterDeals → Side → ℕ → Option ℕ
best_waiting d side place = best_order (orders_of d)
    (waits_on (orders_of d) (deals_of d) side d.order place (suc (place_of d)))

-- its own side, and the other one
abbrev pub own_side : StateAfterDeals → Side
own_side d = side_at (orders_of d) d.order

abbrev pub side_against : StateAfterDeals → Side
side_against d = other_side (own_side d)

-- the incoming deals from one index on and before another are those of the order
pub record AreDealsOf (d : StateAfterDeals) (start end : ℕ) : Type 0 where
  pub from : start ≤ end
  pub within : end ≤ length d.market.now.incoming_deals.now
  pub split : IsSplitAt d.market.now.incoming_deals.now d.order start
  pub later : IsSplitAt d.market.now.incoming_deals.now (suc d.order) end
