-- The offence at one deal: by what its two orders trade up to it, or from the best short order of
-- each side.
use Rattle.std.specs.Prelude.{◌≡◌, ◌<◌, ◌&&◌, ◌==◌, ℕ, Bool, not, List, [], ◌∷◌, Option, None, Some, length, slice_index}
use Rattle.std.specs.Option.{option_or}
use Rattle.audit_base.specs.declared.terms.Side.{Side}
use Rattle.audit_base.specs.declared.terms.Side.TheVariants.{Buy, Sell}
use Rattle.audit_base.specs.declared.orders.Order.{Order}
use Rattle.audit_base.specs.declared.orders.Deal.{Deal}
use Rattle.audit_base.specs.declared.flaws.TradedOrder.{TradedOrder}
use Rattle.audit_base.specs.CallOffences.{is_cancelled, keeps_limits}
use Rattle.audit_base.specs.Least.{first_answer, only_if}
use Rattle.audit_base.specs.Orders.{order_at, side_at}
use Rattle.audit_base.specs.Priority.{better}
use Rattle.matching_core.specs.DealFlaws.{is_overfilled}
use Rattle.offence_list.specs.declared.offences.ListedOffence.{ListedOffence}
use Rattle.offence_list.specs.declared.offences.ListedOffence.TheVariants.{Inactive, Limit, UniformPrice, Quantity, Priority}

-- an order with a traded number
abbrev pub order_trading : ℕ → ℕ → TradedOrder
order_trading order amount = record { index = order; traded = amount }

-- the first of what is wrong with a deal: 7 of the bid, or else of the ask; 8; 9, where one price
-- is asked for; 10 of the bid; and 11 of the ask
abbrev pub deal_offence : Bool → List Order → Deal → Deal → ℕ → ℕ → Option ListedOffence
deal_offence uniform orders d first bid_traded ask_traded =
    let bid = order_trading d.bid bid_traded in
    let ask = order_trading d.ask ask_traded in
    first_answer (only_if (is_cancelled orders d.bid) (Inactive d.place bid)
    ∷ only_if (is_cancelled orders d.ask) (Inactive d.place ask)
    ∷ only_if (not (keeps_limits orders d)) (Limit d.place bid ask)
    ∷ only_if (uniform && not (d.price == first.price)) (UniformPrice d.place first.place)
    ∷ only_if (is_overfilled (order_at orders d.bid) bid_traded) (Quantity d.place Buy bid)
    ∷ only_if (is_overfilled (order_at orders d.ask) ask_traded) (Quantity d.place Sell ask) ∷ [])

-- an order of the list, of this side
pub record IsOrderOnSide (orders : List Order) (side : Side) (order : ℕ) : Type 0 where
  pub inside : order < length orders
  pub of_side : side_at orders order ≡ side

-- the deal's order of a side
abbrev pub order_on_side : Side → Deal → ℕ
order_on_side Buy d = d.bid
order_on_side Sell d = d.ask

-- the best short order of a side outranks the deal's order of the side
abbrev pub passed_over_on_side : List Order → List ℕ → Side → Option ℕ → Deal → Option ListedOffence
passed_over_on_side orders traded side None d = None
passed_over_on_side orders traded side (Some short) d = let own = order_on_side side d in
    only_if (better (order_at orders short) (order_at orders own))
    (Priority d.place side (order_trading short (slice_index traded short))
    (order_trading own (slice_index traded own)))

-- the best short bid outranks the deal's bid, or else the best short ask its ask
abbrev pub passed_over : List Order → List ℕ → Option ℕ → Option ℕ → Deal → Option ListedOffence
passed_over orders traded bid ask d =
    option_or (passed_over_on_side orders traded Buy bid d)
    (passed_over_on_side orders traded Sell ask d)
