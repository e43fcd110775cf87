-- What is wrong with one deal by the findings 12 and 13, from the best short order of each side.
use Rattle.std.specs.Prelude.{ℕ, List, Option, None, Some, slice_index}
use Rattle.std.specs.Option.{option_or}
use Rattle.audit_base.specs.declared.terms.Side.{Side}
use Rattle.audit_base.specs.declared.terms.Side.TheVariants.{Buy, Sell}
use Rattle.audit_base.specs.declared.orders.Order.{Order}
use Rattle.audit_base.specs.declared.orders.Deal.{Deal}
use Rattle.audit_base.specs.declared.flaws.TradedOrder.{TradedOrder}
use Rattle.audit_base.specs.declared.flaws.Evidence.TheVariants.{Priority}
use Rattle.audit_base.specs.declared.flaws.Flaw.{Flaw}
use Rattle.audit_base.specs.Least.{only_if}
use Rattle.audit_base.specs.Orders.{order_at}
use Rattle.audit_base.specs.Priority.{better}

-- the deal's order of a side
abbrev pub order_of_deal : Side → Deal → ℕ
order_of_deal Buy d = d.bid
order_of_deal Sell d = d.ask

-- the order at an index, with what it trades
abbrev pub traded_order : List ℕ → ℕ → TradedOrder
traded_order traded i = record { index = i; traded = slice_index traded i }

-- the best short order of a side outranks the deal's order of the side
abbrev pub outranked_flaw : List Order → List ℕ → Side → Option ℕ → Deal → Option Flaw
outranked_flaw orders traded side None d = None
outranked_flaw orders traded side (Some short) d =
    let own = order_of_deal side d in
    let evidence = Priority side (traded_order traded short) (traded_order traded own) in
    only_if (better (order_at orders short) (order_at orders own))
    (record { place = d.place; evidence = evidence })

-- what is wrong with a deal by the best short bid, or else by the best short ask
abbrev pub unfair_flaw : List Order → List ℕ → Option ℕ → Option ℕ → Deal → Option Flaw
unfair_flaw orders traded bid ask d =
    option_or (outranked_flaw orders traded Buy bid d) (outranked_flaw orders traded Sell ask d)
