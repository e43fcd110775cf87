-- What a finding shows: records, keys, and orders with what they have traded.
use Rattle.std.specs.Prelude.{ℕ, List, Option, None, Some, option_and_then}
use Rattle.audit_base.specs.declared.terms.Side.{Side}
use Rattle.audit_base.specs.declared.terms.Side.TheVariants.{Buy, Sell}
use Rattle.audit_base.specs.declared.terms.Which.{Which}
use Rattle.audit_base.specs.declared.terms.Which.TheVariants as which
use Rattle.audit_base.specs.declared.orders.Order.{Order}
use Rattle.audit_base.specs.declared.orders.Deal.{Deal}
use Rattle.audit_base.specs.declared.findings.OrderLine.{OrderLine}
use Rattle.audit_base.specs.declared.findings.Property.{Property}
use Rattle.audit_base.specs.declared.findings.Property.TheVariants as property
use Rattle.audit_base.specs.declared.findings.Finding.{Finding}
use Rattle.audit_base.specs.declared.findings.Shown.{Shown}
use Rattle.audit_base.specs.declared.findings.Shown.TheVariants as shown
use Rattle.audit_base.specs.Orders.{order_at}

-- a finding without volumes: a property, the place of the offending record in its log,
-- and what shows it
abbrev pub finding_at_record : Property → Which → ℕ → Option Shown → Option Shown → Finding
finding_at_record broken log place first second = record {
  property = broken;
  log = log;
  place = place;
  first = first;
  second = second;
  short = None;
}

-- such a finding at a trade, by its deal
abbrev pub finding_at_trade : Property → Deal → Option Shown → Option Shown → Finding
finding_at_trade broken d first second =
    finding_at_record broken which.Trades d.place first second

-- an order with a traded number
abbrev pub with_traded_number : Order → ℕ → OrderLine
with_traded_number o traded = record {
  place = o.place;
  side = o.side;
  key = o.key;
  quantity = o.quantity;
  limit = o.limit;
  traded = traded;
}

-- the order at an index, with its traded number
abbrev pub show_order : List Order → (ℕ → ℕ) → ℕ → Option Shown
show_order orders traded order =
    Some (shown.Order (with_traded_number (order_at orders order) (traded order)))

-- the same of an order that was looked for, if it was found
abbrev pub show_if_found : List Order → (ℕ → ℕ) → Option ℕ → Option Shown
show_if_found orders traded found = option_and_then (show_order orders traded) found

-- another record of a log
abbrev pub show_place : Which → ℕ → Option Shown
show_place log place = Some (shown.Place log place)

-- the property that is broken where an order of a side is passed over
abbrev pub priority_property : Side → Property
priority_property Buy = property.BuyPriority
priority_property Sell = property.SellPriority
