-- What is wrong with a record, by places, indices and numbers, as the finding that it is.
use Rattle.std.specs.Prelude.{◌<◌, List, Option, None, Some, length, option_and_then, IfSome}
use Rattle.audit_base.specs.declared.terms.Side.{Side}
use Rattle.audit_base.specs.declared.terms.Side.TheVariants.{Buy, Sell}
use Rattle.audit_base.specs.declared.terms.Which.{Which}
use Rattle.audit_base.specs.declared.terms.Which.TheVariants as which
use Rattle.audit_base.specs.declared.orders.Order.{Order}
use Rattle.audit_base.specs.declared.findings.Property.{Property}
use Rattle.audit_base.specs.declared.findings.Property.TheVariants as property
use Rattle.audit_base.specs.declared.findings.Finding.{Finding}
use Rattle.audit_base.specs.declared.findings.Short.{Short}
use Rattle.audit_base.specs.declared.findings.Shown.{Shown}
use Rattle.audit_base.specs.declared.findings.Shown.TheVariants as shown
use Rattle.audit_base.specs.declared.flaws.TradedOrder.{TradedOrder}
use Rattle.audit_base.specs.declared.flaws.DueOrder.{DueOrder}
use Rattle.audit_base.specs.declared.flaws.Evidence.{Evidence}
use Rattle.audit_base.specs.declared.flaws.Evidence.TheVariants.{DuplicateId, TimeBack, UnknownTarget, Unpaired, DuplicateTrade, UnknownOrder, Inactive, Limit, UniformPrice, Quantity, Priority, Volume, Spread, InstantOrder}
use Rattle.audit_base.specs.declared.flaws.Flaw.{Flaw}
use Rattle.audit_base.specs.Orders.{order_at}
use Rattle.audit_base.specs.Shows.{with_traded_number, show_place, priority_property}

-- the property that is broken where an order of a side trades too much
abbrev pub quantity_property : Side → Property
quantity_property Buy = property.BuyQuantity
quantity_property Sell = property.SellQuantity

-- an order with what it has traded
abbrev pub show_traded : List Order → TradedOrder → Option Shown
show_traded orders traded_order =
    Some (shown.Order (with_traded_number (order_at orders traded_order.index) traded_order.traded))

-- a short order with its due
abbrev pub show_due : List Order → DueOrder → Option Shown
show_due orders due_order = Some (shown.Due
    (with_traded_number (order_at orders due_order.order.index) due_order.order.traded)
    due_order.due)

-- the property that is broken
abbrev pub property_of_evidence : Evidence → Property
property_of_evidence (DuplicateId earlier) = property.DuplicateId
property_of_evidence (TimeBack last) = property.TimeBack
property_of_evidence UnknownTarget = property.UnknownTarget
property_of_evidence (Unpaired first) = property.Unpaired
property_of_evidence (DuplicateTrade earlier) = property.DuplicateTrade
property_of_evidence (UnknownOrder side key) = property.UnknownOrder
property_of_evidence (Inactive traded_order) = property.Inactive
property_of_evidence (Limit bid ask) = property.Limit
property_of_evidence (UniformPrice first) = property.UniformPrice
property_of_evidence (Quantity side traded_order) = quantity_property side
property_of_evidence (Priority side ahead own) = priority_property side
property_of_evidence (Volume short bid ask) = property.Volume
property_of_evidence (Spread bid ask) = property.Spread
property_of_evidence InstantOrder = property.InstantOrder

-- the log that its record is in
abbrev pub log_of_evidence : Evidence → Which
log_of_evidence (DuplicateId earlier) = which.Orders
log_of_evidence (TimeBack last) = which.Orders
log_of_evidence UnknownTarget = which.Orders
log_of_evidence (Unpaired first) = which.Trades
log_of_evidence (DuplicateTrade earlier) = which.Trades
log_of_evidence (UnknownOrder side key) = which.Trades
log_of_evidence (Inactive traded_order) = which.Trades
log_of_evidence (Limit bid ask) = which.Trades
log_of_evidence (UniformPrice first) = which.Trades
log_of_evidence (Quantity side traded_order) = which.Trades
log_of_evidence (Priority side ahead own) = which.Trades
log_of_evidence (Volume short bid ask) = which.Trades
log_of_evidence (Spread bid ask) = which.Orders
log_of_evidence InstantOrder = which.Orders

-- what is shown first
abbrev pub first_shown : List Order → Evidence → Option Shown
first_shown orders (DuplicateId earlier) = show_place which.Orders earlier
first_shown orders (TimeBack last) = show_place which.Orders last
first_shown orders UnknownTarget = None
first_shown orders (Unpaired first) = option_and_then (show_place which.Trades) first
first_shown orders (DuplicateTrade earlier) = show_place which.Trades earlier
first_shown orders (UnknownOrder side key) = Some (shown.Unknown side key)
first_shown orders (Inactive traded_order) = show_traded orders traded_order
first_shown orders (Limit bid ask) = show_traded orders bid
first_shown orders (UniformPrice first) = show_place which.Trades first
first_shown orders (Quantity side traded_order) = show_traded orders traded_order
first_shown orders (Priority side ahead own) = show_traded orders ahead
first_shown orders (Volume short bid ask) = option_and_then (show_due orders) bid
first_shown orders (Spread bid ask) = show_traded orders bid
first_shown orders InstantOrder = None

-- what is shown second: the other order of two
abbrev pub second_shown : List Order → Evidence → Option Shown
second_shown orders (DuplicateId earlier) = None
second_shown orders (TimeBack last) = None
second_shown orders UnknownTarget = None
second_shown orders (Unpaired first) = None
second_shown orders (DuplicateTrade earlier) = None
second_shown orders (UnknownOrder side key) = None
second_shown orders (Inactive traded_order) = None
second_shown orders (Limit bid ask) = show_traded orders ask
second_shown orders (UniformPrice first) = None
second_shown orders (Quantity side traded_order) = None
second_shown orders (Priority side ahead own) = show_traded orders own
second_shown orders (Volume short bid ask) = option_and_then (show_due orders) ask
second_shown orders (Spread bid ask) = show_traded orders ask
second_shown orders InstantOrder = None

-- the volumes, of a volume that is below the greatest
abbrev pub short_volume_of : Evidence → Option Short
short_volume_of (Volume short bid ask) = Some short
short_volume_of (DuplicateId earlier) = None
short_volume_of (TimeBack last) = None
short_volume_of UnknownTarget = None
short_volume_of (Unpaired first) = None
short_volume_of (DuplicateTrade earlier) = None
short_volume_of (UnknownOrder side key) = None
short_volume_of (Inactive traded_order) = None
short_volume_of (Limit bid ask) = None
short_volume_of (UniformPrice first) = None
short_volume_of (Quantity side traded_order) = None
short_volume_of (Priority side ahead own) = None
short_volume_of (Spread bid ask) = None
short_volume_of InstantOrder = None

-- the finding that a flaw is
abbrev pub finding_of : List Order → Flaw → Finding
finding_of orders flaw = record {
  property = property_of_evidence flaw.evidence;
  log = log_of_evidence flaw.evidence;
  place = flaw.place;
  first = first_shown orders flaw.evidence;
  second = second_shown orders flaw.evidence;
  short = short_volume_of flaw.evidence;
}

-- the orders that an evidence names are in the list
abbrev pub IsEvidenceInside : List Order → Evidence → Type 0
IsEvidenceInside orders (DuplicateId earlier) = Unit {0}
IsEvidenceInside orders (TimeBack last) = Unit {0}
IsEvidenceInside orders UnknownTarget = Unit {0}
IsEvidenceInside orders (Unpaired first) = Unit {0}
IsEvidenceInside orders (DuplicateTrade earlier) = Unit {0}
IsEvidenceInside orders (UnknownOrder side key) = Unit {0}
IsEvidenceInside orders (Inactive traded_order) = traded_order.index < length orders
IsEvidenceInside orders (Limit bid ask) = (bid.index < length orders) × (ask.index < length orders)
IsEvidenceInside orders (UniformPrice first) = Unit {0}
IsEvidenceInside orders (Quantity side traded_order) = traded_order.index < length orders
IsEvidenceInside orders (Priority side ahead own) =
    (ahead.index < length orders) × (own.index < length orders)
IsEvidenceInside orders (Volume short bid ask) =
    IfSome bid (λ due_order. due_order.order.index < length orders)
    × IfSome ask (λ due_order. due_order.order.index < length orders)
IsEvidenceInside orders (Spread bid ask) = (bid.index < length orders) × (ask.index < length orders)
IsEvidenceInside orders InstantOrder = Unit {0}
