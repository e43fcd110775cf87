-- Orders of life Market have the market price of their side.
use Rattle.std.specs.Prelude.{List, All}
use Rattle.audit_base.specs.declared.records.OrderRecord.{OrderRecord}
use Rattle.audit_base.specs.declared.orders.Order.{Order}
use Rattle.audit_base.specs.Histories.{HasMarketPrice}
use Rattle.audit_base.specs.Orders.{HasMarketPriceIfMarket}

-- each record of an order log has the market price of its side where it is of life Market, and so
-- has each order of an order list
abbrev pub AreRecordsMarketPriced : List OrderRecord → Type 0
AreRecordsMarketPriced entries = All HasMarketPrice entries

abbrev pub AreMarketPriced : List Order → Type 0
AreMarketPriced orders = All (λ o. HasMarketPriceIfMarket o.life o.side o.limit) orders
