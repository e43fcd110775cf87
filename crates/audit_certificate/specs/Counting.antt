-- What is counted of the deals.
use Rattle.std.specs.Prelude.{◌≡◌, List}
use Rattle.audit_base.specs.declared.orders.Order.{Order}
use Rattle.audit_base.specs.declared.orders.Deal.{Deal}
use Rattle.audit_base.specs.Deals as deals_of
use Rattle.audit_certificate.specs.declared.counting.Counts.{Counts}

-- what each order trades, and the volume
pub record AreCounts (orders : List Order) (deals : List Deal) (counts : Counts) : Type 0 where
  pub totals : deals_of.AreTotals orders deals counts.traded.items
  pub volume_is : counts.volume ≡ deals_of.volume deals
