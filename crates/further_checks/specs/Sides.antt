-- Which of a deal's two orders came first.
use Rattle.std.specs.Prelude.{Bool, nat_lt, List}
use Rattle.audit_base.specs.declared.orders.Order.{Order}
use Rattle.audit_base.specs.declared.orders.Deal.{Deal}
use Rattle.audit_base.specs.Orders.{place_at}

-- the bid of the deal came before its ask
abbrev pub is_bid_first : List Order → Deal → Bool
is_bid_first orders d = nat_lt (place_at orders d.bid) (place_at orders d.ask)
