-- The best limits of both sides after a record.
use Rattle.std.specs.Prelude.{◌≡◌, ◌&&◌, ℕ, Bool, List, Option, option_map}
use Rattle.audit_base.specs.declared.orders.Deal.{Deal}
use Rattle.audit_base.specs.declared.orders.Order.{Order}
use Rattle.audit_base.specs.declared.terms.Side.{Side}
use Rattle.audit_base.specs.declared.terms.Side.TheVariants.{Buy, Sell}
use Rattle.audit_base.specs.Continuous.{active_after}
use Rattle.audit_base.specs.Orders.{limit_at, same_side, side_at}
use Rattle.audit_base.specs.Priority.{best_order}
use Rattle.continuous_picture.specs.declared.quotes.Quote.{Quote}

-- an order of a side is active after the record at a place
abbrev pub is_active_on : List Order → List Deal → Side → ℕ → ℕ → Bool
is_active_on orders deals side place order =
    same_side side (side_at orders order) && active_after orders deals place order

-- the limit of the best such order, if there is one
abbrev pub best_limit : List Order → List Deal → Side → ℕ → Option ℕ
best_limit orders deals side place =
    option_map (limit_at orders) (best_order orders (is_active_on orders deals side place))

-- the best limits of both sides
pub record IsQuoteAt (orders : List Order) (deals : List Deal) (place : ℕ) (quote : Quote)
    : Type 0 where
  pub bid : quote.bid ≡ best_limit orders deals Buy place
  pub ask : quote.ask ≡ best_limit orders deals Sell place
