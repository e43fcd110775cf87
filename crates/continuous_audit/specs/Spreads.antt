-- An order after its own record, where this much is left of it.
use Rattle.std.specs.Prelude.{◌≡◌, ℕ, suc, Bool, ◌&&◌, nat_lt, List, All}
use Rattle.audit_base.specs.declared.orders.Order.{Order}
use Rattle.audit_base.specs.declared.orders.Deal.{Deal}
use Rattle.audit_base.specs.Orders.{place_at, may_rest}
use Rattle.audit_base.specs.Continuous.{left_after, uncancelled_before}
use Rattle.audit_base.specs.Deals.{NamesOrders}
use Rattle.continuous_audit.specs.declared.books.Books.{Books}
use Rattle.continuous_audit.specs.Books.{AreBooksWithoutOwn}

-- an order is active after its own record, where this much is left of it
abbrev pub is_active_after_with : Order → ℕ → Bool
is_active_after_with order left =
    uncancelled_before order.cancelled (suc order.place) && nat_lt 0 left

-- an order rests after its own record, where this much is left of it
abbrev pub rests_after_with : Order → ℕ → Bool
rests_after_with order left = may_rest order.life && is_active_after_with order left

-- this much is left of an order, which is not in the books yet
pub record IsAfterOwn (orders : List Order) (deals : List Deal) (order own_left : ℕ)
    (b : Books) : Type 0 where
  pub named : All (NamesOrders orders) deals
  pub left_is : own_left ≡ left_after orders deals (place_at orders order) order
  pub holds : AreBooksWithoutOwn orders deals order b
