-- Size of each order, as the arrivals have it.
use Rattle.std.proofs.Common.{◌≡◌, ℕ, List, length, sym, subst}
use Rattle.audit_base.specs.declared.orders.Order.{Order}
use Rattle.audit_base.specs.declared.orders.Deal.{Deal}
use Rattle.continuous_picture.specs.Sizes.{AreSizesOf}
use Rattle.order_arrivals.specs.declared.arrivals.Arrivals.{Arrivals}
use Rattle.order_arrivals.specs.Arrivals.{AreArrivals}

pub sizes-known : (orders : List Order) (deals : List Deal) (a : Arrivals) → AreArrivals orders deals (length orders) a → (sizes : List ℕ) → sizes ≡ a.sizes.items → AreSizesOf orders deals sizes
sizes-known orders deals a are sizes same = subst (AreSizesOf orders deals) (sym same) (record { count = are.size_count; is = are.sizes })
