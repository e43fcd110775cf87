-- The rule of continuous trading, place by place.
use Rattle.std.specs.Prelude.{◌≡◌, ◌<◌, ◌≤◌, ℕ, List, All, EachIndex, length, IsTrue}
use Rattle.audit_base.specs.declared.terms.Side.TheVariants.{Buy, Sell}
use Rattle.audit_base.specs.declared.orders.Order.{Order}
use Rattle.audit_base.specs.declared.orders.Deal.{Deal}
use Rattle.audit_base.specs.Orders.{limit_at, side_at}
use Rattle.audit_base.specs.Priority.{Better}
use Rattle.audit_base.specs.Deals.{KeepsLimits, NamesOrders}
use Rattle.audit_base.specs.Continuous.{cause, resting_order, traded_after, size_of_order, left_after, rests_before, active_after}

-- Conservation at a place: each deal of this cause keeps both limits, its resting order rests
-- before the place, and no order has traded more than its Size up to the place
pub record Conservation (orders : List Order) (deals : List Deal) (place : ℕ) : Type 0 where
  pub limits : All (λ d. cause orders d ≡ place → KeepsLimits orders d) deals
  pub resting : All (λ d. cause orders d ≡ place
      → IsTrue (rests_before orders deals place (resting_order orders d))) deals
  pub within : EachIndex orders
      (λ order. traded_after orders deals place order ≤ size_of_order orders deals order)

-- Priority at a place: each order that rests before the place and is better than the resting order
-- of a deal of this cause has nothing left after the place
abbrev pub Priority : (orders : List Order) (deals : List Deal) (place : ℕ) → Type 0
Priority orders deals place = All (λ d. cause orders d ≡ place
    → EachIndex orders (λ order. IsTrue (rests_before orders deals place order)
    → Better orders order (resting_order orders d) → left_after orders deals place order ≡ 0)) deals

-- Spread at a place: no bid and ask that are both active after the place have a bid limit
-- of at least the ask limit
abbrev pub Spread : (orders : List Order) (deals : List Deal) (place : ℕ) → Type 0
Spread orders deals place = (bid ask : ℕ) → bid < length orders → ask < length orders
    → side_at orders bid ≡ Buy → side_at orders ask ≡ Sell
    → IsTrue (active_after orders deals place bid) → IsTrue (active_after orders deals place ask)
    → limit_at orders bid < limit_at orders ask

-- the three things at one place
pub record ConformsAt (orders : List Order) (deals : List Deal) (place : ℕ) : Type 0 where
  pub conservation : Conservation orders deals place
  pub priority : Priority orders deals place
  pub spread : Spread orders deals place

-- Conforms (continuous): each deal names a bid and an ask, and at each place the three things hold
pub record ConformsContinuous (orders : List Order) (deals : List Deal) : Type 0 where
  pub named : All (NamesOrders orders) deals
  pub each : (place : ℕ) → ConformsAt orders deals place
