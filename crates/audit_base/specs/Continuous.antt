-- The words of continuous trading, in which each order meets at its own record those that rest.
--
-- An order is named by its index in the order list. The words take a ledger: `ledger place order`
-- is what the order has traded in deals whose cause is below the place. What is left and what
-- rests are said of the moment before the record at a place; what is active is said of the moment
-- after it, which is that before place + 1. The second part says the same words of a list of deals.
use Rattle.std.specs.Prelude.{ℕ, zero, suc, ◌-◌, max, Bool, true, false, ◌==◌, ◌&&◌, ◌||◌, not, nat_lt, nat_le, List, [], ◌∷◌, Option, None, Some, sum_by, if◌then◌else◌}
use Rattle.audit_base.specs.declared.orders.Order.{Order}
use Rattle.audit_base.specs.declared.orders.Deal.{Deal}
use Rattle.audit_base.specs.Orders.{order_at, place_at, quantity_at, may_rest}
use Rattle.audit_base.specs.Deals.{names_order}

-- Cause: the later of the places of the deal's two orders
abbrev pub cause : (orders : List Order) (d : Deal) → ℕ
cause orders d = max (place_at orders d.bid) (place_at orders d.ask)

-- the order whose record is the cause, and the one that rested before it
abbrev pub incoming_order : (orders : List Order) (d : Deal) → ℕ
incoming_order orders d =
    if nat_lt (place_at orders d.bid) (place_at orders d.ask) then d.ask else d.bid

abbrev pub resting_order : (orders : List Order) (d : Deal) → ℕ
resting_order orders d =
    if nat_lt (place_at orders d.bid) (place_at orders d.ask) then d.bid else d.ask

-- what an order trades in deals of causes below a place
unfoldable pub traded_before : (orders : List Order) (deals : List Deal) (place order : ℕ) → ℕ
traded_before orders deals place order = sum_by
    (λ d. if names_order order d && nat_lt (cause orders d) place then d.quantity else 0) deals

-- what an order trades in the deals whose cause is the place
unfoldable pub traded_at : (orders : List Order) (deals : List Deal) (place order : ℕ) → ℕ
traded_at orders deals place order =
    sum_by (λ d. if names_order order d && (cause orders d == place) then d.quantity else 0) deals

-- no record below the place cancels the order
abbrev pub uncancelled_before : (cancelled : Option ℕ) (place : ℕ) → Bool
uncancelled_before None place = true
uncancelled_before (Some cancelled) place = nat_le place cancelled

-- the order is cancelled at its own place: it was never placed
abbrev pub is_cancelled_at_place : (cancelled : Option ℕ) (place : ℕ) → Bool
is_cancelled_at_place None place = false
is_cancelled_at_place (Some cancelled) place = cancelled == place

-- the chain that begins with a target: the target, its target, and so on.
-- A target is a lower index, so at most n steps lead back from an index below n
abbrev pub chain_within : (steps : ℕ) (orders : List Order) (target : Option ℕ) → List ℕ
chain_within zero orders target = []
chain_within (suc n) orders None = []
chain_within (suc n) orders (Some t) = t ∷ chain_within n orders (order_at orders t).target

-- the chain of an order
unfoldable pub chain : (orders : List Order) (order : ℕ) → List ℕ
chain orders order = chain_within (suc order) orders (order_at orders order).target

-- Before: what the orders of its chain have traded before the order's own place
unfoldable pub chain_traded_in_ledger : (orders : List Order) (ledger : ℕ → ℕ → ℕ) (order : ℕ) → ℕ
chain_traded_in_ledger orders ledger order =
    sum_by (ledger (place_at orders order)) (chain orders order)

-- Size, where it is known whether the order entered: its quantity less Before, or 0
abbrev pub size_where_entered : (entered : Bool) (orders : List Order) (ledger : ℕ → ℕ → ℕ)
    (order : ℕ) → ℕ
size_where_entered entered orders ledger order =
    if entered then quantity_at orders order - chain_traded_in_ledger orders ledger order else 0

-- Rests before a place, where it is known whether the order entered: its life is Rests,
-- its own place is below this one, no record below this one cancels it,
-- and it has not traded its whole Size
abbrev pub rests_before_where_entered : (entered : Bool) (orders : List Order)
    (ledger : ℕ → ℕ → ℕ) (place order : ℕ) → Bool
rests_before_where_entered entered orders ledger place order =
    (may_rest (order_at orders order).life && nat_lt (place_at orders order) place)
    && (uncancelled_before (order_at orders order).cancelled place
    && nat_lt (ledger place order) (size_where_entered entered orders ledger order))

-- the order was placed: it is not cancelled at its own place
abbrev pub is_placed_order : (orders : List Order) (order : ℕ) → Bool
is_placed_order orders order =
    not (is_cancelled_at_place (order_at orders order).cancelled (place_at orders order))

-- whether an order with this target entered, in at most n steps back
abbrev pub entered_within : (steps : ℕ) (orders : List Order) (ledger : ℕ → ℕ → ℕ) (order : ℕ)
    (target : Option ℕ) → Bool
entered_within zero orders ledger order target = false
entered_within (suc n) orders ledger order None = is_placed_order orders order
entered_within (suc n) orders ledger order (Some t) = is_placed_order orders order
    && rests_before_where_entered
    (entered_within n orders ledger t (order_at orders t).target) orders ledger
    (place_at orders order) t

-- Entered: the order was placed, and it has no target or its target rests before its own place
unfoldable pub entered_in_ledger : (orders : List Order) (ledger : ℕ → ℕ → ℕ) (order : ℕ) → Bool
entered_in_ledger orders ledger order =
    entered_within (suc order) orders ledger order (order_at orders order).target

-- Size: what an order may trade, its quantity less Before
-- where it entered and this is above 0, else 0
unfoldable pub size_in_ledger : (orders : List Order) (ledger : ℕ → ℕ → ℕ) (order : ℕ) → ℕ
size_in_ledger orders ledger order =
    size_where_entered (entered_in_ledger orders ledger order) orders ledger order

-- Left before a place: Size less what the order has traded
abbrev pub left_before_in_ledger : (orders : List Order) (ledger : ℕ → ℕ → ℕ) (place order : ℕ) → ℕ
left_before_in_ledger orders ledger place order =
    size_in_ledger orders ledger order - ledger place order

-- Rests before a place
unfoldable pub rests_before_in_ledger : (orders : List Order) (ledger : ℕ → ℕ → ℕ)
    (place order : ℕ) → Bool
rests_before_in_ledger orders ledger place order =
    rests_before_where_entered (entered_in_ledger orders ledger order) orders ledger place order

-- Active after the record at a place: the order rests then, or it is the order of this record,
-- no record up to the place cancels it, and something is left
unfoldable pub active_after_in_ledger : (orders : List Order) (ledger : ℕ → ℕ → ℕ)
    (place order : ℕ) → Bool
active_after_in_ledger orders ledger place order =
    rests_before_in_ledger orders ledger (suc place) order
    || ((place_at orders order == place)
    && uncancelled_before (order_at orders order).cancelled (suc place)
    && nat_lt 0 (left_before_in_ledger orders ledger (suc place) order))

-- The second part: the words of a list of deals.

-- what an order trades in deals of causes up to a place
abbrev pub traded_after : (orders : List Order) (deals : List Deal) (place order : ℕ) → ℕ
traded_after orders deals place order = traded_before orders deals (suc place) order

-- what the orders of an order's chain have traded before its own place
abbrev pub chain_traded_quantity : (orders : List Order) (deals : List Deal) (order : ℕ) → ℕ
chain_traded_quantity orders deals order =
    chain_traded_in_ledger orders (traded_before orders deals) order

-- Entered: an order that was placed and, where it replaces another, whose target rested then
abbrev pub has_entered : (orders : List Order) (deals : List Deal) (order : ℕ) → Bool
has_entered orders deals order = entered_in_ledger orders (traded_before orders deals) order

-- how much of an order there is to trade: a replacement has what its chain left of its quantity
abbrev pub size_of_order : (orders : List Order) (deals : List Deal) (order : ℕ) → ℕ
size_of_order orders deals order = size_in_ledger orders (traded_before orders deals) order

-- what is left of an order before the record at a place
abbrev pub left_before : (orders : List Order) (deals : List Deal) (place order : ℕ) → ℕ
left_before orders deals place order =
    left_before_in_ledger orders (traded_before orders deals) place order

-- what is left of an order after the record at a place
abbrev pub left_after : (orders : List Order) (deals : List Deal) (place order : ℕ) → ℕ
left_after orders deals place order =
    left_before_in_ledger orders (traded_before orders deals) (suc place) order

-- whether an order rests before the record at a place
abbrev pub rests_before : (orders : List Order) (deals : List Deal) (place order : ℕ) → Bool
rests_before orders deals place order =
    rests_before_in_ledger orders (traded_before orders deals) place order

-- whether an order rests after the record at a place
abbrev pub rests_after : (orders : List Order) (deals : List Deal) (place order : ℕ) → Bool
rests_after orders deals place order =
    rests_before_in_ledger orders (traded_before orders deals) (suc place) order

-- whether an order is active after the record at a place
abbrev pub active_after : (orders : List Order) (deals : List Deal) (place order : ℕ) → Bool
active_after orders deals place order =
    active_after_in_ledger orders (traded_before orders deals) place order
