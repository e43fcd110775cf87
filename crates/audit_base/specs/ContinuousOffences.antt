-- The first offence in continuous trading, and what shows it. An order and a deal are named by
-- their indices in the order list and in the list of deals.
use Rattle.std.specs.Prelude.{◌≡◌, ◌<◌, ℕ, ◌+◌, Bool, ◌==◌, ◌&&◌, not, nat_lt, nat_le, List, [], ◌∷◌, Option, None, Some, take, length, if◌then◌else◌}
use Rattle.audit_base.specs.declared.terms.Side.{Side}
use Rattle.audit_base.specs.declared.terms.Side.TheVariants.{Buy, Sell}
use Rattle.audit_base.specs.declared.terms.Which.TheVariants as which
use Rattle.audit_base.specs.declared.orders.Order.{Order}
use Rattle.audit_base.specs.declared.orders.Deal.{Deal}
use Rattle.audit_base.specs.declared.findings.Property.{Property}
use Rattle.audit_base.specs.declared.findings.Property.TheVariants as property
use Rattle.audit_base.specs.declared.findings.Finding.{Finding}
use Rattle.audit_base.specs.Least.{least_answer, any_below, first_answer, only_if}
use Rattle.audit_base.specs.Orders.{order_at, side_at, limit_at, same_side}
use Rattle.audit_base.specs.Priority.{better, best_order}
use Rattle.audit_base.specs.Deals.{deal_at}
use Rattle.audit_base.specs.CallOffences.{keeps_limits}
use Rattle.audit_base.specs.Continuous.{cause, incoming_order, resting_order, traded_before, traded_at, traded_after, chain_traded_quantity, has_entered, size_of_order, left_after, rests_before, active_after}
use Rattle.audit_base.specs.ContinuousRules.{ConformsAt}
use Rattle.audit_base.specs.Shows.{finding_at_record, finding_at_trade, show_order, show_if_found, priority_property}

-- First part: the least deal whose cause is the place and that has a finding 7, 8, 10 or 11,
-- with the first of these.

-- what an order trades in deals of earlier causes, and in those of cause `place` up to a deal
abbrev pub traded_upto : (orders : List Order) (deals : List Deal) (place deal order : ℕ) → ℕ
traded_upto orders deals place deal order =
    traded_before orders deals place order + traded_at orders (take (deal + 1) deals) place order

-- the number shown with an order in the first part: this, and Before added
abbrev pub traded_shown_upto : (orders : List Order) (deals : List Deal) (place deal order : ℕ) → ℕ
traded_shown_upto orders deals place deal order =
    traded_upto orders deals place deal order + chain_traded_quantity orders deals order

-- finding 7: the resting order does not rest before the place,
-- or else the incoming order never entered
unfoldable pub continuous_inactive_finding : (orders : List Order) (deals : List Deal)
    (place deal : ℕ) → Option Finding
continuous_inactive_finding orders deals place deal =
    let d = deal_at deals deal in let shown = traded_shown_upto orders deals place deal in
    first_answer (only_if (not (rests_before orders deals place (resting_order orders d)))
    (finding_at_trade property.Inactive d (show_order orders shown (resting_order orders d)) None)
    ∷ only_if (not (has_entered orders deals (incoming_order orders d)))
    (finding_at_trade property.Inactive d
    (show_order orders shown (incoming_order orders d)) None) ∷ [])

-- finding 8: the price is outside a limit
unfoldable pub continuous_limit_finding : (orders : List Order) (deals : List Deal)
    (place deal : ℕ) → Option Finding
continuous_limit_finding orders deals place deal =
    let d = deal_at deals deal in let shown = traded_shown_upto orders deals place deal in
    only_if (not (keeps_limits orders d))
    (finding_at_trade property.Limit d (show_order orders shown d.bid)
    (show_order orders shown d.ask))

-- findings 10 and 11: the order, which the deal names, trades more than its Size up to this deal
unfoldable pub size_finding : (broken : Property) (orders : List Order) (deals : List Deal)
    (place deal order : ℕ) → Option Finding
size_finding broken orders deals place deal order =
    only_if (nat_lt (size_of_order orders deals order) (traded_upto orders deals place deal order))
    (finding_at_trade broken (deal_at deals deal)
    (show_order orders (traded_shown_upto orders deals place deal) order) None)

-- the first of these at a deal, where its cause is the place
abbrev pub conservation_finding : (orders : List Order) (deals : List Deal) (place deal : ℕ)
    → Option Finding
conservation_finding orders deals place deal = if cause orders (deal_at deals deal) == place
    then first_answer (continuous_inactive_finding orders deals place deal
    ∷ continuous_limit_finding orders deals place deal
    ∷ size_finding property.BuyQuantity orders deals place deal (deal_at deals deal).bid
    ∷ size_finding property.SellQuantity orders deals place deal (deal_at deals deal).ask ∷ [])
    else None

-- Second part: the least deal whose cause is the place and whose resting order is outranked by an
-- order that rests before the place and has something left after it.

-- the number shown with an order in the second and the third part:
-- what it trades in deals of causes up to a place, and Before added
abbrev pub traded_shown_after : (orders : List Order) (deals : List Deal) (place order : ℕ) → ℕ
traded_shown_after orders deals place order =
    traded_after orders deals place order + chain_traded_quantity orders deals order

-- the order rests before the place, has something left after it,
-- and is better than the resting order
abbrev pub waits_ahead : (orders : List Order) (deals : List Deal) (place resting order : ℕ) → Bool
waits_ahead orders deals place resting order = rests_before orders deals place order
    && nat_lt 0 (left_after orders deals place order)
    && better (order_at orders order) (order_at orders resting)

-- finding 12 or 13 at a deal: the best order that waits ahead is shown,
-- and the deal's resting order
unfoldable pub resting_priority_finding : (orders : List Order) (deals : List Deal)
    (place deal : ℕ) → Option Finding
resting_priority_finding orders deals place deal =
    let d = deal_at deals deal in let resting = resting_order orders d in
    let shown = traded_shown_after orders deals place in
    only_if ((cause orders d == place)
    && any_below (waits_ahead orders deals place resting) (length orders))
    (finding_at_trade (priority_property (side_at orders resting)) d
    (show_if_found orders shown (best_order orders (waits_ahead orders deals place resting)))
    (show_order orders shown resting))

-- Third part: an active bid and an active ask meet.

-- the order is of this side and active after the place
abbrev pub active_after_on_side : (orders : List Order) (deals : List Deal) (place : ℕ)
    (side : Side) (order : ℕ) → Bool
active_after_on_side orders deals place side order =
    same_side side (side_at orders order) && active_after orders deals place order

-- some active bid has a limit of at least that of some active ask
unfoldable pub active_orders_meet : (orders : List Order) (deals : List Deal) (place : ℕ) → Bool
active_orders_meet orders deals place =
    any_below (λ bid. any_below (λ ask.
    active_after_on_side orders deals place Buy bid
    && active_after_on_side orders deals place Sell ask
    && nat_le (limit_at orders ask) (limit_at orders bid)) (length orders)) (length orders)

-- finding 15, at the order record of a place: the best active bid and the best active ask
unfoldable pub spread_finding : (orders : List Order) (deals : List Deal) (place : ℕ)
    → Option Finding
spread_finding orders deals place =
    only_if (active_orders_meet orders deals place)
    (finding_at_record property.Spread which.Orders place
    (show_if_found orders (traded_shown_after orders deals place)
    (best_order orders (active_after_on_side orders deals place Buy)))
    (show_if_found orders (traded_shown_after orders deals place)
    (best_order orders (active_after_on_side orders deals place Sell))))

-- the first of the three parts at a place
abbrev pub finding_at_place : (orders : List Order) (deals : List Deal) (place : ℕ) → Option Finding
finding_at_place orders deals place =
    first_answer (least_answer (conservation_finding orders deals place) (length deals)
    ∷ least_answer (resting_priority_finding orders deals place) (length deals)
    ∷ spread_finding orders deals place ∷ [])

-- First offence (continuous): at the least place at which the rule fails,
-- the first of the three parts
pub record IsContinuousOffence (orders : List Order) (deals : List Deal) (finding : Finding)
    : Type 0 where
  pub place : ℕ
  pub before : (earlier : ℕ) → earlier < place → ConformsAt orders deals earlier
  pub here : finding_at_place orders deals place ≡ Some finding
