-- The first offence under the rules of a call, and what shows it. An order and a deal are named by
-- their indices in the order list and in the list of deals.
use Rattle.std.specs.Prelude.{◌≡◌, ◌<◌, ℕ, ◌+◌, Bool, false, ◌==◌, ◌&&◌, not, nat_lt, is_some, List, [], ◌∷◌, Option, None, Some, take, length, MatchOption, IsSomeAnd}
use Rattle.std.specs.Option.{option_or}
use Rattle.audit_base.specs.declared.terms.Side.{Side}
use Rattle.audit_base.specs.declared.terms.Side.TheVariants.{Buy, Sell}
use Rattle.audit_base.specs.declared.terms.Which.TheVariants as which
use Rattle.audit_base.specs.declared.terms.CallRule.{CallRule}
use Rattle.audit_base.specs.declared.terms.CallRule.TheVariants as call
use Rattle.audit_base.specs.declared.terms.VolumeRule.{VolumeRule}
use Rattle.audit_base.specs.declared.terms.VolumeRule.TheVariants as of_volume
use Rattle.audit_base.specs.declared.orders.Order.{Order}
use Rattle.audit_base.specs.declared.orders.Deal.{Deal}
use Rattle.audit_base.specs.declared.findings.Property.{Property}
use Rattle.audit_base.specs.declared.findings.Property.TheVariants as property
use Rattle.audit_base.specs.declared.findings.Finding.{Finding}
use Rattle.audit_base.specs.declared.findings.Shown.TheVariants as shown
use Rattle.audit_base.specs.Least.{least_answer, any_below, first_answer, only_if}
use Rattle.audit_base.specs.Orders.{order_at, quantity_at, is_uncancelled_on}
use Rattle.audit_base.specs.Priority.{better, best_order}
use Rattle.audit_base.specs.Deals.{deal_at, traded, volume, is_price_within}
use Rattle.audit_base.specs.Calls.{IsGreatestVolume, IsGreatestUniformVolume}
use Rattle.audit_base.specs.Rules.{Only}
use Rattle.audit_base.specs.RuleKinds.{volume_rule_of_call, rule_of_volume, asks_one_price}
use Rattle.audit_base.specs.Shows.{finding_at_trade, with_traded_number, show_order, show_if_found, show_place}

-- First part: the least deal up to which the deals are not a matching
-- (or, under `uniform`, haven't one price).

-- some record cancels the order
abbrev pub is_cancelled : (orders : List Order) (order : ℕ) → Bool
is_cancelled orders order = is_some (order_at orders order).cancelled

-- a deal keeps the limits of its own orders
abbrev pub keeps_limits : (orders : List Order) (d : Deal) → Bool
keeps_limits orders d = is_price_within (order_at orders d.bid) (order_at orders d.ask) d

-- The findings 7 to 11 at a deal. Orders are shown with what they trade up to this deal.

-- finding 7: the bid, or else the ask, is one that some record cancels
unfoldable pub call_inactive_finding : (orders : List Order) (deals : List Deal) (deal : ℕ)
    → Option Finding
call_inactive_finding orders deals deal =
    let d = deal_at deals deal in let so_far = traded (take (deal + 1) deals) in
    first_answer (only_if (is_cancelled orders d.bid)
    (finding_at_trade property.Inactive d (show_order orders so_far d.bid) None)
    ∷ only_if (is_cancelled orders d.ask)
    (finding_at_trade property.Inactive d (show_order orders so_far d.ask) None) ∷ [])

-- finding 8: the price is outside a limit
unfoldable pub call_limit_finding : (orders : List Order) (deals : List Deal) (deal : ℕ)
    → Option Finding
call_limit_finding orders deals deal =
    let d = deal_at deals deal in let so_far = traded (take (deal + 1) deals) in
    only_if (not (keeps_limits orders d))
    (finding_at_trade property.Limit d (show_order orders so_far d.bid)
    (show_order orders so_far d.ask))

-- finding 9: one price is asked for, and the price is not that of the first deal
unfoldable pub uniform_price_finding : (uniform : Bool) (deals : List Deal) (deal : ℕ)
    → Option Finding
uniform_price_finding uniform deals deal = let d = deal_at deals deal in
    only_if (uniform && not (d.price == (deal_at deals 0).price))
    (finding_at_trade property.UniformPrice d
    (show_place which.Trades (deal_at deals 0).place) None)

-- findings 10 and 11: the order, which the deal names, trades more than its quantity
-- up to this deal
abbrev pub quantity_finding : (broken : Property) (orders : List Order) (deals : List Deal)
    (deal order : ℕ) → Option Finding
quantity_finding broken orders deals deal order = let so_far = traded (take (deal + 1) deals) in
    only_if (nat_lt (quantity_at orders order) (so_far order))
    (finding_at_trade broken (deal_at deals deal) (show_order orders so_far order) None)

-- finding 10, of the deal's bid
unfoldable pub bid_quantity_finding : (orders : List Order) (deals : List Deal) (deal : ℕ)
    → Option Finding
bid_quantity_finding orders deals deal =
    quantity_finding property.BuyQuantity orders deals deal (deal_at deals deal).bid

-- finding 11, of the deal's ask
unfoldable pub ask_quantity_finding : (orders : List Order) (deals : List Deal) (deal : ℕ)
    → Option Finding
ask_quantity_finding orders deals deal =
    quantity_finding property.SellQuantity orders deals deal (deal_at deals deal).ask

-- the first of these at a deal
abbrev pub matching_finding : (uniform : Bool) (orders : List Order) (deals : List Deal)
    (deal : ℕ) → Option Finding
matching_finding uniform orders deals deal =
    first_answer (call_inactive_finding orders deals deal ∷ call_limit_finding orders deals deal
    ∷ uniform_price_finding uniform deals deal ∷ bid_quantity_finding orders deals deal
    ∷ ask_quantity_finding orders deals deal
    ∷ [])

-- the offence of the first part, if there is one
abbrev pub matching_offence : (uniform : Bool) (orders : List Order) (deals : List Deal)
    → Option Finding
matching_offence uniform orders deals =
    least_answer (matching_finding uniform orders deals) (length deals)

-- Second part: the least deal whose bid or ask is outranked by a short order.

-- short, that is not fully traded (LeavesQty, FIX tag 151, above 0): no record cancels the order,
-- and its Traded in the whole log is below its quantity
abbrev pub is_short : (orders : List Order) (deals : List Deal) (side : Side) (order : ℕ) → Bool
is_short orders deals side order =
    is_uncancelled_on side (order_at orders order)
    && nat_lt (traded deals order) (quantity_at orders order)

-- the best short order of a side
unfoldable pub best_short : (orders : List Order) (deals : List Deal) (side : Side) → Option ℕ
best_short orders deals side = best_order orders (is_short orders deals side)

-- some short order of the side is better than this order
unfoldable pub is_outranked_by_short : (orders : List Order) (deals : List Deal) (side : Side)
    (order : ℕ) → Bool
is_outranked_by_short orders deals side order =
    any_below (λ other. is_short orders deals side other
    && better (order_at orders other) (order_at orders order))
    (length orders)

-- findings 12 and 13: the order, which the deal names, is outranked by a short order of its side.
-- The best of these is shown, and the order, with what they trade in the whole log
abbrev pub call_priority_finding : (broken : Property) (side : Side) (orders : List Order)
    (deals : List Deal) (deal order : ℕ) → Option Finding
call_priority_finding broken side orders deals deal order =
    only_if (is_outranked_by_short orders deals side order)
    (finding_at_trade broken (deal_at deals deal)
    (show_if_found orders (traded deals) (best_short orders deals side))
    (show_order orders (traded deals) order))

-- finding 12, of the deal's bid
unfoldable pub bid_priority_finding : (orders : List Order) (deals : List Deal) (deal : ℕ)
    → Option Finding
bid_priority_finding orders deals deal =
    call_priority_finding property.BuyPriority Buy orders deals deal (deal_at deals deal).bid

-- finding 13, of the deal's ask
unfoldable pub ask_priority_finding : (orders : List Order) (deals : List Deal) (deal : ℕ)
    → Option Finding
ask_priority_finding orders deals deal =
    call_priority_finding property.SellPriority Sell orders deals deal (deal_at deals deal).ask

-- the offence of the second part, if there is one
abbrev pub fair_offence : (orders : List Order) (deals : List Deal) → Option Finding
fair_offence orders deals =
    least_answer (λ deal. option_or (bid_priority_finding orders deals deal)
    (ask_priority_finding orders deals deal))
    (length deals)

-- Third part: the volume is not the greatest that the rule allows.

-- the greatest volume that the rule allows
abbrev pub IsGreatestUnder : (the_rule : VolumeRule) (orders : List Order) (v : ℕ) → Type 0
IsGreatestUnder of_volume.Uniform orders v = IsGreatestUniformVolume orders v
IsGreatestUnder of_volume.Maximum orders v = IsGreatestVolume orders v

-- finding 14: the volume is below the greatest. The place of the finding is one more than the
-- number of trades of the whole log. It shows the best short bid and the best short ask, with what
-- they trade in the whole log and their dues
pub record IsVolumeOffence (the_rule : VolumeRule) (orders : List Order) (deals : List Deal)
    (count : ℕ) (finding : Finding) : Type 0 where
  pub most : ℕ
  pub bid : ℕ
  pub ask : ℕ
  pub bid_due : ℕ
  pub ask_due : ℕ
  pub greatest : IsGreatestUnder the_rule orders most
  pub below : volume deals < most
  pub short_bid : best_short orders deals Buy ≡ Some bid
  pub short_ask : best_short orders deals Sell ≡ Some ask
  pub only_bid : Only (rule_of_volume the_rule) orders bid bid_due
  pub only_ask : Only (rule_of_volume the_rule) orders ask ask_due
  pub shows : finding ≡ record {
    property = property.Volume;
    log = which.Trades;
    place = count + 1;
    first = Some (shown.Due (with_traded_number (order_at orders bid) (traded deals bid)) bid_due);
    second = Some (shown.Due (with_traded_number (order_at orders ask) (traded deals ask)) ask_due);
    short = Some (record { reached = volume deals; greatest = most });
  }

-- what the parts before the volume find under each rule of a call
abbrev pub offence_before_volume : (the_rule : CallRule) (orders : List Order) (deals : List Deal)
    → Option Finding
offence_before_volume call.Matching orders deals = matching_offence false orders deals
offence_before_volume call.Fair orders deals =
    option_or (matching_offence false orders deals) (fair_offence orders deals)
offence_before_volume (call.Greatest the_rule) orders deals =
    option_or (matching_offence (asks_one_price the_rule) orders deals) (fair_offence orders deals)

-- First offence (call): the first of the three parts, the third of which only a rule that asks
-- for the greatest volume has
abbrev pub IsCallOffence : (the_rule : CallRule) (orders : List Order) (deals : List Deal)
    (count : ℕ) (finding : Finding) → Type 0
IsCallOffence the_rule orders deals count finding =
    MatchOption (offence_before_volume the_rule orders deals)
    (IsSomeAnd (volume_rule_of_call the_rule) (λ r. IsVolumeOffence r orders deals count finding))
    (λ f. finding ≡ f)
