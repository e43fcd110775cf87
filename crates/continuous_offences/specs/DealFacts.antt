-- What is wrong with a deal by itself, from what is known of its orders.
use Rattle.std.specs.Prelude.{◌≡◌, ◌+◌, ℕ, Bool, not, nat_lt, List, [], ◌∷◌, Option, IfSome, option_map, if◌then◌else◌}
use Rattle.audit_base.specs.declared.findings.Finding.{Finding}
use Rattle.audit_base.specs.declared.flaws.TradedOrder.{TradedOrder}
use Rattle.audit_base.specs.declared.orders.Deal.{Deal}
use Rattle.audit_base.specs.declared.orders.Order.{Order}
use Rattle.audit_base.specs.declared.terms.Side.TheVariants.{Buy, Sell}
use Rattle.audit_base.specs.Continuous.{resting_order}
use Rattle.audit_base.specs.Deals.{is_price_within, number_at}
use Rattle.audit_base.specs.Least.{first_answer, only_if}
use Rattle.audit_base.specs.Orders.{order_at, place_at}
use Rattle.call_offences.specs.Inside.{IsOffenceInside}
use Rattle.offence_list.specs.declared.offences.ListedOffence.{ListedOffence}
use Rattle.offence_list.specs.declared.offences.ListedOffence.TheVariants.{Inactive, Limit, Quantity}
use Rattle.offence_list.specs.ListedOffences.{finding_of_offence}
use Rattle.order_arrivals.specs.declared.arrivals.Arrivals.{Arrivals}
use Rattle.continuous_offences.specs.declared.deal_offence.ListedAccount.{ListedAccount}
use Rattle.continuous_offences.specs.declared.deal_offence.DealFacts.{DealFacts}
use Rattle.order_arrivals.specs.Arrivals.{flag_at}
use Rattle.order_arrivals.specs.Resting.{rests_with}

-- an order trades more than its Size
abbrev pub is_over_size : ListedAccount → Bool
is_over_size account = nat_lt account.size account.traded

-- the earlier order as an offence shows it, and the later one
abbrev pub resting_shown : DealFacts → TradedOrder
resting_shown facts = if facts.bid_rested then facts.bid.shown else facts.ask.shown

abbrev pub incoming_shown : DealFacts → TradedOrder
incoming_shown facts = if facts.bid_rested then facts.ask.shown else facts.bid.shown

-- the first of what is wrong with a deal: 7 of the resting order, or else of the incoming one; 8;
-- 10 of the bid; and 11 of the ask
abbrev pub deal_offence : Deal → DealFacts → Option ListedOffence
deal_offence d facts = first_answer
    (only_if (not facts.rests) (Inactive d.place (resting_shown facts))
    ∷ only_if (not facts.entered) (Inactive d.place (incoming_shown facts))
    ∷ only_if (not facts.is_within) (Limit d.place facts.bid.shown facts.ask.shown)
    ∷ only_if (is_over_size facts.bid) (Quantity d.place Buy facts.bid.shown)
    ∷ only_if (is_over_size facts.ask) (Quantity d.place Sell facts.ask.shown) ∷ [])

-- an order with the number that is shown with it, where it has traded this much
abbrev pub shown_with : Arrivals → ℕ → ℕ → TradedOrder
shown_with a order traded =
    record { index = order; traded = traded + number_at a.chain_traded.items order }

-- what is known of an order that has traded this much
abbrev pub account_with : Arrivals → ℕ → ℕ → ListedAccount
account_with a order traded = record {
  shown = shown_with a order traded;
  traded = traded;
  size = number_at a.sizes.items order;
}

-- what is known of a deal of an order, by what each order has traded before its place and what the
-- deal's bid and its ask have traded up to the deal
abbrev pub facts_with : List Order → Arrivals → List ℕ → ℕ → Deal → ℕ → ℕ → DealFacts
facts_with orders a before order d bid_traded ask_traded = record {
  bid = account_with a d.bid bid_traded;
  ask = account_with a d.ask ask_traded;
  bid_rested = nat_lt (place_at orders d.bid) (place_at orders d.ask);
  rests = rests_with (order_at orders (resting_order orders d)) (place_at orders order)
      (number_at a.sizes.items (resting_order orders d))
      (number_at before (resting_order orders d));
  entered = flag_at a.entered.items order;
  is_within = is_price_within (order_at orders d.bid) (order_at orders d.ask) d;
}

-- the offence is this finding, and its orders are in the list; there is none where there is
-- no finding
pub record IsOffenceOf (orders : List Order) (offence : Option ListedOffence) (finding : Option Finding)
    : Type 0 where
  pub inside : IfSome offence (IsOffenceInside orders)
  pub same : option_map (finding_of_offence orders) offence ≡ finding
