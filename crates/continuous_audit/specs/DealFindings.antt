-- What is wrong with a deal by itself, from what is known of its orders.
use Rattle.std.specs.Prelude.{◌+◌, ◌-◌, ℕ, Bool, ◌&&◌, not, nat_lt, List, [], ◌∷◌, Option, slice_index_or, if◌then◌else◌}
use Rattle.audit_base.specs.declared.terms.Side.TheVariants.{Buy, Sell}
use Rattle.audit_base.specs.declared.orders.Order.{Order}
use Rattle.audit_base.specs.declared.orders.Deal.{Deal}
use Rattle.audit_base.specs.declared.flaws.Evidence.{Evidence}
use Rattle.audit_base.specs.declared.flaws.Evidence.TheVariants.{Inactive, Limit, Quantity}
use Rattle.audit_base.specs.Least.{first_answer, only_if}
use Rattle.audit_base.specs.Orders.{order_at}
use Rattle.audit_base.specs.Deals.{is_price_within}
use Rattle.audit_base.specs.Continuous.{is_cancelled_at_place}
use Rattle.continuous_audit.specs.declared.checking.Account.{Account}
use Rattle.continuous_audit.specs.declared.checking.Accounts.{Accounts}
use Rattle.continuous_audit.specs.declared.checking.RecordOfDeal.{RecordOfDeal}
use Rattle.continuous_audit.specs.declared.order_numbers.OrderNumbers.{OrderNumbers}
pub use Rattle.audit_base.specs.Orders.{may_rest}
pub use Rattle.audit_base.specs.Continuous.{uncancelled_before}

-- an earlier order with this much left rests before a place
abbrev pub waits : Order → ℕ → ℕ → Bool
waits order place left =
    may_rest order.life && uncancelled_before order.cancelled place && nat_lt 0 left

-- of a bid and an ask that trade, the earlier one rests before a place, with this much left of each
abbrev pub resting_waits : Order → Order → ℕ → Accounts → Bool
resting_waits bid ask place known =
    if nat_lt bid.place ask.place then waits bid place known.bid.left
    else waits ask place known.ask.left

-- the account of the earlier one, which rested, and that of the later one, the incoming order
abbrev pub resting_account : Order → Order → Accounts → Account
resting_account bid ask known = if nat_lt bid.place ask.place then known.bid else known.ask

abbrev pub incoming_account : Order → Order → Accounts → Account
incoming_account bid ask known = if nat_lt bid.place ask.place then known.ask else known.bid

-- an order trades more than its Size
abbrev pub is_over_size : Account → Bool
is_over_size account = nat_lt account.size account.traded

-- the first property that a deal does not keep: 7 its resting order rests, and its incoming one
-- entered; 8 its price is within the limits; 10 and 11 neither order trades more than its Size
abbrev pub deal_evidence : Deal → Order → Order → RecordOfDeal → Accounts → Option Evidence
deal_evidence deal bid ask deal_record known = first_answer
    (only_if (not (resting_waits bid ask deal_record.place known))
    (Inactive (resting_account bid ask known).shown)
    ∷ only_if (not deal_record.entered) (Inactive (incoming_account bid ask known).shown)
    ∷ only_if (not (is_price_within bid ask deal)) (Limit known.bid.shown known.ask.shown)
    ∷ only_if (is_over_size known.bid) (Quantity Buy known.bid.shown)
    ∷ only_if (is_over_size known.ask) (Quantity Sell known.ask.shown) ∷ [])

-- what is known of an order that has traded this much
abbrev pub account_of : OrderNumbers → ℕ → ℕ → Account
account_of order_numbers order traded = record {
  shown = record
      { index = order; traded = traded + slice_index_or order_numbers.chain_traded.items order 0 };
  traded = traded;
  size = slice_index_or order_numbers.sizes.items order 0;
  left = slice_index_or order_numbers.left.items order 0;
}

-- an order is placed, and its target rests if it has one
abbrev pub enters : Order → Bool → Bool
enters order target_rests = not (is_cancelled_at_place order.cancelled order.place) && target_rests

-- an order of a list rests before a place, with what a list says is left of it
abbrev pub waits_in : List Order → List ℕ → ℕ → ℕ → Bool
waits_in orders left place order = waits (order_at orders order) place (slice_index_or left order 0)

-- a quantity less what is taken of it, or 0
abbrev pub size_left : Bool → ℕ → ℕ → ℕ
size_left entered quantity chain_traded = if entered then quantity - chain_traded else 0
