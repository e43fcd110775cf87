-- Deals that are made of pairs: their numbers and their prices.
use Rattle.std.specs.Prelude.{◌≡◌, ◌<◌, ◌≤◌, ℕ, ◌+◌, List, AllPairs, EachIndex, length, slice_index_or}
use Rattle.audit_base.specs.Numbers.{greatest_quantity}
use Rattle.audit_base.specs.declared.orders.Order.{Order}
use Rattle.audit_base.specs.declared.orders.Deal.{Deal}
use Rattle.audit_base.specs.Orders.{limit_at}
use Rattle.audit_base.specs.Deals.{deal_at}
use Rattle.unit_pairs.specs.declared.lots.Lot.{Lot}
use Rattle.unit_pairs.specs.declared.meeting.UnitPair.{UnitPair}
use Rattle.unit_pairs.specs.declared.numbering.DealPrice.{DealPrice}
use Rattle.unit_pairs.specs.declared.numbering.DealPrice.TheVariants.{Same, AskLimit}
use Rattle.unit_pairs.specs.Meeting.{AreUnitPairs, UnitPairBefore}

-- what is given past the end of a list of pairs, and the pair at an index
abbrev pub unit_pair_past_end : UnitPair
unit_pair_past_end = record { bid = 0; ask = 0; quantity = 0 }

abbrev pub unit_pair_at : List UnitPair → ℕ → UnitPair
unit_pair_at pairs k = slice_index_or pairs k unit_pair_past_end

-- the price at which an ask trades
abbrev pub unit_pair_price : List Order → DealPrice → ℕ → ℕ
unit_pair_price orders (Same price) ask = price
unit_pair_price orders AskLimit ask = limit_at orders ask

-- a pair of an ask of the orders, of a quantity from 1 to 10^12
pub record IsUnitPairInRange (orders : List Order) (p : UnitPair) : Type 0 where
  pub ask_inside : p.ask < length orders
  pub positive : 0 < p.quantity
  pub bounded : p.quantity ≤ greatest_quantity

-- the deal of a pair, with a number
abbrev pub unit_pair_deal : List Order → DealPrice → ℕ → UnitPair → Deal
unit_pair_deal orders price number p = record {
  place = number;
  bid = p.bid;
  ask = p.ask;
  quantity = p.quantity;
  price = unit_pair_price orders price p.ask;
}

-- one deal for each pair, numbered from 1
pub record AreUnitPairDeals (orders : List Order) (price : DealPrice) (pairs : List UnitPair)
    (deals : List Deal) : Type 0 where
  pub count : length deals ≡ length pairs
  pub each : EachIndex pairs (λ k. deal_at deals k
      ≡ unit_pair_deal orders price (k + 1) (unit_pair_at pairs k))

-- the deals of two lists of lots: those of their pairs in order of the bid, and then of the ask
pub record AreLotDeals (orders : List Order) (price : DealPrice) (bids asks : List Lot)
    (deals : List Deal) : Type 0 where
  pub pairs : List UnitPair
  pub are : AreUnitPairs bids asks pairs
  pub in_order : AllPairs UnitPairBefore pairs
  pub bounded : length pairs ≤ length bids + length asks
  pub numbered : AreUnitPairDeals orders price pairs deals
