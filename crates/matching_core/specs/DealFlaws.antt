-- What is wrong with one deal, by what its two orders trade up to it.
use Rattle.std.specs.Prelude.{ℕ, Bool, ◌+◌, ◌==◌, ◌&&◌, not, nat_lt, List, [], ◌∷◌, Option, slice_index, slice_set}
use Rattle.audit_base.specs.declared.orders.Order.{Order}
use Rattle.audit_base.specs.declared.orders.Deal.{Deal}
use Rattle.audit_base.specs.declared.terms.Side.TheVariants.{Buy, Sell}
use Rattle.audit_base.specs.declared.findings.Finding.{Finding}
use Rattle.audit_base.specs.declared.flaws.TradedOrder.{TradedOrder}
use Rattle.audit_base.specs.declared.flaws.Evidence.{Evidence}
use Rattle.audit_base.specs.declared.flaws.Evidence.TheVariants.{Inactive, Limit, UniformPrice, Quantity}
use Rattle.audit_base.specs.CallOffences.{is_cancelled, keeps_limits}
use Rattle.audit_base.specs.Flaws.{finding_of}
use Rattle.audit_base.specs.Least.{first_answer, only_if}
use Rattle.audit_base.specs.Orders.{order_at}

-- the order trades more than its quantity
abbrev pub is_overfilled : Order → ℕ → Bool
is_overfilled o traded = nat_lt o.quantity traded

-- the first of what is wrong with a deal: 7 of the bid, or else of the ask; 8; 9, where one
-- price is asked for; 10 of the bid; and 11 of the ask. The two orders are shown with what
-- they trade up to it
abbrev pub matching_evidence : Bool → List Order → Deal → Deal → ℕ → ℕ → Option Evidence
matching_evidence uniform orders d first bid_traded ask_traded =
    let bid : TradedOrder = record { index = d.bid; traded = bid_traded } in
    let ask : TradedOrder = record { index = d.ask; traded = ask_traded } in
    first_answer (only_if (is_cancelled orders d.bid) (Inactive bid)
    ∷ only_if (is_cancelled orders d.ask) (Inactive ask)
    ∷ only_if (not (keeps_limits orders d)) (Limit bid ask)
    ∷ only_if (uniform && not (d.price == first.price)) (UniformPrice first.place)
    ∷ only_if (is_overfilled (order_at orders d.bid) bid_traded) (Quantity Buy bid)
    ∷ only_if (is_overfilled (order_at orders d.ask) ask_traded) (Quantity Sell ask) ∷ [])

-- the finding at a deal, by what is wrong with it
abbrev pub finding_at_deal : List Order → Deal → Evidence → Finding
finding_at_deal orders d evidence =
    finding_of orders (record { place = d.place; evidence = evidence })

-- what the orders trade, with a deal of this quantity between these two
abbrev pub traded_with_deal : List ℕ → ℕ → ℕ → ℕ → List ℕ
traded_with_deal traded bid ask quantity =
    slice_set (slice_set traded bid (slice_index traded bid + quantity))
    ask (slice_index traded ask + quantity)
