-- How the worked examples write their logs: buyers have firm A, sellers firm B, the symbol is Z, and all times are equal.
use Rattle.std.specs.Prelude.{◌≡◌, ℕ, ◌+◌, ◌*◌, ◌^◌, Bool, true, ◌&&◌, nat_lt, nat_le, List, [], ◌∷◌, length, All, codes}
use Rattle.std.specs.List.{list_all}
use Rattle.std.proofs.Common.{zero, suc, arith}
use Rattle.std.proofs.lemmas.Bool.{and_parts, ltb-true, leb-true}
use Rattle.std.proofs.lemmas.List.Elements.{All-nil, All-cons}
use Rattle.audit_base.specs.Moments.{Moment}
use Rattle.audit_base.specs.declared.names.Key.{Key}
use Rattle.audit_base.specs.declared.terms.Side.{Side}
use Rattle.audit_base.specs.declared.terms.Side.TheVariants.{Buy, Sell}
use Rattle.audit_base.specs.declared.terms.Life.TheVariants.{Rests, Immediate, Market}
use Rattle.audit_base.specs.declared.records.OrderRecord.{OrderRecord}
use Rattle.audit_base.specs.declared.records.OrderRecord.TheVariants.{New, Cancel, Replace}
use Rattle.audit_base.specs.declared.records.TradeRecord.{TradeRecord}
use Rattle.audit_base.specs.declared.orders.Order.{Order}
use Rattle.audit_base.specs.declared.orders.Deal.{Deal}
use Rattle.audit_base.specs.declared.findings.OrderLine.{OrderLine}
use Rattle.audit_base.specs.Numbers.{is_quantity, market_price, price_end}
use Rattle.audit_base.specs.Orders.{side_at, same_side}
use Rattle.audit_base.specs.Priority.{best_order}
use Rattle.audit_base.specs.Deals.{NamesOrders, DealInRange, DealsInRange}
use Rattle.audit_base.specs.Histories.{order_list}
use Rattle.audit_base.specs.Trades.{trades_of_symbol, duplicate_trade_finding, unknown_order_finding, trades_finding, deals_of_symbol}
use Rattle.audit_base.specs.CallOffences.{call_inactive_finding, call_limit_finding, uniform_price_finding, bid_quantity_finding, ask_quantity_finding, best_short, is_outranked_by_short, bid_priority_finding, ask_priority_finding}
use Rattle.audit_base.specs.Continuous.{traded_before, traded_at, chain, chain_traded_in_ledger, entered_in_ledger, size_in_ledger, rests_before_in_ledger, active_after_in_ledger}
use Rattle.audit_base.specs.ContinuousOffences.{continuous_inactive_finding, continuous_limit_finding, size_finding, resting_priority_finding, active_orders_meet, spread_finding}
use Rattle.audit_base.specs.Expected.{pair_deals, available_quantity, pair_share}
use Rattle.audit_base.proofs.NumberLemmas.{test-quantity}
use Rattle.audit_base.proofs.OrderLemmas.{same_side-is}
use Rattle.audit_base.proofs.ContinuousOffenceLemmas.{IsLast}

abbrev pub symbol : List ℕ
symbol = codes "Z"

abbrev pub firm : Side → List ℕ
firm Buy = codes "A"
firm Sell = codes "B"

abbrev pub key : Side → List ℕ → Key
key side id = record { firm = firm side; id = id }

-- 20240102-09:00:00, and as many seconds later as are given
abbrev pub at : ℕ → Moment
at later = record { second = 66137316300 + later; nano = 0 }

-- a price, and a price and a half, in units of 10^-8
abbrev pub whole : ℕ → ℕ
whole n = n * 10 ^ 8

abbrev pub half_over : ℕ → ℕ
half_over n = n * 10 ^ 8 + 5 * 10 ^ 7

abbrev pub new_order : Side → List ℕ → ℕ → ℕ → OrderRecord
new_order side id quantity price = New (key side id) (at 0) symbol side quantity (whole price) Rests

abbrev pub immediate_order : Side → List ℕ → ℕ → ℕ → OrderRecord
immediate_order side id quantity price = New (key side id) (at 0) symbol side quantity (whole price) Immediate

abbrev pub market_order : Side → List ℕ → ℕ → OrderRecord
market_order side id quantity = New (key side id) (at 0) symbol side quantity (market_price side) Market

abbrev pub cancel : Side → List ℕ → List ℕ → OrderRecord
cancel side id target = Cancel (key side id) (at 0) symbol target

abbrev pub replace : Side → List ℕ → List ℕ → ℕ → ℕ → OrderRecord
replace side id target quantity price = Replace (key side id) (at 0) symbol target side quantity (whole price)

abbrev pub trade : List ℕ → List ℕ → List ℕ → ℕ → ℕ → TradeRecord
trade id buy sell quantity price = record { trade = id; time = at 1; symbol = symbol; buy = key Buy buy; sell = key Sell sell; quantity = quantity; price = price }

-- the orders of an order log, and the deals of a trade log beside it
abbrev pub orders_in : List OrderRecord → List Order
orders_in entries = order_list symbol entries

abbrev pub deals_in : List OrderRecord → List TradeRecord → List Deal
deals_in entries trades = deals_of_symbol (order_list symbol entries) symbol trades

-- an order as a finding shows it
abbrev pub line : ℕ → Side → List ℕ → ℕ → ℕ → ℕ → OrderLine
line place side id quantity price traded = record { place = place; side = side; key = key side id; quantity = quantity; limit = whole price; traded = traded }

-- what an example computes with: to unfold this is to unfold all that its line names
unfoldable pub all_definitions : ℕ
unfolding trades_of_symbol duplicate_trade_finding unknown_order_finding trades_finding deals_of_symbol best_order call_inactive_finding call_limit_finding uniform_price_finding bid_quantity_finding ask_quantity_finding best_short is_outranked_by_short bid_priority_finding ask_priority_finding traded_before traded_at chain chain_traded_in_ledger entered_in_ledger size_in_ledger rests_before_in_ledger active_after_in_ledger continuous_inactive_finding continuous_limit_finding size_finding resting_priority_finding active_orders_meet spread_finding pair_deals available_quantity pair_share
all_definitions = 0

-- whether each deal names a bid and an ask, as a test
abbrev pub named_test : List Order → Deal → Bool
named_test orders d = (nat_lt d.bid (length orders) && nat_lt d.ask (length orders)) && (same_side Buy (side_at orders d.bid) && same_side Sell (side_at orders d.ask))

test-named : (orders : List Order) (d : Deal) → named_test orders d ≡ true → NamesOrders orders d
test-named orders d t =
    let parts = and_parts (nat_lt d.bid (length orders) && nat_lt d.ask (length orders)) (same_side Buy (side_at orders d.bid) && same_side Sell (side_at orders d.ask)) t in
    let inside = and_parts (nat_lt d.bid (length orders)) (nat_lt d.ask (length orders)) parts.0 in
    let sides = and_parts (same_side Buy (side_at orders d.bid)) (same_side Sell (side_at orders d.ask)) parts.1 in
    record { bid_inside = ltb-true _ _ inside.0; ask_inside = ltb-true _ _ inside.1; buys = same_side-is Buy _ sides.0; sells = same_side-is Sell _ sides.1 }

pub all_named : (orders : List Order) (deals : List Deal) → list_all (named_test orders) deals ≡ true → All (NamesOrders orders) deals
all_named orders [] t = All-nil (NamesOrders orders)
all_named orders (d ∷ ds) t =
    let parts = and_parts (named_test orders d) (list_all (named_test orders) ds) t in
    All-cons (NamesOrders orders) d ds (test-named orders d parts.0) (all_named orders ds parts.1)

-- whether the numbers of a deal are in range, as a test
abbrev pub range_test : Deal → Bool
range_test d = is_quantity d.quantity && nat_lt d.price price_end

test-range : (d : Deal) → range_test d ≡ true → DealInRange d
test-range d t =
    let parts = and_parts (is_quantity d.quantity) (nat_lt d.price price_end) t in
    record { sized = test-quantity d.quantity parts.0; priced = ltb-true _ _ parts.1 }

pub all_in_range : (deals : List Deal) → list_all range_test deals ≡ true → DealsInRange deals
all_in_range [] t = All-nil DealInRange
all_in_range (d ∷ ds) t =
    let parts = and_parts (range_test d) (list_all range_test ds) t in
    All-cons DealInRange d ds (test-range d parts.0) (all_in_range ds parts.1)

-- whether each place is at most the last, as a test
abbrev pub last_test : ℕ → Order → Bool
last_test last o = nat_le o.place last

pub is_last : (orders : List Order) (last : ℕ) → list_all (last_test last) orders ≡ true → IsLast orders last
is_last [] last t x lt = absurd (omega arith)
is_last (o ∷ os) last t zero lt = leb-true o.place last ((and_parts (last_test last o) (list_all (last_test last) os) t).0)
is_last (o ∷ os) last t (suc x) lt = is_last os last ((and_parts (last_test last o) (list_all (last_test last) os) t).1) x (omega arith)
