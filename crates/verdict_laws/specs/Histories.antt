-- What holds of the history of a symbol, as statements: of every list of order records.
use Rattle.std.specs.Prelude.{◌≡◌, ◌<◌, ◌^◌, ℕ, List, length}
use Rattle.audit_base.specs.declared.orders.Deal.{Deal}
use Rattle.audit_base.specs.declared.records.OrderRecord.{OrderRecord}
use Rattle.audit_base.specs.declared.terms.Rule.{Rule}
use Rattle.audit_base.specs.Expected.{IsExpected}
use Rattle.audit_base.specs.Histories.{WellFormed, order_list, Regular}
use Rattle.audit_base.specs.Orders.{HaveOwnKeys, IsOrderList}

-- the new orders and replacements of a history are an order list, well-formed or not
abbrev pub HistoriesHaveOrderLists : Type 0
HistoriesHaveOrderLists = (symbol : List ℕ) (entries : List OrderRecord)
    → length entries < 2 ^ 32 → IsOrderList (order_list symbol entries)

-- the order list of every well-formed history is regular
abbrev pub OrderListsAreRegular : Type 0
OrderListsAreRegular = (symbol : List ℕ) (entries : List OrderRecord)
    → WellFormed symbol entries → Regular (order_list symbol entries)

-- and no two of its orders have one key
abbrev pub OrderListsHaveOwnKeys : Type 0
OrderListsHaveOwnKeys = (symbol : List ℕ) (entries : List OrderRecord)
    → WellFormed symbol entries → HaveOwnKeys (order_list symbol entries)

-- a history has at most one list of Expected trades under a rule
abbrev pub ExpectedTradesAreOne : Type 0
ExpectedTradesAreOne = (the_rule : Rule) (symbol : List ℕ) (entries : List OrderRecord)
    (ds es : List Deal) → IsExpected the_rule (order_list symbol entries) ds
    → IsExpected the_rule (order_list symbol entries) es → ds ≡ es
