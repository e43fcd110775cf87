-- What is answered of a history.
use Rattle.std.specs.Prelude.{◌≡◌, ◌⊎◌, ℕ, List, Option, None, Some, Result, Ok, Err, IfOk, OnOk}
use Rattle.audit_base.specs.declared.orders.Order.{Order}
use Rattle.audit_base.specs.declared.records.OrderRecord.{OrderRecord}
use Rattle.audit_base.specs.declared.findings.Finding.{Finding}
use Rattle.audit_base.specs.Histories.{history_finding, order_list, WellFormed}
use Rattle.instruction_history.specs.declared.faults.HistoryFault.{HistoryFault}
use Rattle.instruction_history.specs.declared.faults.HistoryFault.TheVariants.{Found, Memory}
use Rattle.instruction_history.specs.MarketPrices.{AreRecordsMarketPriced, AreMarketPriced}

-- the finding if there is one, else the order list
abbrev pub history_answer : Option Finding → List Order → Result (List Order) HistoryFault
history_answer None orders = Ok orders
history_answer (Some finding) orders = Err (Found finding)

-- the history alone decides what is answered, unless memory runs out
abbrev pub IsExactAnswer : List ℕ → List OrderRecord → Result (List Order) HistoryFault → Type 0
IsExactAnswer symbol entries result =
    (result ≡ history_answer (history_finding symbol entries) (order_list symbol entries))
    ⊎ (result ≡ Err Memory)

-- a fact of the finding that is answered, if one is
abbrev pub IfHistoryFinding : {A : Type 0} → Result A HistoryFault → (Finding → Type 0) → Type 0
IfHistoryFinding result P = (finding : Finding) → result ≡ Err (Found finding) → P finding

-- the answer to an order log
pub record IsHistoryAnswer (symbol : List ℕ) (entries : List OrderRecord)
    (result : Result (List Order) HistoryFault) : Type 0 where
  pub well_formed : OnOk result (WellFormed symbol entries)
  pub orders : IfOk result (λ orders. orders ≡ order_list symbol entries)
  pub market : AreRecordsMarketPriced entries → IfOk result AreMarketPriced
  pub found : IfHistoryFinding result (λ finding. history_finding symbol entries ≡ Some finding)
  pub exact : IsExactAnswer symbol entries result
