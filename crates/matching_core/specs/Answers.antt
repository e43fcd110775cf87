-- What is answered of deals.
use Rattle.std.specs.Prelude.{◌≡◌, ℕ, Bool, List, Some, Result, Err, Vec, IfOk, OnOk}
use Rattle.std.specs.declared.alloc.Global.{Global}
use Rattle.std.specs.Bool.{OnTrue}
use Rattle.audit_base.specs.declared.findings.Finding.{Finding}
use Rattle.audit_base.specs.declared.orders.Order.{Order}
use Rattle.audit_base.specs.declared.orders.Deal.{Deal}
use Rattle.audit_base.specs.declared.records.TradeRecord.{TradeRecord}
use Rattle.audit_base.specs.Calls.{Matching, OnePrice}
use Rattle.audit_base.specs.Deals.{IsDealList, DealsInRange}
use Rattle.audit_base.specs.Trades.{SoundTrades, deals_of_symbol, trades_finding}
use Rattle.matching_core.specs.declared.outcomes.CheckFault.{CheckFault}
use Rattle.matching_core.specs.declared.outcomes.CheckFault.TheVariants.{Found}

-- a fact of the finding that is answered, if one is
abbrev pub IfCheckFinding : {A : Type 0} → Result A CheckFault → (Finding → Type 0) → Type 0
IfCheckFinding result P = (finding : Finding) → result ≡ Err (Found finding) → P finding

-- the deals are no matching, or not of one price where that is asked
abbrev pub IsNoMatching : Bool → List Order → List Deal → Type 0
IsNoMatching uniform orders deals = Matching orders deals → OnTrue uniform (OnePrice deals) → ⊥

-- the answer to the trades of a symbol
pub record IsResolveAnswer (orders : List Order) (symbol : List ℕ) (trades : List TradeRecord)
    (result : Result (Vec Deal Global) CheckFault) : Type 0 where
  pub sound : OnOk result (SoundTrades orders symbol trades)
  pub deals : IfOk result (λ deals. deals.items ≡ deals_of_symbol orders symbol trades)
  pub deal_list : IfOk result (λ deals. IsDealList orders deals.items)
  pub numbers : IfOk result (λ deals. DealsInRange deals.items)
  pub found : IfCheckFinding result (λ finding. trades_finding orders symbol trades ≡ Some finding)
