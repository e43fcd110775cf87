-- Which records a draft of deals has been handed.
use Rattle.std.specs.Prelude.{◌≡◌, ℕ, List, Option, None}
use Rattle.audit_base.specs.declared.findings.Finding.{Finding}
use Rattle.audit_base.specs.declared.orders.Deal.{Deal}
use Rattle.audit_base.specs.declared.orders.Order.{Order}
use Rattle.audit_base.specs.declared.records.TradeRecord.{TradeRecord}
use Rattle.audit_base.specs.Trades.{deals_of_symbol, trades_finding}
use Rattle.matching_core.specs.declared.deals_draft.DealsDraft.{DealsDraft}
use Rattle.matching_core.specs.DealsSoFar.{IsDealsSoFar}

-- the draft of the symbol's deals between these orders has been handed exactly these
-- records of the trade log
pub record IsDealsDraft {M : Type 0} (symbol : List ℕ) (orders : List Order)
    (draft : DealsDraft M) (trades : List TradeRecord) : Type 0 where
  pub named : draft.symbol ≡ symbol
  pub among : draft.history ≡ orders
  pub so_far : IsDealsSoFar orders symbol draft.so_far trades

-- a fact of whatever records the draft has been handed
abbrev pub ForHandedTrades : {M : Type 0} → List ℕ → List Order → DealsDraft M
    → (List TradeRecord → Type 0) → Type 0
ForHandedTrades symbol orders draft P =
    (trades : List TradeRecord) → IsDealsDraft symbol orders draft trades → P trades

-- the first finding of those records, if there is one
abbrev pub IsFindingOfTrades : {M : Type 0} → List ℕ → List Order → DealsDraft M
    → Option Finding → Type 0
IsFindingOfTrades symbol orders draft finding =
    ForHandedTrades symbol orders draft (λ trades. trades_finding orders symbol trades ≡ finding)

-- the deals of those records, where there is no finding
abbrev pub AreDealsOf : {M : Type 0} → List ℕ → List Order → DealsDraft M → Option Finding
    → List Deal → Type 0
AreDealsOf symbol orders draft finding deals =
    ForHandedTrades symbol orders draft
    (λ trades. finding ≡ None → deals ≡ deals_of_symbol orders symbol trades)
