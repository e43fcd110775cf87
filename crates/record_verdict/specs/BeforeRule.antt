-- What the records of two logs give before the rule is looked at: their first finding there, or
-- sound trades.
use Rattle.std.specs.Prelude.{◌≡◌, ◌<◌, ◌≤◌, ◌-◌, ◌^◌, List, Option, None, Some, Result, length}
use Rattle.audit_base.specs.declared.findings.Finding.{Finding}
use Rattle.audit_base.specs.declared.orders.Order.{Order}
use Rattle.audit_base.specs.declared.records.OrderRecord.{OrderRecord}
use Rattle.audit_base.specs.declared.records.TradeRecord.{TradeRecord}
use Rattle.audit_base.specs.Deals.{DealsInRange, IsDealList}
use Rattle.audit_base.specs.Histories.{order_list, WellFormed}
use Rattle.audit_base.specs.Trades.{deals_of_symbol}
use Rattle.audit_base.specs.Verdicts.{paired_trades}
use Rattle.matching_core.specs.declared.deals_draft.ResolvedTrades.{ResolvedTrades}
use Rattle.record_verdict.specs.declared.before_rule.BeforeRule.{BeforeRule}
use Rattle.record_verdict.specs.declared.before_rule.BeforeRule.TheVariants as before_rule
use Rattle.record_verdict.specs.declared.scopes.Scope.{Scope}
use Rattle.record_verdict.specs.Scopes.{finding_before_rule_in_scope}

-- The trades are sound: these are the orders of the history, which are admitted,
-- and the deals between them.
pub record IsResolvedWithoutFinding (scope : Scope) (entries : List OrderRecord)
    (paired : Result (List TradeRecord) Finding) (resolved : ResolvedTrades) : Type 0 where
  pub none : finding_before_rule_in_scope scope entries paired ≡ None
  pub orders : resolved.history ≡ order_list scope.symbol entries
  pub deals : let orders = order_list scope.symbol entries in
      resolved.deals.items ≡ deals_of_symbol orders scope.symbol (paired_trades paired)
  pub count : resolved.count ≡ length (paired_trades paired)

-- what records give before the rule is looked at: the first finding there, or sound trades
abbrev pub IsBeforeRule : Scope → List OrderRecord → Result (List TradeRecord) Finding
    → BeforeRule → Type 0
IsBeforeRule scope entries paired (before_rule.Found finding) =
    finding_before_rule_in_scope scope entries paired ≡ Some finding
IsBeforeRule scope entries paired (before_rule.Sound resolved) =
    IsResolvedWithoutFinding scope entries paired resolved

-- the same of whatever order records have a history without a finding, with these orders
abbrev pub IsGivenAfterHistory : Scope → List Order → Result (List TradeRecord) Finding
    → BeforeRule → Type 0
IsGivenAfterHistory scope orders paired given = (entries : List OrderRecord)
    → WellFormed scope.symbol entries → orders ≡ order_list scope.symbol entries
    → IsBeforeRule scope entries paired given

-- what trades give that have been gathered: their first finding, or that they are sound
abbrev pub finding_or_sound : ResolvedTrades → Option Finding → BeforeRule
finding_or_sound resolved None = before_rule.Sound resolved
finding_or_sound resolved (Some finding) = before_rule.Found finding

-- Sound trades are fewer than there are places, and at least as many as their deals, which are a
-- deal list with numbers in range.
pub record AreResolvedTradesInRange (resolved : ResolvedTrades) : Type 0 where
  pub fits_places : resolved.count < 2 ^ 32 - 1
  pub counted : length resolved.deals.items ≤ resolved.count
  pub deal_list : IsDealList resolved.history resolved.deals.items
  pub numbers : DealsInRange resolved.deals.items

-- what can be judged by a rule: where the trades are sound, they are within their ranges; a
-- finding always can
abbrev pub IsJudgeable : BeforeRule → Type 0
IsJudgeable (before_rule.Found finding) = Unit {0}
IsJudgeable (before_rule.Sound resolved) = AreResolvedTradesInRange resolved
