-- What is known of the trades of one symbol, with one record more.
use Rattle.std.proofs.Common.{◌≡◌, false, List, [], ◌∷◌, ◌++◌, ℕ}
use Rattle.audit_base.specs.declared.orders.Order.{Order}
use Rattle.audit_base.specs.declared.records.TradeRecord.{TradeRecord}
use Rattle.audit_base.specs.Orders.{same_name}
use Rattle.instruction_history.specs.Flaws.{flaw_finding}
use Rattle.matching_core.specs.declared.deals_or_flaw.DealsOrFlaw.{DealsOrFlaw}
use Rattle.matching_core.specs.DealsSoFar.{IsDealsOrFlaw}
use Rattle.matching_core.proofs.DraftLemmas.{known-other}

-- a trade of another symbol changes nothing
pub other-trade : (orders : List Order) (symbol : List ℕ) (kept : DealsOrFlaw) (trades : List TradeRecord) (x : TradeRecord) → same_name x.symbol symbol ≡ false
    → IsDealsOrFlaw orders symbol kept trades → IsDealsOrFlaw orders symbol kept (trades ++ x ∷ [])
other-trade orders symbol kept trades x other is = record {
  known = known-other orders symbol trades x kept.sound (flaw_finding kept.flaw) other is.known;
  alone = is.alone;
}
