-- What is known of one symbol of a day, and what it gives in the end.
use Rattle.std.proofs.Common.{◌≡◌, ◌≤◌, ℕ, Bool, Option, Some, None, Ok, List, length, refl, sym, ap, ◌∙◌, arith}
use Rattle.std.specs.List.{enumerate_from}
use Rattle.std.proofs.lemmas.List.{length-map}
use Rattle.std.proofs.lemmas.List.FromFn.{length-enumerate_from}
use Rattle.std.proofs.lemmas.List.Sums.{count_by-le-length, length-filter}
use Rattle.audit_base.specs.declared.findings.Finding.{Finding}
use Rattle.audit_base.specs.declared.orders.Order.{Order}
use Rattle.audit_base.specs.declared.records.OrderRecord.{OrderRecord}
use Rattle.audit_base.specs.declared.records.TradeRecord.{TradeRecord}
use Rattle.audit_base.specs.Histories.{order_list}
use Rattle.audit_base.specs.Orders.{same_name}
use Rattle.audit_base.specs.Trades.{deal_of_trade, deals_of_symbol, trades_of_symbol, trades_finding}
use Rattle.matching_core.specs.declared.deals_draft.ResolvedTrades.{ResolvedTrades}
use Rattle.record_verdict.specs.declared.scopes.Admission.{Admission}
use Rattle.record_verdict.specs.BeforeRule.{finding_or_sound, IsBeforeRule}
use Rattle.record_verdict.specs.Scopes.{unadmitted_order_finding}
use Rattle.day_records.specs.declared.symbol_during_trades.SoundSymbol.{SoundSymbol}
use Rattle.day_records.specs.SymbolDuringTrades.{IsSoundSymbol, scope_by}

-- what the trades of a symbol give whose orders have no finding
pub gives-sound : (admission : Admission) (entries : List OrderRecord) (trades : List TradeRecord) (symbol : List ℕ) (sound_symbol : SoundSymbol) (resolved : ResolvedTrades)
    → IsSoundSymbol admission entries trades symbol sound_symbol → resolved.history ≡ sound_symbol.history → resolved.count ≡ length trades
    → trades_finding sound_symbol.history symbol trades ≡ resolved.finding → (resolved.finding ≡ None → resolved.deals.items ≡ deals_of_symbol sound_symbol.history symbol trades)
    → IsBeforeRule (scope_by admission symbol) entries (Ok trades) (finding_or_sound resolved resolved.finding)
gives-sound admission entries trades symbol sound_symbol resolved is history counted found deals = go resolved.finding refl
  where
    admits : unadmitted_order_finding admission (order_list symbol entries) ≡ None
    admits = ap (unadmitted_order_finding admission) (sym is.orders_are) ∙ is.admitted

    unsound : trades_finding (order_list symbol entries) symbol trades ≡ resolved.finding
    unsound = ap (λ (orders : List Order). trades_finding orders symbol trades) (sym is.orders_are) ∙ found

    go : (f : Option Finding) → resolved.finding ≡ f → IsBeforeRule (scope_by admission symbol) entries (Ok trades) (finding_or_sound resolved f)
    go None none = record {
      none = rw (is.well_formed, admits, unsound, none) refl;
      orders = history ∙ is.orders_are;
      deals = deals none ∙ ap (λ (orders : List Order). deals_of_symbol orders symbol trades) is.orders_are;
      count = counted;
    }
    go (Some finding) some = rw (is.well_formed, admits, unsound, some) refl

-- the trade is one of the symbol
abbrev is_of : List ℕ → ℕ × TradeRecord → Bool
is_of symbol e = same_name e.1.symbol symbol

-- there are no more deals than trades
pub few-deals : (orders : List Order) (symbol : List ℕ) (trades : List TradeRecord) → length (deals_of_symbol orders symbol trades) ≤ length trades
unfolding deals_of_symbol trades_of_symbol
few-deals orders symbol trades =
    omega (arith, length-map (trades_of_symbol symbol trades) (deal_of_trade orders), length-filter (is_of symbol) (enumerate_from 1 trades), count_by-le-length (is_of symbol) (enumerate_from 1 trades), length-enumerate_from 1 trades)
