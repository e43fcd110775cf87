-- What is given before the rule is looked at, by the history and then by the trades.
use Rattle.std.proofs.Common.{◌≡◌, ◌∙◌, ◌<◌, arith, sym, ap, refl, ℕ, Bool, true, false, List, length, Option, None, Some, Result, Ok, Err}
use Rattle.std.specs.Prelude.{◌≤◌, IfOk, not, option_map}
use Rattle.std.specs.List.{count_by, enumerate_from}
use Rattle.std.proofs.lemmas.List.{length-map}
use Rattle.std.proofs.lemmas.List.FromFn.{length-enumerate_from}
use Rattle.std.proofs.lemmas.List.Sums.{count_by-le-length, length-filter}
use Rattle.audit_base.specs.declared.terms.Which.TheVariants as which
use Rattle.audit_base.specs.declared.findings.Property.TheVariants as property
use Rattle.audit_base.specs.declared.records.OrderRecord.{OrderRecord}
use Rattle.audit_base.specs.declared.records.TradeRecord.{TradeRecord}
use Rattle.audit_base.specs.declared.orders.Order.{Order}
use Rattle.audit_base.specs.declared.findings.Finding.{Finding}
use Rattle.audit_base.specs.Shows.{finding_at_record}
use Rattle.audit_base.specs.Orders.{may_rest, order_at, same_name}
use Rattle.audit_base.specs.Histories.{history_finding, order_list, instant_order_finding, WellFormed}
use Rattle.audit_base.specs.Least.{least_with}
use Rattle.audit_base.specs.Trades.{deal_of_trade, deals_of_symbol, trades_finding, trades_of_symbol}
use Rattle.audit_base.proofs.LeastLemmas.{with-at, none-with}
use Rattle.matching_core.specs.declared.deals_draft.ResolvedTrades.{ResolvedTrades}
use Rattle.record_verdict.specs.declared.before_rule.BeforeRule.TheVariants as before_rule
use Rattle.record_verdict.specs.declared.scopes.Scope.{Scope}
use Rattle.record_verdict.specs.BeforeRule.{finding_or_sound, IsBeforeRule, IsGivenAfterHistory}
use Rattle.record_verdict.specs.Scopes.{finding_before_rule_in_scope, unadmitted_order_finding}

-- what holds of an answer holds of what follows from it
pub ok-then : {X E : Type 0} (result : Result X E) (P Q : X → Type 0) → ((x : X) → P x → Q x) → IfOk result P → IfOk result Q
ok-then (Ok x) P Q follows is = follows x is
ok-then (Err e) P Q follows is = tt

-- What is given before the rule is looked at.

-- a finding of the history is given, whatever the trades are
pub given-found : (scope : Scope) (entries : List OrderRecord) (paired : Result (List TradeRecord) Finding) (finding : Finding) → history_finding scope.symbol entries ≡ Some finding → finding_before_rule_in_scope scope entries paired ≡ Some finding
given-found scope entries paired finding found = rw found refl

module _ (scope : Scope) (orders : List Order) where
  -- an order that is not admitted
  pub given-unadmitted : (paired : Result (List TradeRecord) Finding) (finding : Finding) → unadmitted_order_finding scope.admission orders ≡ Some finding → IsGivenAfterHistory scope orders paired (before_rule.Found finding)
  given-unadmitted paired finding found entries formed same = rw (formed, sym same, found) refl

  -- else a report without its partner
  pub given-alone : (finding : Finding) → unadmitted_order_finding scope.admission orders ≡ None → IsGivenAfterHistory scope orders (Err finding) (before_rule.Found finding)
  given-alone finding admits entries formed same = rw (formed, sym same, admits) refl

  trades-found : (trades : List TradeRecord) (entries : List OrderRecord) (found : Option Finding) → unadmitted_order_finding scope.admission orders ≡ None → WellFormed scope.symbol entries → orders ≡ order_list scope.symbol entries
      → trades_finding orders scope.symbol trades ≡ found → finding_before_rule_in_scope scope entries (Ok trades) ≡ found
  trades-found trades entries None admits formed same is = rw (formed, sym same, admits, is) refl
  trades-found trades entries (Some f) admits formed same is = rw (formed, sym same, admits, is) refl

  -- else what is found of the trades, or that they are sound
  pub given-resolved : (trades : List TradeRecord) (resolved : ResolvedTrades) → unadmitted_order_finding scope.admission orders ≡ None → resolved.history ≡ orders → resolved.count ≡ length trades → trades_finding orders scope.symbol trades ≡ resolved.finding
      → (resolved.finding ≡ None → resolved.deals.items ≡ deals_of_symbol orders scope.symbol trades) → IsGivenAfterHistory scope orders (Ok trades) (finding_or_sound resolved resolved.finding)
  given-resolved trades resolved admits among counted finds makes entries formed same = by-finding resolved.finding refl
    where
      by-finding : (found : Option Finding) → resolved.finding ≡ found → IsBeforeRule scope entries (Ok trades) (finding_or_sound resolved found)
      by-finding None e = record {
        none = trades-found trades entries None admits formed same (finds ∙ e);
        orders = among ∙ same;
        deals = makes e ∙ ap (λ (os : List Order). deals_of_symbol os scope.symbol trades) same;
        count = counted;
      }
      by-finding (Some f) e = trades-found trades entries (Some f) admits formed same (finds ∙ e)

-- the deals of a symbol are no more than the trades
pub deals-counted : (orders : List Order) (symbol : List ℕ) (trades : List TradeRecord) → length (deals_of_symbol orders symbol trades) ≤ length trades
unfolding deals_of_symbol trades_of_symbol
deals-counted orders symbol trades =
    let is-own : ℕ × TradeRecord → Bool = λ e. same_name e.1.symbol symbol in
    let counted : length (trades_of_symbol symbol trades) ≡ count_by is-own (enumerate_from 1 trades) = length-filter is-own (enumerate_from 1 trades) in
    omega (arith, length-map (trades_of_symbol symbol trades) (deal_of_trade orders), counted, count_by-le-length is-own (enumerate_from 1 trades), length-enumerate_from 1 trades)

-- the first order that does not rest is the finding
pub instant_at : (orders : List Order) (i : ℕ) (o : Order) → o ≡ order_at orders i → i < length orders → least_with (λ k. not (may_rest (order_at orders k).life)) i ≡ None → may_rest o.life ≡ false
    → Some (finding_at_record property.InstantOrder which.Orders o.place None None) ≡ instant_order_finding orders
instant_at orders i o same lt before away =
    let test : ℕ → Bool = λ k. not (may_rest (order_at orders k).life) in
    let here : test i ≡ true = ap not (ap (λ (x : Order). may_rest x.life) (sym same) ∙ away) in
    let first : least_with test (length orders) ≡ Some i = with-at test (length orders) i lt here (none-with test i before) in
    ap (λ (x : Order). Some (finding_at_record property.InstantOrder which.Orders x.place None None)) same
    ∙ ap (option_map (λ (k : ℕ). finding_at_record property.InstantOrder which.Orders (order_at orders k).place None None)) (sym first)
