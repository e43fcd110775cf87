-- What the records of two logs give before the rule is looked at, by what was kept of them.
use Rattle.std.specs.List.{count_by, enumerate_from}
use Rattle.std.proofs.lemmas.List.{length-map}
use Rattle.std.proofs.lemmas.List.FromFn.{length-enumerate_from}
use Rattle.std.proofs.lemmas.List.Sums.{count_by-le-length, length-filter}
use Rattle.std.proofs.Common.{◌≡◌, ◌∙◌, sym, ap, subst, refl, arith, ℕ, ◌≤◌, Bool, List, length, Option, None, Some, Result, Ok, Err}
use Rattle.audit_base.specs.declared.findings.Finding.{Finding}
use Rattle.audit_base.specs.declared.orders.Order.{Order}
use Rattle.audit_base.specs.declared.records.OrderRecord.{OrderRecord}
use Rattle.audit_base.specs.declared.records.TradeRecord.{TradeRecord}
use Rattle.audit_base.specs.declared.terms.Which.TheVariants.{Trades}
use Rattle.audit_base.specs.Histories.{history_finding, order_list, WellFormed}
use Rattle.audit_base.specs.Orders.{same_name}
use Rattle.audit_base.specs.Trades.{deal_of_trade, deals_of_symbol, trades_of_symbol, trades_finding}
use Rattle.matching_core.specs.declared.deals_draft.ResolvedTrades.{ResolvedTrades}
use Rattle.record_verdict.specs.declared.before_rule.BeforeRule.TheVariants as before_rule
use Rattle.log_verdict.specs.declared.both.Both.{Both}
use Rattle.log_verdict.specs.declared.reading.CollectedTrades.{CollectedTrades}
use Rattle.log_verdict.specs.declared.reading.CollectedTrades.TheVariants as collected
use Rattle.record_verdict.specs.declared.scopes.Scope.{Scope}
use Rattle.record_verdict.specs.Scopes.{finding_before_rule_in_scope, unadmitted_order_finding}
use Rattle.log_verdict.specs.declared.sources.Source.{Source}
use Rattle.log_verdict.specs.BothLogs.{ReadsTrades, AreLogsBeforeRule, IsAdmitted, AreResolvedTrades}
use Rattle.log_verdict.specs.Collecting.{HasCollected, HasLogTrades}
use Rattle.log_verdict.specs.LogVerdicts.{trades_of_trade_log}
use Rattle.log_verdict.specs.Steps.{Reading, IsReadAs}
use Rattle.record_verdict.specs.BeforeRule.{finding_or_sound, IsBeforeRule}
use Rattle.log_verdict.proofs.JoinLemmas.{reads-collected}

-- What is found of records, after an order list that the rule admits.

-- a report without its partner
alone_found : (scope : Scope) (entries : List OrderRecord) (history : List Order) (finding : Finding) → IsAdmitted scope entries history → finding_before_rule_in_scope scope entries (Err finding) ≡ Some finding
alone_found scope entries history finding is =
    let admits : unadmitted_order_finding scope.admission (order_list scope.symbol entries) ≡ None = ap (unadmitted_order_finding scope.admission) (sym is.orders) ∙ is.admits in
    rw (is.formed, admits) refl

-- else what is found of the trades
trades_found : (scope : Scope) (entries : List OrderRecord) (ts : List TradeRecord) (history : List Order) (finding : Option Finding) → IsAdmitted scope entries history → trades_finding history scope.symbol ts ≡ finding
    → finding_before_rule_in_scope scope entries (Ok ts) ≡ finding
trades_found scope entries ts history finding is found = by_finding finding (ap (λ (os : List Order). trades_finding os scope.symbol ts) (sym is.orders) ∙ found)
  where
    admits : unadmitted_order_finding scope.admission (order_list scope.symbol entries) ≡ None
    admits = ap (unadmitted_order_finding scope.admission) (sym is.orders) ∙ is.admits

    by_finding : (finding : Option Finding) → trades_finding (order_list scope.symbol entries) scope.symbol ts ≡ finding → finding_before_rule_in_scope scope entries (Ok ts) ≡ finding
    by_finding None e = rw (is.formed, admits, e) refl
    by_finding (Some f) e = rw (is.formed, admits, e) refl

-- what trades give that have been gathered
ended_before : (scope : Scope) (entries : List OrderRecord) (ts : List TradeRecord) (ended : ResolvedTrades) → IsAdmitted scope entries ended.history → AreResolvedTrades scope ts ended
    → IsBeforeRule scope entries (Ok ts) (finding_or_sound ended ended.finding)
ended_before scope entries ts ended is end = by_finding ended.finding refl
  where
    by_finding : (finding : Option Finding) → ended.finding ≡ finding → IsBeforeRule scope entries (Ok ts) (finding_or_sound ended finding)
    by_finding None e = record {
      none = trades_found scope entries ts ended.history None is (end.finding ∙ e);
      orders = is.orders;
      deals = subst (λ (os : List Order). ended.deals.items ≡ deals_of_symbol os scope.symbol ts) is.orders (end.deals e);
      count = end.count;
    }
    by_finding (Some f) e = trades_found scope entries ts ended.history (Some f) is (end.finding ∙ e)

module _ {X Y : Type 0} (r : Reading) (scope : Scope) (trades : Source) (of_orders : X → List OrderRecord → Type 0) (of_trades : Y → List TradeRecord → Type 0) (entries : List OrderRecord) (orders : X) (taken : of_orders orders entries) where
  -- the trade log was read, and whatever it says, this is found
  pub after_any : (kept : CollectedTrades Y) (finding : Finding) → ((paired : Result (List TradeRecord) Finding) → finding_before_rule_in_scope scope entries paired ≡ Some finding)
      → IsReadAs r Trades trades.name.now (λ bytes. HasCollected of_trades kept (trades_of_trade_log trades.form bytes))
      → ReadsTrades r trades (λ paired. AreLogsBeforeRule scope of_orders of_trades entries paired (record { given = before_rule.Found finding; orders = orders; trades = kept })) (λ bad. ⊥)
  after_any kept finding found is =
      reads-collected r trades of_trades kept _ (λ paired has. record { before = found paired; orders = taken; trades = has }) is

  -- a report without its partner is found
  pub after_alone : (finding : Finding) (history : List Order) → IsAdmitted scope entries history → IsReadAs r Trades trades.name.now (λ bytes. trades_of_trade_log trades.form bytes ≡ Ok (Err finding))
      → ReadsTrades r trades (λ paired. AreLogsBeforeRule scope of_orders of_trades entries paired (record { given = before_rule.Found finding; orders = orders; trades = collected.Alone finding })) (λ bad. ⊥)
  after_alone finding history is read =
      record { bytes = read.bytes; read = read.read; holds = rw read.holds (record { before = alone_found scope entries history finding is; orders = taken; trades = refl }) }

  -- what the trades give that were handed to a collector, beside another
  pub after_ended : {K : Type 0} (of_deals : K → List TradeRecord → Type 0) (both : Both K Y) (ended : ResolvedTrades) → IsAdmitted scope entries ended.history
      → IsReadAs r Trades trades.name.now (λ bytes. HasLogTrades (λ ts. of_deals both.first ts × of_trades both.second ts) (trades_of_trade_log trades.form bytes))
      → ((ts : List TradeRecord) → of_deals both.first ts → AreResolvedTrades scope ts ended)
      → ReadsTrades r trades (λ paired. AreLogsBeforeRule scope of_orders of_trades entries paired (record { given = finding_or_sound ended ended.finding; orders = orders; trades = collected.Trades both.second })) (λ bad. ⊥)
  after_ended of_deals both ended is read ends =
      let has = read.holds.has in
      record {
        bytes = read.bytes;
        read = read.read;
        holds = rw read.holds.says (record {
          before = ended_before scope entries read.holds.trades ended is (ends read.holds.trades has.0);
          orders = taken;
          trades = record { trades = read.holds.trades; has = has.1; says = refl };
        });
      }

-- what was gathered of the trades of a symbol, in the words of the question
pub ends_as : (scope : Scope) (symbol : List ℕ) (orders : List Order) (ts : List TradeRecord) (ended : ResolvedTrades) → scope.symbol ≡ symbol → ended.history ≡ orders → ended.count ≡ length ts
    → trades_finding orders symbol ts ≡ ended.finding → (ended.finding ≡ None → ended.deals.items ≡ deals_of_symbol orders symbol ts) → AreResolvedTrades scope ts ended
ends_as scope symbol orders ts ended named among counts finds makes = record {
  count = counts;
  finding = subst (λ (s : List ℕ). trades_finding ended.history s ts ≡ ended.finding) (sym named) (subst (λ (os : List Order). trades_finding os symbol ts ≡ ended.finding) (sym among) finds);
  deals = λ none. subst (λ (s : List ℕ). ended.deals.items ≡ deals_of_symbol ended.history s ts) (sym named) (subst (λ (os : List Order). ended.deals.items ≡ deals_of_symbol os symbol ts) (sym among) (makes none));
}

-- the orders of a history whose orders the rule admits
pub admitted : (scope : Scope) (symbol : List ℕ) (entries : List OrderRecord) (history : List Order) → scope.symbol ≡ symbol → WellFormed symbol entries → history ≡ order_list symbol entries → unadmitted_order_finding scope.admission history ≡ None
    → IsAdmitted scope entries history
admitted scope symbol entries history named formed orders admits = record {
  formed = subst (λ (s : List ℕ). WellFormed s entries) (sym named) formed;
  orders = subst (λ (s : List ℕ). history ≡ order_list s entries) (sym named) orders;
  admits = admits;
}

-- an order of a history that the rule does not admit is found, whatever the trade log says
pub order_found : (scope : Scope) (symbol : List ℕ) (entries : List OrderRecord) (history : List Order) (finding : Finding) → scope.symbol ≡ symbol → WellFormed symbol entries → history ≡ order_list symbol entries
    → unadmitted_order_finding scope.admission history ≡ Some finding → (paired : Result (List TradeRecord) Finding) → finding_before_rule_in_scope scope entries paired ≡ Some finding
order_found scope symbol entries history finding named formed orders instant paired =
    let formed' : WellFormed scope.symbol entries = subst (λ (s : List ℕ). WellFormed s entries) (sym named) formed in
    let instant' : unadmitted_order_finding scope.admission (order_list scope.symbol entries) ≡ Some finding =
    subst (λ (s : List ℕ). unadmitted_order_finding scope.admission (order_list s entries) ≡ Some finding) (sym named) (subst (λ (os : List Order). unadmitted_order_finding scope.admission os ≡ Some finding) orders instant) in
    rw (formed', instant') refl

-- a finding of the history is found, whatever the trade log says
pub history_found : (scope : Scope) (symbol : List ℕ) (entries : List OrderRecord) (finding : Finding) → scope.symbol ≡ symbol → history_finding symbol entries ≡ Some finding
    → (paired : Result (List TradeRecord) Finding) → finding_before_rule_in_scope scope entries paired ≡ Some finding
history_found scope symbol entries finding named found paired =
    let found' : history_finding scope.symbol entries ≡ Some finding = subst (λ (s : List ℕ). history_finding s entries ≡ Some finding) (sym named) found in
    rw found' refl

deals_mapped : (orders : List Order) (symbol : List ℕ) (trades : List TradeRecord) → length (deals_of_symbol orders symbol trades) ≡ length (trades_of_symbol symbol trades)
unfolding deals_of_symbol
deals_mapped orders symbol trades = length-map (trades_of_symbol symbol trades) (deal_of_trade orders)

-- a log has at least as many trades as the symbol has deals
pub deals_counted : (orders : List Order) (symbol : List ℕ) (trades : List TradeRecord) → length (deals_of_symbol orders symbol trades) ≤ length trades
unfolding trades_of_symbol
deals_counted orders symbol trades =
    let is_own : ℕ × TradeRecord → Bool = λ e. same_name e.1.symbol symbol in
    let counted : length (trades_of_symbol symbol trades) ≡ count_by is_own (enumerate_from 1 trades) = length-filter is_own (enumerate_from 1 trades) in
    omega (arith, deals_mapped orders symbol trades, counted, count_by-le-length is_own (enumerate_from 1 trades), length-enumerate_from 1 trades)
