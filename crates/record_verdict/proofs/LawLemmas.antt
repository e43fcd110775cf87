-- The records of two logs have one verdict.
use Rattle.std.proofs.Common.{◌≡◌, ◌∙◌, sym, ap, subst, ℕ, List, Option, None, Some, Result}
use Rattle.std.specs.Prelude.{IsSomeAnd, MatchOption}
use Rattle.audit_base.specs.declared.findings.Finding.{Finding}
use Rattle.audit_base.specs.declared.orders.Cut.{Cut}
use Rattle.audit_base.specs.declared.orders.Deal.{Deal}
use Rattle.audit_base.specs.declared.orders.Order.{Order}
use Rattle.audit_base.specs.declared.records.OrderRecord.{OrderRecord}
use Rattle.audit_base.specs.declared.records.TradeRecord.{TradeRecord}
use Rattle.audit_base.specs.declared.terms.Rule.{Rule}
use Rattle.audit_base.specs.declared.terms.VolumeRule.{VolumeRule}
use Rattle.audit_base.specs.RuleKinds.{volume_rule}
use Rattle.audit_base.specs.Deals.{volume}
use Rattle.audit_base.specs.Histories.{order_list}
use Rattle.audit_base.specs.Trades.{deals_of_symbol}
use Rattle.audit_base.specs.Verdicts.{paired_trades}
use Rattle.audit_base.proofs.VerdictLemmas.{one-bound}
use Rattle.audit_report.specs.declared.tables.Line.{Line}
use Rattle.audit_report.specs.declared.verdicts.Accepted.{Accepted}
use Rattle.audit_report.specs.declared.verdicts.Verdict.{Verdict}
use Rattle.audit_report.specs.declared.verdicts.Verdict.TheVariants as verdict
use Rattle.call_audit.specs.Audits.{IsReachedBound}
use Rattle.record_verdict.specs.declared.questions.Question.{Question}
use Rattle.record_verdict.specs.RecordVerdicts.{IsAcceptance, IsAcceptedLog, IsRecordVerdict, IsOutcomeByFinding}

same-cut : (c d : Cut) → c.price ≡ d.price → c.volume ≡ d.volume → c ≡ d
same-cut c d price volume =
    ap (λ (p : ℕ). record { price = p; volume = c.volume }) price ∙ ap (λ (v : ℕ). record { price = d.price; volume = v }) volume

one-cut : (r : VolumeRule) (orders : List Order) (reached : ℕ) (a b : Option Cut) → IsSomeAnd a (IsReachedBound r orders reached) → IsSomeAnd b (IsReachedBound r orders reached) → a ≡ b
one-cut r orders reached (Some c) (Some d) x y =
    ap (λ (z : Cut). Some z) (same-cut c d (one-bound r orders reached c.price d.price x.shows y.shows) (x.volume_is ∙ sym y.volume_is))
one-cut r orders reached (Some c) None x y = absurd y
one-cut r orders reached None b x y = absurd x

one-shown : (r : Option VolumeRule) (orders : List Order) (reached : ℕ) (a b : Option Cut)
    → MatchOption r (a ≡ None) (λ v. IsSomeAnd a (IsReachedBound v orders reached)) → MatchOption r (b ≡ None) (λ v. IsSomeAnd b (IsReachedBound v orders reached)) → a ≡ b
one-shown (Some r) orders reached a b x y = one-cut r orders reached a b x y
one-shown None orders reached a b x y = x ∙ sym y

same-accepted : (a b : Accepted) → a.rule ≡ b.rule → a.symbol ≡ b.symbol → a.orders ≡ b.orders → a.trades ≡ b.trades → a.volume ≡ b.volume → a.bound ≡ b.bound → a.table ≡ b.table → a ≡ b
same-accepted a b r s o t v c l =
    ap (λ (x : Rule). record { rule = x; symbol = a.symbol; orders = a.orders; trades = a.trades; volume = a.volume; bound = a.bound; table = a.table }) r
    ∙ ap (λ (x : List ℕ). record { rule = b.rule; symbol = x; orders = a.orders; trades = a.trades; volume = a.volume; bound = a.bound; table = a.table }) s
    ∙ ap (λ (x : ℕ). record { rule = b.rule; symbol = b.symbol; orders = x; trades = a.trades; volume = a.volume; bound = a.bound; table = a.table }) o
    ∙ ap (λ (x : ℕ). record { rule = b.rule; symbol = b.symbol; orders = b.orders; trades = x; volume = a.volume; bound = a.bound; table = a.table }) t
    ∙ ap (λ (x : ℕ). record { rule = b.rule; symbol = b.symbol; orders = b.orders; trades = b.trades; volume = x; bound = a.bound; table = a.table }) v
    ∙ ap (λ (x : Option Cut). record { rule = b.rule; symbol = b.symbol; orders = b.orders; trades = b.trades; volume = b.volume; bound = x; table = a.table }) c
    ∙ ap (λ (x : List Line). record { rule = b.rule; symbol = b.symbol; orders = b.orders; trades = b.trades; volume = b.volume; bound = b.bound; table = x }) l

module _ (q : Question) (orders : List Order) (deals : List Deal) where
  one-accepted : (a b : Accepted) → IsAcceptedLog q orders deals a → IsAcceptedLog q orders deals b → a ≡ b
  one-accepted a b x y =
      same-accepted a b (x.rule_is ∙ sym y.rule_is) (x.symbol_is ∙ sym y.symbol_is) (x.orders_are ∙ sym y.orders_are) (x.trades_are ∙ sym y.trades_are)
      (x.volume_is ∙ sym y.volume_is) (one-shown (volume_rule q.rule) orders (volume deals) a.bound b.bound x.bound_is y.bound_is) (x.table_is ∙ sym y.table_is)

  one-acceptance : (a b : Verdict) → IsAcceptance q orders deals a → IsAcceptance q orders deals b → a ≡ b
  one-acceptance (verdict.Accepted x) (verdict.Accepted y) is same = ap (λ (z : Accepted). verdict.Accepted z) (one-accepted x y is same)
  one-acceptance (verdict.Accepted x) (verdict.Rejected f) is same = absurd same
  one-acceptance (verdict.Accepted x) (verdict.Malformed log bad) is same = absurd same
  one-acceptance (verdict.Rejected f) b is same = absurd is
  one-acceptance (verdict.Malformed log bad) b is same = absurd is

  one-outcome : (found : Option Finding) (a b : Verdict) → IsOutcomeByFinding q orders deals found a → IsOutcomeByFinding q orders deals found b → a ≡ b
  one-outcome None a b x y = one-acceptance a b x y
  one-outcome (Some f) a b x y = x ∙ sym y

-- the records of two logs have one verdict
pub one-judged : (q : Question) (entries : List OrderRecord) (paired : Result (List TradeRecord) Finding) (a b : Verdict) → IsRecordVerdict q entries paired a → IsRecordVerdict q entries paired b → a ≡ b
one-judged q entries paired a b x y =
    let orders : List Order = order_list q.symbol entries in
    let deals : List Deal = deals_of_symbol orders q.symbol (paired_trades paired) in
    one-outcome q orders deals x.found a b x.outcome
    (subst (λ (f : Option Finding). IsOutcomeByFinding q orders deals f b) (x.one y.found y.by_the_rules) y.outcome)
