-- The records of two logs have a verdict.
use Rattle.std.proofs.Common.{◌≡◌, ◌<◌, refl, subst, ℕ, List, [], ◌∷◌, length, Option, None, Some, Result}
use Rattle.std.specs.Prelude.{◌^◌, MatchOption}
use Rattle.audit_base.specs.declared.findings.Finding.{Finding}
use Rattle.audit_base.specs.declared.orders.Cut.{Cut}
use Rattle.audit_base.specs.declared.orders.Deal.{Deal}
use Rattle.audit_base.specs.declared.orders.Order.{Order}
use Rattle.audit_base.specs.declared.records.OrderRecord.{OrderRecord}
use Rattle.audit_base.specs.declared.records.TradeRecord.{TradeRecord}
use Rattle.audit_base.specs.declared.terms.Rule.{Rule}
use Rattle.audit_base.specs.declared.terms.Rule.TheVariants as rule
use Rattle.audit_base.specs.declared.terms.VolumeRule.{VolumeRule}
use Rattle.audit_base.specs.declared.terms.VolumeRule.TheVariants as of_volume
use Rattle.audit_base.specs.Bounds.{IsBoundPrice}
use Rattle.audit_base.specs.Deals.{DealsInRange, volume}
use Rattle.audit_base.specs.Histories.{Regular, history_finding, order_list}
use Rattle.audit_base.specs.Least.{first_answer}
use Rattle.audit_base.specs.Orders.{OrdersInRange, IsOrderList}
use Rattle.audit_base.specs.RecordRanges.{RecordsInRange}
use Rattle.audit_base.specs.RuleKinds.{rule_of_volume}
use Rattle.audit_base.specs.Rules.{Conforms}
use Rattle.audit_base.specs.Trades.{TradesInRange, deals_of_symbol, trades_finding}
use Rattle.audit_base.specs.Verdicts.{IsRuleFinding, IsRecordFinding, instant_finding_of_rule, finding_before_rule, paired_trades, pairing_finding}
use Rattle.audit_base.proofs.HistoryLemmas.{order_list-is, order_list-regular}
use Rattle.audit_base.proofs.LeastLemmas.{none_some, option_or-parts}
use Rattle.audit_base.proofs.RangeLemmas.{orders-range}
use Rattle.audit_base.proofs.TradeLemmas.{deals-ranges}
use Rattle.audit_base.proofs.VerdictLemmas.{one-greatest}
use Rattle.audit_report.specs.declared.verdicts.Verdict.{Verdict}
use Rattle.audit_report.specs.declared.verdicts.Verdict.TheVariants as verdict
use Rattle.call_audit.specs.Audits.{IsReachedBound}
use Rattle.call_laws.specs.Existence.{GreatestExecutableVolumeExists, LeastCutExists}
use Rattle.call_laws.specs.Laws.{OnlyQuantities}
use Rattle.call_laws.specs.Optimum.{MaximumTradesAreExpected, UniformTradesAreExpected}
use Rattle.continuous_laws.specs.Laws.{OnlyPairs}
use Rattle.verdict_laws.specs.Existence.{VerdictExists, VerdictIsTheOnlyOne}
use Rattle.record_verdict.specs.declared.questions.Question.{Question}
use Rattle.record_verdict.specs.Existence.{RecordVerdictExists}
use Rattle.record_verdict.specs.RecordVerdicts.{AreOnlyQuantities, IsAcceptance, IsReportedBound, IsRecordVerdict, table_lines}

-- the laws on which this rests
pub record Laws : Type 0 where
  pub exists : VerdictExists
  pub one : VerdictIsTheOnlyOne
  pub cut : LeastCutExists
  pub executable : GreatestExecutableVolumeExists
  pub maximum : MaximumTradesAreExpected
  pub uniform : UniformTradesAreExpected
  pub quantities : OnlyQuantities
  pub pairs : OnlyPairs

module _ (laws : Laws) where
  -- deals that conform have the greatest volume, so they have its bound
  bound-of : (r : VolumeRule) (orders : List Order) (deals : List Deal) → IsOrderList orders → OrdersInRange orders → DealsInRange deals → Conforms (rule_of_volume r) orders deals
      → (bound : Cut) × IsReachedBound r orders (volume deals) bound
  bound-of of_volume.Maximum orders deals list numbers ranges c =
      let best = laws.cut orders in
      let is = laws.maximum orders best.0 list numbers best.1 in
      let same = one-greatest of_volume.Maximum orders best.0.volume (volume deals) is.1 (record { deals = deals; ranges = ranges; matching = c.matching; greatest = c.greatest; reached = refl }) in
      (best.0, record { volume_is = same; shows = subst (λ (v : ℕ). IsBoundPrice of_volume.Maximum orders v best.0.price) same is.2 })
  bound-of of_volume.Uniform orders deals list numbers ranges c =
      let best = laws.executable orders in
      let is = laws.uniform orders best.0 list numbers best.1 in
      let same = one-greatest of_volume.Uniform orders best.0.volume (volume deals) is.1 (record { deals = deals; ranges = ranges; matching = c.matching; one_price = c.one_price; greatest = c.greatest; reached = refl }) in
      (best.0, record { volume_is = same; shows = subst (λ (v : ℕ). IsBoundPrice of_volume.Uniform orders v best.0.price) same is.2 })

  bound-shown : (the_rule : Rule) (orders : List Order) (deals : List Deal) → IsOrderList orders → OrdersInRange orders → DealsInRange deals → Conforms the_rule orders deals
      → (bound : Option Cut) × IsReportedBound the_rule orders (volume deals) bound
  bound-shown rule.Matching orders deals list numbers ranges c = (None, refl)
  bound-shown rule.Fair orders deals list numbers ranges c = (None, refl)
  bound-shown rule.Uniform orders deals list numbers ranges c = let b = bound-of of_volume.Uniform orders deals list numbers ranges c in (Some b.0, b.1)
  bound-shown rule.Maximum orders deals list numbers ranges c = let b = bound-of of_volume.Maximum orders deals list numbers ranges c in (Some b.0, b.1)
  bound-shown rule.Continuous orders deals list numbers ranges c = (None, refl)

  only-ones : (the_rule : Rule) (orders : List Order) (deals : List Deal) → IsOrderList orders → Regular orders → DealsInRange deals → Conforms the_rule orders deals → AreOnlyQuantities the_rule orders deals
  only-ones rule.Matching orders deals list regular ranges c = tt
  only-ones rule.Fair orders deals list regular ranges c = tt
  only-ones rule.Uniform orders deals list regular ranges c = λ i lt. laws.quantities of_volume.Uniform orders deals list ranges c i
  only-ones rule.Maximum orders deals list regular ranges c = λ i lt. laws.quantities of_volume.Maximum orders deals list ranges c i
  only-ones rule.Continuous orders deals list regular ranges c = laws.pairs orders deals list regular ranges c

  -- deals that conform give an accepted log
  acceptance : (q : Question) (orders : List Order) (deals : List Deal) → IsOrderList orders → OrdersInRange orders → Regular orders → DealsInRange deals → Conforms q.rule orders deals
      → (the_verdict : Verdict) × IsAcceptance q orders deals the_verdict
  acceptance q orders deals list numbers regular ranges c =
      let bound = bound-shown q.rule orders deals list numbers ranges c in (
        verdict.Accepted (record {
          rule = q.rule;
          symbol = q.symbol;
          orders = length orders;
          trades = length deals;
          volume = volume deals;
          bound = bound.0;
          table = table_lines q.rule q.table orders deals;
        }),
        record {
          rule_is = refl;
          symbol_is = refl;
          orders_are = refl;
          trades_are = refl;
          volume_is = refl;
          bound_is = bound.1;
          table_is = refl;
          only = only-ones q.rule orders deals list regular ranges c;
        },
      )

  module _ (q : Question) (entries : List OrderRecord) (paired : Result (List TradeRecord) Finding) (few : length entries < 2 ^ 32) (records : RecordsInRange entries) (trades : TradesInRange (paired_trades paired)) where
    abbrev history : List Order
    history = order_list q.symbol entries

    abbrev deals : List Deal
    deals = deals_of_symbol history q.symbol (paired_trades paired)

    -- what the rules say, where the stages before the rule have this finding
    abbrev By : Option Finding → Option Finding → Type 0
    By found v = MatchOption found (IsRuleFinding q.rule history deals (length (paired_trades paired)) v) (λ f. v ≡ Some f)

    conforms : (found : Option Finding) → finding_before_rule q.rule q.symbol entries paired ≡ found → By found None → (finding_before_rule q.rule q.symbol entries paired ≡ None) × Conforms q.rule history deals
    conforms None e is = (e, is)
    conforms (Some f) e is = none_some None f refl is

    judged-as : (found : Option Finding) → IsRecordFinding q.rule q.symbol entries paired found → (the_verdict : Verdict) × IsRecordVerdict q entries paired the_verdict
    judged-as (Some f) is = (
      verdict.Rejected f,
      record { found = Some f; by_the_rules = is; one = λ other by. laws.one q.rule q.symbol entries paired other (Some f) trades by is; outcome = refl },
    )
    judged-as None is =
        let c = conforms (finding_before_rule q.rule q.symbol entries paired) refl is in
        let formed = option_or-parts (history_finding q.symbol entries) (first_answer (instant_finding_of_rule q.rule history ∷ pairing_finding paired ∷ trades_finding history q.symbol (paired_trades paired) ∷ [])) c.0 in
        let accepted = acceptance q history deals (order_list-is q.symbol entries few) (orders-range q.symbol entries records) (order_list-regular q.symbol entries formed.0) (deals-ranges history q.symbol (paired_trades paired) trades) c.1 in (
          accepted.0,
          record { found = None; by_the_rules = is; one = λ other by. laws.one q.rule q.symbol entries paired other None trades by is; outcome = accepted.1 },
        )

    judged : (the_verdict : Verdict) × IsRecordVerdict q entries paired the_verdict
    judged = let v = laws.exists q.rule q.symbol entries paired few (orders-range q.symbol entries records) trades in judged-as v.0 v.1

  pub judgement : RecordVerdictExists
  judgement q entries paired few records trades = judged q entries paired few records trades
