-- The verdict on records by what they give before the rule is looked at.
use Rattle.std.proofs.Common.{◌≡◌, ◌∙◌, sym, subst, refl, ℕ, List, length, cond, Option, Some, None, Result, Ok}
use Rattle.std.specs.Prelude.{MatchOption, is_some, option_and_then}
use Rattle.audit_base.specs.declared.findings.Finding.{Finding}
use Rattle.audit_base.specs.declared.orders.Deal.{Deal}
use Rattle.audit_base.specs.declared.orders.Order.{Order}
use Rattle.audit_base.specs.declared.records.OrderRecord.{OrderRecord}
use Rattle.audit_base.specs.declared.records.TradeRecord.{TradeRecord}
use Rattle.audit_base.specs.declared.terms.Rule.{Rule}
use Rattle.audit_base.specs.declared.terms.CallRule.{CallRule}
use Rattle.audit_base.specs.Deals.{DealsInRange}
use Rattle.audit_base.specs.RuleKinds.{call_rule}
use Rattle.audit_base.specs.Histories.{instant_order_finding, order_list}
use Rattle.audit_base.specs.Trades.{deals_of_symbol}
use Rattle.audit_base.specs.Verdicts.{instant_finding_of_rule, finding_before_rule, paired_trades, IsRuleFinding}
use Rattle.audit_base.proofs.VerdictLemmas.{one-verdict-of_deals}
use Rattle.audit_report.specs.declared.verdicts.Verdict.{Verdict}
use Rattle.audit_report.specs.declared.verdicts.Verdict.TheVariants as verdict
use Rattle.matching_core.specs.declared.deals_draft.ResolvedTrades.{ResolvedTrades}
use Rattle.record_verdict.specs.declared.before_rule.BeforeRule.TheVariants as before_rule
use Rattle.record_verdict.specs.declared.scopes.Admission.TheVariants as admission
use Rattle.record_verdict.specs.declared.questions.Question.{Question}
use Rattle.record_verdict.specs.declared.verdicts.RecordVerdict.{RecordVerdict}
use Rattle.record_verdict.specs.declared.verdicts.RecordVerdict.TheVariants as judged
use Rattle.record_verdict.specs.RecordVerdict.{as_verdict}
use Rattle.record_verdict.specs.BeforeRule.{AreResolvedTradesInRange, IsResolvedWithoutFinding}
use Rattle.record_verdict.specs.Laws.{SoundTradesHaveVerdict}
use Rattle.record_verdict.specs.RecordVerdicts.{IsRecordVerdict, IsOutcomeByFinding}
use Rattle.record_verdict.specs.Scopes.{admission_of, finding_before_rule_in_scope, scope_of, unadmitted_order_finding}
use Rattle.record_verdict.specs.Stages.{VerdictFollowsDeals, IsVerdictAfterStages}

-- what a rule does not admit is what it finds of the orders before it is looked at
admitted-by : (the_rule : Rule) (orders : List Order) → unadmitted_order_finding (admission_of the_rule) orders ≡ instant_finding_of_rule the_rule orders
admitted-by the_rule orders = either (call_rule the_rule)
  where
    either : (r : Option CallRule) → unadmitted_order_finding (cond (is_some r) admission.Resting admission.All) orders ≡ option_and_then (λ call. instant_order_finding orders) r
    either (Some r) = refl
    either None = refl

-- the findings before those of the rule of a question
pub early-is : (q : Question) (entries : List OrderRecord) (paired : Result (List TradeRecord) Finding) → finding_before_rule_in_scope (scope_of q) entries paired ≡ finding_before_rule q.rule q.symbol entries paired
early-is q entries paired = rw (admitted-by q.rule (order_list q.symbol entries)) refl

found_judged : (q : Question) (entries : List OrderRecord) (paired : Result (List TradeRecord) Finding) (finding : Finding) → finding_before_rule q.rule q.symbol entries paired ≡ Some finding
    → IsRecordVerdict q entries paired (verdict.Rejected finding)
found_judged q entries paired finding found = record {
  found = Some finding;
  by_the_rules = rw found refl;
  one = λ other others. rw found at others;
  outcome = refl;
}

-- a finding is the verdict
pub found_is : (q : Question) (finding : Finding) → IsVerdictAfterStages q (before_rule.Found finding) (judged.Rejected finding)
found_is q finding = record {
  of_finding = same;
  of_deals = λ sound e. absurd (no_deals sound e);
  of_records = λ entries paired is. found_judged q entries paired finding (sym (early-is q entries paired) ∙ is);
}
  where
    same : (other : Finding) → before_rule.Found finding ≡ before_rule.Found other → judged.Rejected finding ≡ judged.Rejected other
    same other e = cc

    no_deals : (sound : ResolvedTrades) → before_rule.Found finding ≡ before_rule.Sound sound → ⊥
    no_deals sound e = cc

sound_judged : (q : Question) (entries : List OrderRecord) (paired : Result (List TradeRecord) Finding) (resolved : ResolvedTrades) (v : Verdict) → DealsInRange resolved.deals.items
    → VerdictFollowsDeals q resolved.history resolved.deals.items resolved.count v → IsResolvedWithoutFinding (scope_of q) entries paired resolved → IsRecordVerdict q entries paired v
sound_judged q entries paired resolved v numbers follows sound =
    let orders : List Order = order_list q.symbol entries in
    let deals : List Deal = deals_of_symbol orders q.symbol (paired_trades paired) in
    let by_orders : IsRuleFinding q.rule orders resolved.deals.items resolved.count follows.found =
    subst (λ (os : List Order). IsRuleFinding q.rule os resolved.deals.items resolved.count follows.found) sound.orders follows.by_the_rule in
    let by_deals : IsRuleFinding q.rule orders deals resolved.count follows.found =
    subst (λ (ds : List Deal). IsRuleFinding q.rule orders ds resolved.count follows.found) sound.deals by_orders in
    let by_count : IsRuleFinding q.rule orders deals (length (paired_trades paired)) follows.found =
    subst (λ (n : ℕ). IsRuleFinding q.rule orders deals n follows.found) sound.count by_deals in
    let by_rules = subst (λ (o : Option Finding). MatchOption o (IsRuleFinding q.rule orders deals (length (paired_trades paired)) follows.found) (λ finding. follows.found ≡ Some finding)) (sym (sym (early-is q entries paired) ∙ sound.none)) by_count in
    record {
      found = follows.found;
      by_the_rules = by_rules;
      one = λ other others. one-verdict-of_deals q.rule q.symbol entries paired other follows.found (λ _. subst DealsInRange sound.deals numbers) others by_rules;
      outcome = subst (λ (ds : List Deal). IsOutcomeByFinding q orders ds follows.found v) sound.deals
          (subst (λ (os : List Order). IsOutcomeByFinding q os resolved.deals.items follows.found v) sound.orders follows.outcome);
    }

-- the verdict on sound trades is that of the logs
pub sound_is : (q : Question) (resolved : ResolvedTrades) (v : RecordVerdict) → AreResolvedTradesInRange resolved → VerdictFollowsDeals q resolved.history resolved.deals.items resolved.count (as_verdict v) → IsVerdictAfterStages q (before_rule.Sound resolved) v
sound_is q resolved v judgeable follows = record {
  of_finding = λ finding e. absurd (no_finding finding e);
  of_deals = same;
  of_records = λ entries paired is. sound_judged q entries paired resolved (as_verdict v) judgeable.numbers follows is;
}
  where
    same : (other : ResolvedTrades) → before_rule.Sound resolved ≡ before_rule.Sound other → VerdictFollowsDeals q other.history other.deals.items other.count (as_verdict v)
    same other e = subst (λ (s : ResolvedTrades). VerdictFollowsDeals q s.history s.deals.items s.count (as_verdict v)) (inner other e) follows
      where
        inner : (other : ResolvedTrades) → before_rule.Sound resolved ≡ before_rule.Sound other → resolved ≡ other
        inner other e = cc

    no_finding : (finding : Finding) → before_rule.Sound resolved ≡ before_rule.Found finding → ⊥
    no_finding finding e = cc

-- the verdict on the deals of sound trades is that on the records
pub sound-trades : SoundTradesHaveVerdict
sound-trades q entries trades deals v none same numbers follows =
    let orders : List Order = order_list q.symbol entries in
    let by_deals : IsRuleFinding q.rule orders (deals_of_symbol orders q.symbol trades) (length trades) follows.found =
    subst (λ (ds : List Deal). IsRuleFinding q.rule orders ds (length trades) follows.found) same follows.by_the_rule in
    let by_rules = subst (λ (o : Option Finding). MatchOption o (IsRuleFinding q.rule orders (deals_of_symbol orders q.symbol trades) (length trades) follows.found) (λ finding. follows.found ≡ Some finding)) (sym none) by_deals in
    record {
      found = follows.found;
      by_the_rules = by_rules;
      one = λ other others. one-verdict-of_deals q.rule q.symbol entries (Ok trades) other follows.found (λ _. subst DealsInRange same numbers) others by_rules;
      outcome = subst (λ (ds : List Deal). IsOutcomeByFinding q orders ds follows.found v) same follows.outcome;
    }
