-- What the audit of a rule answers is the verdict of the rules on the deals.
use Rattle.std.proofs.Common.{◌≡◌, ◌∙◌, ap, refl, ℕ, zero, suc, List, ◌∷◌, length, Option, None, Some, arith, ◌<◌, ◌+◌}
use Rattle.std.specs.Prelude.{map, slice_index, IsSomeAnd}
use Rattle.std.specs.List.{range_with_len}
use Rattle.audit_base.specs.declared.terms.Rule.{Rule}
use Rattle.audit_base.specs.declared.terms.Rule.TheVariants as rule
use Rattle.audit_base.specs.declared.terms.CallRule.{CallRule}
use Rattle.audit_base.specs.declared.terms.CallRule.TheVariants as call
use Rattle.audit_base.specs.declared.terms.VolumeRule.{VolumeRule}
use Rattle.audit_base.specs.declared.terms.VolumeRule.TheVariants as of_volume
use Rattle.audit_base.specs.declared.orders.Order.{Order}
use Rattle.audit_base.specs.declared.orders.Deal.{Deal}
use Rattle.audit_base.specs.declared.orders.Cut.{Cut}
use Rattle.audit_base.specs.declared.findings.Finding.{Finding}
use Rattle.audit_base.specs.RuleKinds.{call_rule, rule_of_call, rule_of_volume}
use Rattle.audit_base.specs.Orders.{order_at}
use Rattle.audit_base.specs.Deals.{AreTotals, volume}
use Rattle.audit_base.specs.Histories.{Regular}
use Rattle.audit_base.specs.CallOffences.{offence_before_volume}
use Rattle.audit_base.specs.Verdicts.{IsRuleFinding}
use Rattle.audit_report.specs.declared.tables.Line.{Line}
use Rattle.audit_report.specs.declared.verdicts.Verdict.TheVariants.{Rejected}
use Rattle.matching_core.specs.declared.outcomes.CheckFault.{CheckFault}
use Rattle.matching_core.specs.declared.outcomes.CheckFault.TheVariants as fault
use Rattle.matching_core.specs.declared.outcomes.Outcome.{Outcome}
use Rattle.matching_core.specs.declared.outcomes.Outcome.TheVariants as outcome
use Rattle.matching_core.specs.declared.outcomes.Reached.{Reached}
use Rattle.call_laws.proofs.VolumeLemmas.{early-offence, first-of_call}
use Rattle.call_audit.specs.Audits.{IsCallOutcome, IsReachedBound}
use Rattle.continuous_audit.specs.Audits as continuous
use Rattle.record_verdict.specs.declared.questions.Question.{Question}
use Rattle.record_verdict.specs.RecordVerdicts.{order_line_at, order_table_lines, AreOnlyQuantities, EachOnly, IsReportedBound}
use Rattle.record_verdict.specs.Stages.{VerdictFollowsDeals}
use Rattle.record_verdict.specs.Tables.{line_of_order, lines_of, accepted_verdict, IsCallOutcomeForAnyCount, IsConformingUnderRule, IsOutcomeOfFault, IsRuleOutcome}

the-same : {X : Type 0} (x y : X) → Some y ≡ Some x → x ≡ y
the-same x y e = cc

map-same : (f g : ℕ → Line) (a n : ℕ) → ((i : ℕ) → i < a + n → f i ≡ g i) → map f (range_with_len a n) ≡ map g (range_with_len a n)
map-same f g a zero same = refl
map-same f g a (suc n) same =
    ap (λ (x : Line). x ∷ map f (range_with_len (a + 1) n)) (same a (omega arith))
    ∙ ap (λ (xs : List Line). g a ∷ xs) (map-same f g (a + 1) n (λ i lt. same i (omega arith)))

-- the lines of what each order traded are the table of a call
pub lines-are : (orders : List Order) (deals : List Deal) (totals : List ℕ) → AreTotals orders deals totals → lines_of orders totals ≡ order_table_lines orders deals
lines-are orders deals totals are =
    map-same (λ i. line_of_order (order_at orders i) (slice_index totals i)) (order_line_at orders deals) 0 (length orders) (λ i lt. ap (line_of_order (order_at orders i)) (are.each i (omega arith)))

-- a rule of a call is one of the five, and the other one is continuous trading
pub call-rule_is : (r : Rule) (c : CallRule) → call_rule r ≡ Some c → rule_of_call c ≡ r
call-rule_is rule.Matching c e = ap rule_of_call (the-same c call.Matching e)
call-rule_is rule.Fair c e = ap rule_of_call (the-same c call.Fair e)
call-rule_is rule.Uniform c e = ap rule_of_call (the-same c (call.Greatest of_volume.Uniform) e)
call-rule_is rule.Maximum c e = ap rule_of_call (the-same c (call.Greatest of_volume.Maximum) e)
call-rule_is rule.Continuous c e = absurd (cc)

pub no-call_rule_is : (r : Rule) → call_rule r ≡ None → r ≡ rule.Continuous
no-call_rule_is rule.Matching e = absurd (cc)
no-call_rule_is rule.Fair e = absurd (cc)
no-call_rule_is rule.Uniform e = absurd (cc)
no-call_rule_is rule.Maximum e = absurd (cc)
no-call_rule_is rule.Continuous e = refl

module _ (orders : List Order) (deals : List Deal) where
  -- what a check found is the first offence
  pub broken-audited : (r : CallRule) (why : CheckFault) (answer : Outcome) → ((finding : Finding) → why ≡ fault.Found finding → offence_before_volume r orders deals ≡ Some finding)
      → IsOutcomeOfFault why answer → IsCallOutcomeForAnyCount r orders deals answer
  broken-audited r (fault.Found finding) answer found is = λ count. rw is (first-of_call r orders deals count finding (early-offence r orders deals count finding (found finding refl)))
  broken-audited r fault.Memory answer found is = absurd is

  bound-shown : (r : VolumeRule) (v : ℕ) (bound : Option Cut) → IsSomeAnd bound (IsReachedBound r orders v) → IsReportedBound (rule_of_volume r) orders v bound
  bound-shown of_volume.Uniform v bound is = is
  bound-shown of_volume.Maximum v bound is = is

  each-only : (r : VolumeRule) → EachOnly (rule_of_volume r) orders deals → AreOnlyQuantities (rule_of_volume r) orders deals
  each-only of_volume.Uniform is = is
  each-only of_volume.Maximum is = is

module _ (orders : List Order) (deals : List Deal) (count : ℕ) where
  -- what an audit of a rule with a greatest volume answers
  pub greatest_audited : (r : VolumeRule) (answer : Outcome) → IsCallOutcome r orders deals count answer → IsRuleOutcome (rule_of_volume r) orders deals count answer
  greatest_audited r (outcome.Conforms reached) audited = record {
    conforms = audited.conforms;
    totals = audited.totals;
    volume_is = audited.volume_is;
    bound_is = bound-shown orders deals r (volume deals) reached.bound audited.bound_is;
    only = each-only orders deals r audited.only;
  }
  greatest_audited r (outcome.Broken finding) audited = first-of_call (call.Greatest r) orders deals count finding audited.offence

  -- what the audit of continuous trading answers
  pub continuous_audited : Regular orders → (answer : Outcome) → continuous.IsContinuousOutcome orders deals answer → IsRuleOutcome rule.Continuous orders deals count answer
  continuous_audited regular (outcome.Conforms reached) audited = record {
    conforms = audited.conforms;
    totals = audited.totals;
    volume_is = audited.volume_is;
    bound_is = audited.no_bound;
    only = audited.only regular;
  }
  continuous_audited regular (outcome.Broken finding) audited = audited.offence

  -- what the audit answers is the verdict
  pub judged_conforming : (q : Question) (reached : Reached) → IsConformingUnderRule q.rule orders deals count reached
      → VerdictFollowsDeals q orders deals count (accepted_verdict q orders deals reached)
  judged_conforming q reached is = record {
    found = None;
    by_the_rule = is.conforms;
    outcome = record {
      rule_is = refl;
      symbol_is = refl;
      orders_are = refl;
      trades_are = refl;
      volume_is = is.volume_is;
      bound_is = is.bound_is;
      table_is = refl;
      only = is.only;
    };
  }

  pub judged_broken : (q : Question) (finding : Finding) → IsRuleFinding q.rule orders deals count (Some finding) → VerdictFollowsDeals q orders deals count (Rejected finding)
  judged_broken q finding is = record { found = Some finding; by_the_rule = is; outcome = refl }
