-- A rule of a call is one of the five, and the other one is continuous trading.
use Rattle.std.proofs.Common.{◌≡◌, ap, refl, sym, Some, None}
use Rattle.std.proofs.lemmas.Option.{same_Some}
use Rattle.audit_base.specs.declared.terms.Rule.{Rule}
use Rattle.audit_base.specs.declared.terms.Rule.TheVariants as rule
use Rattle.audit_base.specs.declared.terms.CallRule.{CallRule}
use Rattle.audit_base.specs.declared.terms.CallRule.TheVariants as call
use Rattle.audit_base.specs.declared.terms.VolumeRule.TheVariants as of_volume
use Rattle.audit_base.specs.RuleKinds.{call_rule, rule_of_call}

pub call-rule_is : (r : Rule) (c : CallRule) → call_rule r ≡ Some c → rule_of_call c ≡ r
call-rule_is rule.Matching c e = ap rule_of_call (sym (same_Some call.Matching c e))
call-rule_is rule.Fair c e = ap rule_of_call (sym (same_Some call.Fair c e))
call-rule_is rule.Uniform c e = ap rule_of_call (sym (same_Some (call.Greatest of_volume.Uniform) c e))
call-rule_is rule.Maximum c e = ap rule_of_call (sym (same_Some (call.Greatest of_volume.Maximum) c e))
call-rule_is rule.Continuous c e = absurd (cc)

pub no-call_rule_is : (r : Rule) → call_rule r ≡ None → rule.Continuous ≡ r
no-call_rule_is rule.Matching e = absurd (cc)
no-call_rule_is rule.Fair e = absurd (cc)
no-call_rule_is rule.Uniform e = absurd (cc)
no-call_rule_is rule.Maximum e = absurd (cc)
no-call_rule_is rule.Continuous e = refl
