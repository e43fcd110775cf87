-- What kind of rule a rule is: of a call or of continuous trading, and what it asks for.
use Rattle.std.specs.Prelude.{Bool, true, false, ◌||◌, Option, Some, None, is_none, is_some}
use Rattle.audit_base.specs.declared.terms.Rule.{Rule}
use Rattle.audit_base.specs.declared.terms.Rule.TheVariants as rule
use Rattle.audit_base.specs.declared.terms.CallRule.{CallRule}
use Rattle.audit_base.specs.declared.terms.CallRule.TheVariants as call
use Rattle.audit_base.specs.declared.terms.VolumeRule.{VolumeRule}
use Rattle.audit_base.specs.declared.terms.VolumeRule.TheVariants as of_volume

-- the rule as one of a call; continuous trading is none
abbrev pub call_rule : Rule → Option CallRule
call_rule rule.Matching = Some call.Matching
call_rule rule.Fair = Some call.Fair
call_rule rule.Uniform = Some (call.Greatest of_volume.Uniform)
call_rule rule.Maximum = Some (call.Greatest of_volume.Maximum)
call_rule rule.Continuous = None

-- a rule of a call as one that asks for the greatest volume
abbrev pub volume_rule_of_call : CallRule → Option VolumeRule
volume_rule_of_call call.Matching = None
volume_rule_of_call call.Fair = None
volume_rule_of_call (call.Greatest the_rule) = Some the_rule

-- a rule that asks for the greatest volume, as one of the five
abbrev pub rule_of_volume : VolumeRule → Rule
rule_of_volume of_volume.Uniform = rule.Uniform
rule_of_volume of_volume.Maximum = rule.Maximum

-- a rule of a call, as one of the five
abbrev pub rule_of_call : CallRule → Rule
rule_of_call call.Matching = rule.Matching
rule_of_call call.Fair = rule.Fair
rule_of_call (call.Greatest the_rule) = rule_of_volume the_rule

-- the rule as one that asks for the greatest volume
abbrev pub volume_rule : Rule → Option VolumeRule
volume_rule rule.Matching = None
volume_rule rule.Fair = None
volume_rule rule.Uniform = Some of_volume.Uniform
volume_rule rule.Maximum = Some of_volume.Maximum
volume_rule rule.Continuous = None

-- the rule asks for a greatest volume
abbrev pub asks_for_greatest : Rule → Bool
asks_for_greatest the_rule = is_some (volume_rule the_rule)

-- the rule determines quantities, so that a table can show them and trades can be expected:
-- of a call where it asks for the greatest volume, and of continuous trading
abbrev pub has_table : Rule → Bool
has_table the_rule = asks_for_greatest the_rule || is_none (call_rule the_rule)

-- whether a rule that asks for the greatest volume asks for one price too
abbrev pub asks_one_price : VolumeRule → Bool
asks_one_price of_volume.Uniform = true
asks_one_price of_volume.Maximum = false
