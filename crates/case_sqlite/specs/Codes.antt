-- The numbers of rules, properties and logs in the table of cases.
use Rattle.std.specs.Prelude.{ℕ}
use Rattle.audit_base.specs.declared.findings.Property.{Property}
use Rattle.audit_base.specs.declared.findings.Property.TheVariants as property
use Rattle.audit_base.specs.declared.terms.Rule.{Rule}
use Rattle.audit_base.specs.declared.terms.Rule.TheVariants as rule
use Rattle.audit_base.specs.declared.terms.Which.{Which}
use Rattle.audit_base.specs.declared.terms.Which.TheVariants as log

-- the number of a rule, 1 to 5
abbrev pub rule_number : Rule → ℕ
rule_number rule.Matching = 1
rule_number rule.Fair = 2
rule_number rule.Uniform = 3
rule_number rule.Maximum = 4
rule_number rule.Continuous = 5

-- the number of a property, 1 to 16, as findings are numbered
abbrev pub property_number : Property → ℕ
property_number property.DuplicateId = 1
property_number property.TimeBack = 2
property_number property.UnknownTarget = 3
property_number property.Unpaired = 4
property_number property.DuplicateTrade = 5
property_number property.UnknownOrder = 6
property_number property.Inactive = 7
property_number property.Limit = 8
property_number property.UniformPrice = 9
property_number property.BuyQuantity = 10
property_number property.SellQuantity = 11
property_number property.BuyPriority = 12
property_number property.SellPriority = 13
property_number property.Volume = 14
property_number property.Spread = 15
property_number property.InstantOrder = 16

-- the number of a log, 1 or 2
abbrev pub log_number : Which → ℕ
log_number log.Orders = 1
log_number log.Trades = 2
