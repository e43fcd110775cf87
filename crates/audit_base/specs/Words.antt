-- The words that command lines and reports use for rules and properties.
use Rattle.std.specs.Prelude.{ℕ, List, codes}
use Rattle.audit_base.specs.declared.terms.Rule.{Rule}
use Rattle.audit_base.specs.declared.terms.Rule.TheVariants.{Matching, Fair, Uniform, Maximum, Continuous}
use Rattle.audit_base.specs.declared.findings.Property.{Property}
use Rattle.audit_base.specs.declared.findings.Property.TheVariants.{DuplicateId, TimeBack, UnknownTarget, Unpaired, DuplicateTrade, UnknownOrder, Inactive, Limit, UniformPrice, BuyQuantity, SellQuantity, BuyPriority, SellPriority, Volume, Spread, InstantOrder}

-- the word of a rule
abbrev pub rule_word : Rule → List ℕ
rule_word Matching = codes "matching"
rule_word Fair = codes "fair"
rule_word Uniform = codes "uniform"
rule_word Maximum = codes "maximum"
rule_word Continuous = codes "continuous"

-- the word of a property
abbrev pub property_word : Property → List ℕ
property_word DuplicateId = codes "duplicate-id"
property_word TimeBack = codes "time-back"
property_word UnknownTarget = codes "unknown-target"
property_word Unpaired = codes "unpaired"
property_word DuplicateTrade = codes "duplicate-trade"
property_word UnknownOrder = codes "unknown-order"
property_word Inactive = codes "inactive"
property_word Limit = codes "limit"
property_word UniformPrice = codes "uniform-price"
property_word BuyQuantity = codes "buy-quantity"
property_word SellQuantity = codes "sell-quantity"
property_word BuyPriority = codes "buy-priority"
property_word SellPriority = codes "sell-priority"
property_word Volume = codes "volume"
property_word Spread = codes "spread"
property_word InstantOrder = codes "instant-order"
