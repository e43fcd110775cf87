-- The five rules, and the quantities that a rule determines.
use Rattle.std.specs.Prelude.{◌≡◌, ℕ, List}
use Rattle.audit_base.specs.declared.terms.Rule.{Rule}
use Rattle.audit_base.specs.declared.terms.Rule.TheVariants as rule
use Rattle.audit_base.specs.declared.orders.Order.{Order}
use Rattle.audit_base.specs.declared.orders.Deal.{Deal}
use Rattle.audit_base.specs.Deals.{traded, pair, DealsInRange}
use Rattle.audit_base.specs.Calls.{Matching, ConformsFair, ConformsUniform, ConformsMaximum}
use Rattle.audit_base.specs.ContinuousRules.{ConformsContinuous}

-- the deals are as the rule asks
abbrev pub Conforms : Rule → List Order → List Deal → Type 0
Conforms rule.Matching orders deals = Matching orders deals
Conforms rule.Fair orders deals = ConformsFair orders deals
Conforms rule.Uniform orders deals = ConformsUniform orders deals
Conforms rule.Maximum orders deals = ConformsMaximum orders deals
Conforms rule.Continuous orders deals = ConformsContinuous orders deals

-- Only: there is a conforming list of deals, and in each conforming list the order trades n.
-- This n is the due of the order
pub record Only (the_rule : Rule) (orders : List Order) (order n : ℕ) : Type 0 where
  pub some : List Deal
  pub ranges : DealsInRange some
  pub conforms : Conforms the_rule orders some
  pub each : (deals : List Deal) → DealsInRange deals → Conforms the_rule orders deals
      → traded deals order ≡ n

-- OnlyPair: the same of a bid and an ask
pub record OnlyPair (the_rule : Rule) (orders : List Order) (bid ask n : ℕ) : Type 0 where
  pub some : List Deal
  pub ranges : DealsInRange some
  pub conforms : Conforms the_rule orders some
  pub each : (deals : List Deal) → DealsInRange deals → Conforms the_rule orders deals
      → pair deals bid ask ≡ n
