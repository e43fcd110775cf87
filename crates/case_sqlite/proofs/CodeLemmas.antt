-- The rule, the property or the log of a number is the one whose number it is.
use Rattle.std.proofs.Common.{◌≡◌, ℕ, Bool, true, false, cond, List, [], ◌∷◌, ◌^◌, eqb, ltb, Some, refl, sym, ap, ◌∙◌}
use Rattle.std.specs.Prelude.{find}
use Rattle.std.proofs.lemmas.Bool.{eqb-true}
use Rattle.std.proofs.lemmas.Option.{none-some, same_Some}
use Rattle.audit_base.specs.declared.findings.Property.{Property}
use Rattle.audit_base.specs.declared.findings.Property.TheVariants as property
use Rattle.audit_base.specs.declared.terms.Rule.{Rule}
use Rattle.audit_base.specs.declared.terms.Rule.TheVariants as rule
use Rattle.audit_base.specs.declared.terms.Which.{Which}
use Rattle.audit_base.specs.declared.terms.Which.TheVariants as log
use Rattle.case_sqlite.specs.Codes.{rule_number, property_number, log_number}
use Rattle.case_sqlite.specs.Readings.{all_rules, all_properties, all_logs, rule_of_number, property_of_number, log_of_number}

-- what is found by its number has this number
numbered : {X : Type 0} (number : X → ℕ) (n : ℕ) (xs : List X) (x : X) → find (λ y. eqb (number y) n) xs ≡ Some x → number x ≡ n
numbered number n [] x e = absurd (none-some x e)
numbered {X} number n (y ∷ ys) x e = head (eqb (number y) n) refl e (numbered number n ys x)
  where
    head : (b : Bool) → eqb (number y) n ≡ b → cond b (Some y) (find (λ z. eqb (number z) n) ys) ≡ Some x
        → (find (λ z. eqb (number z) n) ys ≡ Some x → number x ≡ n) → number x ≡ n
    head true is e behind = ap number (sym (same_Some y x e)) ∙ eqb-true (number y) n is
    head false is e behind = behind e

pub rule_has_number : (n : ℕ) (r : Rule) → rule_of_number n ≡ Some r → rule_number r ≡ n
rule_has_number n r e = numbered rule_number n all_rules r e

pub property_has_number : (n : ℕ) (p : Property) → property_of_number n ≡ Some p → property_number p ≡ n
property_has_number n p e = numbered property_number n all_properties p e

pub log_has_number : (n : ℕ) (w : Which) → log_of_number n ≡ Some w → log_number w ≡ n
log_has_number n w e = numbered log_number n all_logs w e

pub rule_again : (r : Rule) → rule_of_number (rule_number r) ≡ Some r
rule_again rule.Matching = refl
rule_again rule.Fair = refl
rule_again rule.Uniform = refl
rule_again rule.Maximum = refl
rule_again rule.Continuous = refl

pub property_again : (p : Property) → property_of_number (property_number p) ≡ Some p
property_again property.DuplicateId = refl
property_again property.TimeBack = refl
property_again property.UnknownTarget = refl
property_again property.Unpaired = refl
property_again property.DuplicateTrade = refl
property_again property.UnknownOrder = refl
property_again property.Inactive = refl
property_again property.Limit = refl
property_again property.UniformPrice = refl
property_again property.BuyQuantity = refl
property_again property.SellQuantity = refl
property_again property.BuyPriority = refl
property_again property.SellPriority = refl
property_again property.Volume = refl
property_again property.Spread = refl
property_again property.InstantOrder = refl

pub log_again : (w : Which) → log_of_number (log_number w) ≡ Some w
log_again log.Orders = refl
log_again log.Trades = refl

-- no property has the number 0
pub property_from_1 : (p : Property) → eqb (property_number p) 0 ≡ false
property_from_1 property.DuplicateId = refl
property_from_1 property.TimeBack = refl
property_from_1 property.UnknownTarget = refl
property_from_1 property.Unpaired = refl
property_from_1 property.DuplicateTrade = refl
property_from_1 property.UnknownOrder = refl
property_from_1 property.Inactive = refl
property_from_1 property.Limit = refl
property_from_1 property.UniformPrice = refl
property_from_1 property.BuyQuantity = refl
property_from_1 property.SellQuantity = refl
property_from_1 property.BuyPriority = refl
property_from_1 property.SellPriority = refl
property_from_1 property.Volume = refl
property_from_1 property.Spread = refl
property_from_1 property.InstantOrder = refl

-- the number of a column is read again
pub rule_small : (r : Rule) → ltb (rule_number r) (2 ^ 32) ≡ true
rule_small rule.Matching = refl
rule_small rule.Fair = refl
rule_small rule.Uniform = refl
rule_small rule.Maximum = refl
rule_small rule.Continuous = refl

pub property_small : (p : Property) → ltb (property_number p) (2 ^ 32) ≡ true
property_small property.DuplicateId = refl
property_small property.TimeBack = refl
property_small property.UnknownTarget = refl
property_small property.Unpaired = refl
property_small property.DuplicateTrade = refl
property_small property.UnknownOrder = refl
property_small property.Inactive = refl
property_small property.Limit = refl
property_small property.UniformPrice = refl
property_small property.BuyQuantity = refl
property_small property.SellQuantity = refl
property_small property.BuyPriority = refl
property_small property.SellPriority = refl
property_small property.Volume = refl
property_small property.Spread = refl
property_small property.InstantOrder = refl

pub log_small : (w : Which) → ltb (log_number w) (2 ^ 32) ≡ true
log_small log.Orders = refl
log_small log.Trades = refl
