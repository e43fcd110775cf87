-- Which symbols of a day have a page of their own by the question of the day. The code of `-` is 45.
use Rattle.std.specs.Prelude.{ℕ, Bool, true, not, is_some, ◌&&◌, ◌==◌, List, [], ◌∷◌}
use Rattle.std.specs.List.{list_any}
use Rattle.audit_base.specs.Words.{rule_word}
use Rattle.audit_base.specs.declared.terms.Rule.{Rule}
use Rattle.audit_base.specs.declared.terms.Rule.TheVariants.{Matching, Fair, Uniform, Maximum, Continuous}
use Rattle.day_page.specs.DayLines.{is_word}
use Rattle.day_page.specs.PropertyWords.{property_of_word}

-- the five rules
abbrev pub all_rules : List Rule
all_rules = Matching ∷ Fair ∷ Uniform ∷ Maximum ∷ Continuous ∷ []

-- what is asked of the day is a rule, not phases
abbrev pub is_rule : List ℕ → Bool
is_rule asked = list_any (λ rule. is_word asked (rule_word rule)) all_rules

-- the rule itself rejects a symbol of which this property is told, not a further check behind it
abbrev pub is_of_rule : List ℕ → Bool
is_of_rule property = is_some (property_of_word property)

-- a word of a command can name the symbol: it does not begin with `-`
abbrev pub may_be_asked : List ℕ → Bool
may_be_asked [] = true
may_be_asked (byte ∷ rest) = not (byte == 45)

-- a rejected symbol has a page by what is asked of the day: a page is of a rule alone, and of a
-- symbol that a word can name
abbrev pub has_page : List ℕ → List ℕ → List ℕ → Bool
has_page asked symbol property = is_rule asked && is_of_rule property && may_be_asked symbol
