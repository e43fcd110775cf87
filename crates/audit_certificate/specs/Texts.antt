-- The texts of a certificate's lines. The codes of `,` and LF are 44 and 10. Numbers are canonical.
use Rattle.std.specs.Prelude.{ℕ, List, ◌∷◌, ◌++◌, Option, None, Some, codes, decimal}
use Rattle.audit_base.specs.declared.terms.VolumeRule.{VolumeRule}
use Rattle.audit_base.specs.declared.terms.Side.{Side}
use Rattle.audit_base.specs.declared.terms.Side.TheVariants.{Buy, Sell}
use Rattle.audit_base.specs.Numbers.{price_text}
use Rattle.audit_base.specs.RuleKinds.{rule_of_volume}
use Rattle.audit_base.specs.Words.{rule_word}

-- line 1: `certificate,RULE,SYMBOL`
abbrev pub head_text : VolumeRule → List ℕ → List ℕ
head_text rule symbol =
    codes "certificate," ++ rule_word (rule_of_volume rule) ++ 44 ∷ symbol

-- line 2: `bound,PRICE,VOLUME`
abbrev pub bound_text : ℕ → ℕ → List ℕ
bound_text price volume = codes "bound," ++ price_text price ++ 44 ∷ decimal volume

-- lines 3 and 4: `last,buy,PLACE` and `last,sell,PLACE`, or `none` in place of a place
abbrev pub last_words : Side → List ℕ
last_words Buy = codes "last,buy,"
last_words Sell = codes "last,sell,"

abbrev pub place_or_none : Option ℕ → List ℕ
place_or_none None = codes "none"
place_or_none (Some place) = decimal place

abbrev pub last_text : Side → Option ℕ → List ℕ
last_text side place = last_words side ++ place_or_none place

-- a line of an order: `order,PLACE,TRADED`
abbrev pub order_line_text : ℕ → ℕ → List ℕ
order_line_text place traded = codes "order," ++ decimal place ++ 44 ∷ decimal traded
