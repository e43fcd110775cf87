-- The lines of the summary of a generated log.
use Rattle.std.specs.Prelude.{ℕ, List, [], ◌∷◌, codes, decimal}
use Rattle.audit_base.specs.Numbers.{price_text}
use Rattle.audit_base.specs.Words.{rule_word}
use Rattle.audit_base.specs.declared.orders.Cut.{Cut}
use Rattle.audit_base.specs.declared.terms.Rule.{Rule}
use Rattle.audit_base.specs.declared.terms.Rule.TheVariants as rule
use Rattle.audit_report.specs.Lines.{line_text}

-- `generated,START,COUNT`
abbrev pub generated_line : ℕ → ℕ → List ℕ
generated_line start count = line_text (codes "generated" ∷ decimal start ∷ decimal count ∷ [])

-- `RULE,TRADES,VOLUME,PRICE`: of a call how many Expected trades there are,
-- their volume, and its bound
abbrev pub call_line : Rule → ℕ → Cut → List ℕ
call_line the_rule trades cut =
    line_text (rule_word the_rule ∷ decimal trades ∷ decimal cut.volume ∷ price_text cut.price ∷ [])

-- `continuous,TRADES,VOLUME`: the same of continuous trading, which has no bound
abbrev pub continuous_line : ℕ → ℕ → List ℕ
continuous_line trades volume =
    line_text (rule_word rule.Continuous ∷ decimal trades ∷ decimal volume ∷ [])
