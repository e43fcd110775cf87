-- The lines that say what came of a certificate.
use Rattle.std.specs.Prelude.{ℕ, List, [], ◌∷◌, codes, decimal}
use Rattle.audit_base.specs.Words.{rule_word}
use Rattle.audit_base.specs.declared.terms.Rule.{Rule}
use Rattle.audit_report.specs.Lines.{line_text}

-- `verified,RULE,SYMBOL,VOLUME`
abbrev pub verified_line : Rule → List ℕ → ℕ → List ℕ
verified_line rule symbol volume =
    line_text (codes "verified" ∷ rule_word rule ∷ symbol ∷ decimal volume ∷ [])

-- `refused,LINE`: the first line of a certificate that does not agree
abbrev pub refused_line : ℕ → List ℕ
refused_line line = line_text (codes "refused" ∷ decimal line ∷ [])
