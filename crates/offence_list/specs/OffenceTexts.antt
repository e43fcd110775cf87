-- The line of an offence, and that of how many there are.
use Rattle.std.specs.Prelude.{ℕ, List, [], ◌∷◌, codes, decimal}
use Rattle.audit_base.specs.Words.{property_word}
use Rattle.audit_base.specs.declared.findings.Finding.{Finding}
use Rattle.audit_report.specs.Lines.{line_text, log_word}

-- `offence,PROPERTY,LOG,PLACE`
abbrev pub offence_line : Finding → List ℕ
offence_line f =
    line_text (codes "offence" ∷ property_word f.property ∷ log_word f.log ∷ decimal f.place ∷ [])

-- `offences,COUNT`
abbrev pub count_line : ℕ → List ℕ
count_line count = line_text (codes "offences" ∷ decimal count ∷ [])
