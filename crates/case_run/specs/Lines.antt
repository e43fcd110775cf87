-- The lines of a casebook. A line is its parts joined by commas, and ends with LF.
use Rattle.std.specs.Prelude.{ℕ, Option, Some, None, List, [], ◌∷◌, ◌++◌, codes, decimal}
use Rattle.audit_base.specs.Words.{rule_word, property_word}
use Rattle.audit_report.specs.Lines.{line_text, log_word}
use Rattle.case_keeper.specs.declared.case.Case.{Case}
use Rattle.case_keeper.specs.declared.case.Offence.{Offence}

-- how an audit ended: `accepted`, or PROPERTY, LOG and PLACE
abbrev pub ending_parts : Option Offence → List (List ℕ)
ending_parts None = codes "accepted" ∷ []
ending_parts (Some o) = property_word o.property ∷ log_word o.log ∷ decimal o.place ∷ []

-- `case,LABEL,RULE,SYMBOL`, and how its audit ended
abbrev pub case_line_with : Case → Option Offence → List ℕ
case_line_with case offence =
    line_text (codes "case" ∷ case.label ∷ rule_word case.rule ∷ case.symbol ∷ ending_parts offence)

-- `case,LABEL,RULE,SYMBOL,accepted` or `case,LABEL,RULE,SYMBOL,PROPERTY,LOG,PLACE`
abbrev pub case_line : Case → List ℕ
case_line case = case_line_with case case.offence

-- `known`
abbrev pub known_line : List ℕ
known_line = line_text (codes "known" ∷ [])

-- `nocase,LABEL`
abbrev pub no_case_line : List ℕ → List ℕ
no_case_line label = line_text (codes "nocase" ∷ label ∷ [])

-- `keeperfault`
abbrev pub keeper_fault_line : List ℕ
keeper_fault_line = line_text (codes "keeperfault" ∷ [])

-- how the command line is used
abbrev pub casebook_usage_line : List ℕ
casebook_usage_line = codes "usage: DATABASE file LABEL RULE SYMBOL FORM ORDERS TRADES"
    ++ codes " | list [SYMBOL [RESULT]]" ++ codes " | show LABEL, joined by then" ++ 10 ∷ []
