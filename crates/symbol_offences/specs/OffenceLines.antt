-- The lines behind the text of a rejected log: of each finding its line and the records that it
-- quotes, then how many there are.
use Rattle.std.specs.Prelude.{ℕ, List, [], ◌∷◌, ◌++◌, codes, length}
use Rattle.std.specs.List.{flat_map}
use Rattle.audit_base.specs.declared.findings.Finding.{Finding}
use Rattle.audit_base.specs.declared.orders.Order.{Order}
use Rattle.audit_report.specs.Lines.{line_text}
use Rattle.further_checks.specs.declared.findings.FurtherFinding.{FurtherFinding}
use Rattle.further_checks.specs.FurtherTexts.{further_line}
use Rattle.offence_list.specs.OffenceTexts.{count_line, offence_line}
use Rattle.symbol_offences.specs.declared.symbol_before_rule.QuotedRecords.{QuotedRecords}
use Rattle.symbol_offences.specs.Quotes.{finding_quotes, further_quotes}

-- the line of a finding about these orders, and the records that it quotes
abbrev pub quoted_offence : List Order → QuotedRecords → Finding → List ℕ
quoted_offence orders quoted f = offence_line f ++ finding_quotes orders quoted f

-- the lines of all findings about these orders, and how many there are
abbrev pub offence_lines : List Order → QuotedRecords → List Finding → List ℕ
offence_lines orders quoted found =
    flat_map (quoted_offence orders quoted) found ++ count_line (length found)

-- the line of a further finding, and the records that it quotes
abbrev pub quoted_failure : QuotedRecords → FurtherFinding → List ℕ
quoted_failure quoted f = further_line (codes "offence") f ++ further_quotes quoted f

-- the lines of all further findings, and how many there are
abbrev pub failure_lines : QuotedRecords → List FurtherFinding → List ℕ
failure_lines quoted found = flat_map (quoted_failure quoted) found ++ count_line (length found)

-- `absent,SYMBOL`
abbrev pub absent_line : List ℕ → List ℕ
absent_line symbol = line_text (codes "absent" ∷ symbol ∷ [])
