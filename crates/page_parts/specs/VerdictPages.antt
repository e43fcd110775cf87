-- The page of a verdict.
use Rattle.std.specs.Prelude.{ℕ, List, [], ◌++◌, Option, None, Some, codes}
use Rattle.audit_base.specs.declared.findings.Finding.{Finding}
use Rattle.page_markup.specs.declared.words.Tag.TheVariants as tag
use Rattle.page_parts.specs.Documents.{IsPage}
use Rattle.page_parts.specs.Elements.{section, text_element}
use Rattle.page_parts.specs.Evidence.{evidence_table}
use Rattle.page_parts.specs.declared.repeats.PageLogs.{PageLogs}
use Rattle.page_parts.specs.declared.sentences.SymbolTotals.{SymbolTotals}
use Rattle.page_parts.specs.declared.sentences.VerdictInWords.{VerdictInWords}
use Rattle.page_parts.specs.Repeats.{repeat_text}
use Rattle.page_parts.specs.Sentences.{answer_sentence, verdict_heading, totals_sentence}

-- the totals, where they are known
abbrev pub totals_part : Option SymbolTotals → List ℕ
totals_part None = []
totals_part (Some totals) = text_element tag.Paragraph (totals_sentence totals)

-- what shows a finding, where there is one
abbrev pub evidence_part : Option Finding → List ℕ
evidence_part None = []
evidence_part (Some finding) = section (codes "What shows it") (evidence_table finding)

-- the answer under a title
abbrev pub answer_part : List ℕ → VerdictInWords → List ℕ
answer_part title said = text_element tag.H1 title
    ++ text_element tag.Paragraph (answer_sentence said.finding) ++ totals_part said.totals

-- the chief part of the page: the answer, what shows it, the section of the picture, and how to see
-- it again
abbrev pub verdict_part : List ℕ → VerdictInWords → List ℕ → PageLogs → List ℕ
verdict_part title said picture logs = answer_part title said ++ evidence_part said.finding ++ picture
    ++ section (codes "How to see it again") (repeat_text said logs)

-- the text is the page of this verdict, with this section of its picture
abbrev pub IsVerdictPage : VerdictInWords → List ℕ → PageLogs → List ℕ → Type 0
IsVerdictPage said picture logs text =
    IsPage (verdict_heading said) (verdict_part (verdict_heading said) said picture logs) text
