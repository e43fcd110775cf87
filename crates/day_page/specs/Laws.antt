-- The laws of the pages of a day, in one sentence each.
use Rattle.std.specs.Prelude.{◌≡◌, ◌⊎◌, ◌<◌, ◌^◌, ℕ, Bool, not, List, [], ◌∷◌, ◌++◌, All, IsTrue, slice_index_or}
use Rattle.std.specs.List.{flat_map, join_with_byte, list_all, list_any}
use Rattle.audit_base.specs.Names.{is_name_byte}
use Rattle.audit_report.specs.DayTexts.{day_line, symbol_lines}
use Rattle.audit_report.specs.declared.day_line.DayCounts.{DayCounts}
use Rattle.day_page.specs.Addresses.{without_escapes}
use Rattle.day_page.specs.DayLines.{field_at, is_newline}
use Rattle.day_page.specs.FileNames.{file_name, page_address}
use Rattle.day_page.specs.Rows.{rows_of_text}

-- no two symbols have one page: symbols whose pages have the same name are the same
abbrev pub PagesHaveOwnNames : Type 0
PagesHaveOwnNames = (symbol other : List ℕ) → IsTrue (list_all is_name_byte symbol)
    → IsTrue (list_all is_name_byte other) → file_name symbol ≡ file_name other → symbol ≡ other

-- a link leads to the page: the escapes of its address, undone once, give the name of the page's
-- file
abbrev pub LinksLeadToPages : Type 0
LinksLeadToPages = (symbol : List ℕ) → without_escapes (page_address symbol) ≡ file_name symbol

-- the fields of a line of a report are its parts, which commas join
abbrev pub FieldsAreParts : Type 0
FieldsAreParts = (parts : List (List ℕ)) (n : ℕ)
    → All (λ part. IsTrue (list_all is_name_byte part)) parts
    → field_at n (join_with_byte 44 parts) ≡ slice_index_or parts n []

-- a text has no LF
abbrev pub is_one_line : List ℕ → Bool
is_one_line text = not (list_any is_newline text)

-- a text is lines, each of which LF ends
abbrev pub IsLines : List ℕ → Type 0
IsLines text = (text ≡ []) ⊎ ((front : List ℕ) × (text ≡ front ++ 10 ∷ []))

-- These can be the counts of a day.
pub record AreCountsOfDay (counts : DayCounts) : Type 0 where
  pub symbols : counts.symbols < 2 ^ 64
  pub accepted : counts.accepted < 2 ^ 64
  pub rejected : counts.rejected < 2 ^ 64

-- each symbol has its rows, in order, whatever is asked of the day: those of the text of a day, which
-- is the line of its counts and the lines of each symbol's report, are those of each symbol's lines,
-- one after another
abbrev pub SymbolsHaveTheirRows : Type 0
SymbolsHaveTheirRows = (asked : List ℕ) (counts : DayCounts) (question_text : List ℕ)
    (reports : List (List ℕ × List ℕ)) → AreCountsOfDay counts → IsTrue (is_one_line question_text)
    → All (λ r. IsLines r.1) reports
    → rows_of_text asked (day_line counts question_text ++ flat_map (λ r. symbol_lines r.0 r.1) reports)
    ≡ flat_map (λ r. rows_of_text asked (symbol_lines r.0 r.1)) reports
