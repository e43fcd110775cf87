-- What is told of the symbols of a day: the counts, and the lines.
use Rattle.std.specs.Prelude.{◌≡◌, ◌+◌, ℕ, Bool, not, List, [], ◌∷◌, ◌++◌, length, count_by, if◌then◌else◌}
use Rattle.audit_report.specs.declared.day_line.DayCounts.{DayCounts}
use Rattle.audit_report.specs.DayTexts.{symbol_lines}
use Rattle.day_verdicts.specs.declared.judging.JudgedSymbols.{JudgedSymbols}
use Rattle.day_verdicts.specs.declared.symbol_reports.SymbolReport.{SymbolReport}

-- What is told of a symbol: whether it is accepted, and the text.
pub record SymbolAnswer : Type 0 where
  pub accepted : Bool
  pub text : List ℕ

-- what a report tells
abbrev pub told_by : SymbolReport → SymbolAnswer
told_by report = record { accepted = report.accepted; text = report.text.items }

-- what is told of each of these symbols, by what was said of it
abbrev pub tell_each : {S : Type 0} → (List ℕ → S → SymbolAnswer) → List (List ℕ) → List S
    → List SymbolAnswer
tell_each tell [] said = []
tell_each tell (symbol ∷ symbols) [] = []
tell_each tell (symbol ∷ symbols) (one ∷ said) = tell symbol one ∷ tell_each tell symbols said

-- how many symbols are told of, how many of them are accepted, and how many are not
abbrev pub counts_of : List SymbolAnswer → DayCounts
counts_of told = record {
  symbols = length told;
  accepted = count_by (λ t. t.accepted) told;
  rejected = count_by (λ t. not t.accepted) told;
}

-- the lines of each symbol, one after another: those of its text, with the symbol before each
abbrev pub day_lines_of : List (List ℕ) → List SymbolAnswer → List ℕ
day_lines_of [] told = []
day_lines_of (symbol ∷ symbols) [] = []
day_lines_of (symbol ∷ symbols) (one ∷ told) =
    symbol_lines symbol one.text ++ day_lines_of symbols told

-- These are the counts and the lines of what is told of these symbols.
pub record TellsSymbols (symbols : List (List ℕ)) (told : List SymbolAnswer)
    (judged : JudgedSymbols) : Type 0 where
  pub counts_are : judged.counts ≡ counts_of told
  pub lines_are : judged.lines.items ≡ day_lines_of symbols told

-- What functions pass on: one symbol after another.

-- the counts with one symbol more
abbrev pub with_one : DayCounts → Bool → DayCounts
with_one counts accepted = record {
  symbols = counts.symbols + 1;
  accepted = counts.accepted + (if accepted then 1 else 0);
  rejected = counts.rejected + (if accepted then 0 else 1);
}

-- nothing was told
pub record IsNothingTold (judged : JudgedSymbols) : Type 0 where
  pub counts_are : judged.counts ≡ counts_of []
  pub lines_are : judged.lines.items ≡ []

-- one symbol more is counted, and what is told of it is written
pub record AddsTold (old new : JudgedSymbols) (symbol : List ℕ) (told : SymbolAnswer) : Type 0 where
  pub counts_are : new.counts ≡ with_one old.counts told.accepted
  pub lines_are : new.lines.items ≡ old.lines.items ++ symbol_lines symbol told.text
