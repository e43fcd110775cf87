-- What follows of the verdicts on a day, as laws.
use Rattle.std.specs.Prelude.{◌≡◌, ℕ, Bool, false, List}
use Rattle.audit_base.specs.declared.records.OrderRecord.{OrderRecord}
use Rattle.audit_base.specs.declared.records.TradeRecord.{TradeRecord}
use Rattle.audit_base.specs.declared.terms.Rule.{Rule}
use Rattle.audit_report.specs.declared.verdicts.Verdict.{Verdict}
use Rattle.day_verdicts.specs.declared.judging.JudgedSymbols.{JudgedSymbols}
use Rattle.day_verdicts.specs.CheckedSymbols.{after_checks}
use Rattle.day_verdicts.specs.DayVerdicts.{AreVerdicts, IsJudgedDay}
use Rattle.day_symbols.specs.Shares.{DayShare, symbols_in, whole_day}
use Rattle.day_symbols.specs.Symbols.{symbols_of_day}
use Rattle.day_verdicts.specs.ShareTelling.{SharesTellTheDay}
use Rattle.day_verdicts.specs.SymbolAnswers.{SymbolAnswer}
use Rattle.further_checks.specs.declared.findings.FurtherChecks.{FurtherChecks}
use Rattle.further_checks.specs.FurtherRules.{asks_further}

-- symbols have one list of verdicts by a rule on the same records
abbrev pub VerdictsAreOne : Type 0
VerdictsAreOne = (rule : Rule) (table : Bool) (entries : List OrderRecord)
    (trades : List TradeRecord) (symbols : List (List ℕ)) (a b : List Verdict)
    → AreVerdicts rule table entries trades symbols a
    → AreVerdicts rule table entries trades symbols b → a ≡ b

-- The counts and the lines are the same.
pub record SayTheSame (a b : JudgedSymbols) : Type 0 where
  pub counts_same : a.counts ≡ b.counts
  pub lines_same : a.lines.items ≡ b.lines.items

-- one day: symbols have one text by a rule, and by the checks behind it, on the same records
abbrev pub OneDay : Type 0
OneDay = (rule : Rule) (table : Bool) (checks : FurtherChecks) (entries : List OrderRecord)
    (trades : List TradeRecord) (symbols : List (List ℕ)) (a b : JudgedSymbols)
    → IsJudgedDay rule table checks entries trades symbols a
    → IsJudgedDay rule table checks entries trades symbols b
    → SayTheSame a b

-- where no check is asked for, what is told of a symbol is what its rule told
abbrev pub UncheckedSymbols : Type 0
UncheckedSymbols = (checks : FurtherChecks) (entries : List OrderRecord)
    (trades : List TradeRecord) (symbol : List ℕ) (told : SymbolAnswer)
    → asks_further checks ≡ false
    → after_checks checks entries trades symbol told ≡ told

-- the counts and lines of the verdicts on the symbols of a share, and of the checks
abbrev pub IsJudgedShareOf : Rule → Bool → FurtherChecks → List OrderRecord → List TradeRecord
    → DayShare → JudgedSymbols → Type 0
IsJudgedShareOf rule table checks entries trades share judged =
    IsJudgedDay rule table checks entries trades
    (symbols_in share (symbols_of_day entries trades)) judged

-- shares are the day, by a rule: for each number of shares each symbol of the day is in exactly one
-- of them, with the very lines that it has without a share, those of the further checks too
abbrev pub SharesOfRuleAreTheDay : Type 0
SharesOfRuleAreTheDay = (rule : Rule) (table : Bool) (checks : FurtherChecks)
    (entries : List OrderRecord) (trades : List TradeRecord) (whole : JudgedSymbols)
    → IsJudgedShareOf rule table checks entries trades whole_day whole
    → SharesTellTheDay (IsJudgedShareOf rule table checks entries trades)
    (symbols_of_day entries trades) whole
