-- The laws of a day of two logs, as statements.
use Rattle.std.specs.Prelude.{◌≡◌, ℕ, Bool, List, Some, slice_get}
use Rattle.audit_base.specs.declared.records.OrderRecord.{OrderRecord}
use Rattle.audit_base.specs.declared.records.TradeRecord.{TradeRecord}
use Rattle.audit_base.specs.declared.terms.Rule.{Rule}
use Rattle.audit_report.specs.declared.verdicts.Verdict.{Verdict}
use Rattle.day_logs.specs.declared.answers.DayAnswer.{DayAnswer}
use Rattle.day_logs.specs.declared.answers.DayQuestion.{DayQuestion}
use Rattle.day_logs.specs.DayAnswers.{IsAnswerToLogs, AreVerdictsOfDay}
use Rattle.day_logs.specs.DayAnswerTexts.{day_answer_status, day_answer_text}
use Rattle.day_symbols.specs.Shares.{DayShare, symbols_in}
use Rattle.day_symbols.specs.Symbols.{symbols_of_day}
use Rattle.day_verdicts.specs.DayVerdicts.{AreVerdicts}
use Rattle.log_verdict.specs.LogVerdicts.{Log}

-- These are the verdicts of a rule on the symbols of a share, and this symbol has this one.
pub record HasVerdictInShare (rule : Rule) (table : Bool) (entries : List OrderRecord)
    (trades : List TradeRecord) (share : DayShare) (symbol : List ℕ)
    (the_verdict : Verdict) : Type 0 where
  pub verdicts : List Verdict
  pub are : AreVerdicts rule table entries trades
      (symbols_in share (symbols_of_day entries trades)) verdicts
  pub index : ℕ
  pub symbol_there : slice_get (symbols_in share (symbols_of_day entries trades)) index
      ≡ Some symbol
  pub verdict_there : slice_get verdicts index ≡ Some the_verdict

-- shares are the day: a symbol has the same verdict in every share that has it
abbrev pub SharesHaveTheVerdicts : Type 0
SharesHaveTheVerdicts = (rule : Rule) (table : Bool) (entries : List OrderRecord)
    (trades : List TradeRecord) (one other : DayShare) (symbol : List ℕ) (a b : Verdict)
    → HasVerdictInShare rule table entries trades one symbol a
    → HasVerdictInShare rule table entries trades other symbol b → a ≡ b

-- Two answers are written as one text and have one status.
pub record AreWrittenAlike (question_text : List ℕ) (a b : DayAnswer) : Type 0 where
  pub text_same : day_answer_text question_text a ≡ day_answer_text question_text b
  pub status_same : day_answer_status a ≡ day_answer_status b

-- one answer: whatever forms two logs are in, the answers to a question about them have one text
-- and one status
abbrev pub OneDayAnswer : Type 0
OneDayAnswer = (q : DayQuestion) (orders trades : Log) (question_text : List ℕ) (a b : DayAnswer)
    → IsAnswerToLogs (AreVerdictsOfDay q) orders trades a
    → IsAnswerToLogs (AreVerdictsOfDay q) orders trades b → AreWrittenAlike question_text a b
