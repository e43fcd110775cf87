-- One answer to a day, whatever share a symbol is in.
use Rattle.std.proofs.Common.{◌≡◌, ◌++◌, ◌∙◌, refl, sym, ap, ℕ, List, Result, Ok, Err}
use Rattle.std.specs.Prelude.{MatchResult}
use Rattle.audit_base.specs.declared.faults.BadPlace.{BadPlace}
use Rattle.audit_base.specs.declared.findings.Finding.{Finding}
use Rattle.audit_base.specs.declared.records.OrderRecord.{OrderRecord}
use Rattle.audit_base.specs.declared.records.TradeRecord.{TradeRecord}
use Rattle.audit_base.specs.declared.terms.Which.{Which}
use Rattle.audit_base.specs.declared.terms.Which.TheVariants.{Orders, Trades}
use Rattle.audit_report.specs.DayTexts.{day_line}
use Rattle.day_logs.specs.declared.answers.DayAnswer.{DayAnswer}
use Rattle.day_logs.specs.declared.answers.DayAnswer.TheVariants as answer
use Rattle.day_logs.specs.DayAnswers.{DayMeaning, IsAnswerToLogs, IsAnswerToRecords, AreVerdictsOfDay}
use Rattle.day_logs.specs.DayAnswerTexts.{day_answer_status, day_answer_text}
use Rattle.day_logs.specs.Laws.{AreWrittenAlike, OneDayAnswer, SharesHaveTheVerdicts}
use Rattle.day_verdicts.specs.Laws.{OneDay, SayTheSame}
use Rattle.day_verdicts.specs.declared.judging.JudgedSymbols.{JudgedSymbols}
use Rattle.log_verdict.specs.LogVerdicts.{Log, records_of_order_log, trades_of_trade_log}
use Rattle.record_verdict.specs.RecordVerdicts.{question}
use Rattle.record_verdict.specs.Laws.{RecordVerdictIsOne}

pub shares-have-verdicts : RecordVerdictIsOne → SharesHaveTheVerdicts
shares-have-verdicts one rule table entries trades share other symbol a b in_one in_other =
    one (question rule symbol table) entries (Ok trades) a b
    (in_one.are.each in_one.index symbol a in_one.symbol_there in_one.verdict_there)
    (in_other.are.each in_other.index symbol b in_other.symbol_there in_other.verdict_there)

-- what holds of the counts and lines of a day that is judged: on the same trades of a log they are the same
abbrev pub SayOne : DayMeaning → Log → Type 0
SayOne meaning log = (entries : List OrderRecord) (records : List TradeRecord) (a b : JudgedSymbols) → trades_of_trade_log log.form log.bytes ≡ Ok (Ok records)
    → meaning entries a records → meaning entries b records → SayTheSame a b

module _ (meaning : DayMeaning) (question_text : List ℕ) (orders trades : Log) (one : SayOne meaning trades) where
  -- two judged days of the same records
  same-days : (entries : List OrderRecord) (records : List TradeRecord) (a b : JudgedSymbols) → trades_of_trade_log trades.form trades.bytes ≡ Ok (Ok records)
      → meaning entries a records → meaning entries b records → AreWrittenAlike question_text (answer.Judged a) (answer.Judged b)
  same-days entries records a b are is-a is-b =
      let same = one entries records a b are is-a is-b in
      record {
        text_same = λ i. day_line (same.counts_same i) question_text ++ same.lines_same i;
        status_same = λ i. day_answer_status (answer.Judged (record a { counts = same.counts_same i }));
      }

  -- equal answers are written alike
  alike : (a b : DayAnswer) → a ≡ b → AreWrittenAlike question_text a b
  alike a b same = record {
    text_same = ap (day_answer_text question_text) same;
    status_same = ap day_answer_status same;
  }

  same-unpaired : (x y : Finding) (paired : Result (List TradeRecord) Finding) → paired ≡ Err x → paired ≡ Err y → x ≡ y
  same-unpaired x y paired is-x is-y = cc (is-x, is-y)

  same-records : (entries : List OrderRecord) (paired : Result (List TradeRecord) Finding) (a b : DayAnswer) → trades_of_trade_log trades.form trades.bytes ≡ Ok paired
      → IsAnswerToRecords meaning entries paired a → IsAnswerToRecords meaning entries paired b → AreWrittenAlike question_text a b
  same-records entries (Ok records) (answer.Judged a) (answer.Judged b) are is-a is-b = same-days entries records a b are is-a is-b
  same-records entries (Err finding) (answer.Judged a) b are is-a is-b = absurd is-a
  same-records entries paired (answer.Malformed log bad) b are is-a is-b = absurd is-a
  same-records entries paired a (answer.Malformed log bad) are is-a is-b = absurd is-b
  same-records entries (Err finding) a (answer.Judged b) are is-a is-b = absurd is-b
  same-records entries (Ok records) (answer.Unpaired a) b are is-a is-b = absurd (cc is-a)
  same-records entries (Ok records) a (answer.Unpaired b) are is-a is-b = absurd (cc is-b)
  same-records entries (Err finding) (answer.Unpaired a) (answer.Unpaired b) are is-a is-b =
      alike _ _ (ap (λ (f : Finding). answer.Unpaired f) (same-unpaired a b (Err finding) is-a is-b))

  same-place : (log : Which) (bad : BadPlace) (a b : DayAnswer) → a ≡ answer.Malformed log bad → b ≡ answer.Malformed log bad → AreWrittenAlike question_text a b
  same-place log bad a b is-a is-b = alike a b (is-a ∙ sym is-b)

  -- two answers to what two logs say
  same-logs : (said : Result (List OrderRecord) BadPlace) (given : Result (Result (List TradeRecord) Finding) BadPlace) (a b : DayAnswer)
      → trades_of_trade_log trades.form trades.bytes ≡ given
      → MatchResult said (λ entries. MatchResult given (λ paired. IsAnswerToRecords meaning entries paired a) (λ bad. a ≡ answer.Malformed Trades bad)) (λ bad. a ≡ answer.Malformed Orders bad)
      → MatchResult said (λ entries. MatchResult given (λ paired. IsAnswerToRecords meaning entries paired b) (λ bad. b ≡ answer.Malformed Trades bad)) (λ bad. b ≡ answer.Malformed Orders bad)
      → AreWrittenAlike question_text a b
  same-logs (Err bad) given a b are is-a is-b = same-place Orders bad a b is-a is-b
  same-logs (Ok entries) (Err bad) a b are is-a is-b = same-place Trades bad a b is-a is-b
  same-logs (Ok entries) (Ok paired) a b are is-a is-b = same-records entries paired a b are is-a is-b

-- answers to two logs are written alike, where what is judged of their records says one thing
pub written-alike : (meaning : DayMeaning) (question_text : List ℕ) (orders trades : Log) → SayOne meaning trades → (a b : DayAnswer)
    → IsAnswerToLogs meaning orders trades a → IsAnswerToLogs meaning orders trades b → AreWrittenAlike question_text a b
written-alike meaning question_text orders trades one a b is-a is-b =
    same-logs meaning question_text orders trades one (records_of_order_log orders.form orders.bytes) (trades_of_trade_log trades.form trades.bytes) a b refl is-a is-b

pub one-day-answer : OneDay → OneDayAnswer
one-day-answer one q orders trades question_text a b is-a is-b =
    written-alike (AreVerdictsOfDay q) question_text orders trades
    (λ entries records x y are is-x is-y. one q.rule q.table q.checks entries records _ x y is-x is-y) a b is-a is-b
