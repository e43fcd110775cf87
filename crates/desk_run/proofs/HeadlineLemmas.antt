-- What a day is answered by, on the logs that the shelf holds, is what the headline says was written.
use Rattle.std.proofs.Common.{◌≡◌, ◌⊎◌, ◌∙◌, subst, refl, inl, inr, ⊎_elim, ℕ, Bool, true, false, List, [], ◌∷◌, Option, Result, Ok, Err}
use Rattle.std.specs.Prelude.{MatchResult}
use Rattle.std.specs.Io.KnownBytes.{Appends}
use Rattle.audit_base.specs.declared.faults.BadPlace.{BadPlace}
use Rattle.audit_base.specs.declared.findings.Finding.{Finding}
use Rattle.audit_base.specs.declared.records.OrderRecord.{OrderRecord}
use Rattle.audit_base.specs.declared.records.TradeRecord.{TradeRecord}
use Rattle.audit_base.specs.declared.terms.Which.TheVariants.{Orders, Trades}
use Rattle.audit_base.specs.Words.{rule_word}
use Rattle.audit_report.specs.declared.statuses.Status.{Status}
use Rattle.audit_report.specs.declared.verdicts.Verdict.TheVariants as verdict
use Rattle.command_run.specs.Commands.{Command, log_read_at, next_of_both_logs}
use Rattle.command_run.specs.Runs.{AllIsThere, AnswersHeldLogs, HoldsLog, HoldsNeededLogs, HoldsNext, IsKnown, NothingFails, RunsOutBefore, RunsOutOfMemory, WritesAnswer, WritesWhole}
use Rattle.day_logs.specs.declared.answers.DayAnswer.{DayAnswer}
use Rattle.day_logs.specs.declared.answers.DayAnswer.TheVariants as answer
use Rattle.day_logs.specs.DayAnswers.{AreVerdictsOfDay, DayMeaning, IsAnswerToRecords}
use Rattle.day_logs.specs.DayAnswerTexts.{day_answer_status, day_answer_text}
use Rattle.audit_report.specs.declared.day_line.DayCounts.{DayCounts}
use Rattle.day_sessions.specs.JudgedSessions.{AreSessionsOfDay, told_by_sessions}
use Rattle.day_symbols.specs.Shares.{symbols_in}
use Rattle.day_symbols.specs.Symbols.{symbols_of_day}
use Rattle.day_verdicts.specs.declared.judging.JudgedSymbols.{JudgedSymbols}
use Rattle.day_verdicts.specs.DayVerdicts.{told_of_symbols}
use Rattle.day_verdicts.specs.SymbolAnswers.{counts_of, day_lines_of, SymbolAnswer, TellsSymbols}
use Rattle.desk_words.specs.declared.requests.DeskRequest.{DeskRequest}
use Rattle.desk_words.specs.declared.requests.DeskRequest.TheVariants.{Whole}
use Rattle.desk_words.specs.declared.requests.WholeRequest.TheVariants.{Audit, Session}
use Rattle.log_source.specs.Sinks.{SinkState}
use Rattle.log_verdict.specs.LogVerdicts.{Log, log_in, records_of_order_log, trades_of_trade_log}
use Rattle.log_verdict.specs.Steps.{Reading}
use Rattle.session_audit.specs.Texts.{phases_text}
use Rattle.desk_run.specs.Requests.{day_question, desk_command_of, IsDayAnswer, share_or_whole}
use Rattle.desk_run.specs.TopCall.{AnswersDay, AnswersDayOfPhases, AnswersDayOfRule, logs_named, WroteDay, WroteSessions, WroteSymbols, WroteTold, WroteVerdict, WroteVerdicts}

-- counts and lines that are these, by what is written of them
same_symbols : (judged : JudgedSymbols) (counts : DayCounts) (lines question_text : List ℕ) (old new : SinkState) (status : Status) → judged.counts ≡ counts → judged.lines.items ≡ lines
    → WroteSymbols judged.counts question_text judged.lines.items old new status → WroteSymbols counts question_text lines old new status
same_symbols judged counts lines question_text old new status counts_are lines_are =
    subst (λ (c : DayCounts). WroteSymbols judged.counts question_text judged.lines.items old new status → WroteSymbols c question_text lines old new status) counts_are
    (subst (λ (l : List ℕ). WroteSymbols judged.counts question_text judged.lines.items old new status → WroteSymbols judged.counts question_text l old new status) lines_are (λ w. w))

-- what is told of symbols, by what is written of it
same_told : (symbols : List (List ℕ)) (told : List SymbolAnswer) (judged : JudgedSymbols) (question_text : List ℕ) (old new : SinkState) (status : Status) → TellsSymbols symbols told judged
    → WroteSymbols judged.counts question_text judged.lines.items old new status → WroteTold symbols told question_text old new status
same_told symbols told judged question_text old new status tells written =
    same_symbols judged (counts_of told) (day_lines_of symbols told) question_text old new status tells.counts_are tells.lines_are written

-- a command that makes its whole answer first wrote nothing where memory ran out
memory-whole : (early : Bool) (command : Command) (logs : List (List ℕ)) (old new : SinkState) (status : Status) → early ≡ false → RunsOutBefore early command logs old new status → RunsOutOfMemory old new status
memory-whole false command logs old new status e is = is
memory-whole true command logs old new status e is = absurd (other e)
  where
    other : true ≡ false → ⊥
    other e = cc

apart : (x : Result (List TradeRecord) Finding) (trades : List TradeRecord) (finding : Finding) → x ≡ Ok trades → x ≡ Err finding → ⊥
apart x trades finding a b = cc

same_fault : (x y : Result (List TradeRecord) Finding) (a b : Finding) → x ≡ Err a → y ≡ Err b → x ≡ y → a ≡ b
same_fault x y a b e f same = cc

module _ (meaning : DayMeaning) (question_text : List ℕ) (old new : SinkState) (status : Status) (of_records : List OrderRecord → List TradeRecord → Type 0)
    (told : (entries : List OrderRecord) (judged : JudgedSymbols) (trades : List TradeRecord) → meaning entries judged trades → WroteSymbols judged.counts question_text judged.lines.items old new status
    → of_records entries trades) where
  of_trades : (entries : List OrderRecord) (paired : Result (List TradeRecord) Finding) (day : DayAnswer) → IsAnswerToRecords meaning entries paired day
      → (status ≡ day_answer_status day) → Appends old.wrote new.wrote (day_answer_text question_text day)
      → MatchResult paired (of_records entries) (λ finding. WroteVerdict (verdict.Rejected finding) old new status)
  of_trades entries (Ok trades) (answer.Judged judged) is status_is wrote = told entries judged trades is (record { status_is = status_is; wrote = wrote })
  of_trades entries (Err finding) (answer.Judged judged) is status_is wrote = absurd is
  of_trades entries (Ok trades) (answer.Unpaired finding) is status_is wrote = absurd (apart (Ok trades) trades finding refl is)
  of_trades entries (Err found) (answer.Unpaired finding) is status_is wrote = rw (same_fault (Err found) (Err finding) found finding refl refl is) (record { status_is = status_is; wrote = wrote })
  of_trades entries paired (answer.Malformed log bad) is status_is wrote = absurd is

  of_orders : (first : Result (List OrderRecord) BadPlace) (second : Result (Result (List TradeRecord) Finding) BadPlace) (day : DayAnswer)
      → MatchResult first (λ entries. MatchResult second (λ paired. IsAnswerToRecords meaning entries paired day) (λ bad. day ≡ answer.Malformed Trades bad)) (λ bad. day ≡ answer.Malformed Orders bad)
      → (status ≡ day_answer_status day) → Appends old.wrote new.wrote (day_answer_text question_text day)
      → MatchResult first
      (λ entries. MatchResult second (λ paired. MatchResult paired (of_records entries) (λ finding. WroteVerdict (verdict.Rejected finding) old new status)) (λ bad. WroteVerdict (verdict.Malformed Trades bad) old new status))
      (λ bad. WroteVerdict (verdict.Malformed Orders bad) old new status)
  of_orders (Ok entries) (Ok paired) day is status_is wrote = of_trades entries paired day is status_is wrote
  of_orders (Ok entries) (Err bad) day is status_is wrote = record { status_is = rw is at status_is; wrote = rw is at wrote }
  of_orders (Err bad) second day is status_is wrote = record { status_is = rw is at status_is; wrote = rw is at wrote }

  written_day : (orders trades : Log) → WritesWhole (IsDayAnswer false meaning question_text orders trades status) old new → WroteDay of_records orders trades old new status
  written_day orders trades written =
      of_orders (records_of_order_log orders.form orders.bytes) (trades_of_trade_log trades.form trades.bytes) written.is.day written.is.is written.is.answer.status_is
      (subst (λ (text : List ℕ). Appends old.wrote new.wrote text) written.is.answer.text_is written.wrote)

  -- where the order log is out of its grammar, any trade log beside it gives the same
  whatever_trades : (orders trades second : Log) (bad : BadPlace) → records_of_order_log orders.form orders.bytes ≡ Err bad → WroteDay of_records orders second old new status
      → WroteDay of_records orders trades old new status
  whatever_trades orders trades second bad e written = let same : WroteVerdict (verdict.Malformed Orders bad) old new status = rw e at written in rw e same

  module _ (r : Reading) (command : Command) (orders trades : Log) (orders_name trades_name : List ℕ)
      (holds_orders : HoldsLog r Orders orders_name orders.bytes) (holds_trades : HoldsLog r Trades trades_name trades.bytes) (known : IsKnown r old) (nothing_fails : NothingFails r old new)
      (whole : command.writes_early ≡ false)
      (nexts : (bytes : List (List ℕ)) → command.next bytes ≡ next_of_both_logs orders_name trades_name orders.form bytes)
      (reports : (bytes : List (List ℕ)) (text : List ℕ) → command.is_answer bytes status text
      → IsDayAnswer false meaning question_text (log_in orders.form (log_read_at bytes 0)) (log_in trades.form (log_read_at bytes 1)) status text)
      (answers : (logs : List (List ℕ)) → AllIsThere r command logs old new → WritesAnswer command logs old new status) where
    as_day : (bytes : List (List ℕ)) → WritesWhole (command.is_answer bytes status) old new
        → WritesWhole (IsDayAnswer false meaning question_text (log_in orders.form (log_read_at bytes 0)) (log_in trades.form (log_read_at bytes 1)) status) old new
    as_day bytes written = record { text = written.text; is = reports bytes written.text written.is; wrote = written.wrote }

    by_orders : (said : Result (List OrderRecord) BadPlace) → records_of_order_log orders.form orders.bytes ≡ said → WroteDay of_records orders trades old new status ⊎ RunsOutOfMemory old new status
    by_orders (Ok entries) e =
        let first : HoldsNext r command [] orders.bytes = record { log = Orders; name = orders_name; next = nexts []; holds = holds_orders } in
        let second : HoldsNext r command (orders.bytes ∷ []) trades.bytes = record { log = Trades; name = trades_name; next = nexts (orders.bytes ∷ []) ∙ (rw e refl); holds = holds_trades } in
        let held : HoldsNeededLogs r command [] (orders.bytes ∷ trades.bytes ∷ []) = (first, (second, nexts (orders.bytes ∷ trades.bytes ∷ []))) in
        ⊎_elim (λ written. inl (written_day orders trades (as_day (orders.bytes ∷ trades.bytes ∷ []) written))) (λ memory. inr (memory-whole command.writes_early command _ old new status whole memory))
        (answers (orders.bytes ∷ trades.bytes ∷ []) (record { known = known; held = held; nothing_fails = nothing_fails }))
    by_orders (Err bad) e =
        let first : HoldsNext r command [] orders.bytes = record { log = Orders; name = orders_name; next = nexts []; holds = holds_orders } in
        let held : HoldsNeededLogs r command [] (orders.bytes ∷ []) = (first, nexts (orders.bytes ∷ []) ∙ (rw e refl)) in
        ⊎_elim (λ written. inl (whatever_trades orders trades (log_in trades.form []) bad e (written_day orders (log_in trades.form []) (as_day (orders.bytes ∷ []) written)))) (λ memory. inr (memory-whole command.writes_early command _ old new status whole memory))
        (answers (orders.bytes ∷ []) (record { known = known; held = held; nothing_fails = nothing_fails }))

    pub wrote_day : WroteDay of_records orders trades old new status ⊎ RunsOutOfMemory old new status
    wrote_day = by_orders (records_of_order_log orders.form orders.bytes) refl

-- the headline follows from what is said of every command
pub answers_day : (asked : Option DeskRequest) (r : Reading) (old new : SinkState) (status : Status) → AnswersHeldLogs desk_command_of asked r old new status → AnswersDay asked r old new status
answers_day asked r old new status answers = record { of_rule = of_rule; of_phases = of_phases }
  where
    of_rule : AnswersDayOfRule asked r old new status
    of_rule rule table share checks orders trades to_judge known nothing_fails =
        let q = day_question rule table share checks in
        wrote_day (AreVerdictsOfDay q) (rule_word rule) old new status (WroteVerdicts q old new status)
        (λ entries judged day_trades is written. record {
          verdicts = is.verdicts;
          verdicts_are = is.verdicts_are;
          wrote = same_told (symbols_in q.share (symbols_of_day entries day_trades)) (told_of_symbols checks entries day_trades (symbols_in q.share (symbols_of_day entries day_trades)) is.verdicts) judged (rule_word rule) old new status is.tells written;
        })
        r (desk_command_of (Whole (Audit rule (logs_named orders trades to_judge.orders_name to_judge.trades_name) table share checks false))) orders trades to_judge.orders_name to_judge.trades_name
        to_judge.holds_orders to_judge.holds_trades known nothing_fails refl (λ bytes. refl) (λ bytes text is. is)
        (subst (λ (x : Option DeskRequest). AnswersHeldLogs desk_command_of x r old new status) to_judge.words answers)

    of_phases : AnswersDayOfPhases asked r old new status
    of_phases phases table share checks orders trades to_judge known nothing_fails =
        wrote_day (AreSessionsOfDay phases table checks (share_or_whole share)) (phases_text phases) old new status (WroteSessions phases table checks (share_or_whole share) old new status)
        (λ entries judged day_trades is written. record {
          sessions = is.sessions;
          sessions_are = is.sessions_are;
          wrote = same_told (symbols_in (share_or_whole share) (symbols_of_day entries day_trades)) (told_by_sessions checks entries day_trades (symbols_in (share_or_whole share) (symbols_of_day entries day_trades)) is.sessions) judged
              (phases_text phases) old new status is.tells written;
        })
        r (desk_command_of (Whole (Session phases (logs_named orders trades to_judge.orders_name to_judge.trades_name) table share checks false))) orders trades to_judge.orders_name to_judge.trades_name
        to_judge.holds_orders to_judge.holds_trades known nothing_fails refl (λ bytes. refl) (λ bytes text is. is)
        (subst (λ (x : Option DeskRequest). AnswersHeldLogs desk_command_of x r old new status) to_judge.words answers)
