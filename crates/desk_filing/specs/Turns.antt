-- What one command leaves, by the two logs that a shelf has and what is on file: what is on file
-- after it, the text that it writes, and its status. `logs` is what the shelf has in a slot under a
-- name.
use Rattle.std.specs.Prelude.{◌≡◌, ◌≢◌, ℕ, Bool, true, false, List, [], ◌∷◌, ◌++◌, Option, None, Some, Result, Ok, Err, IsOk, map, nat_lt, length, find}
use Rattle.std.specs.List.{flat_map}
use Rattle.audit_base.specs.Least.{first_answer}
use Rattle.audit_base.specs.declared.faults.BadPlace.{BadPlace}
use Rattle.audit_base.specs.declared.findings.Finding.{Finding}
use Rattle.audit_base.specs.declared.records.OrderRecord.{OrderRecord}
use Rattle.audit_base.specs.declared.records.TradeRecord.{TradeRecord}
use Rattle.audit_base.specs.declared.terms.Rule.{Rule}
use Rattle.audit_base.specs.declared.terms.Which.{Which}
use Rattle.audit_base.specs.declared.terms.Which.TheVariants.{Orders, Trades}
use Rattle.audit_report.specs.Lines.{malformed_line}
use Rattle.audit_report.specs.Texts.{verdict_text}
use Rattle.audit_report.specs.declared.verdicts.Verdict.{Verdict}
use Rattle.audit_report.specs.declared.verdicts.Verdict.TheVariants as verdict
use Rattle.case_keeper.specs.declared.case.Case.{Case}
use Rattle.case_keeper.specs.declared.case.Offence.{Offence}
use Rattle.case_run.specs.Lines.{case_line, known_line, no_case_line}
use Rattle.case_run.specs.Play.{offence_of}
use Rattle.case_run.specs.declared.statuses.CaseStatus.{CaseStatus}
use Rattle.case_run.specs.declared.statuses.CaseStatus.TheVariants as status
use Rattle.day_symbols.specs.Shares.{symbols_in, whole_day}
use Rattle.day_symbols.specs.Symbols.{symbols_of_day}
use Rattle.day_verdicts.specs.DayVerdicts.{AreVerdicts}
use Rattle.digest_keeper.specs.KeptCases.{all_kept_of, kept_under}
use Rattle.log_digests.specs.declared.digests.LogDigests.{LogDigests}
use Rattle.digest_keeper.specs.declared.digested.DigestedCase.{DigestedCase}
use Rattle.digest_keeper.specs.declared.digested.KeptCase.{KeptCase}
use Rattle.desk_filing.specs.Lines.{comparison_line, long_label_line, no_digest_line}
use Rattle.desk_filing.specs.declared.differences.AuditedLogs.{AuditedLogs}
use Rattle.desk_filing.specs.declared.differences.CaseDifference.{CaseDifference}
use Rattle.desk_filing.specs.declared.differences.CaseDifference.TheVariants.{OfOrders, OfTrades, OfVerdict}
use Rattle.desk_filing.specs.declared.requests.FilingCommand.{FilingCommand}
use Rattle.desk_filing.specs.declared.requests.FilingCommand.TheVariants as command
use Rattle.desk_filing.specs.declared.requests.FilingRequest.{FilingRequest}
use Rattle.log_digests.specs.Digests.{digest_of}
use Rattle.log_verdict.specs.LogVerdicts.{records_of_order_log, log_in, OfLogs}
use Rattle.record_verdict.specs.RecordVerdicts.{IsRecordVerdict, question}
use Rattle.symbol_offences.specs.OffenceAnswers.{is_absent}
use Rattle.symbol_offences.specs.OffenceLines.{absent_line}

-- What one command leaves: what is on file, the text that it writes, and its status.
pub record FilingTurn : Type 0 where
  pub kept : List KeptCase
  pub text : List ℕ
  pub status : CaseStatus

-- a command that files nothing leaves what is on file as it is
abbrev pub unfiled_turn : List KeptCase → CaseStatus → List ℕ → FilingTurn
unfiled_turn kept the_status text = record { kept = kept; text = text; status = the_status }

-- Filing cases.

-- of these cases, the first whose label has a case on file, by that case
abbrev pub first_known : List KeptCase → List DigestedCase → Option KeptCase
first_known kept cases = first_answer (map (λ one. kept_under kept one.case.label) cases)

-- where no label has a case, the cases are put on file with their digests, and their lines are
-- written; where one has, nothing is filed, and `known` and the line of the first such case are
abbrev pub filed_turn_by : List KeptCase → List DigestedCase → Option KeptCase → FilingTurn
filed_turn_by kept cases None = record {
  kept = kept ++ all_kept_of cases;
  text = flat_map (λ one. case_line one.case) cases;
  status = status.Done;
}
filed_turn_by kept cases (Some known) =
    unfiled_turn kept status.Refused (known_line ++ case_line known.case)

-- what filing cases leaves, all of them or none
abbrev pub filed_turn : List KeptCase → List DigestedCase → FilingTurn
filed_turn kept cases = filed_turn_by kept cases (first_known kept cases)

-- how an audit ended with a verdict
abbrev pub offence_in : Verdict → Option Offence
offence_in (verdict.Accepted accepted) = None
offence_in (verdict.Rejected finding) = Some (offence_of finding)
offence_in (verdict.Malformed log bad) = None

-- the case of a verdict on logs of these digests
abbrev pub digested_case : List ℕ → Rule → LogDigests → List ℕ → Verdict → DigestedCase
digested_case label the_rule digests symbol the_verdict = record {
  case = record {
    label = label;
    rule = the_rule;
    symbol = symbol;
    offence = offence_in the_verdict;
  };
  digests = digests;
}

-- The cases of a day.

-- the label of a symbol of a day, LABEL/SYMBOL; the code of `/` is 47
abbrev pub label_of_symbol : List ℕ → List ℕ → List ℕ
label_of_symbol label symbol = label ++ 47 ∷ symbol

-- the first of these symbols whose label has more than 64 bytes
abbrev pub first_long : List ℕ → List (List ℕ) → Option (List ℕ)
first_long label symbols =
    find (λ symbol. nat_lt 64 (length (label_of_symbol label symbol))) symbols

-- the case of each symbol with its verdict
abbrev pub cases_of_day : List ℕ → Rule → LogDigests → List (List ℕ) → List Verdict
    → List DigestedCase
cases_of_day label the_rule digests [] verdicts = []
cases_of_day label the_rule digests (symbol ∷ symbols) [] = []
cases_of_day label the_rule digests (symbol ∷ symbols) (the_verdict ∷ verdicts) =
    digested_case (label_of_symbol label symbol) the_rule digests symbol the_verdict
    ∷ cases_of_day label the_rule digests symbols verdicts

-- where a label is too long nothing is filed, and the first such symbol is written; else the cases
-- are filed
abbrev pub day_turn : List KeptCase → Option (List ℕ) → List DigestedCase → FilingTurn
day_turn kept (Some symbol) cases = unfiled_turn kept status.Refused (long_label_line symbol)
day_turn kept None cases = filed_turn kept cases

-- the symbols of the whole day
abbrev pub symbols_of_whole_day : List OrderRecord → List TradeRecord → List (List ℕ)
symbols_of_whole_day entries trades = symbols_in whole_day (symbols_of_day entries trades)

-- The turn files the verdict of a rule on each symbol of these records.
pub record FilesDay (digests : LogDigests) (kept : List KeptCase) (label : List ℕ)
    (the_rule : Rule) (entries : List OrderRecord) (turn : FilingTurn) (trades : List TradeRecord)
    : Type 0 where
  pub verdicts : List Verdict
  pub are : AreVerdicts the_rule false entries trades (symbols_of_whole_day entries trades) verdicts
  pub is : turn ≡ day_turn kept (first_long label (symbols_of_whole_day entries trades))
      (cases_of_day label the_rule digests (symbols_of_whole_day entries trades) verdicts)

-- Comparing with a case.

-- the first of these that holds: the order logs differ, the trade logs do, or the audits ended
-- otherwise; or none of them
abbrev pub IsFirstDifference : AuditedLogs → AuditedLogs → Option CaseDifference → Type 0
IsFirstDifference filed now (Some OfOrders) = filed.digests.orders ≢ now.digests.orders
IsFirstDifference filed now (Some OfTrades) = (filed.digests.orders ≡ now.digests.orders)
    × (filed.digests.trades ≢ now.digests.trades)
IsFirstDifference filed now (Some OfVerdict) = (filed.digests.orders ≡ now.digests.orders)
    × (filed.digests.trades ≡ now.digests.trades) × (filed.offence ≢ now.offence)
IsFirstDifference filed now None = (filed.digests.orders ≡ now.digests.orders)
    × (filed.digests.trades ≡ now.digests.trades) × (filed.offence ≡ now.offence)

-- The audit of these records by the rule of a case, on its symbol, compares so with the case.
pub record Compares (case : Case) (filed now : LogDigests) (entries : List OrderRecord)
    (paired : Result (List TradeRecord) Finding) (difference : Option CaseDifference) : Type 0 where
  pub the_verdict : Verdict
  pub is : IsRecordVerdict (question case.rule case.symbol false) entries paired the_verdict
  pub first : IsFirstDifference (record { digests = filed; offence = case.offence })
      (record { digests = now; offence = offence_in the_verdict }) difference

-- 0 where nothing differs, else 1
abbrev pub comparison_status : Option CaseDifference → CaseStatus
comparison_status None = status.Done
comparison_status (Some what) = status.Refused

-- The turn tells how the records compare with a case.
pub record TellsComparison (now : LogDigests) (kept : List KeptCase) (label : List ℕ)
    (entries : List OrderRecord) (paired : Result (List TradeRecord) Finding) (turn : FilingTurn)
    (case : Case) (filed : LogDigests) : Type 0 where
  pub difference : Option CaseDifference
  pub compares : Compares case filed now entries paired difference
  pub is : turn ≡ unfiled_turn kept (comparison_status difference)
      (comparison_line label difference)

-- of a case that was filed without digests there is nothing to compare
abbrev pub ChecksDigests : LogDigests → List KeptCase → List ℕ → List OrderRecord
    → Result (List TradeRecord) Finding → FilingTurn → Case → Option LogDigests → Type 0
ChecksDigests now kept label entries paired turn case None =
    turn ≡ unfiled_turn kept status.Refused (no_digest_line label)
ChecksDigests now kept label entries paired turn case (Some filed) =
    TellsComparison now kept label entries paired turn case filed

-- the records are compared with the case that is on file under the label, if there is one
abbrev pub ChecksCase : LogDigests → List KeptCase → List ℕ → List OrderRecord
    → Result (List TradeRecord) Finding → FilingTurn → Option KeptCase → Type 0
ChecksCase now kept label entries paired turn None =
    turn ≡ unfiled_turn kept status.Refused (no_case_line label)
ChecksCase now kept label entries paired turn (Some found) =
    ChecksDigests now kept label entries paired turn found.case found.digests

-- One command.

-- The turn files the verdict of a rule on a symbol, with the digests of the logs.
pub record FilesVerdict (digests : LogDigests) (kept : List KeptCase) (label : List ℕ)
    (the_rule : Rule) (symbol : List ℕ) (entries : List OrderRecord)
    (paired : Result (List TradeRecord) Finding) (turn : FilingTurn) : Type 0 where
  pub the_verdict : Verdict
  pub on : IsRecordVerdict (question the_rule symbol false) entries paired the_verdict
  pub is : turn ≡ filed_turn kept (digested_case label the_rule digests symbol the_verdict ∷ [])

-- of a symbol that no record of two logs has, whose reports pair, nothing is filed, and it is told to
-- be absent; of others the verdict is filed
abbrev pub FilesUnlessAbsent : Bool → LogDigests → List KeptCase → List ℕ → Rule → List ℕ
    → List OrderRecord → Result (List TradeRecord) Finding → FilingTurn → Type 0
FilesUnlessAbsent true digests kept label the_rule symbol entries paired turn =
    turn ≡ unfiled_turn kept status.Refused (absent_line symbol)
FilesUnlessAbsent false digests kept label the_rule symbol entries paired turn =
    FilesVerdict digests kept label the_rule symbol entries paired turn

-- where the reports of the trade log do not pair, no symbol of the day is filed, and finding 4 is
-- written
abbrev pub FilesDayOrNone : LogDigests → List KeptCase → List ℕ → Rule → List OrderRecord
    → Result (List TradeRecord) Finding → FilingTurn → Type 0
FilesDayOrNone digests kept label the_rule entries (Ok trades) turn =
    FilesDay digests kept label the_rule entries turn trades
FilesDayOrNone digests kept label the_rule entries (Err finding) turn =
    turn ≡ unfiled_turn kept status.Refused (verdict_text (verdict.Rejected finding))

-- what a command leaves, by the records of logs of these digests
abbrev pub IsTurnOfRecords : LogDigests → List KeptCase → List ℕ → FilingCommand → FilingTurn
    → List OrderRecord → Result (List TradeRecord) Finding → Type 0
IsTurnOfRecords digests kept label (command.File the_rule symbol) turn entries paired =
    FilesUnlessAbsent (is_absent symbol entries paired)
    digests kept label the_rule symbol entries paired turn
IsTurnOfRecords digests kept label (command.FileAll the_rule) turn entries paired =
    FilesDayOrNone digests kept label the_rule entries paired turn
IsTurnOfRecords digests kept label command.Check turn entries paired =
    ChecksCase digests kept label entries paired turn (kept_under kept label)

-- what a command leaves of logs that are not in their grammar: the first bad place is written, and
-- nothing is filed
abbrev pub IsBadTurn : List KeptCase → FilingTurn → Which → BadPlace → Type 0
IsBadTurn kept turn log bad = turn ≡ unfiled_turn kept status.Malformed (malformed_line log bad)

-- Two logs: their bytes, and their digests.
pub record DigestedLogs : Type 0 where
  pub orders : List ℕ
  pub trades : List ℕ
  pub digests : LogDigests

-- logs of these bytes, with the digests of these
abbrev pub digested_logs : List ℕ → List ℕ → DigestedLogs
digested_logs orders trades = record {
  orders = orders;
  trades = trades;
  digests = record { orders = digest_of orders; trades = digest_of trades };
}

-- what a command leaves of two logs that have these bytes and digests
abbrev pub IsTurnOfLogs : DigestedLogs → List KeptCase → FilingRequest → FilingTurn → Type 0
IsTurnOfLogs given kept request turn =
    OfLogs (IsTurnOfRecords given.digests kept request.label request.command turn)
    (IsBadTurn kept turn)
    (log_in request.logs.orders_form given.orders) (log_in request.logs.trades_form given.trades)

-- What a command leaves, of the logs under its names. The trade log is needed only where the order
-- log is good; the digests are those of the whole bytes of both.
pub record IsFilingTurn (logs : Which → List ℕ → Option (List ℕ)) (kept : List KeptCase)
    (request : FilingRequest) (turn : FilingTurn) : Type 0 where
  pub orders : List ℕ
  pub trades : List ℕ
  pub has_orders : logs Orders request.logs.orders ≡ Some orders
  pub has_trades : IsOk (records_of_order_log request.logs.orders_form orders)
      → logs Trades request.logs.trades ≡ Some trades
  pub is : IsTurnOfLogs (digested_logs orders trades) kept request turn
