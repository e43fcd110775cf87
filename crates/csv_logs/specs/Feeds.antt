-- What a CSV feed stands for, and what it and the readers of whole logs answer.
-- The code of LF is 10.
use Rattle.std.specs.Prelude.{◌≡◌, ⊤, ℕ, Bool, true, false, ◌==◌, ◌≤◌, IsTrue, Option, Some, None, Result, Ok, Err, List, [], ◌∷◌, ◌++◌, length, drop, MatchResult}
use Rattle.std.specs.Global.{Vec}
use Rattle.std.specs.List.{list_any}
use Rattle.audit_base.specs.declared.faults.BadPlace.{BadPlace}
use Rattle.audit_base.specs.declared.faults.LogFault.{LogFault}
use Rattle.audit_base.specs.declared.faults.LogFault.TheVariants as fault
use Rattle.log_source.specs.Sources.{longest_read}
use Rattle.csv_logs.specs.declared.feeds.CsvFeed.{CsvFeed}
use Rattle.csv_logs.specs.Lines.{Line, nonempty_lines}
use Rattle.csv_logs.specs.Columns.{RowMeaning, Row}
use Rattle.csv_logs.specs.Logs.{LogResult, read_lines, read_csv_log}

-- what is said of the records that were handed on, and of those that a collector was handed
abbrev pub TakenRecords : Type 0 → Type 1
TakenRecords R = List R → Type 0

-- for each state of a collector, what is said of the records that it was handed
abbrev pub TakenRecordsBy : Type 0 → Type 0 → Type 1
TakenRecordsBy K R = K → TakenRecords R

-- the byte is a line feed
abbrev pub is_lf : ℕ → Bool
is_lf byte = byte == 10

-- bytes that are lines with their LF: there are none, or the last is an LF
abbrev pub are_whole_lines : List ℕ → Bool
are_whole_lines [] = true
are_whole_lines (byte ∷ []) = is_lf byte
are_whole_lines (byte ∷ next ∷ rest) = are_whole_lines (next ∷ rest)

-- these lines are all good, `header` says whether the header is among them,
-- and `entries` are their records
abbrev pub AreGoodLines : {R : Type 0} → Row → RowMeaning R → Bool → List R → List Line → Type 0
AreGoodLines names meaning false entries lines = (lines ≡ []) × (entries ≡ [])
AreGoodLines names meaning true entries lines = read_lines names meaning 0 lines ≡ Ok entries

-- No bad line has ended yet: `offset` is the number of bytes up to the last LF and with it, and
-- `rest` is the bytes after these.
pub record HasNoBadLine {R : Type 0} (names : Row) (meaning : RowMeaning R) (entries : List R)
    (rest : List ℕ) (offset : ℕ) (header : Bool) (log : List ℕ) : Type 0 where
  pub lines : List ℕ
  pub cut : log ≡ lines ++ rest
  pub whole : IsTrue (are_whole_lines lines)
  pub size : length lines ≡ offset
  pub unfinished : list_any is_lf rest ≡ false
  pub good : AreGoodLines names meaning header entries (nonempty_lines lines)

-- The log is bad at a line that has ended with an LF, and nothing of it is kept.
pub record StopsAtBadLine {R : Type 0} (names : Row) (meaning : RowMeaning R) (rest : List ℕ)
    (bad : BadPlace) (log : List ℕ) : Type 0 where
  pub is_bad : read_csv_log names meaning log ≡ Err bad
  pub ended : IsTrue (list_any is_lf (drop bad.offset log))
  pub nothing : rest ≡ []

-- these fields of a feed stand for this log
abbrev pub AreCsvFeedFields : {R : Type 0} → Row → RowMeaning R → List R → List ℕ → ℕ → Bool
    → Option BadPlace → List ℕ → Type 0
AreCsvFeedFields names meaning entries rest offset header None log =
    HasNoBadLine names meaning entries rest offset header log
AreCsvFeedFields names meaning entries rest offset header (Some bad) log =
    StopsAtBadLine names meaning rest bad log

-- The feed has been handed some records, and with these its fields stand for this log.
pub record HasCsvFeedFields {R : Type 0} (has_taken : TakenRecords R) (names : Row)
    (meaning : RowMeaning R) (rest : List ℕ) (offset : ℕ) (header : Bool)
    (bad : Option BadPlace) (log : List ℕ) : Type 0 where
  pub entries : List R
  pub has : has_taken entries
  pub stands : AreCsvFeedFields names meaning entries rest offset header bad log

-- the feed stands for this log; `has_taken` says what its collector has been handed
abbrev pub IsCsvFeedOf : {K R : Type 0} → TakenRecordsBy K R → Row → RowMeaning R → CsvFeed K
    → List ℕ → Type 0
IsCsvFeedOf has_taken names meaning feed log =
    HasCsvFeedFields (has_taken feed.entries) names meaning feed.rest.items feed.offset
    feed.header feed.bad log

-- The feed stands for some log that is no longer than a log that is read may be.
pub record IsCsvFeedWithinLimit {K R : Type 0} (has_taken : TakenRecordsBy K R) (names : Row)
    (meaning : RowMeaning R) (feed : CsvFeed K) : Type 0 where
  pub log : List ℕ
  pub stands : IsCsvFeedOf has_taken names meaning feed log
  pub within : length log ≤ longest_read

-- The collector has been handed exactly the records of a good log.
pub record HasLogRecords {R : Type 0} (has_taken : TakenRecords R) (reading : LogResult R)
    : Type 0 where
  pub entries : List R
  pub has : has_taken entries
  pub reads : reading ≡ Ok entries

-- why a log is not read: it is bad there, or there was too little memory
abbrev pub IsLogFaultOf : {R : Type 0} → LogResult R → LogFault → Type 0
IsLogFaultOf reading (fault.Bad bad) = reading ≡ Err bad
IsLogFaultOf reading fault.Memory = ⊤

-- what a log says is answered: a list of its records, or why there is none
abbrev pub AnswersLogRecords : {R : Type 0} → LogResult R → Result (Vec R) LogFault → Type 0
AnswersLogRecords reading result =
    MatchResult result (λ records. reading ≡ Ok records.items) (IsLogFaultOf reading)

-- the same, where the records were handed to a collector
abbrev pub AnswersCollected : {K R : Type 0} → TakenRecordsBy K R → LogResult R
    → Result K LogFault → Type 0
AnswersCollected has_taken reading result =
    MatchResult result (λ collector. HasLogRecords (has_taken collector) reading)
    (IsLogFaultOf reading)
