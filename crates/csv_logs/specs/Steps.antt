-- What the private functions of a feed say of one line, and of a piece that is taken line by line.
use Rattle.std.specs.Prelude.{◌≡◌, ℕ, zero, suc, Bool, true, false, ◌+◌, ◌≤◌, Option, Some, None, Result, Ok, Err, List, [], ◌∷◌, ◌++◌, length, drop, if◌then◌else◌}
use Rattle.std.specs.Option.{option_to_list}
use Rattle.audit_base.specs.declared.faults.Reason.{Reason}
use Rattle.audit_base.specs.declared.faults.Reason.TheVariants as reason
use Rattle.audit_base.specs.declared.faults.BadPlace.{BadPlace}
use Rattle.log_source.specs.Handing.{HandsOnMore}
use Rattle.log_source.specs.Sources.{longest_read}
use Rattle.csv_logs.specs.declared.feeds.CsvFeed.{CsvFeed}
use Rattle.csv_logs.specs.Columns.{RowMeaning, Row}
use Rattle.csv_logs.specs.Feeds.{HasNoBadLine, IsCsvFeedOf, HasCsvFeedFields, TakenRecords, TakenRecordsBy}
use Rattle.csv_logs.specs.Lines.{Line, mark_size, without_cr}
use Rattle.csv_logs.specs.Logs.{meaning_of_fields, is_header, line_meaning, same_fields}

-- the line that starts at an offset: the first one loses the mark
abbrev pub line_at : ℕ → List ℕ → Line
line_at zero line =
    record { start = mark_size line; text = without_cr (drop (mark_size line) line) }
line_at (suc start) line = record { start = suc start; text = without_cr line }

-- what a line says: a record, or nothing, as the header; or the first test that it fails
abbrev pub Says : Type 0 → Type 0
Says R = Result (Option R) Reason

-- what becomes of a line: it is good, or fails this test
abbrev pub LineResult : Type 0
LineResult = Result (Unit {0}) Reason

-- what the fields of a record's line say: the record, or the first test that they fail
abbrev pub entry_says : {R : Type 0} → Result R Reason → Says R
entry_says (Ok entry) = Ok (Some entry)
entry_says (Err why) = Err why

-- what the first line that is not empty says: nothing, where it is the header
abbrev pub header_says : {R : Type 0} → Bool → Says R
header_says test = if test then Ok None else Err reason.Header

-- what the fields of a line say, where the header has come or is to come
abbrev pub fields_say : {R : Type 0} → Row → RowMeaning R → Bool → Row → Says R
fields_say names meaning true fields = entry_says (meaning_of_fields meaning fields)
fields_say names meaning false fields = header_says (same_fields fields names)

-- what a line that is not empty says: nothing but the header as the first one, then a record; or
-- the first test that it fails
abbrev pub line_says : {R : Type 0} → Row → RowMeaning R → Bool → List ℕ → Says R
line_says names meaning true text = entry_says (line_meaning meaning text)
line_says names meaning false text = header_says (is_header names text)

-- Fields that say this were taken: a record that they mean was handed on, and the result is the
-- first test that they fail, if any.
abbrev pub TakesFields : {R : Type 0} → Says R → TakenRecords R → TakenRecords R → LineResult
    → Type 0
TakesFields (Ok new) before after outcome =
    HandsOnMore before after (option_to_list new) × (outcome ≡ Ok tt)
TakesFields (Err why) before after outcome = HandsOnMore before after [] × (outcome ≡ Err why)

-- the feed has gone past a line of `size` bytes that starts at `start`, whose result was this
abbrev pub MovesPastLine : {R : Type 0} → LineResult → ℕ → ℕ → TakenRecords R → ℕ → ℕ → Bool
    → Option BadPlace → Type 0
MovesPastLine (Ok done) start size has_taken offset offset' header' bad' =
    (offset' ≡ offset + size) × (header' ≡ true) × (bad' ≡ None)
MovesPastLine (Err why) start size has_taken offset offset' header' bad' =
    (entries : List _) → has_taken entries
    → bad' ≡ Some (record { place = length entries + 1; offset = start; reason = why })

-- what stood for a log with a line that has not ended stands for it with that line ended
abbrev pub EndsLine : {R : Type 0} → Row → RowMeaning R → TakenRecords R → List ℕ → ℕ → Bool
    → TakenRecords R → List ℕ → ℕ → Bool → Option BadPlace → Type 0
EndsLine names meaning before line offset header after rest' offset' header' bad' =
    (entries : List _) (log : List ℕ) → before entries
    → HasNoBadLine names meaning entries line offset header log
    → HasCsvFeedFields after names meaning rest' offset' header' bad' (log ++ 10 ∷ [])

-- Some log that ends with this line, not ended, is no longer than a log that is read may be.
pub record HasLine {R : Type 0} (names : Row) (meaning : RowMeaning R) (has_taken : TakenRecords R)
    (line : List ℕ) (offset : ℕ) (header : Bool) : Type 0 where
  pub entries : List R
  pub has : has_taken entries
  pub log : List ℕ
  pub stands : HasNoBadLine names meaning entries line offset header log
  pub room : length log ≤ longest_read

-- Some log that ends with this line, not ended, is with the line's LF and the text after it no
-- longer than a log that is read may be.
pub record HasLines {R : Type 0} (names : Row) (meaning : RowMeaning R) (has_taken : TakenRecords R)
    (line : List ℕ) (offset : ℕ) (header : Bool) (text : List ℕ) : Type 0 where
  pub entries : List R
  pub has : has_taken entries
  pub log : List ℕ
  pub stands : HasNoBadLine names meaning entries line offset header log
  pub room : length log + length (10 ∷ text) ≤ longest_read

-- What stood for a log with a line that has not ended stands for it with that line ended, and
-- with the text after it up to what is left of that.
pub record EndsLines {R : Type 0} (names : Row) (meaning : RowMeaning R) (before : TakenRecords R)
    (line : List ℕ) (offset : ℕ) (header : Bool) (new : List ℕ → Type 0) (text left : List ℕ)
    : Type 0 where
  pub done : List ℕ
  pub split : text ≡ done ++ left
  pub stands : (entries : List R) (log : List ℕ) → before entries
      → HasNoBadLine names meaning entries line offset header log → new (log ++ 10 ∷ done)

-- A piece was taken up to what is left of it, and the feed stands for as much more.
pub record TakesPiece (old new : List ℕ → Type 0) (piece left : List ℕ) : Type 0 where
  pub done : List ℕ
  pub split : piece ≡ done ++ left
  pub stands : (log : List ℕ) → old log → new (log ++ done)

-- The same, said of a feed before and after, where `has_taken` is its collector's meaning.

-- the feed has gone past a line of `size` bytes that starts at `start`, whose result was this
abbrev pub FeedMovesPastLine : {K R : Type 0} → TakenRecordsBy K R → LineResult → ℕ → ℕ → CsvFeed K
    → CsvFeed K → Type 0
FeedMovesPastLine has_taken outcome start size old new =
    MovesPastLine outcome start size
    (has_taken new.entries) old.offset new.offset new.header new.bad

-- some log that the feed stands for, ended with this line in place of its rest, is no longer than
-- a log that is read may be
abbrev pub FeedHasLine : {K R : Type 0} → TakenRecordsBy K R → Row → RowMeaning R
    → CsvFeed K → List ℕ → Type 0
FeedHasLine has_taken names meaning feed line =
    HasLine names meaning (has_taken feed.entries) line feed.offset feed.header

-- the feed has taken the end of this line, and keeps this rest
abbrev pub FeedEndsLine : {K R : Type 0} → TakenRecordsBy K R → Row → RowMeaning R → CsvFeed K
    → CsvFeed K → List ℕ → List ℕ → Type 0
FeedEndsLine has_taken names meaning old new line rest =
    EndsLine names meaning (has_taken old.entries) line old.offset old.header
    (has_taken new.entries) rest new.offset new.header new.bad

-- some log that the feed stands for, ended with this line in place of its rest and followed by
-- this text, is no longer than a log that is read may be
abbrev pub FeedHasLines : {K R : Type 0} → TakenRecordsBy K R → Row → RowMeaning R
    → CsvFeed K → List ℕ → List ℕ → Type 0
FeedHasLines has_taken names meaning feed line text =
    HasLines names meaning (has_taken feed.entries) line feed.offset feed.header text

-- the feed has taken the end of this line and the text after it up to what is left
abbrev pub FeedEndsLines : {K R : Type 0} → TakenRecordsBy K R → Row → RowMeaning R → CsvFeed K
    → CsvFeed K → List ℕ → List ℕ → List ℕ → Type 0
FeedEndsLines has_taken names meaning old new line text left =
    EndsLines names meaning (has_taken old.entries) line old.offset old.header
    (IsCsvFeedOf has_taken names meaning new) text left

-- the feed has taken a piece up to what is left of it
abbrev pub FeedTakesPiece : {K R : Type 0} → TakenRecordsBy K R → Row → RowMeaning R → CsvFeed K
    → CsvFeed K → List ℕ → List ℕ → Type 0
FeedTakesPiece has_taken names meaning old new =
    TakesPiece (IsCsvFeedOf has_taken names meaning old) (IsCsvFeedOf has_taken names meaning new)

-- nothing of the feed but its rest has changed
abbrev pub KeepsAllButRest : {K : Type 0} → CsvFeed K → CsvFeed K → Type 0
KeepsAllButRest old new =
    (new.entries ≡ old.entries) × (new.offset ≡ old.offset) × (new.header ≡ old.header)
    × (new.bad ≡ old.bad)
