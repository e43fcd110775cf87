-- A log that was read, and what is told of it or why nothing is.
use Rattle.std.proofs.Common.{◌≡◌, ap, refl, sym, ℕ, List, Result, Ok, Err}
use Rattle.std.specs.Prelude.{MatchResult}
use Rattle.audit_base.specs.declared.faults.BadPlace.{BadPlace}
use Rattle.audit_base.specs.declared.faults.LogFault.{LogFault}
use Rattle.audit_base.specs.declared.faults.LogFault.TheVariants as fault
use Rattle.audit_base.specs.declared.terms.Which.{Which}
use Rattle.audit_base.specs.Moments.{Moment}
use Rattle.csv_logs.specs.Feeds.{HasLogRecords, IsLogFaultOf}
use Rattle.fix_messages.specs.Bodies.{MessageMeaning}
use Rattle.fix_messages.specs.Feeds as fix
use Rattle.log_contents.specs.declared.contents.Contents.{Contents}
use Rattle.log_contents.specs.declared.summaries.Summary.{Summary}
use Rattle.log_contents.specs.Contents.{HasCsvRecords, HasKinds, HasRecords}
use Rattle.log_contents.specs.Kinds.{kinds_of_messages}
use Rattle.log_contents.specs.MessageFeeds.{HasContents}
use Rattle.log_contents.specs.Summaries.{IsSummaryOf, log_items}
use Rattle.log_verdict.specs.declared.reading.ReadingFault.{ReadingFault}
use Rattle.log_verdict.specs.declared.reading.ReadingFault.TheVariants as unread
use Rattle.log_verdict.specs.Collecting.{unread_of_log, IsUnread}
use Rattle.log_verdict.specs.Steps.{Reading, IsRead, step_of}
use Rattle.log_contents.specs.DayItems.{csv_items, fix_items}
use Rattle.log_contents.specs.DayReading.{HasSummary}

-- what a summary tells, whatever it was made of
abbrev Sums : {R : Type 0} → (R → List ℕ) → (R → Moment) → Contents R → Summary → Type 0
Sums {R} symbol_of time_of contents summary = (kinds : List (List ℕ)) (entries : List R) → HasKinds contents kinds → HasRecords symbol_of time_of contents entries → IsSummaryOf (log_items symbol_of time_of kinds entries) summary

-- of a good CSV log
pub csv-summary : {R : Type 0} (symbol_of : R → List ℕ) (time_of : R → Moment) (kind_of : R → List ℕ) (said : Result (List R) BadPlace) (contents : Contents R) (summary : Summary)
    → HasLogRecords (HasCsvRecords symbol_of time_of kind_of contents) said → Sums symbol_of time_of contents summary → HasSummary (csv_items symbol_of time_of kind_of said) summary
csv-summary symbol_of time_of kind_of said contents summary has sums =
    rw has.reads (record { items = _; has = refl; is = sums _ has.entries has.has.kinds has.has.records })

-- of a good FIX log
pub fix-summary : {R : Type 0} (symbol_of : R → List ℕ) (time_of : R → Moment) (meaning : MessageMeaning R) (log : List ℕ) (said : Result (List R) BadPlace) (contents : Contents R) (summary : Summary)
    → fix.HasMessageRecords (HasRecords symbol_of time_of contents) said → fix.HasMessageRecords (HasKinds contents) (kinds_of_messages meaning log)
    → Sums symbol_of time_of contents summary → HasSummary (fix_items symbol_of time_of said (kinds_of_messages meaning log)) summary
fix-summary symbol_of time_of meaning log said contents summary records kinds sums =
    rw (records.reads, kinds.reads) (record { items = _; has = refl; is = sums kinds.entries records.entries kinds.has records.has })

-- a CSV log that is not read into records
pub csv-unread : {R : Type 0} (meaning : List ℕ → Result (List R) BadPlace) (r : Reading) (log : Which) (name bytes : List ℕ) (why : LogFault) → IsRead r (step_of r log name) bytes
    → IsLogFaultOf (meaning bytes) why → IsUnread meaning r log name (unread_of_log why)
csv-unread meaning r log name bytes (fault.Bad bad) read is = record { bytes = bytes; read = read; holds = is }
csv-unread meaning r log name bytes fault.Memory read is = tt

-- the same of a FIX log
pub fix-unread : {R : Type 0} (meaning : List ℕ → Result (List R) BadPlace) (r : Reading) (log : Which) (name bytes : List ℕ) (why : LogFault) → IsRead r (step_of r log name) bytes
    → fix.IsFixLogFaultOf (meaning bytes) why → IsUnread meaning r log name (unread_of_log why)
fix-unread meaning r log name bytes (fault.Bad bad) read is = record { bytes = bytes; read = read; holds = is }
fix-unread meaning r log name bytes fault.Memory read is = tt

-- a log that is not read by what it says is not read by what follows of it
pub unread-on : {R T : Type 0} (meaning : List ℕ → Result R BadPlace) (other : List ℕ → Result T BadPlace) (r : Reading) (log : Which) (name : List ℕ) (why : ReadingFault)
    → ((bytes : List ℕ) (bad : BadPlace) → meaning bytes ≡ Err bad → other bytes ≡ Err bad) → IsUnread meaning r log name why → IsUnread other r log name why
unread-on meaning other r log name (unread.Bad bad) on is = record { bytes = is.bytes; read = is.read; holds = on is.bytes bad is.holds }
unread-on meaning other r log name unread.ReadFault on is = is
unread-on meaning other r log name unread.TooLong on is = is
unread-on meaning other r log name unread.Memory on is = tt
