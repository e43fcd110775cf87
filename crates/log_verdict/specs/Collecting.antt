-- Handing the records of one log to a collector: what is known of the log and of the collector
-- afterwards, or why it was not done.
use Rattle.std.specs.Prelude.{◌≡◌, ◌≤◌, ℕ, List, Result, Ok, Err, MatchResult}
use Rattle.csv_logs.specs.Feeds.{HasLogRecords}
use Rattle.audit_base.specs.declared.terms.Which.{Which}
use Rattle.audit_base.specs.declared.faults.BadPlace.{BadPlace}
use Rattle.audit_base.specs.declared.faults.LogFault.{LogFault}
use Rattle.audit_base.specs.declared.faults.LogFault.TheVariants as fault
use Rattle.audit_base.specs.declared.findings.Finding.{Finding}
use Rattle.log_source.specs.Collectors.{HasPlace}
use Rattle.log_source.specs.Sources.{other_log}
use Rattle.log_source.specs.declared.take.TakeFault.{TakeFault}
use Rattle.log_source.specs.declared.take.TakeFault.TheVariants as take
use Rattle.log_verdict.specs.declared.reading.ReadingFault.{ReadingFault}
use Rattle.log_verdict.specs.declared.reading.ReadingFault.TheVariants as unread
use Rattle.log_verdict.specs.declared.reading.CollectedTrades.{CollectedTrades}
use Rattle.log_verdict.specs.declared.reading.CollectedTrades.TheVariants as collected
use Rattle.log_verdict.specs.Steps.{Reading, IsReadFault, IsReadAs, IsTooLong, step_of}

-- Only this slot was touched, and its faults did not fall.
pub record TouchesOnly (r : Reading) (log : Which) : Type 0 where
  pub other : r.after (other_log log) ≡ r.before (other_log log)
  pub later : (r.before log).faults ≤ (r.after log).faults

-- why a log was not read into records: its first bad place, a fault,
-- its length, or that memory ran out
abbrev pub IsUnread : {R : Type 0} → (List ℕ → Result R BadPlace) → Reading → Which → List ℕ
    → ReadingFault → Type 0
IsUnread meaning r log name (unread.Bad bad) =
    IsReadAs r log name (λ bytes. meaning bytes ≡ Err bad)
IsUnread meaning r log name unread.ReadFault = IsReadFault r (step_of r log name)
IsUnread meaning r log name unread.TooLong = IsTooLong r (step_of r log name)
IsUnread meaning r log name unread.Memory = Unit {0}

-- what came of handing a log to a collector: the collector, which has been handed exactly the
-- records that the bytes mean, or why the log was not read into records
abbrev pub CollectsLog : {K R : Type 0} → (K → List R → Type 0)
    → (List ℕ → Result (List R) BadPlace) → Reading → Which → List ℕ → Result K ReadingFault
    → Type 0
CollectsLog has_taken meaning r log name result =
    MatchResult result
    (λ collector. IsReadAs r log name
    (λ bytes. HasLogRecords (has_taken collector) (meaning bytes)))
    (IsUnread meaning r log name)

-- The collector has been handed exactly these trades, and the log says that they are its own.
pub record HasLogTrades {R : Type 0} (has_taken : List R → Type 0)
    (said : Result (Result (List R) Finding) BadPlace) : Type 0 where
  pub trades : List R
  pub has : has_taken trades
  pub says : said ≡ Ok (Ok trades)

-- what came of the trades of a log: a collector that has been handed exactly them, or finding 4 in
-- their place
abbrev pub HasCollected : {K R : Type 0} → (K → List R → Type 0) → CollectedTrades K
    → Result (Result (List R) Finding) BadPlace → Type 0
HasCollected has_taken (collected.Trades collector) said =
    HasLogTrades (has_taken collector) said
HasCollected has_taken (collected.Alone finding) said = said ≡ Ok (Err finding)

-- a collector that is there has been handed fewer trades than there are places
abbrev pub HasFewCollected : {K R : Type 0} → (K → List R → Type 0) → CollectedTrades K → Type 0
HasFewCollected has_taken (collected.Trades collector) = HasPlace has_taken collector
HasFewCollected has_taken (collected.Alone finding) = Unit {0}

-- what came of handing the trades of a log to a collector: the collector, or finding 4, as the
-- bytes say; or why the log was not read into records
abbrev pub CollectsTrades : {K R : Type 0} → (K → List R → Type 0)
    → (List ℕ → Result (Result (List R) Finding) BadPlace) → Reading → Which → List ℕ
    → Result (CollectedTrades K) ReadingFault → Type 0
CollectsTrades has_taken meaning r log name result =
    MatchResult result
    (λ kept. IsReadAs r log name (λ bytes. HasCollected has_taken kept (meaning bytes)))
    (IsUnread meaning r log name)

-- why a log was not read, by why it was not taken whole
abbrev pub unread_of_take : TakeFault → ReadingFault
unread_of_take take.Fault = unread.ReadFault
unread_of_take take.TooLong = unread.TooLong
unread_of_take take.Memory = unread.Memory

-- why a log that was taken was not read
abbrev pub unread_of_log : LogFault → ReadingFault
unread_of_log (fault.Bad bad) = unread.Bad bad
unread_of_log fault.Memory = unread.Memory
