-- Two logs that were read through: both are in their grammar, or they are refused.
use Rattle.std.proofs.Common.{◌≡◌, refl, ⊎_elim, Option, None, Some, Result, Ok, Err}
use Rattle.std.specs.Prelude.{MatchResult}
use Rattle.case_run.specs.Turns.{EndsWithinOrHalts}
use Rattle.case_run.specs.declared.answers.CaseAnswer.{CaseAnswer}
use Rattle.case_run.specs.declared.halts.Halt.{Halt}
use Rattle.desk_filing.specs.Judging.{LooksWithout}
use Rattle.desk_filing.specs.Steps.{AnyRecords, LooksAtLogs, NamesLogs, StopsReading}
use Rattle.desk_filing.specs.declared.requests.FilingRequest.{FilingRequest}
use Rattle.desk_filing.proofs.JudgeLemmas.{refuses_bad}
use Rattle.desk_filing.proofs.LogLemmas.{reads_either, stops_reading}
use Rattle.desk_filing.proofs.WritingLemmas.{ends_stopped}
use Rattle.log_verdict.specs.BothLogs.{IsUnreadOfTwoLogs, ReadsLogs, ReadsWithin}
use Rattle.log_verdict.specs.Steps.{Reading}
use Rattle.log_verdict.specs.declared.sources.Source.{Source}
use Rattle.log_verdict.specs.declared.stops.NoRecords.{NoRecords}
use Rattle.log_verdict.specs.declared.stops.NoRecords.TheVariants as norecords
use Rattle.log_verdict.specs.declared.stops.Stop.TheVariants as stop

module _ (r : Reading) (request : FilingRequest) (orders trades : Source) (names : NamesLogs request.logs orders trades) where
  pub looks_through : ReadsLogs r orders trades AnyRecords (λ log bad. ⊥) → LooksAtLogs r request None
  looks_through reads = ⊎_elim (λ records. records) (λ place. absurd place.holds) (reads_either r request.logs orders trades names AnyRecords (λ log bad. ⊥) reads)

  pub looks_without : (why : NoRecords) (result : Result (Option CaseAnswer) Halt) → LooksWithout why result → IsUnreadOfTwoLogs r orders trades why → MatchResult result (LooksAtLogs r request) (StopsReading r request)
  looks_without (norecords.Malformed log bad) (Ok None) looks is = absurd looks
  looks_without (norecords.Malformed log bad) (Ok (Some answer)) looks is = refuses_bad r request orders trades names log bad answer looks is
  looks_without (norecords.Malformed log bad) (Err why) looks is = rw looks (stops_reading r request.logs orders trades names request refl stop.Memory tt)
  looks_without (norecords.Stopped why) result looks is = rw looks (stops_reading r request.logs orders trades names request refl why is)

-- and the slots end as they did
pub looks_within : {S : Type 0} (r : Reading) (why : NoRecords) (read : Result S NoRecords) (result : Result (Option CaseAnswer) Halt) → read ≡ Err why → ReadsWithin r read → LooksWithout why result → EndsWithinOrHalts r result
looks_within r (norecords.Malformed log bad) read (Ok found) is within looks = rw is at within
looks_within r (norecords.Malformed log bad) read (Err why) is within looks = rw looks (rw is at within)
looks_within {S = S} r (norecords.Stopped why) read result is within looks = rw looks (ends_stopped (Option S) (Option CaseAnswer) why (rw is at within))
