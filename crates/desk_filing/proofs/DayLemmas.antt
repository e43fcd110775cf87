-- What a day of two logs that were read comes to.
use Rattle.std.proofs.Common.{◌≡◌, ◌∙◌, sym, ap, ap₂, subst, refl, ◌⊎◌, ⊎_elim, ℕ, Bool, true, List, Option, Some, Result, Ok, Err}
use Rattle.std.specs.Prelude.{option_map, IsOkAnd}
use Rattle.std.proofs.lemmas.Option.{same_Some}
use Rattle.audit_base.specs.declared.faults.BadPlace.{BadPlace}
use Rattle.audit_base.specs.declared.findings.Finding.{Finding}
use Rattle.audit_base.specs.declared.records.OrderRecord.{OrderRecord}
use Rattle.audit_base.specs.declared.records.TradeRecord.{TradeRecord}
use Rattle.audit_base.specs.declared.terms.Rule.{Rule}
use Rattle.audit_base.specs.declared.terms.Which.{Which}
use Rattle.audit_base.specs.declared.terms.Which.TheVariants.{Orders, Trades}
use Rattle.audit_report.specs.declared.verdicts.Verdict.{Verdict}
use Rattle.audit_report.specs.declared.verdicts.Verdict.TheVariants as verdict
use Rattle.case_run.specs.declared.halts.Halt.{Halt}
use Rattle.case_run.specs.Turns.{EndsWithinOrHalts}
use Rattle.case_run.specs.declared.statuses.CaseStatus.TheVariants as status
use Rattle.day_logs.specs.DayBeforeRule.{IsDayBeforeRule}
use Rattle.day_logs.specs.declared.before_rule.DayBeforeRule.{DayBeforeRule}
use Rattle.day_logs.specs.declared.before_rule.DayBeforeRule.TheVariants as before_rule
use Rattle.day_symbols.specs.Shares.{whole_day}
use Rattle.day_records.specs.DayTrades.{HasTradesOf}
use Rattle.day_records.specs.declared.day_trades.DayRecords.{DayRecords}
use Rattle.desk_words.specs.declared.requests.NamedLogs.{NamedLogs}
use Rattle.log_digests.specs.declared.digests.LogDigests.{LogDigests}
use Rattle.digest_keeper.specs.declared.digested.KeptCase.{KeptCase}
use Rattle.desk_filing.specs.Causes.{ReadsDigestedLogs, ReadsLogsFor}
use Rattle.desk_filing.specs.DigestedVerdicts.{AreDigestsOfGiven}
use Rattle.desk_filing.specs.Days.{JudgesDay, JudgesGiven, JudgesWithout, TellsUnpaired}
use Rattle.desk_filing.specs.Judging.{TellsBadPlace}
use Rattle.desk_filing.specs.Steps.{JudgesLogs, NamesLogs, ReadsJudged, ReadsBadPlace, ReadsRecords, ReadsRefusal}
use Rattle.desk_filing.specs.Turns.{FilesDayOrNone, FilingTurn, IsTurnOfLogs, IsTurnOfRecords, cases_of_day, day_turn, filed_turn, symbols_of_whole_day, unfiled_turn}
use Rattle.case_run.specs.declared.answers.CaseAnswer.{CaseAnswer}
use Rattle.desk_filing.specs.declared.answers.FilingOutcome.{FilingOutcome}
use Rattle.desk_filing.specs.declared.answers.FilingOutcome.TheVariants as judged
use Rattle.desk_filing.specs.declared.requests.FilingCommand.{FilingCommand}
use Rattle.desk_filing.specs.declared.requests.FilingCommand.TheVariants as command
use Rattle.desk_filing.specs.declared.requests.FilingRequest.{FilingRequest}
use Rattle.desk_filing.proofs.LogLemmas.{logs_of_records, reads_either, reads_of_records, stops_reading, turn_of_records}
use Rattle.desk_filing.proofs.WritingLemmas.{ends_stopped}
use Rattle.desk_filing.proofs.JudgeLemmas.{refuses_bad}
use Rattle.log_digests.specs.Digests.{digest_of}
use Rattle.log_source.specs.declared.shelf.Shelf.{Ghosts as Shelf}
use Rattle.log_verdict.specs.Steps.{KeepsShelfLogs, Reading, reading_by}
use Rattle.log_verdict.specs.declared.sources.Source.{Source}
use Rattle.log_verdict.specs.declared.stops.NoRecords.{NoRecords}
use Rattle.log_verdict.specs.declared.stops.NoRecords.TheVariants as norecords
use Rattle.log_verdict.specs.declared.stops.Stop.TheVariants as stop
use Rattle.log_verdict.specs.BothLogs.{IsUnreadOfTwoLogs, ReadsLogs, ReadsWithin}
use Rattle.record_verdict.specs.Scopes.{admission_of}

-- the digests of both logs are those of what their slots gave
digests_of_both : (r : Reading) (digests : LogDigests) → ((bytes : List ℕ) → (r.after Orders).gave bytes ≡ true → digests.orders ≡ digest_of bytes) → ((bytes : List ℕ) → (r.after Trades).gave bytes ≡ true → digests.trades ≡ digest_of bytes)
    → AreDigestsOfGiven r digests
digests_of_both r digests first second Orders = first
digests_of_both r digests first second Trades = second

refused_not_done : status.Refused ≡ status.Done → ⊥
refused_not_done e = cc

module _ (r : Reading) (request : FilingRequest) (orders trades : Source) (names : NamesLogs request.logs orders trades) (the_rule : Rule) (asked : request.command ≡ command.FileAll the_rule) where
  abbrev On : DayBeforeRule → List OrderRecord → Result (List TradeRecord) Finding → Type 0
  On given entries paired = IsDayBeforeRule whole_day (admission_of the_rule) entries paired given

  abbrev AreRead : DayBeforeRule → Type 0
  AreRead given = ReadsLogs r orders trades (On given) (λ log bad. ⊥)

  either : (given : DayBeforeRule) → AreRead given → ReadsRecords r request.logs (On given) ⊎ ReadsBadPlace r request.logs (λ log bad. ⊥)
  either given reads = reads_either r request.logs orders trades names (On given) (λ log bad. ⊥) reads

  -- what the command leaves of records that are paired so
  turns : (given : DayBeforeRule) (reads : ReadsRecords r request.logs (On given)) (digests : LogDigests) (kept : List KeptCase) (turn : FilingTurn) (paired : Result (List TradeRecord) Finding) → reads.paired ≡ paired
      → FilesDayOrNone digests kept request.label the_rule reads.entries paired turn → IsTurnOfLogs (logs_of_records r request.logs (On given) reads digests) kept request turn
  turns given reads digests kept turn paired same is =
      turn_of_records r request.logs (On given) reads digests kept request refl turn
      (subst (λ (c : FilingCommand). IsTurnOfRecords digests kept request.label c turn reads.entries reads.paired) (sym asked)
      (subst (λ (p : Result (List TradeRecord) Finding). FilesDayOrNone digests kept request.label the_rule reads.entries p turn) (sym same) is))

  -- the logs were read so, with the digests that were taken
  digested : (given : DayBeforeRule) (reads : ReadsRecords r request.logs (On given)) (digests : LogDigests) → AreDigestsOfGiven r digests → ReadsDigestedLogs r request.logs (logs_of_records r request.logs (On given) reads digests)
  digested given reads digests are = reads_of_records r request.logs (On given) reads digests are

  module _ (ended : DayRecords) (reads : ReadsRecords r request.logs (On (before_rule.Read ended))) (digests : LogDigests) (are : AreDigestsOfGiven r digests) where
    -- the cases of the records that the day has
    by_records : (given : FilingOutcome) → JudgesDay request.label the_rule digests ended given → (records : List TradeRecord) → reads.paired ≡ Ok records → HasTradesOf whole_day (admission_of the_rule) reads.entries ended records → ReadsJudged r request given
    by_records (judged.Cases cases) judges records same has =
        let is = judges reads.entries records has in
        record {
          read = reads.good;
          turn = record {
            given = logs_of_records r request.logs (On (before_rule.Read ended)) reads digests;
            reads = digested (before_rule.Read ended) reads digests are;
            is = λ kept.
                turns (before_rule.Read ended) reads digests kept (filed_turn kept cases.items) (Ok records) same (record {
                  verdicts = is.verdicts;
                  are = is.are;
                  is =
                      ap (filed_turn kept) is.is.1
                      ∙ ap (λ (long : Option (List ℕ)). day_turn kept long (cases_of_day request.label the_rule digests (symbols_of_whole_day reads.entries records) is.verdicts)) (sym is.is.0);
                });
          };
        }
    by_records (judged.Refused answer) judges records same has =
        let is = judges reads.entries records has in
        record {
          read = subst (ReadsLogsFor r request.logs) (sym is.is.status_is) reads.good;
          not_done = λ e. refused_not_done (sym is.is.status_is ∙ e);
          turn = record {
            given = logs_of_records r request.logs (On (before_rule.Read ended)) reads digests;
            reads = digested (before_rule.Read ended) reads digests are;
            is = λ kept.
                turns (before_rule.Read ended) reads digests kept (unfiled_turn kept answer.status answer.text.items) (Ok records) same (record {
                  verdicts = is.verdicts;
                  are = is.are;
                  is =
                      ap₂ (unfiled_turn kept) is.is.status_is is.is.text_is
                      ∙ ap (λ (long : Option (List ℕ)). day_turn kept long (cases_of_day request.label the_rule digests (symbols_of_whole_day reads.entries records) is.verdicts)) (sym is.is.is);
                });
          };
        }

    by_paired : (given : FilingOutcome) → JudgesDay request.label the_rule digests ended given → (paired : Result (List TradeRecord) Finding) → reads.paired ≡ paired → IsOkAnd paired (HasTradesOf whole_day (admission_of the_rule) reads.entries ended) → ReadsJudged r request given
    by_paired given judges (Ok records) same has = by_records given judges records same has
    by_paired given judges (Err finding) same has = absurd has

  -- the verdicts on its symbols
  judges_read : (ended : DayRecords) (digests : LogDigests) → AreDigestsOfGiven r digests → (given : FilingOutcome) → JudgesDay request.label the_rule digests ended given
      → AreRead (before_rule.Read ended) → ReadsJudged r request given
  judges_read ended digests are given judges reads = ⊎_elim
      (λ records. by_paired ended records digests are given judges records.paired refl records.holds)
      (λ place. absurd place.holds)
      (either (before_rule.Read ended) reads)

  -- its reports do not pair
  judges_unpaired : (finding : Finding) (digests : LogDigests) → AreDigestsOfGiven r digests → (answer : CaseAnswer) → TellsUnpaired finding answer → AreRead (before_rule.Unpaired finding) → ReadsRefusal r request answer
  judges_unpaired finding digests are answer tells_finding reads = ⊎_elim
      (λ records. record {
        read = subst (ReadsLogsFor r request.logs) (sym tells_finding.status_is) records.good;
        not_done = λ e. refused_not_done (sym tells_finding.status_is ∙ e);
        turn = record {
          given = logs_of_records r request.logs (On (before_rule.Unpaired finding)) records digests;
          reads = digested (before_rule.Unpaired finding) records digests are;
          is = λ kept.
              turns (before_rule.Unpaired finding) records digests kept (unfiled_turn kept answer.status answer.text.items) (Err finding) records.holds (ap₂ (unfiled_turn kept) tells_finding.status_is tells_finding.text_is);
        };
      })
      (λ place. absurd place.holds)
      (either (before_rule.Unpaired finding) reads)

  -- what the logs come to
  judges_given : (given : DayBeforeRule) (digests : LogDigests) → AreDigestsOfGiven r digests → (made : FilingOutcome) → JudgesGiven request.label the_rule digests given made → AreRead given
      → ReadsJudged r request made
  judges_given (before_rule.Read ended) digests are made judges reads = judges_read ended digests are made judges reads
  judges_given (before_rule.Unpaired finding) digests are (judged.Cases cases) judges reads = absurd judges
  judges_given (before_rule.Unpaired finding) digests are (judged.Refused answer) judges reads = judges_unpaired finding digests are answer judges reads

  -- by the digest of each
  pub judges_digested : (given : DayBeforeRule) (digests : LogDigests) → ((bytes : List ℕ) → (r.after Orders).gave bytes ≡ true → digests.orders ≡ digest_of bytes) → ((bytes : List ℕ) → (r.after Trades).gave bytes ≡ true → digests.trades ≡ digest_of bytes)
      → (made : FilingOutcome) → JudgesGiven request.label the_rule digests given made → AreRead given → ReadsJudged r request made
  judges_digested given digests first second made judges reads = judges_given given digests (digests_of_both r digests first second) made judges reads

  -- the same of logs that were not read into records
  pub judges_without : (why : NoRecords) (result : Result FilingOutcome Halt) → JudgesWithout why result → IsUnreadOfTwoLogs r orders trades why → JudgesLogs r request result
  judges_without (norecords.Malformed log bad) (Ok (judged.Cases cases)) judges is = absurd judges
  judges_without (norecords.Malformed log bad) (Ok (judged.Refused answer)) judges is = refuses_bad r request orders trades names log bad answer judges is
  judges_without (norecords.Malformed log bad) (Err why) judges is = rw judges (stops_reading r request.logs orders trades names request refl stop.Memory tt)
  judges_without (norecords.Stopped why) result judges is = rw judges (stops_reading r request.logs orders trades names request refl why is)

-- and the slots end as they did
pub ends_without : {S : Type 0} (r : Reading) (why : NoRecords) (read : Result S NoRecords) (result : Result FilingOutcome Halt) → read ≡ Err why → ReadsWithin r read → JudgesWithout why result → EndsWithinOrHalts r result
ends_without r (norecords.Malformed log bad) read (Ok made) is within judges = rw is at within
ends_without r (norecords.Malformed log bad) read (Err why) is within judges = rw judges (rw is at within)
ends_without {S = S} r (norecords.Stopped why) read result is within judges = rw judges (ends_stopped (Option S) FilingOutcome why (rw is at within))

-- the same of two logs of a shelf
pub ends_without_at : {S T : Type 0} (orders : Source) (shelf : Shelf T) (old new : T) → KeepsShelfLogs shelf old new → (why : NoRecords) (read : Result S NoRecords) (result : Result FilingOutcome Halt) → read ≡ Err why
    → ReadsWithin (reading_by orders shelf old new) read → JudgesWithout why result → EndsWithinOrHalts (reading_by orders shelf old new) result
ends_without_at orders shelf old new keeps why read result is within judges = ends_without (reading_by orders shelf old new) why read result is within judges
