-- What a verdict on two logs that were read comes to.
use Rattle.std.proofs.Common.{◌≡◌, ◌∙◌, sym, ap, ap₂, subst, refl, inl, inr, ◌⊎◌, ⊎_elim, ℕ, Bool, true, false, true≢false, List, Option, None, Some, Result}
use Rattle.std.specs.Prelude.{option_map}
use Rattle.std.proofs.lemmas.Option.{same_Some}
use Rattle.audit_base.specs.declared.faults.BadPlace.{BadPlace}
use Rattle.audit_base.specs.declared.findings.Finding.{Finding}
use Rattle.audit_base.specs.declared.orders.Deal.{Deal}
use Rattle.audit_base.specs.declared.orders.Order.{Order}
use Rattle.audit_base.specs.declared.records.OrderRecord.{OrderRecord}
use Rattle.audit_base.specs.declared.records.TradeRecord.{TradeRecord}
use Rattle.audit_base.specs.declared.terms.Which.{Which}
use Rattle.audit_base.specs.declared.terms.Which.TheVariants.{Orders, Trades}
use Rattle.audit_base.specs.Histories.{order_list}
use Rattle.audit_base.specs.Trades.{deals_of_symbol}
use Rattle.audit_base.specs.Verdicts.{paired_trades}
use Rattle.audit_report.specs.Lines.{malformed_line}
use Rattle.audit_report.specs.declared.verdicts.Verdict.{Verdict}
use Rattle.audit_report.specs.declared.verdicts.Verdict.TheVariants as verdict
use Rattle.case_keeper.specs.declared.case.Case.{Case}
use Rattle.case_run.specs.declared.statuses.CaseStatus.{CaseStatus}
use Rattle.case_run.specs.declared.statuses.CaseStatus.TheVariants as status
use Rattle.log_digests.specs.declared.digests.LogDigests.{LogDigests}
use Rattle.digest_keeper.specs.declared.digested.DigestedCase.{DigestedCase}
use Rattle.digest_keeper.specs.declared.digested.KeptCase.{KeptCase}
use Rattle.desk_filing.specs.DigestedVerdicts.{AreDigestsOfGiven}
use Rattle.desk_filing.specs.declared.digested_verdicts.DigestedVerdict.{DigestedVerdict}
use Rattle.desk_filing.specs.Causes.{ReadsDigestedLogs, ReadsGoodLogs, ReadsLogsFor}
use Rattle.desk_filing.specs.Lines.{comparison_line}
use Rattle.desk_filing.specs.Judging.{IsCaseOfVerdict, IsComparedVerdict, IsJudgedVerdict, TellsAbsent, TellsBadPlace, accepts_nothing}
use Rattle.desk_filing.specs.Steps.{NamesLogs, ReadsBadPlace, ReadsCases, ReadsJudged, ReadsRecords, ReadsRefusal, TellsOfKept}
use Rattle.desk_filing.specs.Turns.{ChecksCase, FilesUnlessAbsent, FilingTurn, IsTurnOfLogs, IsTurnOfRecords, comparison_status, filed_turn, unfiled_turn}
use Rattle.case_run.specs.declared.answers.CaseAnswer.{CaseAnswer}
use Rattle.desk_filing.specs.declared.answers.FilingOutcome.{FilingOutcome}
use Rattle.desk_filing.specs.declared.answers.FilingOutcome.TheVariants as judged
use Rattle.desk_filing.specs.declared.differences.CaseDifference.{CaseDifference}
use Rattle.desk_filing.specs.declared.requests.FilingCommand.{FilingCommand}
use Rattle.desk_filing.specs.declared.requests.FilingCommand.TheVariants as command
use Rattle.desk_filing.specs.declared.requests.FilingRequest.{FilingRequest}
use Rattle.desk_filing.proofs.LogLemmas.{logs_of_records, reads_either, reads_of_records, turn_of_records}
use Rattle.log_digests.specs.Digests.{digest_of}
use Rattle.log_verdict.specs.BothLogs.{ReadsLogs, ReadsVerdict}
use Rattle.log_verdict.specs.Steps.{Reading}
use Rattle.log_verdict.specs.declared.sources.Source.{Source}
use Rattle.record_verdict.specs.declared.questions.Question.{Question}
use Rattle.record_verdict.specs.RecordVerdicts.{question, IsRecordVerdict, IsOutcomeByFinding}
use Rattle.symbol_offences.specs.Laws.{AbsentHasNothing, FoundIsPresent}
use Rattle.symbol_offences.specs.OffenceAnswers.{is_absent}
use Rattle.desk_filing.proofs.AbsenceLemmas.{absent-accepted}

-- a verdict on records is no bad place
pub judged_sound : (q : Question) (entries : List OrderRecord) (paired : Result (List TradeRecord) Finding) (log : Which) (bad : BadPlace) → IsRecordVerdict q entries paired (verdict.Malformed log bad) → ⊥
judged_sound q entries paired log bad is =
    by_found (order_list q.symbol entries) (deals_of_symbol (order_list q.symbol entries) q.symbol (paired_trades paired)) is.found is.outcome
  where
    by_found : (orders : List Order) (deals : List Deal) (found : Option Finding) → IsOutcomeByFinding q orders deals found (verdict.Malformed log bad) → ⊥
    by_found orders deals None is = absurd is
    by_found orders deals (Some finding) is = cc

-- what was read of the logs, by the bad place that is answered
pub refuses : (r : Reading) (request : FilingRequest) (v : Verdict) (answer : CaseAnswer) → TellsBadPlace v answer → ReadsBadPlace r request.logs (λ log bad. v ≡ verdict.Malformed log bad) → ReadsRefusal r request answer
refuses r request v answer bad_tells reads =
    let line : malformed_line reads.log reads.bad ≡ answer.text.items = same_line reads.log bad_tells.log reads.bad bad_tells.bad (sym reads.holds ∙ bad_tells.is) ∙ sym bad_tells.text_is in
    record {
      read = subst (ReadsLogsFor r request.logs) (sym bad_tells.status_is) reads.read;
      not_done = λ e. not_done (sym bad_tells.status_is ∙ e);
      turn = record {
        given = reads.turn.given;
        reads = reads.turn.reads;
        is = λ kept.
            subst (λ (s : CaseStatus). IsTurnOfLogs reads.turn.given kept request (unfiled_turn kept s answer.text.items)) (sym bad_tells.status_is)
            (subst (λ (t : List ℕ). IsTurnOfLogs reads.turn.given kept request (unfiled_turn kept status.Malformed t)) line (reads.turn.is kept request refl));
      };
    }
  where
    not_done : status.Malformed ≡ status.Done → ⊥
    not_done e = cc

    same_line : (log log' : Which) (bad bad' : BadPlace) → verdict.Malformed log bad ≡ verdict.Malformed log' bad' → malformed_line log bad ≡ malformed_line log' bad'
    same_line log log' bad bad' e = cc

-- a log is not in its grammar
pub refuses_bad : (r : Reading) (request : FilingRequest) (orders trades : Source) (names : NamesLogs request.logs orders trades) (log : Which) (bad : BadPlace) (answer : CaseAnswer) → TellsBadPlace (verdict.Malformed log bad) answer
    → ReadsLogs r orders trades (λ entries paired. ⊥) (λ which place. (which ≡ log) × (place ≡ bad)) → ReadsRefusal r request answer
refuses_bad r request orders trades names log bad answer tells_bad reads = ⊎_elim
    (λ records. absurd records.holds)
    (λ place. refuses r request (verdict.Malformed log bad) answer tells_bad (record {
      log = place.log;
      bad = place.bad;
      holds = ap₂ {C = Verdict} (λ l b. verdict.Malformed l b) (sym place.holds.0) (sym place.holds.1);
      read = place.read;
      turn = place.turn;
    }))
    (reads_either r request.logs orders trades names (λ entries paired. ⊥) (λ which place. (which ≡ log) × (place ≡ bad)) reads)

module _ (r : Reading) (request : FilingRequest) (orders trades : Source) (names : NamesLogs request.logs orders trades) (q : Question) where
  abbrev Bad : Verdict → Which → BadPlace → Type 0
  Bad v log bad = v ≡ verdict.Malformed log bad

  abbrev On : Verdict → List OrderRecord → Result (List TradeRecord) Finding → Type 0
  On v entries paired = IsRecordVerdict q entries paired v

  either : (v : Verdict) → ReadsVerdict r q orders trades v → ReadsRecords r request.logs (On v) ⊎ ReadsBadPlace r request.logs (Bad v)
  either v reads = reads_either r request.logs orders trades names (On v) (Bad v) reads

  no_bad : (v : Verdict) → ReadsRecords r request.logs (On v) → (log : Which) (bad : BadPlace) → v ≡ verdict.Malformed log bad → ⊥
  no_bad v reads log bad e = judged_sound q reads.entries reads.paired log bad (subst (λ (w : Verdict). IsRecordVerdict q reads.entries reads.paired w) e reads.holds)

  -- the logs were read so, with the digests of the verdict
  digested : (made : DigestedVerdict) (reads : ReadsRecords r request.logs (On made.verdict)) → AreDigestsOfGiven r made.digests
      → ReadsDigestedLogs r request.logs (logs_of_records r request.logs (On made.verdict) reads made.digests)
  digested made reads are = reads_of_records r request.logs (On made.verdict) reads made.digests are

  module _ (table : q.table ≡ false) where
    -- the same question, without a table
    plain : (entries : List OrderRecord) (paired : Result (List TradeRecord) Finding) (v : Verdict) → IsRecordVerdict q entries paired v → IsRecordVerdict (question q.rule q.symbol false) entries paired v
    plain entries paired v is = subst (λ (t : Bool). IsRecordVerdict (question q.rule q.symbol t) entries paired v) table is

    -- `file`: a case, or a refusal
    module _ (found_present : FoundIsPresent) (sound_absent : AbsentHasNothing) (asked : request.command ≡ command.File q.rule q.symbol) (made : DigestedVerdict) (reads : ReadsVerdict r q orders trades made.verdict) (are : AreDigestsOfGiven r made.digests) where
      -- of records that say whether the symbol is absent
      files : (records : ReadsRecords r request.logs (On made.verdict)) (absent : Bool) → accepts_nothing made.verdict ≡ absent → (kept : List KeptCase) (turn : FilingTurn)
          → FilesUnlessAbsent absent made.digests kept request.label q.rule q.symbol records.entries records.paired turn → IsTurnOfLogs (logs_of_records r request.logs (On made.verdict) records made.digests) kept request turn
      files records absent is kept turn says =
          let same : absent ≡ is_absent q.symbol records.entries records.paired = sym is ∙ absent-accepted found_present sound_absent q records.entries records.paired made.verdict records.holds in
          turn_of_records r request.logs (On made.verdict) records made.digests kept request refl turn
          (subst (λ (c : FilingCommand). IsTurnOfRecords made.digests kept request.label c turn records.entries records.paired) (sym asked)
          (subst (λ (b : Bool). FilesUnlessAbsent b made.digests kept request.label q.rule q.symbol records.entries records.paired turn) same says))

      one-filed : (cases : List DigestedCase) → IsCaseOfVerdict made.digests request.label q made.verdict cases → ReadsCases r request cases
      one-filed cases is = ⊎_elim
          (λ records. record {
            read = records.good;
            turn = record {
              given = logs_of_records r request.logs (On made.verdict) records made.digests;
              reads = digested made records are;
              is = λ kept. files records false is.something kept (filed_turn kept cases)
                  (record {
                    the_verdict = made.verdict;
                    on = plain records.entries records.paired made.verdict records.holds;
                    is = ap (filed_turn kept) is.one;
                  });
            };
          })
          (λ place. absurd (is.no_bad_place place.log place.bad place.holds))
          (either made.verdict reads)

      none-filed : (answer : CaseAnswer) → TellsAbsent q.symbol made.verdict answer → ReadsRefusal r request answer
      none-filed answer is = ⊎_elim
          (λ records. record {
            read = subst (ReadsLogsFor r request.logs) (sym is.status_is) records.good;
            not_done = λ e. refused (sym is.status_is ∙ e);
            turn = record {
              given = logs_of_records r request.logs (On made.verdict) records made.digests;
              reads = digested made records are;
              is = λ kept.
                  files records true is.nothing kept (unfiled_turn kept answer.status answer.text.items)
                  (ap₂ {C = FilingTurn} (λ s t. unfiled_turn kept s t) is.status_is is.text_is);
            };
          })
          (λ place. absurd (true≢false (sym is.nothing ∙ ap accepts_nothing place.holds)))
          (either made.verdict reads)
        where
          refused : status.Refused ≡ status.Done → ⊥
          refused e = cc

      pub judges_symbol : (given : FilingOutcome) → IsJudgedVerdict made.digests request.label q made.verdict given → ReadsJudged r request given
      judges_symbol (judged.Cases cases) is = one-filed cases.items is
      judges_symbol (judged.Refused answer) (inr is) = none-filed answer is
      judges_symbol (judged.Refused answer) (inl is) = ⊎_elim
          (λ records. absurd (no_bad made.verdict records is.log is.bad is.is))
          (λ place. refuses r request made.verdict answer is place)
          (either made.verdict reads)

    -- what is left where the comparison ends so
    abbrev compared : List KeptCase → Option CaseDifference → FilingTurn
    compared kept difference = unfiled_turn kept (comparison_status difference) (comparison_line request.label difference)

    -- `check`: a comparison, or a refusal
    pub compares_logs : request.command ≡ command.Check → (case : Case) → case.rule ≡ q.rule → case.symbol ≡ q.symbol → (filed : LogDigests) (made : DigestedVerdict) (answer : CaseAnswer) → ReadsVerdict r q orders trades made.verdict
        → AreDigestsOfGiven r made.digests → IsComparedVerdict request.label case filed made.digests made.verdict answer
        → TellsOfKept request (Some (record { case = case; digests = Some filed })) answer r
    compares_logs asked case rule symbol filed made answer reads are (inl is) = ⊎_elim
        (λ records. record {
          read = going answer.status is.tells.difference is.tells.status_is records.good;
          turn = record {
            given = logs_of_records r request.logs (On made.verdict) records made.digests;
            reads = digested made records are;
            is = λ kept found.
                subst (λ (s : CaseStatus). IsTurnOfLogs (logs_of_records r request.logs (On made.verdict) records made.digests) kept request (unfiled_turn kept s answer.text.items)) (sym is.tells.status_is)
                (subst (λ (t : List ℕ). IsTurnOfLogs (logs_of_records r request.logs (On made.verdict) records made.digests) kept request (unfiled_turn kept (comparison_status is.tells.difference) t)) (sym is.tells.text_is)
                (turn_of_records r request.logs (On made.verdict) records made.digests kept request refl (compared kept is.tells.difference)
                (subst (λ (c : FilingCommand). IsTurnOfRecords made.digests kept request.label c (compared kept is.tells.difference) records.entries records.paired) (sym asked)
                (subst (λ (k : Option KeptCase). ChecksCase made.digests kept request.label records.entries records.paired (compared kept is.tells.difference) k) (sym found)
                (record {
                  difference = is.tells.difference;
                  compares = record {
                    the_verdict = made.verdict;
                    is = rw (rule, symbol) (plain records.entries records.paired made.verdict records.holds);
                    first = is.tells.first;
                  };
                  is = refl;
                })))));
          };
        })
        (λ place. absurd (is.no_bad_place place.log place.bad place.holds))
        (either made.verdict reads)
      where
        going : (s : CaseStatus) (d : Option CaseDifference) → s ≡ comparison_status d → ReadsGoodLogs r request.logs → ReadsLogsFor r request.logs s
        going s None e good = subst (ReadsLogsFor r request.logs) (sym e) good
        going s (Some what) e good = subst (ReadsLogsFor r request.logs) (sym e) good
    compares_logs asked case rule symbol filed made answer reads are (inr is) = ⊎_elim
        (λ records. absurd (no_bad made.verdict records is.log is.bad is.is))
        (λ place.
        let refusal = refuses r request made.verdict answer is place in
        record { read = refusal.read; turn = record { given = refusal.turn.given; reads = refusal.turn.reads; is = λ kept found. refusal.turn.is kept } })
        (either made.verdict reads)
