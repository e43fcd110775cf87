-- The answer to a command, from what was read of its logs and what the keeper answered.
use Rattle.std.proofs.Common.{◌≡◌, ◌∙◌, sym, ap, subst, refl, inr, ⊎_elim, ℕ, false, List, Option, None, Some, Result, Ok, Err}
use Rattle.std.specs.Option.{option_map, option_map_or}
use Rattle.audit_report.specs.declared.verdicts.Verdict.{Verdict}
use Rattle.audit_report.specs.declared.verdicts.Verdict.TheVariants as verdict
use Rattle.log_verdict.specs.Steps.{Reading}
use Rattle.case_keeper.specs.Cases.{kept_case}
use Rattle.case_keeper.specs.Casebooks.{FilesCase, filing, cases_after_filing}
use Rattle.case_keeper.specs.Keepers.{KeeperState}
use Rattle.case_keeper.specs.declared.case.Case.{Case}
use Rattle.case_keeper.specs.declared.case.Filter.{Filter}
use Rattle.case_keeper.specs.declared.casebook.Filed.TheVariants.{Kept, Known}
use Rattle.case_run.specs.Play.{list_turn, show_turn, verdict_turn}
use Rattle.std.specs.Prelude.{IfSome}
use Rattle.case_run.specs.Causes.{IsHaltCause, StartsNoLog, ReadsGoodLogs, ReadsLogsFor}
use Rattle.case_run.specs.Statuses.{ends_run}
use Rattle.case_run.specs.Turns.{AnswersFromCasebook, AnswersCaseCommand, AsksKeeperFor, FilesVerdict, HasVerdictStatus, IsKeeperCause, IsLogHalt, ReadsFilingVerdict, ReadsForVerdict, EndsWithinOrHalts}
use Rattle.case_run.specs.declared.answers.CaseAnswer.{CaseAnswer}
use Rattle.case_run.specs.declared.commands.CaseCommand.{CaseCommand}
use Rattle.case_run.specs.declared.commands.CaseCommand.TheVariants as command
use Rattle.case_run.specs.declared.commands.Filing.{Filing}
use Rattle.case_run.specs.declared.halts.Halt.{Halt}
use Rattle.case_run.specs.declared.halts.Halt.TheVariants as halt
use Rattle.case_run.specs.declared.statuses.CaseStatus.{CaseStatus}
use Rattle.case_run.specs.declared.statuses.CaseStatus.TheVariants as status

-- the logs of a command were read as a status says that ends no run
reads_going : (r : Reading) (the_command : CaseCommand) (s : CaseStatus) → ends_run s ≡ false → ReadsGoodLogs r the_command → ReadsLogsFor r the_command s
reads_going r the_command status.Done goes good = good
reads_going r the_command status.Refused goes good = good
reads_going r the_command status.Malformed goes good = absurd (cc)
reads_going r the_command status.Usage goes good = absurd (cc)
reads_going r the_command status.ReadFault goes good = absurd (cc)
reads_going r the_command status.WriteFault goes good = absurd (cc)
reads_going r the_command status.TooLong goes good = absurd (cc)
reads_going r the_command status.Memory goes good = absurd (cc)
reads_going r the_command status.KeeperFault goes good = absurd (cc)

module _ (r : Reading) (keeper_old keeper_new : KeeperState) where
  keeper_cause : (the_command : CaseCommand) (why : Halt) → (why ≡ halt.KeeperFault → ReadsGoodLogs r the_command) → IsKeeperCause keeper_old keeper_new why → IsHaltCause r keeper_old keeper_new the_command why
  keeper_cause the_command (halt.ReadFault log) read is = absurd is
  keeper_cause the_command (halt.TooLong log) read is = absurd is
  keeper_cause the_command halt.KeeperFault read is = (read refl, is)
  keeper_cause the_command halt.Memory read is = tt

  pub answers_list : StartsNoLog r → (filter : Filter) (result : Result CaseAnswer Halt) → AnswersFromCasebook (λ cases. list_turn cases filter) keeper_old keeper_new result → AnswersCaseCommand r keeper_old keeper_new (command.List filter) result
  answers_list alone filter (Ok answer) is = record {
    read = reads_going r (command.List filter) answer.status is.goes_on alone;
    known = λ cases tells has. record { turn = list_turn cases filter; is = refl; has = is.known cases has };
  }
  answers_list alone filter (Err why) is = record { cause = keeper_cause (command.List filter) why (λ e. alone) is.cause; stays = is.stays }

  pub answers_show : StartsNoLog r → (label : List ℕ) (result : Result CaseAnswer Halt) → AnswersFromCasebook (λ cases. show_turn cases label) keeper_old keeper_new result → AnswersCaseCommand r keeper_old keeper_new (command.Show label) result
  answers_show alone label (Ok answer) is = record {
    read = reads_going r (command.Show label) answer.status is.goes_on alone;
    known = λ cases tells has. record { turn = show_turn cases label; is = refl; has = is.known cases has };
  }
  answers_show alone label (Err why) is = record { cause = keeper_cause (command.Show label) why (λ e. alone) is.cause; stays = is.stays }

  verdict_read : (wanted : Filing) (v : Verdict) (s : CaseStatus) → HasVerdictStatus v s → ReadsForVerdict r wanted v → ReadsLogsFor r (command.File wanted) s
  verdict_read wanted (verdict.Accepted accepted) s is read = reads_going r (command.File wanted) s is read
  verdict_read wanted (verdict.Rejected finding) s is read = reads_going r (command.File wanted) s is read
  verdict_read wanted (verdict.Malformed log place) s is bad = subst (ReadsLogsFor r (command.File wanted)) (sym is) (log, bad)

  -- the keeper is asked only after both logs were read
  asked_good : (wanted : Filing) (v : Verdict) (why : Halt) → ReadsForVerdict r wanted v → AsksKeeperFor v why → why ≡ halt.KeeperFault → ReadsGoodLogs r (command.File wanted)
  asked_good wanted (verdict.Accepted accepted) why read asks e = read
  asked_good wanted (verdict.Rejected finding) why read asks e = read
  asked_good wanted (verdict.Malformed log place) why read asks e = absurd (cc)

  -- a verdict that was filed
  pub answers_file : (wanted : Filing) (v : Verdict) (result : Result CaseAnswer Halt) → ReadsFilingVerdict r wanted v → FilesVerdict keeper_old keeper_new wanted v result → AnswersCaseCommand r keeper_old keeper_new (command.File wanted) result
  answers_file wanted v (Ok answer) judges is = record {
    read = verdict_read wanted v answer.status is.status_is judges.read;
    known = λ cases tells has. record { turn = verdict_turn cases wanted v; is = (v, judges.on tells, refl); has = is.known cases has };
  }
  answers_file wanted v (Err why) judges is =
      record { cause = keeper_cause (command.File wanted) why (asked_good wanted v why judges.read is.1) is.0.cause; stays = is.0.stays }

-- there was no verdict to file
pub halts_file : (r : Reading) (keeper : KeeperState) (wanted : Filing) (why : Halt) → IsLogHalt r wanted why → AnswersCaseCommand r keeper keeper (command.File wanted) (Err why)
halts_file r keeper wanted (halt.ReadFault log) is = record { cause = is; stays = refl }
halts_file r keeper wanted (halt.TooLong log) is = record { cause = is; stays = refl }
halts_file r keeper wanted halt.Memory is = record { cause = tt; stays = refl }
halts_file r keeper wanted halt.KeeperFault is = absurd is

-- the slots end as they did when the verdict was there, or was not
pub within_filed : {T : Type 0} (r : Reading) (v : Verdict) (result : Result T Halt) → EndsWithinOrHalts r (Ok v) → EndsWithinOrHalts r result
within_filed r v result stays begins = inr (⊎_elim (λ e. absurd e) (λ ends. ends) (stays begins))

pub within_halted : (S T : Type 0) (r : Reading) (why : Halt) → EndsWithinOrHalts {T = S} r (Err why) → EndsWithinOrHalts {T = T} r (Err why)
within_halted S T r (halt.ReadFault log) stays begins = stays begins
within_halted S T r (halt.TooLong log) stays begins = stays begins
within_halted S T r halt.Memory stays begins = stays begins
within_halted S T r halt.KeeperFault stays begins = stays begins

-- where a known case is answered, no case was changed
pub known_stays : (old new : KeeperState) (case known : Case) → FilesCase old new (Ok (Known known)) case → new.cases ≡ old.cases
known_stays old new case known files = by_cases old.cases files.known files.cases_are
  where
    by_kept : (cases : List Case) (found : Option Case) → kept_case cases case.label ≡ found → Known known ≡ filing cases case → cases_after_filing cases case ≡ cases
    by_kept cases None is answers = absurd (no_kept (subst (λ (o : Option Case). Known known ≡ option_map_or {T = Case} Known o Kept) is answers))
      where
        no_kept : Known known ≡ Kept → ⊥
        no_kept e = cc
    by_kept cases (Some c) is answers = rw is refl

    by_cases : (told : Option (List Case)) → IfSome told (λ cases. Known known ≡ filing cases case) → new.cases ≡ option_map (λ cases. cases_after_filing cases case) told → new.cases ≡ told
    by_cases None answers are = are
    by_cases (Some cases) answers are = are ∙ ap Some (by_kept cases (kept_case cases case.label) refl answers)
