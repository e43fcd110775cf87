-- What is decided, from what was read of the logs and what the keeper did.
use Rattle.std.proofs.Common.{◌≡◌, ◌∙◌, sym, ap, subst, refl, inl, inr, ◌⊎◌, ℕ, true, List, [], ◌∷◌, Option, None, Some, Result, Ok, Err}
use Rattle.case_keeper.specs.declared.keeper.KeepFault.{KeepFault}
use Rattle.case_keeper.specs.declared.keeper.KeepFault.TheVariants as fault
use Rattle.case_run.specs.Turns.{halt_of_keeper}
use Rattle.case_run.specs.declared.halts.Halt.{Halt}
use Rattle.case_run.specs.declared.halts.Halt.TheVariants as halt
use Rattle.case_run.specs.declared.statuses.CaseStatus.{CaseStatus}
use Rattle.case_run.specs.declared.statuses.CaseStatus.TheVariants as status
use Rattle.desk_words.specs.declared.requests.NamedLogs.{NamedLogs}
use Rattle.digest_keeper.specs.DigestKeepers.{DigestKeeperState}
use Rattle.digest_keeper.specs.declared.digested.DigestedCase.{DigestedCase}
use Rattle.digest_keeper.specs.declared.digested.KeptCase.{KeptCase}
use Rattle.desk_filing.specs.Causes.{HoldsOfPass, ReadsGoodLogs, ReadsLogsFor, ReadsLogsUpTo}
use Rattle.desk_filing.specs.DigestOpeners.{DigestOpenerState, IsDatabaseOpened, IsDatabaseRefused}
use Rattle.desk_filing.specs.Runs.{AnswersOfPass, NeedsDatabase, filing_call, missing_database}
use Rattle.desk_filing.specs.Steps.{ChecksOrStops, ChecksPass, DecidesRequest, FilesOrStops, ReadsCases, ReadsRefusal, StopsReading}
use Rattle.desk_filing.specs.Turns.{IsTurnOfLogs, filed_turn, filed_turn_by, first_known}
use Rattle.case_run.specs.declared.answers.CaseAnswer.{CaseAnswer}
use Rattle.desk_filing.specs.declared.opener.MissingDatabase.{MissingDatabase}
use Rattle.desk_filing.specs.declared.opener.MissingDatabase.TheVariants.{Make, Refuse}
use Rattle.desk_filing.specs.declared.requests.FilingCommand.{FilingCommand}
use Rattle.desk_filing.specs.declared.requests.FilingCommand.TheVariants as command
use Rattle.desk_filing.specs.declared.requests.FilingRequest.{FilingRequest}
use Rattle.desk_filing.proofs.LogLemmas.{known_turn}
use Rattle.desk_filing.proofs.PassLemmas.{map_pass, one_pass}
use Rattle.log_verdict.specs.Steps.{Reading}

-- the logs of a command that was done or refused by the keeper
going : (r : Reading) (logs : NamedLogs) (s : CaseStatus) → (s ≡ status.Done) ⊎ (s ≡ status.Refused) → ReadsGoodLogs r logs → ReadsLogsFor r logs s
going r logs s (inl e) good = subst (ReadsLogsFor r logs) (sym e) good
going r logs s (inr e) good = subst (ReadsLogsFor r logs) (sym e) good

keeper_read : (r : Reading) (logs : NamedLogs) (why : Halt) → (why ≡ halt.KeeperFault) ⊎ (why ≡ halt.Memory) → ReadsGoodLogs r logs → ReadsLogsUpTo r logs why
keeper_read r logs why (inl e) good = subst (ReadsLogsUpTo r logs) (sym e) good
keeper_read r logs why (inr e) good = subst (ReadsLogsUpTo r logs) (sym e) tt

-- no label is known where nothing is on file
none_known : (cases : List DigestedCase) → first_known [] cases ≡ None
none_known [] = refl
none_known (one ∷ cases) = none_known cases

-- cases need the database
pub needs_to_file : (r : Reading) (request : FilingRequest) (cases : List DigestedCase) → ReadsCases r request cases → r.tells ≡ true → NeedsDatabase r.log_of request
needs_to_file r request cases reads tells = inr (record {
  turn = filed_turn [] cases;
  is = known_turn r request reads.turn.given [] (filed_turn [] cases) tells reads.turn.reads (reads.turn.is []);
  done = ap (λ (k : Option KeptCase). (filed_turn_by [] cases k).status) (none_known cases);
})

module _ (r : Reading) (old new : DigestOpenerState) (request : FilingRequest) where
  -- cases that were filed in a database, or not
  pub decides_filed : missing_database request.command ≡ Make → (cases : List DigestedCase) → ReadsCases r request cases → (before after : DigestKeeperState) → IsDatabaseOpened old request.database Make before → (result : Result CaseAnswer Halt)
      → FilesOrStops before after cases result → DecidesRequest (filing_call r old new (Some after)) request result
  decides_filed made cases reads before after is_opened (Ok answer) files =
      one_pass request.command (AnswersOfPass (filing_call r old new (Some after)) request answer.status answer.text.items) r request.logs (record {
        read = going r request.logs answer.status files.of_keeper reads.read;
        by = record {
          given = reads.turn.given;
          reads = reads.turn.reads;
          is = record {
            opened = before;
            is_opened = subst (λ (m : MissingDatabase). IsDatabaseOpened old request.database m before) (sym made) is_opened;
            turn = λ kept has.
                let as_filed = files.known kept has in
                record {
                  left = (filed_turn kept cases).kept;
                  is =
                      subst (λ (s : CaseStatus). IsTurnOfLogs reads.turn.given kept request (record { kept = (filed_turn kept cases).kept; text = answer.text.items; status = s })) as_filed.status_is
                      (subst (λ (t : List ℕ). IsTurnOfLogs reads.turn.given kept request (record { kept = (filed_turn kept cases).kept; text = t; status = (filed_turn kept cases).status })) as_filed.text_is (reads.turn.is kept));
                  kept_is = as_filed.kept_is;
                };
            needed = needs_to_file r request cases reads;
            stays = files.stays;
          };
        };
      })
  decides_filed made cases reads before after is_opened (Err why) files = record {
    why = why;
    read = one_pass request.command (λ pass. ReadsLogsUpTo pass request.logs why) r request.logs (keeper_read r request.logs why files.of_keeper reads.read);
    by = record {
      opened = before;
      is_opened = subst (λ (m : MissingDatabase). IsDatabaseOpened old request.database m before) (sym made) is_opened;
      needed = needs_to_file r request cases reads;
      stays = files.stays;
      fault = files.fault;
    };
    status_is = refl;
    text_is = refl;
  }

  -- an answer with which nothing is filed
  pub decides_refused : (answer : CaseAnswer) → ReadsRefusal r request answer → DecidesRequest (filing_call r old new None) request (Ok answer)
  decides_refused answer refusal =
      one_pass request.command (AnswersOfPass (filing_call r old new None) request answer.status answer.text.items) r request.logs (record {
        read = refusal.read;
        by = record { given = refusal.turn.given; reads = refusal.turn.reads; is = (refusal.not_done, refusal.turn.is) };
      })

  -- there is none, since reading stopped
  pub decides_stopped : (why : Halt) → StopsReading r request why → DecidesRequest (filing_call r old new None) request (Err why)
  decides_stopped why stops = record { why = why; read = one_pass request.command (λ pass. ReadsLogsUpTo pass request.logs why) r request.logs stops.read; by = λ e. absurd (stops.no_keeper e); status_is = refl; text_is = refl }

  -- or since memory ran out before the database was opened
  pub decides_memory : DecidesRequest (filing_call r old new None) request (Err halt.Memory)
  decides_memory = record { why = halt.Memory; read = one_pass request.command (λ pass. ReadsLogsUpTo pass request.logs halt.Memory) r request.logs tt; by = λ e. cc; status_is = refl; text_is = refl }

  -- or since the database was not opened
  pub decides_unopened : ReadsGoodLogs r request.logs → (r.tells ≡ true → NeedsDatabase r.log_of request) → (missing : MissingDatabase) → missing_database request.command ≡ missing → (found : KeepFault) → (found ≡ fault.Failed → IsDatabaseRefused old new request.database missing)
      → DecidesRequest (filing_call r old new None) request (Err (halt_of_keeper found))
  decides_unopened good needed missing is fault.Failed cause = record {
    why = halt.KeeperFault;
    read = one_pass request.command (λ pass. ReadsLogsUpTo pass request.logs halt.KeeperFault) r request.logs good;
    by = λ e. record { needed = needed; refused = subst (λ (m : MissingDatabase). IsDatabaseRefused old new request.database m) (sym is) (cause refl) };
    status_is = refl;
    text_is = refl;
  }
  decides_unopened good needed missing is fault.Memory cause = decides_memory

  -- logs that were checked over a database that is open
  pub decides_checked : request.command ≡ command.Check → missing_database request.command ≡ Refuse → (before after : DigestKeeperState) → IsDatabaseOpened old request.database Refuse before → (result : Result CaseAnswer Halt) → ChecksOrStops r before after request result
      → DecidesRequest (filing_call r old new (Some after)) request result
  decides_checked asked is before after is_opened (Ok answer) checks =
      subst (λ (c : FilingCommand). HoldsOfPass c (AnswersOfPass (filing_call r old new (Some after)) request answer.status answer.text.items) r request.logs) (sym asked)
      (map_pass command.Check (ChecksPass before request answer) (AnswersOfPass (filing_call r old new (Some after)) request answer.status answer.text.items) r request.logs
      (λ pass checked. record {
        read = checked.read;
        by = record {
          given = checked.turn.given;
          reads = checked.turn.reads;
          is = record {
            opened = before;
            is_opened = subst (λ (m : MissingDatabase). IsDatabaseOpened old request.database m before) (sym is) is_opened;
            turn = λ kept has. record { left = kept; is = checked.turn.is kept has; kept_is = checks.stays ∙ has };
            needed = λ tells. inl asked;
            stays = λ e. checks.stays;
          };
        };
      })
      checks.passes)
  decides_checked asked is before after is_opened (Err why) checks = record {
    why = why;
    read = subst (λ (c : FilingCommand). HoldsOfPass c (λ pass. ReadsLogsUpTo pass request.logs why) r request.logs) (sym asked) checks.read;
    by = record {
      opened = before;
      is_opened = subst (λ (m : MissingDatabase). IsDatabaseOpened old request.database m before) (sym is) is_opened;
      needed = λ tells. inl asked;
      stays = checks.stays;
      fault = checks.fault;
    };
    status_is = refl;
    text_is = refl;
  }
