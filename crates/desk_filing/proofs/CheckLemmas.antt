-- Two readings of the same logs, one after the other, and what `check` answers after both.
use Rattle.std.proofs.Common.{◌≡◌, ◌∙◌, sym, ap, ap₂, subst, refl, inl, inr, ℕ, ◌≤◌, Bool, List, Option, None, Some, Result, Ok, Err, arith}
use Rattle.std.specs.Prelude.{MatchResult}
use Rattle.std.proofs.Math.Path.{fun_ext}
use Rattle.audit_base.specs.declared.terms.Which.{Which}
use Rattle.case_keeper.specs.declared.keeper.KeepFault.{KeepFault}
use Rattle.case_keeper.specs.declared.keeper.KeepFault.TheVariants as fault
use Rattle.case_run.specs.Lines.{no_case_line}
use Rattle.case_run.specs.Turns.{halt_of_keeper}
use Rattle.case_run.specs.declared.halts.Halt.{Halt}
use Rattle.case_run.specs.declared.statuses.CaseStatus.TheVariants as status
use Rattle.desk_words.specs.declared.requests.NamedLogs.{NamedLogs}
use Rattle.digest_keeper.specs.DigestKeepers.{DigestKeeperState, FindsKept}
use Rattle.log_digests.specs.declared.digests.LogDigests.{LogDigests}
use Rattle.digest_keeper.specs.declared.digested.KeptCase.{KeptCase}
use Rattle.desk_filing.specs.Causes.{HoldsOfPass, ReadsGoodLogs, ReadsLogsFor, ReadsLogsUpTo}
use Rattle.desk_filing.specs.Lines.{no_digest_line}
use Rattle.desk_filing.specs.Steps.{AnyRecords, ChecksKept, ChecksOrStops, ChecksPass, GoesOn, ReadsRecords, StopsReading, TellsOfKept, both_readings}
use Rattle.desk_filing.specs.Turns.{ChecksCase, ChecksDigests, DigestedLogs, FilingTurn, IsTurnOfRecords, digested_logs, unfiled_turn}
use Rattle.case_run.specs.declared.answers.CaseAnswer.{CaseAnswer}
use Rattle.desk_filing.specs.declared.requests.FilingCommand.{FilingCommand}
use Rattle.desk_filing.specs.declared.requests.FilingCommand.TheVariants as command
use Rattle.desk_filing.specs.declared.requests.FilingRequest.{FilingRequest}
use Rattle.desk_filing.proofs.KeeperLemmas.{known_at}
use Rattle.desk_filing.proofs.LogLemmas.{reads_own, turn_of_records}
use Rattle.desk_filing.proofs.PassLemmas.{map_pass, of_pass}
use Rattle.log_source.specs.Sources.{Slot}
use Rattle.log_verdict.specs.Steps.{Reading, FaultsNeverFall}

-- faults that did not fall twice did not fall
pub faults_of_both : (a b c : ℕ) → a ≤ b → b ≤ c → a ≤ c
faults_of_both a b c first second = omega arith

-- a second reading over the shelf that a first left
pub goes_on : (first second : Reading) (logs : NamedLogs) → ReadsRecords first logs AnyRecords → second.limit ≡ first.limit → second.tells ≡ first.tells → ((log : Which) (name : List ℕ) → second.log_of log name ≡ first.log_of log name) → second.before ≡ first.after → FaultsNeverFall first → GoesOn first second
goes_on first second logs reads limit tells same begins later = record { limit = limit; tells = tells; logs = fun_ext (λ log. fun_ext (λ name. same log name)); begins = begins; later = later }

-- the second reading is that of both, begun where the first ended
second_is : (first second : Reading) → GoesOn first second → second ≡ record (both_readings first second) { before = first.after }
second_is first second on =
    ap (λ (n : ℕ). record second { limit = n }) on.limit
    ∙ ap (λ (t : Bool). record second { limit = first.limit; tells = t }) on.tells
    ∙ ap (λ (l : Which → List ℕ → Option (List ℕ)). record second { limit = first.limit; tells = first.tells; log_of = l }) on.logs
    ∙ ap (λ (s : Which → Slot). record second { limit = first.limit; tells = first.tells; log_of = first.log_of; before = s }) on.begins

module _ (first second : Reading) (on : GoesOn first second) (request : FilingRequest) (reads : ReadsRecords first request.logs AnyRecords) where
  abbrev whole : Reading
  whole = both_readings first second

  -- what holds of the second reading holds of a second pass
  second_pass : (holds : Reading → Type 0) → holds second → HoldsOfPass command.Check holds whole request.logs
  second_pass holds is = inr (record { between = first.after; first = reads.good; later = on.later; second = subst holds (second_is first second on) is })

  -- a case with digests, which were compared
  pub checks_compared : (found : Option KeptCase) (result : Result CaseAnswer Halt) → MatchResult result (λ answer. TellsOfKept request found answer second) (StopsReading second request) → ChecksKept whole request found result
  checks_compared found (Ok answer) is = second_pass (TellsOfKept request found answer) is
  checks_compared found (Err why) is = second_pass (λ pass. StopsReading pass request why) is

  -- where nothing more was read, the reading of both is the first
  module _ (unread : second.after ≡ second.before) where
    whole_is : first ≡ whole
    whole_is = ap (λ (a : Which → Slot). record first { after = a }) (sym on.begins ∙ sym unread)

    pub good_both : ReadsGoodLogs whole request.logs
    good_both = subst (λ (r : Reading). ReadsGoodLogs r request.logs) whole_is reads.good

    -- an answer of one line about what is on file, or not
    pub tells_unread : request.command ≡ command.Check → (found : Option KeptCase) (line : List ℕ) (answer : CaseAnswer) → answer.status ≡ status.Refused → answer.text.items ≡ line
        → ((digests : LogDigests) (kept : List KeptCase) (turn : FilingTurn) → turn ≡ unfiled_turn kept status.Refused line → ChecksCase digests kept request.label reads.entries reads.paired turn found)
        → HoldsOfPass command.Check (TellsOfKept request found answer) whole request.logs
    tells_unread asked found line answer status_is text_is checks =
        let own : DigestedLogs = digested_logs reads.orders reads.trades in
        inl (subst (λ (r : Reading). TellsOfKept request found answer r) whole_is (record {
          read = subst (ReadsLogsFor first request.logs) (sym status_is) reads.good;
          turn = record {
            given = own;
            reads = reads_own first request.logs AnyRecords reads;
            is = λ kept is.
                turn_of_records first request.logs AnyRecords reads own.digests kept request refl (unfiled_turn kept answer.status answer.text.items)
                (subst (λ (c : FilingCommand). IsTurnOfRecords own.digests kept request.label c (unfiled_turn kept answer.status answer.text.items) reads.entries reads.paired) (sym asked)
                (subst (λ (k : Option KeptCase). ChecksCase own.digests kept request.label reads.entries reads.paired (unfiled_turn kept answer.status answer.text.items) k) (sym is)
                (checks own.digests kept (unfiled_turn kept answer.status answer.text.items) (ap₂ (unfiled_turn kept) status_is text_is))));
          };
        }))

    pub tells_no_case : request.command ≡ command.Check → (answer : CaseAnswer) → answer.status ≡ status.Refused → answer.text.items ≡ no_case_line request.label → HoldsOfPass command.Check (TellsOfKept request None answer) whole request.logs
    tells_no_case asked answer status_is text_is = tells_unread asked None (no_case_line request.label) answer status_is text_is (λ digests kept turn e. e)

    pub tells_no_digest : request.command ≡ command.Check → (kept : KeptCase) → kept.digests ≡ None → (answer : CaseAnswer) → answer.status ≡ status.Refused → answer.text.items ≡ no_digest_line request.label
        → HoldsOfPass command.Check (TellsOfKept request (Some kept) answer) whole request.logs
    tells_no_digest asked kept none answer status_is text_is =
        tells_unread asked (Some kept) (no_digest_line request.label) answer status_is text_is
        (λ digests on_file turn e. subst (λ (d : Option LogDigests). ChecksDigests digests on_file request.label reads.entries reads.paired turn kept.case d) (sym none) e)

    -- the keeper did not find
    pub keeper_stops : (old new : DigestKeeperState) (found : KeepFault) → FindsKept old new (Err found) request.label → ChecksOrStops whole old new request (Err (halt_of_keeper found))
    keeper_stops old new fault.Failed finds = record { read = inl good_both; stays = finds.stays; fault = λ e. finds.accounts.cause refl }
    keeper_stops old new fault.Memory finds = record { read = inl tt; stays = finds.stays; fault = λ e. cc }

-- what was found under the label is what is on file, and so it is answered
pub checks_found : (r : Reading) (request : FilingRequest) (old new : DigestKeeperState) (found : Option KeptCase) (result : Result CaseAnswer Halt) → FindsKept old new (Ok found) request.label → ChecksKept r request found result → ChecksOrStops r old new request result
checks_found r request old new found (Ok answer) finds is = record {
  passes = map_pass command.Check (TellsOfKept request found answer) (ChecksPass old request answer) r request.logs
      (λ pass tells. record {
        read = tells.read;
        turn = record {
          given = tells.turn.given;
          reads = tells.turn.reads;
          is = λ kept has. tells.turn.is kept (sym (known_at old.kept kept found request.label finds.known has));
        };
      })
      is;
  stays = finds.stays;
}
checks_found r request old new found (Err why) finds is = record {
  read = map_pass command.Check (λ pass. StopsReading pass request why) (λ pass. ReadsLogsUpTo pass request.logs why) r request.logs (λ pass stops. stops.read) is;
  stays = finds.stays;
  fault = λ e. absurd (of_pass command.Check (λ pass. StopsReading pass request why) r request.logs ⊥ (λ stops. stops.no_keeper e) (λ between later stops. stops.no_keeper e) is);
}

-- no case is on file
pub checks_none : (r : Reading) (request : FilingRequest) (old new : DigestKeeperState) (answer : CaseAnswer) → FindsKept old new (Ok None) request.label → HoldsOfPass command.Check (TellsOfKept request None answer) r request.logs
    → ChecksOrStops r old new request (Ok answer)
checks_none r request old new answer finds is = checks_found r request old new None (Ok answer) finds is
