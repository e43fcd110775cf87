-- The same over two calls.
use Rattle.std.proofs.Common.{◌≡◌, ◌∙◌, sym, ap, subst, refl, inl, ◌⊎◌, ⊎_elim, ℕ, true, List, Option, None, Some}
use Rattle.std.specs.Prelude.{IsSome, is_some}
use Rattle.std.specs.Io.KnownBytes.{Appends}
use Rattle.std.proofs.Math.Path.{fun_ext}
use Rattle.audit_base.specs.declared.terms.Which.{Which}
use Rattle.case_run.specs.Causes.{halt_status}
use Rattle.case_run.specs.declared.halts.Halt.{Halt}
use Rattle.case_run.specs.declared.halts.Halt.TheVariants as halt
use Rattle.case_run.specs.declared.statuses.CaseStatus.{CaseStatus}
use Rattle.case_run.specs.declared.statuses.CaseStatus.TheVariants as status
use Rattle.digest_keeper.specs.DigestKeepers.{DigestKeeperState}
use Rattle.digest_keeper.specs.declared.digested.KeptCase.{KeptCase}
use Rattle.desk_filing.specs.Causes.{ReadsDigestedLogs}
use Rattle.desk_filing.specs.DigestOpeners.{IsDatabaseOpened, kept_once_opened}
use Rattle.desk_filing.specs.Laws.{FiledCallIsSame, FiledIsFound, FiledIsSame}
use Rattle.desk_filing.specs.Lines.{comparison_line}
use Rattle.desk_filing.specs.Runs.{AnswersBy, AnswersOfPass, AnswersRequest, FilingCall, missing_database}
use Rattle.desk_filing.specs.Turns.{DigestedLogs, FilingTurn, IsFilingTurn, unfiled_turn}
use Rattle.desk_filing.specs.declared.opener.MissingDatabase.{MissingDatabase}
use Rattle.desk_filing.specs.declared.requests.FilingCommand.TheVariants.{Check, File}
use Rattle.desk_filing.specs.declared.requests.FilingRequest.{FilingRequest}
use Rattle.desk_filing.proofs.LogLemmas.{known_turn}
use Rattle.desk_filing.proofs.PassLemmas.{of_pass}
use Rattle.log_verdict.specs.Steps.{Reading}

-- a database that is there is opened with what it has
opened_there : (missing : MissingDatabase) (under kept : Option (List KeptCase)) → IsSome kept → under ≡ kept → kept_once_opened missing under ≡ kept
opened_there missing (Some xs) kept some is = is
opened_there missing None (Some ys) some is = absurd (cc)
opened_there missing None None some is = absurd (cc)

pub filed_is_found : FiledIsFound
filed_is_found opener path missing keeper opened tells some is is_open = (is_open.known tells).1 ∙ opened_there missing (opener.kept path) keeper.kept some is

-- no cause has the status of an answer
never_done : (why : Halt) (s : CaseStatus) → s ≡ halt_status why → (s ≡ status.Done) ⊎ (s ≡ status.Refused) → ⊥
never_done (halt.ReadFault log) s is other = ⊎_elim (λ e. no_fault (sym is ∙ e)) (λ e. no_fault_refused (sym is ∙ e)) other
  where
    no_fault : status.ReadFault ≡ status.Done → ⊥
    no_fault e = cc

    no_fault_refused : status.ReadFault ≡ status.Refused → ⊥
    no_fault_refused e = cc
never_done (halt.TooLong log) s is other = ⊎_elim (λ e. no_length (sym is ∙ e)) (λ e. no_length_refused (sym is ∙ e)) other
  where
    no_length : status.TooLong ≡ status.Done → ⊥
    no_length e = cc

    no_length_refused : status.TooLong ≡ status.Refused → ⊥
    no_length_refused e = cc
never_done halt.KeeperFault s is other = ⊎_elim (λ e. no_keeper (sym is ∙ e)) (λ e. no_keeper_refused (sym is ∙ e)) other
  where
    no_keeper : status.KeeperFault ≡ status.Done → ⊥
    no_keeper e = cc

    no_keeper_refused : status.KeeperFault ≡ status.Refused → ⊥
    no_keeper_refused e = cc
never_done halt.Memory s is other = ⊎_elim (λ e. no_memory (sym is ∙ e)) (λ e. no_memory_refused (sym is ∙ e)) other
  where
    no_memory : status.Memory ≡ status.Done → ⊥
    no_memory e = cc

    no_memory_refused : status.Memory ≡ status.Refused → ⊥
    no_memory_refused e = cc

-- nor has a sink that failed
written : (s : CaseStatus) → s ≡ status.WriteFault → (s ≡ status.Done) ⊎ (s ≡ status.Refused) → ⊥
written s is other = ⊎_elim (λ e. not_done (sym is ∙ e)) (λ e. not_refused (sym is ∙ e)) other
  where
    not_done : status.WriteFault ≡ status.Done → ⊥
    not_done e = cc

    not_refused : status.WriteFault ≡ status.Refused → ⊥
    not_refused e = cc

-- A call filed, and its keeper was handed back.
pub record Filed (call : FilingCall) (request : FilingRequest) : Type 0 where
  pub before : List KeptCase
  pub turn : FilingTurn
  pub keeper : DigestKeeperState
  pub is : IsFilingTurn call.reading.log_of before request turn
  pub done : turn.status ≡ status.Done
  pub handed_back : call.keeper ≡ Some keeper
  pub on_file : keeper.kept ≡ Some turn.kept

some_kept : (o : Option (List KeptCase)) → IsSome o → (kept : List KeptCase) × (o ≡ Some kept)
some_kept (Some kept) some = (kept, refl)
some_kept None some = absurd (cc)

module _ (call : FilingCall) (request : FilingRequest) (tells : call.reading.tells ≡ true) (opener_tells : call.opener_old.tells ≡ true) (text : List ℕ) where
  filed_of_pass : (pass : Reading) → pass.tells ≡ true → pass.log_of ≡ call.reading.log_of → (keeper : Option DigestKeeperState) → call.keeper ≡ keeper → (given : DigestedLogs) → ReadsDigestedLogs pass request.logs given
      → AnswersBy call given request status.Done text keeper → Filed call request
  filed_of_pass pass told same None handed given reads by = absurd (by.0 refl)
  filed_of_pass pass told same (Some keeper) handed given reads by =
      let known = by.is_opened.known opener_tells in
      let there = some_kept (kept_once_opened (missing_database request.command) (call.opener_old.kept request.database)) known.0 in
      let leaves = by.turn there.0 (known.1 ∙ there.1) in
      record {
        before = there.0;
        turn = record { kept = leaves.left; text = text; status = status.Done };
        keeper = keeper;
        is = subst (λ (logs : Which → List ℕ → Option (List ℕ)). IsFilingTurn logs there.0 request (record { kept = leaves.left; text = text; status = status.Done })) same
            (known_turn pass request given there.0 (record { kept = leaves.left; text = text; status = status.Done }) told reads leaves.is);
        done = refl;
        handed_back = handed;
        on_file = leaves.kept_is;
      }

  filed_by : AnswersRequest call request status.Done text → Filed call request
  filed_by answers =
      of_pass request.command (AnswersOfPass call request status.Done text) call.reading request.logs (Filed call request)
      (λ once. filed_of_pass call.reading tells refl call.keeper refl once.by.given once.by.reads once.by.is)
      (λ between later again. filed_of_pass (record call.reading { before = between }) tells refl call.keeper refl again.by.given again.by.reads again.by.is)
      answers

-- What a call answered of what is on file.
pub record Answered (call : FilingCall) (request : FilingRequest) (kept : List KeptCase) (the_status : CaseStatus) (text : List ℕ) : Type 0 where
  pub left : List KeptCase
  pub is : IsFilingTurn call.reading.log_of kept request (record { kept = left; text = text; status = the_status })

module _ (call : FilingCall) (request : FilingRequest) (tells : call.reading.tells ≡ true) (kept : List KeptCase) (the_status : CaseStatus) (text : List ℕ)
    (found : (missing : MissingDatabase) (opened : DigestKeeperState) → IsDatabaseOpened call.opener_old request.database missing opened → opened.kept ≡ Some kept) where
  answered_of_pass : (pass : Reading) → pass.tells ≡ true → pass.log_of ≡ call.reading.log_of → (keeper : Option DigestKeeperState) → (given : DigestedLogs) → ReadsDigestedLogs pass request.logs given
      → AnswersBy call given request the_status text keeper → Answered call request kept the_status text
  answered_of_pass pass told same None given reads by = record {
    left = kept;
    is = subst (λ (logs : Which → List ℕ → Option (List ℕ)). IsFilingTurn logs kept request (unfiled_turn kept the_status text)) same (known_turn pass request given kept (unfiled_turn kept the_status text) told reads (by.1 kept));
  }
  answered_of_pass pass told same (Some keeper) given reads by =
      let leaves = by.turn kept (found _ by.opened by.is_opened) in
      record {
        left = leaves.left;
        is = subst (λ (logs : Which → List ℕ → Option (List ℕ)). IsFilingTurn logs kept request (record { kept = leaves.left; text = text; status = the_status })) same
            (known_turn pass request given kept (record { kept = leaves.left; text = text; status = the_status }) told reads leaves.is);
      }

  answered_by : AnswersRequest call request the_status text → Answered call request kept the_status text
  answered_by answers =
      of_pass request.command (AnswersOfPass call request the_status text) call.reading request.logs (Answered call request kept the_status text)
      (λ once. answered_of_pass call.reading tells refl call.keeper once.by.given once.by.reads once.by.is)
      (λ between later again. answered_of_pass (record call.reading { before = between }) tells refl call.keeper again.by.given again.by.reads again.by.is)
      answers

pub filed_call_is_same : FiledIsSame → FiledCallIsSame
filed_call_is_same law filing checking request the_rule symbol a b c d answer files after checks which =
    ⊎_elim
    (λ whole. ⊎_elim
    (λ answers. ends checks.runs.text (subst (λ (s : CaseStatus). AnswersRequest checking (record request { command = Check }) s checks.runs.text) (sym whole.answer_is) answers) whole.wrote)
    (λ halts. absurd (never_done halts.why answer (whole.answer_is ∙ halts.status_is) which))
    checks.runs.answers)
    (λ front. absurd (written answer front.answer_is which))
    checks.runs.writes
  where
    filed : Filed filing (record request { command = File the_rule symbol })
    filed = ⊎_elim
        (λ whole. ⊎_elim
        (λ answers. filed_by filing (record request { command = File the_rule symbol }) after.tells after.opener_tells files.runs.text (subst (λ (s : CaseStatus). AnswersRequest filing (record request { command = File the_rule symbol }) s files.runs.text) (sym whole.answer_is) answers))
        (λ halts. absurd (never_done halts.why status.Done (whole.answer_is ∙ halts.status_is) (inl refl)))
        files.runs.answers)
        (λ front. absurd (written status.Done front.answer_is (inl refl)))
        files.runs.writes

    found : (missing : MissingDatabase) (opened : DigestKeeperState) → IsDatabaseOpened checking.opener_old request.database missing opened → opened.kept ≡ Some filed.turn.kept
    found missing opened is =
        filed_is_found checking.opener_old request.database missing filed.keeper opened after.opener_still_tells (ap is_some filed.on_file) (after.on_file filed.keeper filed.handed_back) is ∙ filed.on_file

    ends : (text : List ℕ) → AnswersRequest checking (record request { command = Check }) answer text → Appends c.wrote d.wrote text → (answer ≡ status.Done) × Appends c.wrote d.wrote (comparison_line request.label None)
    ends text answers wrote =
        let answered = answered_by checking (record request { command = Check }) after.still_tells filed.turn.kept answer text found answers in
        let same_logs : checking.reading.log_of ≡ filing.reading.log_of = fun_ext (λ log. fun_ext (λ name. after.same_logs log name)) in
        let same = law filing.reading.log_of filed.before request the_rule symbol filed.turn (record { kept = answered.left; text = text; status = answer }) filed.is filed.done
        (subst (λ (logs : Which → List ℕ → Option (List ℕ)). IsFilingTurn logs filed.turn.kept (record request { command = Check }) (record { kept = answered.left; text = text; status = answer })) same_logs answered.is) in
        (ap (λ (t : FilingTurn). t.status) same, subst (Appends c.wrote d.wrote) (ap (λ (t : FilingTurn). t.text) same) wrote)
