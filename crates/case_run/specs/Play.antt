-- Play: what the commands of a casebook leave, one after another, over the logs that a shelf has:
-- the cases, the text that is written, and the status. `logs` is what the shelf has in a slot under
-- a name.
use Rattle.std.specs.Prelude.{◌≡◌, ◌≢◌, ◌⊎◌, ℕ, false, Option, Some, None, IsOk, List, [], ◌∷◌, ◌++◌}
use Rattle.std.specs.List.{flat_map}
use Rattle.audit_base.specs.declared.findings.Finding.{Finding}
use Rattle.audit_base.specs.declared.terms.Which.{Which}
use Rattle.audit_base.specs.declared.terms.Which.TheVariants.{Orders, Trades}
use Rattle.audit_report.specs.Lines.{malformed_line}
use Rattle.audit_report.specs.declared.verdicts.Verdict.{Verdict}
use Rattle.audit_report.specs.declared.verdicts.Verdict.TheVariants as verdict
use Rattle.record_verdict.specs.RecordVerdicts.{question}
use Rattle.log_verdict.specs.LogVerdicts.{records_of_order_log, log_in, IsLogVerdict}
use Rattle.case_keeper.specs.Cases.{kept_case, passing_cases}
use Rattle.case_keeper.specs.Casebooks.{filing, cases_after_filing}
use Rattle.case_keeper.specs.declared.case.Case.{Case}
use Rattle.case_keeper.specs.declared.case.Filter.{Filter}
use Rattle.case_keeper.specs.declared.case.Offence.{Offence}
use Rattle.case_keeper.specs.declared.casebook.Filed.{Filed}
use Rattle.case_keeper.specs.declared.casebook.Filed.TheVariants.{Kept, Known}
use Rattle.case_run.specs.Lines.{case_line, known_line, no_case_line}
use Rattle.case_run.specs.declared.commands.CaseCommand.{CaseCommand}
use Rattle.case_run.specs.declared.commands.CaseCommand.TheVariants as command
use Rattle.case_run.specs.declared.commands.Filing.{Filing}
use Rattle.case_run.specs.declared.statuses.CaseStatus.{CaseStatus}
use Rattle.case_run.specs.declared.statuses.CaseStatus.TheVariants as status

-- What one command leaves: the cases, the text that it writes, and its status.
pub record PlayTurn : Type 0 where
  pub cases : List Case
  pub text : List ℕ
  pub status : CaseStatus

-- The verdict on the two logs that a `file` command names. Its trade log is needed only where its
-- order log is good.
pub record IsVerdictOfFiling (logs : Which → List ℕ → Option (List ℕ)) (wanted : Filing)
    (the_verdict : Verdict) : Type 0 where
  pub orders : List ℕ
  pub trades : List ℕ
  pub has_orders : logs Orders wanted.orders ≡ Some orders
  pub has_trades : IsOk (records_of_order_log wanted.form orders) → logs Trades wanted.trades
      ≡ Some trades
  pub is : IsLogVerdict (question wanted.rule wanted.symbol false) (log_in wanted.form orders)
      (log_in wanted.form trades) the_verdict

-- the case of a filing whose audit ended so
abbrev pub case_of : Filing → Option Offence → Case
case_of wanted offence = record {
  label = wanted.label;
  rule = wanted.rule;
  symbol = wanted.symbol;
  offence = offence;
}

-- the offence of a finding
abbrev pub offence_of : Finding → Offence
offence_of f = record { property = f.property; log = f.log; place = f.place }

-- what filing a case writes: its line, or, where its label has a case, `known` and that case's line
abbrev pub filed_text : Case → Filed → List ℕ
filed_text case Kept = case_line case
filed_text case (Known known) = known_line ++ case_line known

-- the status of filing a case
abbrev pub filed_status : Filed → CaseStatus
filed_status Kept = status.Done
filed_status (Known known) = status.Refused

-- what filing a case leaves of these cases
abbrev pub filed_turn : List Case → Case → PlayTurn
filed_turn cases case = let filed = filing cases case in
    record {
      cases = cases_after_filing cases case;
      text = filed_text case filed;
      status = filed_status filed;
    }

-- what filing a verdict leaves: of a log that is not in its grammar the bad place is written, and
-- no case is filed
abbrev pub verdict_turn : List Case → Filing → Verdict → PlayTurn
verdict_turn cases wanted (verdict.Accepted accepted) = filed_turn cases (case_of wanted None)
verdict_turn cases wanted (verdict.Rejected finding) =
    filed_turn cases (case_of wanted (Some (offence_of finding)))
verdict_turn cases wanted (verdict.Malformed log bad) = record {
  cases = cases;
  text = malformed_line log bad;
  status = status.Malformed;
}

-- what showing a label writes: the line of its case, or that there is none
abbrev pub shown_text : List ℕ → Option Case → List ℕ
shown_text label None = no_case_line label
shown_text label (Some case) = case_line case

-- the status of showing a label
abbrev pub shown_status : Option Case → CaseStatus
shown_status None = status.Refused
shown_status (Some case) = status.Done

-- what listing leaves of these cases, which stay
abbrev pub list_turn : List Case → Filter → PlayTurn
list_turn cases filter = record {
  cases = cases;
  text = flat_map case_line (passing_cases filter cases);
  status = status.Done;
}

-- what showing a label leaves of these cases, which stay
abbrev pub show_turn : List Case → List ℕ → PlayTurn
show_turn cases label = let found = kept_case cases label in
    record { cases = cases; text = shown_text label found; status = shown_status found }

-- what one command leaves of these cases
abbrev pub IsTurn : (Which → List ℕ → Option (List ℕ)) → List Case → CaseCommand → PlayTurn → Type 0
IsTurn logs cases (command.File wanted) turn = (the_verdict : Verdict)
    × IsVerdictOfFiling logs wanted the_verdict × (turn ≡ verdict_turn cases wanted the_verdict)
IsTurn logs cases (command.List filter) turn = turn ≡ list_turn cases filter
IsTurn logs cases (command.Show label) turn = turn ≡ show_turn cases label

-- the cases after these turns, where there were these before
abbrev pub cases_after : List Case → List PlayTurn → List Case
cases_after cases [] = cases
cases_after cases (turn ∷ turns) = cases_after turn.cases turns

-- the status of the last turn, or, where there is none, the one from before
abbrev pub last_status : CaseStatus → List PlayTurn → CaseStatus
last_status before [] = before
last_status before (turn ∷ turns) = last_status turn.status turns

-- the turns of commands in order, each on the cases that the one before left; the first that is
-- answered with 3 is the last
abbrev pub AreTurns : (Which → List ℕ → Option (List ℕ)) → List Case → List CaseCommand → List PlayTurn
    → Type 0
AreTurns logs cases [] turns = turns ≡ []
AreTurns logs cases (the_command ∷ commands) [] = ⊥
AreTurns logs cases (the_command ∷ commands) (turn ∷ turns) = IsTurn logs cases the_command turn
    × (((turn.status ≡ status.Malformed) × (turns ≡ []))
    ⊎ ((turn.status ≢ status.Malformed) × AreTurns logs turn.cases commands turns))

-- What Play leaves: the cases, the text that is written, and the status.
pub record PlayResult : Type 0 where
  pub cases : List Case
  pub text : List ℕ
  pub status : CaseStatus

-- what turns on these cases leave: the last cases, all texts in order, and the last status
abbrev pub play_result : List Case → List PlayTurn → PlayResult
play_result cases turns = record {
  cases = cases_after cases turns;
  text = flat_map (λ turn. turn.text) turns;
  status = last_status status.Done turns;
}

-- Play(cases, commands) leaves this
abbrev pub IsPlay : (Which → List ℕ → Option (List ℕ)) → List Case → List CaseCommand → PlayResult
    → Type 0
IsPlay logs cases commands played = (turns : List PlayTurn)
    × AreTurns logs cases commands turns × (played ≡ play_result cases turns)
