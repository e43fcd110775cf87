-- That Play is one: the same logs, cases and commands leave the same.
use Rattle.std.specs.Prelude.{◌≡◌, ℕ, Option, List}
use Rattle.audit_base.specs.declared.terms.Which.{Which}
use Rattle.case_keeper.specs.declared.case.Case.{Case}
use Rattle.case_run.specs.Play.{PlayResult, IsPlay}
use Rattle.case_run.specs.declared.commands.CaseCommand.{CaseCommand}

-- one Play: over the same logs and from the same cases, commands leave one list of cases, one text
-- and one status
abbrev pub OnePlay : Type 0
OnePlay = (logs : Which → List ℕ → Option (List ℕ)) (cases : List Case) (commands : List CaseCommand)
    (a b : PlayResult) → IsPlay logs cases commands a → IsPlay logs cases commands b → a ≡ b
