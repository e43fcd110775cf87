-- Where memory ran out before a log was started.
use Rattle.std.proofs.Common.{◌≡◌, inr, refl, ℕ, List, Option, None, Some}
use Rattle.audit_report.specs.declared.statuses.Status.TheVariants as status
use Rattle.log_source.specs.Sinks.{SinkState}
use Rattle.log_verdict.specs.Steps.{Reading}
use Rattle.command_run.specs.Commands.{Command}
use Rattle.command_run.specs.Runs.{AnswersHeldLogs, AnswersWithCause}
use Rattle.command_run.proofs.EarlyLemmas.{nothing-before, nothing-out}

module _ {A : Type 0} (command_of : A → Command) (r : Reading) (old : SinkState) where
  pub memory_causes : (usage : List ℕ) (asked : Option A) → (asked ≡ None → ⊥) → AnswersWithCause command_of usage asked r old old status.Memory
  memory_causes usage None some = absurd (some refl)
  memory_causes usage (Some request) some = nothing-before r (command_of request) (command_of request).writes_early old old refl

  pub memory_answers : (asked : Option A) → AnswersHeldLogs command_of asked r old old status.Memory
  memory_answers None = tt
  memory_answers (Some request) = λ logs ready. inr (nothing-out (command_of request) logs (command_of request).writes_early old)
