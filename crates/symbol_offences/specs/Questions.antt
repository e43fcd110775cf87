-- What is asked of the records of a symbol, and what is kept of them for the answer.
use Rattle.std.specs.Prelude.{Bool, false, List, [], if◌then◌else◌}
use Rattle.further_checks.specs.FurtherRules.{asks_further}
use Rattle.record_verdict.specs.declared.questions.Question.{Question}
use Rattle.record_verdict.specs.RecordVerdicts.{question}
use Rattle.symbol_offences.specs.declared.questions.KeepingOptions.{KeepingOptions}
use Rattle.symbol_offences.specs.declared.questions.OffenceQuestion.{OffenceQuestion}

-- the question of the audit of the symbol, without a table
abbrev pub audit_question : OffenceQuestion → Question
audit_question q = question q.rule q.symbol false

-- the records are kept where they are quoted, the times of trades where a further check is asked for
abbrev pub keeping_for : OffenceQuestion → KeepingOptions
keeping_for q = record { records = q.records; times = asks_further q.checks }

-- a list, where it is kept
abbrev pub kept_if : {A : Type 0} → Bool → List A → List A
kept_if keeps members = if keeps then members else []
