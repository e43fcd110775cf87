-- The law of generated logs, in one sentence.
use Rattle.std.specs.Prelude.{◌≡◌, ℕ, Ok}
use Rattle.audit_base.specs.declared.terms.Form.{Form}
use Rattle.log_maker.specs.Generator.{IsCount, IsStart, generated_records}
use Rattle.log_verdict.specs.LogVerdicts.{records_of_order_log}
use Rattle.written_logs.specs.GeneratedTexts.{generated_text}

-- the generated log of each START and COUNT says the generated records, in either form
abbrev pub GeneratedLogsAreRead : Type 0
GeneratedLogsAreRead = (form : Form) (start count : ℕ) → IsStart start → IsCount count
    → records_of_order_log form (generated_text form start count)
    ≡ Ok (generated_records start count)
