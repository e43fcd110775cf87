-- A generated log that is written while it is made.
use Rattle.std.proofs.Common.{◌≡◌, refl, inl, inr, sym, subst, ℕ, List, []}
use Rattle.std.specs.Io.{StartsWith}
use Rattle.std.specs.Io.KnownBytes.{Appends}
use Rattle.audit_base.specs.declared.terms.Form.{Form}
use Rattle.audit_base.specs.declared.terms.Which.{Which}
use Rattle.audit_report.specs.declared.statuses.Status.TheVariants.{Accepted, Memory, WriteFault}
use Rattle.command_run.specs.Runs.{AnswersCommand, ReadingDecides}
use Rattle.desk_run.specs.Requests.{desk_command_of}
use Rattle.desk_words.specs.declared.requests.DeskRequest.TheVariants.{Early}
use Rattle.desk_words.specs.declared.requests.EarlyRequest.TheVariants.{Orders}
use Rattle.written_logs.specs.GeneratedTexts.{FailsWithin, WritesBeginning, generated_text}
use Rattle.log_source.specs.Sinks.{SinkState}
use Rattle.log_verdict.specs.Steps.{Reading}

module _ (r : Reading) (start count : ℕ) (form : Form) (alone : (log : Which) → r.after log ≡ r.before log) where
  -- the whole log is the answer, for which no log is needed
  decided : ReadingDecides r (desk_command_of (Early (Orders start count form))) Accepted (generated_text form start count)
  decided = record { steps = []; logs = []; lead = alone; read = refl; all = refl; answer = record { status_is = refl; text_is = refl } }

  module _ (old new : SinkState) where
    pub all-written : Appends old.wrote new.wrote (generated_text form start count) → AnswersCommand r (desk_command_of (Early (Orders start count form))) old new Accepted
    all-written wrote = record { text = generated_text form start count; is = decided; wrote = wrote }

    pub sink-failed : FailsWithin (generated_text form start count) old new → AnswersCommand r (desk_command_of (Early (Orders start count form))) old new WriteFault
    sink-failed fails = record { text = generated_text form start count; is = inl (record { status = Accepted; decides = decided }); wrote = fails.part; cause = fails.cause }

    pub memory-out : WritesBeginning (generated_text form start count) old new → AnswersCommand r (desk_command_of (Early (Orders start count form))) old new Memory
    memory-out is = inr (record {
      text = is.early;
      is = inr (record {
        alone = alone;
        needs_none = refl;
        begins = λ status answer the_answer. subst (λ (t : List ℕ). StartsWith t is.early) (sym the_answer.text_is) is.begins;
      });
      wrote = is.wrote;
    })
