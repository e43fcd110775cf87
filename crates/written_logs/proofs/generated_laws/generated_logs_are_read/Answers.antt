use Rattle.log_maker.specs.Generator.{generated_records}
use Rattle.written_logs.proofs.FormLemmas.{records-writable}
use Rattle.written_logs.proofs.generated_laws.generated_logs_are_read.Goals as goal

pub returns : goal.returns
returns c = λ form start count is_start is_count. (c.written_logs_are_read_again.ensures.orders form (generated_records start count) (records-writable start count is_count)).again
