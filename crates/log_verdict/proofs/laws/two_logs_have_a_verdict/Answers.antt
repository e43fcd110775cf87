use Rattle.log_verdict.proofs.ExistenceLemmas.{logs-verdict}
use Rattle.log_verdict.proofs.laws.two_logs_have_a_verdict.Goals as goal

pub returns : goal.returns
returns c = logs-verdict c.one_verdict.ensures c.a_record_verdict_exists.ensures c.records_are_in_range.ensures.orders c.records_are_in_range.ensures.trades c.order_logs_have_nine_bytes.ensures
