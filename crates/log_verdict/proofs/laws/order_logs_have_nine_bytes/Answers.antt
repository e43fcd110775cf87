use Rattle.log_verdict.proofs.RangeLemmas.{orders-nine}
use Rattle.log_verdict.proofs.laws.order_logs_have_nine_bytes.Goals as goal

pub returns : goal.returns
returns c = orders-nine c.records_have_nine_bytes.ensures.orders c.records_have_nine_bytes-2.ensures.orders
