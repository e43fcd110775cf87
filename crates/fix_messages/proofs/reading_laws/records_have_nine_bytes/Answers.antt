use Rattle.fix_messages.specs.OrderTables.{order_of_message}
use Rattle.fix_messages.specs.ReportTable.{report_of_message}
use Rattle.fix_messages.proofs.SizeLemmas.{log_nine}
use Rattle.fix_messages.proofs.reading_laws.records_have_nine_bytes.Goals as goal

pub returns-clause-orders : goal.returns-clause-orders
returns-clause-orders c = log_nine order_of_message

pub returns-clause-reports : goal.returns-clause-reports
returns-clause-reports c = log_nine report_of_message
