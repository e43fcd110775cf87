use Rattle.fix_messages.specs.OrderTables.{order_of_message}
use Rattle.fix_messages.specs.ReportTable.{report_of_message}
use Rattle.fix_messages.proofs.ReadingLemmas.{only_reading}
use Rattle.fix_messages.proofs.reading_laws.logs_are_read_once.Goals as goal

pub returns-clause-orders : goal.returns-clause-orders
returns-clause-orders c = only_reading order_of_message

pub returns-clause-reports : goal.returns-clause-reports
returns-clause-reports c = only_reading report_of_message
