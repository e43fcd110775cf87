use Rattle.fix_messages.specs.OrderTables.{order_of_message}
use Rattle.fix_messages.specs.ReportTable.{report_of_message}
use Rattle.log_contents.proofs.MessageLemmas.{has-kind}
use Rattle.log_contents.proofs.laws.each_message_has_a_kind.Goals as goal

pub returns-clause-orders : goal.returns-clause-orders
returns-clause-orders c = λ fields. has-kind fields (order_of_message fields)

pub returns-clause-reports : goal.returns-clause-reports
returns-clause-reports c = λ fields. has-kind fields (report_of_message fields)
