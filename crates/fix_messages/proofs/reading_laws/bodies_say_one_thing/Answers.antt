use Rattle.fix_messages.specs.OrderTables.{order_of_message}
use Rattle.fix_messages.specs.ReportTable.{report_of_message}
use Rattle.fix_messages.proofs.SayLemmas.{body-says}
use Rattle.fix_messages.proofs.reading_laws.bodies_say_one_thing.Goals as goal

pub returns-clause-orders : goal.returns-clause-orders
returns-clause-orders c = body-says order_of_message

pub returns-clause-reports : goal.returns-clause-reports
returns-clause-reports c = body-says report_of_message
