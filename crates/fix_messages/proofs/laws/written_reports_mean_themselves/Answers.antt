use Rattle.std.proofs.Common.{ap}
use Rattle.fix_messages.specs.ReportTable.{report_meaning_of}
use Rattle.fix_messages.proofs.MeaningLemmas.{report-again, report-body}
use Rattle.fix_messages.proofs.laws.written_reports_mean_themselves.Goals as goal

pub returns-clause-fields : goal.returns-clause-fields
returns-clause-fields c = λ report is. (report-body report is).0

pub returns-clause-means : goal.returns-clause-means
returns-clause-means c = λ report is. ap report_meaning_of (report-again report is)
