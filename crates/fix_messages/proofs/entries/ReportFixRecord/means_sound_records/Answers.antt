use Rattle.fix_messages.specs.ReportTable.{report_of_message}
use Rattle.fix_messages.proofs.PricedLemmas.{any-sound}
use Rattle.fix_messages.proofs.entries.ReportFixRecord.means_sound_records.Goals as goal

pub returns : goal.returns
returns c = λ fields. any-sound (report_of_message fields)
