use Rattle.csv_logs.proofs.PricedLemmas.{meaning-priced}
use Rattle.csv_logs.proofs.entries.OrderRecordCsvRecord.means_sound_records.Goals as goal

pub returns : goal.returns
returns c = meaning-priced
