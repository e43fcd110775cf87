use Rattle.fix_messages.proofs.PricedLemmas.{meaning-priced}
use Rattle.fix_messages.proofs.entries.OrderRecordFixRecord.means_sound_records.Goals as goal

pub returns : goal.returns
returns c = meaning-priced
