use Rattle.fix_fields.proofs.LawLemmas.{Fields-ordinary}
use Rattle.fix_fields.proofs.laws.written_fields_are_read.Goals as goal

pub returns : goal.returns
returns c = Fields-ordinary
