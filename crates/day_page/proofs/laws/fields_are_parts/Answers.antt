use Rattle.day_page.proofs.FieldLemmas.{fields-are}
use Rattle.day_page.proofs.laws.fields_are_parts.Goals as goal

pub returns : goal.returns
returns c = fields-are
