use Rattle.fix_fields.proofs.LawLemmas.{Fields-only}
use Rattle.fix_fields.proofs.laws.one_list_of_fields.Goals as goal

pub returns : goal.returns
returns c = Fields-only
