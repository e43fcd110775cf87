use Rattle.fix_fields.proofs.LawLemmas.{AreFieldsOf-within}
use Rattle.fix_fields.proofs.laws.ranges_lie_within_the_body.Goals as goal

pub returns : goal.returns
returns c = AreFieldsOf-within
