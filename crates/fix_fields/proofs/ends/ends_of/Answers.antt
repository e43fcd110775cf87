use Rattle.fix_fields.proofs.EndLemmas.{holds-all}
use Rattle.fix_fields.proofs.ends.ends_of.Goals as goal

pub returns : goal.returns
returns c = holds-all c.args.body.now c.of.result c.of.ensures.text c.of.ensures.start
