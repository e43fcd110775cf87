use Rattle.fix_fields.proofs.HandLemmas.{begins-none, begins-tag}
use Rattle.fix_fields.proofs.split.begins_with_type.Goals as goal

pub returns-in-Some : goal.returns-in-Some
returns-in-Some c = begins-tag c.args.body.now c.in-Some.tag _ c.in-Some.ensures.tag c.in-Some.ensures.bytes

pub returns-in-None : goal.returns-in-None
returns-in-None c = begins-none c.args.body.now c.in-None.ensures.none
