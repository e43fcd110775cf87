use Rattle.fix_days.proofs.MessageLemmas.{nothing-read}
use Rattle.fix_days.proofs.messages.Messages.over.Goals as goal

pub returns-clause-stands : goal.returns-clause-stands
returns-clause-stands g c = nothing-read (g.B.Bodies.has_taken c.args.bodies) _ c.new.ensures.stands c.new.ensures.empty c.requires
