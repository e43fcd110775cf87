use Rattle.call_laws.proofs.ShortLemmas.{short-apart}
use Rattle.call_laws.proofs.laws.short_orders_do_not_meet.Goals as goal

pub returns : goal.returns
returns c = short-apart
