use Rattle.session_audit.proofs.CarriedLemmas.{carried-apart}
use Rattle.session_audit.proofs.laws.carried_orders_do_not_meet.Goals as goal

pub returns : goal.returns
returns c = carried-apart c.short_orders_do_not_meet.ensures
